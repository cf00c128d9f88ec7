-- What the store functions rest on.
--     is_fitting, not_fitting     the answer of the test for refusal 32
--     head_stored, tail_stored    the stores before the command, and those behind it, as one
use Prim.Native.Nat.{ℕ, ◌+◌, ◌*◌, ◌-◌, ◌/◌, ◌%◌, ◌^◌, ◌<◌, ◌≤◌}
use mathlib.Core.Bool.{Bool, true, false}
use mathlib.Core.List.{List, [], ◌++◌, append_assoc}
use mathlib.Core.Path.{◌≡◌, refl, ap, ap₂, sym, ◌∙◌}
use native.Mathlib.Nat.{div-one}
use native.Mathlib.Omega.{arith}
use lib.ListN.{length, take, drop, length-append}
use lib.Seq.{take_at, length-take-le}
use Rattle.crc.specs.Crc.{crc_of, crc_bytes_of}
use Rattle.header.specs.Header.{splice_header}
use Rattle.header.specs.declared.header.SpliceInfoHeader.{SpliceInfoHeader}
use Rattle.names.specs.Algorithm.{algorithm_number, writable_algorithm}
use Rattle.names.proofs.Commands.{command_laws}
use Rattle.table.specs.Bits.{bits_of_num, bytes_of, big_endian}
use Rattle.table.specs.Lent.{stored}
use Rattle.table.specs.Table.{number, bit}
use Rattle.table.specs.Writing.{walk, contents, print}
use Rattle.table.proofs.Bits.{bits_join, bytes_num, bytes_append, length_num}
use Rattle.table.proofs.Stores.{stored_fits, stored_append}
use Rattle.section_writer.specs.Frame.{headed, header_bytes, opening, head, with_length, body, frame, numbers_fit, writable_head}
use Rattle.section.specs.Section.{section_length}
use Rattle.section_writer.specs.Private.{first_number, last_number, tail}
use Rattle.section_writer.proofs.Backs.{opening_is}
use Rattle.section_writer.proofs.Frames.{length_with_length}
use Rattle.section_writer.proofs.Heads.{Fitting, fitting, fits_within, clear, length_head}

-- ---- refusals 32 and 33
pub is_fitting : (h : SpliceInfoHeader) → Fitting h → true ≡ numbers_fit h
unfolding numbers_fit
is_fitting h f = sym (fits_within h 0 0 f (omega arith) (omega arith))

pub not_fitting : (h : SpliceInfoHeader) → (Fitting h → ⊥) → false ≡ numbers_fit h
not_fitting h f = go (numbers_fit h) refl
  where
    go : (b : Bool) → numbers_fit h ≡ b → false ≡ b
    go false e = refl
    go true e = absurd (f (fitting h e))

pub is_encrypted : (h : SpliceInfoHeader) → h.encrypted_packet ≡ true → false ≡ writable_head h
unfolding writable_head
is_encrypted h e = rw e

pub is_clear : (h : SpliceInfoHeader) (r : Bool) → h.encrypted_packet ≡ false → r ≡ writable_algorithm h.encryption_algorithm → r ≡ writable_head h
unfolding writable_head
is_clear h r e f = rw e f

-- ---- the header's bytes as two numbers
front_bits : (v a p : ℕ) → a < 2 ^ 6 → p < 2 ^ 33 → bits_of_num 8 v ++ bits_of_num 1 0 ++ bits_of_num 6 a ++ bits_of_num 33 p ≡ bits_of_num 48 ((v * 128 + a) * 2 ^ 33 + p)
front_bits v a p h k =
    let z : (v * 2 ^ 1 + 0) * 2 ^ 6 + a ≡ v * 128 + a = omega arith in
    ap (λ (l : List ℕ). l ++ bits_of_num 6 a ++ bits_of_num 33 p) (bits_join 8 1 v 0 (omega arith))
    ∙ ap (λ (l : List ℕ). l ++ bits_of_num 33 p) (bits_join 9 6 (v * 2 ^ 1 + 0) a h)
    ∙ bits_join 15 33 ((v * 2 ^ 1 + 0) * 2 ^ 6 + a) p k
    ∙ ap (λ (n : ℕ). bits_of_num 48 (n * 2 ^ 33 + p)) z

back_bits : (i t n k : ℕ) → t < 2 ^ 12 → n < 2 ^ 12 → k < 2 ^ 8 → bits_of_num 8 i ++ bits_of_num 12 t ++ bits_of_num 12 n ++ bits_of_num 8 k ≡ bits_of_num 40 (((i * 4096 + t) * 4096 + n) * 256 + k)
back_bits i t n k ht hn hk =
    ap (λ (l : List ℕ). l ++ bits_of_num 12 n ++ bits_of_num 8 k) (bits_join 8 12 i t ht)
    ∙ ap (λ (l : List ℕ). l ++ bits_of_num 8 k) (bits_join 20 12 (i * 2 ^ 12 + t) n hn)
    ∙ bits_join 32 8 ((i * 2 ^ 12 + t) * 2 ^ 12 + n) k hk

header_bits : (h : SpliceInfoHeader) (size command_type : ℕ) → h.encrypted_packet ≡ false → print (contents [] (walk splice_header (headed h size command_type) 0).fields) ≡
    bits_of_num 8 h.protocol_version ++ bits_of_num 1 0 ++ bits_of_num 6 (algorithm_number h.encryption_algorithm) ++ bits_of_num 33 h.pts_adjustment
    ++ (bits_of_num 8 h.cw_index ++ bits_of_num 12 h.tier ++ bits_of_num 12 size ++ bits_of_num 8 command_type)
unfolding headed splice_header number bit
header_bits h size command_type e = rw (e, command_laws.there command_type)

module _ (h : SpliceInfoHeader) (command_type size : ℕ) (fits : Fitting h) (plain : h.encrypted_packet ≡ false) (narrow : size < 2 ^ 12) (byte : command_type < 2 ^ 8) where
  header_numbers_lem : header_bytes (headed h size command_type) ≡ big_endian 6 (first_number h) ++ big_endian 5 (last_number h command_type size)
  unfolding header_bytes first_number last_number
  header_numbers_lem =
      let a = first_number h in
      let b = last_number h command_type size in
      let e : print (contents [] (walk splice_header (headed h size command_type) 0).fields) ≡ bits_of_num 48 a ++ bits_of_num 40 b =
      header_bits h size command_type plain
      ∙ ap₂ (λ (l r : List ℕ). l ++ r) (front_bits h.protocol_version (algorithm_number h.encryption_algorithm) h.pts_adjustment fits.algorithm fits.adjustment)
      (back_bits h.cw_index h.tier size command_type fits.tiers narrow byte) in
      ap bytes_of e ∙ bytes_append 6 (bits_of_num 48 a) (bits_of_num 40 b) (length_num 48 a) ∙ ap₂ (λ (l r : List ℕ). l ++ r) (bytes_num 6 a) (bytes_num 5 b)

opening_number : (k : ℕ) → k < 2 ^ 12 → opening (k + 3) ≡ big_endian 3 (0xfc3000 + k)
opening_number k h =
    let z : k + 3 - 3 ≡ k = omega arith in
    let a : (0xfc3000 + k) / 2 ^ 16 % 256 ≡ 0xfc = omega arith in
    let b : (0xfc3000 + k) / 2 ^ 8 % 256 ≡ (0x3000 + k) / 2 ^ 8 % 256 = omega arith in
    let c : (0xfc3000 + k) / 2 ^ 0 % 256 ≡ (0x3000 + k) / 2 ^ 0 % 256 = omega arith in
    opening_is (k + 3) (omega arith) ∙ rw (z, ← b, ← c, ← a)

-- ---- stores one after the other
three_stores : (t a b c : List ℕ) → length a ≡ 3 → length b ≡ 6 → length c ≡ 5 → 14 ≤ length t → stored (stored (stored t 0 a) 3 b) 9 c ≡ stored t 0 (a ++ (b ++ c))
three_stores t a b c la lb lc n =
    let e : stored (stored t 0 a) 3 b ≡ stored t 0 (a ++ b) =
    ap (λ (i : ℕ). stored (stored t 0 a) i b) (let z : 3 ≡ 0 + length a = omega arith in z) ∙ stored_append t 0 a b (omega arith) in
    let l : length (a ++ b) ≡ 9 = length-append a b ∙ omega arith in
    ap (λ (u : List ℕ). stored u 9 c) e ∙ ap (λ (i : ℕ). stored (stored t 0 (a ++ b)) i c) (let z : 9 ≡ 0 + length (a ++ b) = omega arith in z)
    ∙ stored_append t 0 (a ++ b) c (omega arith) ∙ ap (stored t 0) (append_assoc a b c)

pub head_stored : (t u v w : List ℕ) (h : SpliceInfoHeader) (command_type size extent f g : ℕ) → u ≡ stored t 0 (big_endian 3 (0xfc3000 + (17 + size + extent)))
    → v ≡ stored u 3 (big_endian 6 f) → w ≡ stored v 9 (big_endian 5 g) → f ≡ first_number h → g ≡ last_number h command_type size
    → numbers_fit h ≡ true → writable_head h ≡ true → command_type < 2 ^ 8 → section_length size extent ≤ 4096 → 14 ≤ length t → w ≡ stored t 0 (head h command_type size extent)
unfolding head
head_stored t u v w h command_type size extent f g e₁ e₂ e₃ ef eg fit writable byte short room =
    let n : section_length size extent ≡ 17 + size + extent + 3 = omega arith in
    let p : head h command_type size extent ≡ big_endian 3 (0xfc3000 + (17 + size + extent)) ++ (big_endian 6 f ++ big_endian 5 g) =
    ap₂ (λ (l r : List ℕ). l ++ r) (ap opening n ∙ opening_number (17 + size + extent) (omega arith))
    (header_numbers_lem h command_type size (fitting h fit) (clear h writable).0 (omega arith) byte ∙ rw (ef, eg)) in
    e₃ ∙ rw (e₂, e₁) (three_stores t _ _ _ refl refl refl room) ∙ ap (stored t 0) (sym p)

crc_number : (c : ℕ) (m : List ℕ) → c ≡ crc_of m → big_endian 4 c ≡ crc_bytes_of m
crc_number c m e = rw (e, div-one (crc_of m))

pub tail_stored : (t u v w loop : List ℕ) (at c : ℕ) → u ≡ stored t at (big_endian 2 (length loop)) → v ≡ stored u (at + 2) loop → c ≡ crc_of (take (at + 2 + length loop - 0) (drop 0 v))
    → w ≡ stored v (at + 2 + length loop) (big_endian 4 c) → at + length loop + 6 ≤ length t → w ≡ stored t at (tail (take at t) loop)
unfolding tail with_length
tail_stored t u v w loop at c eu ev ec ew room =
    let m = with_length loop in
    let n : length m ≡ 2 + length loop = length_with_length loop in
    let e : v ≡ stored t at m = ev ∙ ap (λ (x : List ℕ). stored x (at + 2) loop) eu ∙ stored_append t at (big_endian 2 (length loop)) loop (omega arith) in
    let l : length (take at t ++ m) ≡ at + 2 + length loop = length-append (take at t) m ∙ omega (arith, length-take-le at t (omega arith)) in
    let z : at + 2 + length loop - 0 ≡ at + 2 + length loop = omega arith in
    let f : take (at + 2 + length loop - 0) (drop 0 v) ≡ take at t ++ m =
    rw (z, e, stored_fits t at m (omega arith)) (take_at (take at t ++ m) (drop (at + length m) t) (at + 2 + length loop) l) in
    let k : big_endian 4 c ≡ crc_bytes_of (take at t ++ m) = crc_number c _ (ec ∙ ap crc_of f) in
    let o : at + 2 + length loop ≡ at + length m = omega arith in
    ew ∙ rw (e, o, k) (stored_append t at m (crc_bytes_of (take at t ++ m)) (omega arith))

-- before the command, the command, and behind it
pub section_stored : (t u v w : List ℕ) (h : SpliceInfoHeader) (command_type : ℕ) (payload loop : List ℕ) → u ≡ stored t 0 (head h command_type (length payload) (length loop))
    → v ≡ stored u 14 payload → w ≡ stored v (14 + length payload) (tail (take (14 + length payload) v) loop)
    → section_length (length payload) (length loop) ≤ length t → w ≡ stored t 0 (frame h command_type payload loop)
unfolding tail frame body
section_stored t u v w h command_type payload loop eu ev ew room =
    let a = head h command_type (length payload) (length loop) in
    let b = a ++ payload in
    let m = with_length loop in
    let la : length a ≡ 14 = length_head h command_type (length payload) (length loop) in
    let lb : length b ≡ 14 + length payload = length-append a payload ∙ omega arith in
    let lm : length m ≡ 2 + length loop = length_with_length loop in
    let e : v ≡ stored t 0 b = ev ∙ ap (λ (x : List ℕ). stored x 14 payload) eu ∙ ap (λ (i : ℕ). stored (stored t 0 a) i payload) (let z : 14 ≡ 0 + length a = omega arith in z) ∙ stored_append t 0 a payload (omega arith) in
    let f : take (14 + length payload) v ≡ b = rw (e, stored_fits t 0 b (omega arith)) (take_at b (drop (0 + length b) t) (14 + length payload) lb) in
    let c = crc_bytes_of (b ++ m) in
    let n : length (m ++ c) ≡ 6 + length loop = length-append m c ∙ omega arith in
    let z : 14 + length payload ≡ 0 + length b = omega arith in
    ew ∙ rw (f, e) (ap (λ (i : ℕ). stored (stored t 0 b) i (m ++ c)) z ∙ stored_append t 0 b (m ++ c) (omega arith) ∙ ap (stored t 0) (sym (append_assoc b m c)))
