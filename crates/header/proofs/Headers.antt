-- The splice header: what the reader answers, and its laws as a structure.
use Prim.Native.Nat.{ℕ, ◌*◌, ◌%◌, ◌<◌, ◌≤◌}
use mathlib.Core.Bool.{Bool, true, ◌&&◌}
use mathlib.Core.List.{List, ◌++◌}
use mathlib.Core.Path.{◌≡◌, refl, ap, ap₂, sym, ◌∙◌}
use native.Mathlib.Omega.{arith}
use lib.Dec.{eqb}
use lib.ListN.{length}
use Rattle.names.specs.Algorithm.{algorithm_number, algorithm_of, writable_algorithm}
use Rattle.names.specs.Command.{command_number, command_type_of, writable_command}
use Rattle.names.proofs.Algorithms.{algorithm_laws}
use Rattle.names.proofs.Commands.{command_laws}
use Rattle.table.specs.Bits.{bits_of, field, AllBytes}
use Rattle.table.specs.Table.{number, bit, Answer, got, short, parse, canonical}
use Rattle.table.specs.Writing.{Same, made, make}
use Rattle.table.proofs.Laws.{Tells}
use Rattle.table.proofs.Leading.{Leads, leads_done, leads_number, leads_flag}
use Rattle.table.proofs.Lists.{and_true}
use Rattle.table.proofs.Steps.{takes_number, takes_flag, reads_number, reads_flag}
use Rattle.table.proofs.Structure as laws
use Rattle.table.proofs.Telling.{tells_number, tells_flag}
use Rattle.header_numbers.specs.Numbers.{numbers_in, numbers_read}
use Rattle.header_numbers.specs.declared.HeaderNumbers.{HeaderNumbers}
use Rattle.header_numbers.proofs.Places.{numbers_told, none_told}
use Rattle.header.specs.Header.{splice_header, header_read, header_of}
use Rattle.header.specs.declared.header.SpliceInfoHeader.{SpliceInfoHeader}
use Rattle.std.proofs.Common.{Some, None}

-- ---- eleven bytes are a header
pub header_got : (s : List ℕ) → 11 ≤ length s → parse splice_header (bits_of s) 0 ≡ got (record {
  protocol_version = field (bits_of s) 0 8;
  encrypted_packet = eqb (field (bits_of s) 8 1) 1;
  encryption_algorithm = algorithm_of (field (bits_of s) 9 6);
  pts_adjustment = field (bits_of s) 15 33;
  cw_index = field (bits_of s) 48 8;
  tier = field (bits_of s) 56 12;
  splice_command_length = field (bits_of s) 68 12;
  splice_command_type = command_type_of (field (bits_of s) 80 8);
}) 88
unfolding splice_header
header_got s h =
    takes_number s 0 8 _ _ _ (omega arith) refl ∙ takes_flag s 8 _ _ _ (omega arith) refl ∙ takes_number s 9 6 _ _ _ (omega arith) refl
    ∙ takes_number s 15 33 _ _ _ (omega arith) refl ∙ takes_number s 48 8 _ _ _ (omega arith) refl ∙ takes_number s 56 12 _ _ _ (omega arith) refl
    ∙ takes_number s 68 12 _ _ _ (omega arith) refl ∙ takes_number s 80 8 _ _ _ (omega arith) refl

-- ---- the structure
-- a header whose numbers stand for its values
unfoldable pub writable_header : SpliceInfoHeader → Bool
writable_header h = writable_algorithm h.encryption_algorithm && writable_command h.splice_command_type

tells : Tells splice_header 0 (λ a y. (a % 8 ≡ 0) × (writable_header y ≡ true))
unfolding splice_header writable_header
tells =
    tells_number 8 _ _ 0 _ λ version h₁.
    tells_flag _ _ 8 _ λ encrypted.
    tells_number 6 _ _ 9 _ λ algorithm h₂.
    tells_number 33 _ _ 15 _ λ adjustment h₃.
    tells_number 8 _ _ 48 _ λ index h₄.
    tells_number 12 _ _ 56 _ λ tier h₅.
    tells_number 12 _ _ 68 _ λ size h₆.
    tells_number 8 _ _ 80 _ λ type h₇.
    (((((((((refl, rw (algorithm_laws.is_writable algorithm) (command_laws.is_writable type)), refl), refl), algorithm_laws.there algorithm), refl), refl), refl), refl), command_laws.there type)

-- what x's own numbers stand for is x
again : (x : SpliceInfoHeader) → writable_header x ≡ true → record {
  protocol_version = x.protocol_version;
  encrypted_packet = x.encrypted_packet;
  encryption_algorithm = algorithm_of (algorithm_number x.encryption_algorithm);
  pts_adjustment = x.pts_adjustment;
  cw_index = x.cw_index;
  tier = x.tier;
  splice_command_length = x.splice_command_length;
  splice_command_type = command_type_of (command_number x.splice_command_type);
} ≡ x
unfolding writable_header
again x f =
    let a = and_true (writable_algorithm x.encryption_algorithm) _ f in
    rw (algorithm_laws.back x.encryption_algorithm a.0, command_laws.back x.splice_command_type a.1)

ends : (x : SpliceInfoHeader) (m : ℕ) → writable_header x ≡ true → Leads splice_header x x 0 88 m
unfolding splice_header
ends x m f =
    leads_number 8 _ _ _ _ 0 88 m
    (leads_flag _ _ _ _ 8 88 m
    (leads_number 6 _ _ _ _ 9 88 m
    (leads_number 33 _ _ _ _ 15 88 m
    (leads_number 8 _ _ _ _ 48 88 m
    (leads_number 12 _ _ _ _ 56 88 m
    (leads_number 12 _ _ _ _ 68 88 m
    (leads_number 8 _ _ _ _ 80 88 m
    (leads_done x _ _ _ _ m (again x f) refl))))))))

abbrev structure : laws.Structure splice_header
structure = record {
  writable = writable_header;
  size = λ x. 11;
  moved = λ x. x;
  Shape = λ x. Unit {0};
  After = λ m. Unit {0};
  none = tt;
  tells = tells;
  ends = λ x m h f u. ends x m f;
}

-- ---- eleven bytes and no fewer
read : (s : List ℕ) (x : SpliceInfoHeader) → length s ≡ 11 → header_of s ≡ Some x → parse splice_header (bits_of s) 0 ≡ got x (length s * 8)
unfolding header_of header_read
read s x n e =
    let g = header_got s (omega arith) in
    let h : Some _ ≡ Some x = sym (ap header_read g) ∙ e in
    g ∙ ap₂ got (cc) (omega arith)

too_short : (s : List ℕ) (y : SpliceInfoHeader) (m : ℕ) → length s < 11 → parse splice_header (bits_of s) 0 ≡ got y m → ⊥
unfolding splice_header
too_short s y m h e =
    let e₁ = (reads_number s 0 8 _ _ y m e).1 in
    let e₂ = (reads_flag s 8 _ _ y m e₁).1 in
    let e₃ = (reads_number s 9 6 _ _ y m e₂).1 in
    let e₄ = (reads_number s 15 33 _ _ y m e₃).1 in
    let e₅ = (reads_number s 48 8 _ _ y m e₄).1 in
    let e₆ = (reads_number s 56 12 _ _ y m e₅).1 in
    let e₇ = (reads_number s 68 12 _ _ y m e₆).1 in
    omega (arith, (reads_number s 80 8 _ _ y m e₇).0)

refused : (r : Answer SpliceInfoHeader) → ((y : SpliceInfoHeader) (m : ℕ) → r ≡ got y m → ⊥) → header_read r ≡ None
unfolding header_read
refused (got y m) f = absurd (f y m refl)
refused (short e a) f = refl

-- 01: "5 | .. a header alone under 11, its only refusal"
pub header_refused : (s : List ℕ) → length s < 11 → header_of s ≡ None
unfolding header_of
header_refused s h = refused (parse splice_header (bits_of s) 0) (λ y m e. too_short s y m h e)

pub header_there : (s : List ℕ) → 11 ≤ length s → (x : SpliceInfoHeader) × (header_of s ≡ Some x)
unfolding header_of header_read
header_there s h = (_, ap header_read (header_got s h))

-- ---- the places of the numbers are those of the table
-- what numbers name
abbrev pub named : HeaderNumbers → SpliceInfoHeader
named n =
    record {
      protocol_version = n.protocol_version;
      encrypted_packet = n.encrypted_packet;
      encryption_algorithm = algorithm_of n.encryption_algorithm;
      pts_adjustment = n.pts_adjustment;
      cw_index = n.cw_index;
      tier = n.tier;
      splice_command_length = n.splice_command_length;
      splice_command_type = command_type_of n.splice_command_type;
    }

pub header_of_numbers : (s : List ℕ) → 11 ≤ length s → header_of s ≡ Some (named (numbers_in s))
unfolding header_of header_read numbers_in
header_of_numbers s h = ap header_read (header_got s h)

pub header_named : (s : List ℕ) (n : HeaderNumbers) → Some n ≡ numbers_read s → Some (named n) ≡ header_of s
header_named s n e = let k = numbers_told s n e in rw (header_of_numbers s k.0, k.1)

pub header_missing : (s : List ℕ) → None ≡ numbers_read s → None ≡ header_of s
header_missing s e = sym (header_refused s (none_told s e))

-- ---- the round trips
nothing_asked : (bs : List ℕ) → canonical splice_header bs 0 ≡ true
unfolding splice_header number bit
nothing_asked bs = refl

no_view_lem : (s r : List ℕ) (x : SpliceInfoHeader) → Same splice_header s x r x
unfolding splice_header number bit
no_view_lem s r x = refl

-- what is written of a header reads as that header, whatever follows
pub header_write_read : (lent : List ℕ) (x : SpliceInfoHeader) (b r : List ℕ) → make splice_header (writable_header x) lent x ≡ made b
    → parse splice_header (bits_of (b ++ r)) 0 ≡ got x (length b * 8)
header_write_read lent x b r e = (laws.write_read splice_header structure lent x b r tt e tt).0

-- eleven bytes are what is written of their reading
pub header_read_write : (s : List ℕ) (x : SpliceInfoHeader) → AllBytes s → length s ≡ 11 → header_of s ≡ Some x → make splice_header (writable_header x) s x ≡ made s
header_read_write s x a n e = laws.read_write_all splice_header structure s x a (read s x n e) (nothing_asked (bits_of s))

-- and no two have one reading
pub header_one : (s r : List ℕ) (x : SpliceInfoHeader) → AllBytes s → AllBytes r → length s ≡ 11 → length r ≡ 11 → header_of s ≡ Some x → header_of r ≡ Some x → s ≡ r
header_one s r x a b n m e f =
    laws.write_one splice_header structure s r x x a b (read s x n e) (read r x m f) (nothing_asked (bits_of s)) (nothing_asked (bits_of r)) (no_view_lem s r x)
