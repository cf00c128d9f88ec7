-- The laws of the CRC that callers cite.
--     crc_lt          the CRC fits 32 bits
--     crc_appended    a message with its CRC's four bytes behind it has the CRC 0
--     crc_unique      no other four bytes behind it have
--     crc_last        so a list of bytes with the CRC 0 ends with the four bytes of the CRC of what stands before them
--     crc_bytes       the four are bytes
use mathlib.Core.Path.{◌≡◌, refl, sym, ap, ◌∙◌}
use mathlib.Core.List.{List, [], ◌∷◌, ◌++◌}
use Prim.Native.Nat.{ℕ, zero, suc, ◌+◌, ◌*◌, ◌/◌, ◌%◌, ◌^◌, ◌<◌}
use native.Mathlib.Nat.{mod-eq_of_lt}
use native.Mathlib.Omega.{arith}
use lib.Dec.{lit<}
use lib.ListN.{length, get_or, take, drop, take-append-drop, length-drop}
use lib.Seq.{get_or-drop}
use lib.Pow.{shr-shr, split}
use lib.Bits.{bit_xor, xor_self, xor_lt}
use Rattle.crc.specs.Crc.{polynomial, all_ones, fed, crc_bit, crc_bits, crc_of, crc_bytes_of}
use Rattle.table.specs.Bits.{bits_of}
use Rattle.crc_table.specs.Turns.{turn, turns}
use Rattle.crc.specs.Private.{crc_bytes}
use Rattle.crc.proofs.Bytes.{four, four_in, past_none, bytes_append}
use Rattle.crc.proofs.Turns.{turn_lt}
use Rattle.crc.proofs.Xor.{xor_zero→eq}

-- ---- the register stays below 2 ^ 32, whatever comes in

fed_lt : (f z : ℕ) → z < 2 ^ 32 → fed f z < 2 ^ 32
fed_lt zero z h = h
fed_lt (suc f) z h = xor_lt 32 z polynomial h (lit< tt)

pub bit_lt : (z bit : ℕ) → crc_bit z bit < 2 ^ 32
unfolding crc_bit
bit_lt z bit = fed_lt (bit_xor (z / 2 ^ 31) bit) (z * 2 % 2 ^ 32) (omega arith)

bits_lt : (z : ℕ) (xs : List ℕ) → z < 2 ^ 32 → crc_bits z xs < 2 ^ 32
unfolding crc_bits
bits_lt z [] h = h
bits_lt z (x ∷ xs) h = bits_lt (crc_bit z x) xs (bit_lt z x)

pub crc_lt : (m : List ℕ) → crc_of m < 2 ^ 32
unfolding crc_of
crc_lt m = bits_lt all_ones (bits_of m) (lit< tt)

-- ---- four bytes behind a message

four_are_bytes : (a b c d : ℕ) → a < 256 → b < 256 → c < 256 → d < 256 → (k : ℕ) → get_or (a ∷ b ∷ c ∷ d ∷ []) k 0 < 256
four_are_bytes a b c d ha hb hc hd zero = ha
four_are_bytes a b c d ha hb hc hd (suc zero) = hb
four_are_bytes a b c d ha hb hc hd (suc (suc zero)) = hc
four_are_bytes a b c d ha hb hc hd (suc (suc (suc zero))) = hd
four_are_bytes a b c d ha hb hc hd (suc (suc (suc (suc k)))) = lit< tt

four_behind : (m : List ℕ) (a b c d : ℕ) → a < 256 → b < 256 → c < 256 → d < 256
    → crc_of (m ++ a ∷ b ∷ c ∷ d ∷ []) ≡ turns 32 (bit_xor (crc_of m) (four a b c d))
four_behind m a b c d ha hb hc hd =
    let x : List ℕ = a ∷ b ∷ c ∷ d ∷ [] in
    sym (past_none (m ++ x)) ∙ bytes_append all_ones m x ∙ ap (λ (k : ℕ). crc_bytes k x) (past_none m)
    ∙ four_in (crc_of m) a b c d (crc_lt m) ha hb hc hd

-- a number of 32 bits is that of its four bytes
four_bytes : (c : ℕ) → c < 2 ^ 32 → four (c / 2 ^ 24 % 256) (c / 2 ^ 16 % 256) (c / 2 ^ 8 % 256) (c / 2 ^ 0 % 256) ≡ c
four_bytes c h =
    let top : c / 2 ^ 24 % 256 ≡ c / 2 ^ 24 = mod-eq_of_lt (omega arith) in
    let e : c / 2 ^ 24 * 256 + c / 2 ^ 16 % 256 ≡ c / 2 ^ 16 = ap (λ (n : ℕ). n * 256 + c / 2 ^ 16 % 256) (sym (shr-shr c 16 8)) ∙ split (c / 2 ^ 16) 8 in
    let f : c / 2 ^ 16 * 256 + c / 2 ^ 8 % 256 ≡ c / 2 ^ 8 = ap (λ (n : ℕ). n * 256 + c / 2 ^ 8 % 256) (sym (shr-shr c 8 8)) ∙ split (c / 2 ^ 8) 8 in
    let last : c / 2 ^ 0 % 256 ≡ c % 256 = omega arith in
    ap (λ (n : ℕ). four (c / 2 ^ 24 % 256) (c / 2 ^ 16 % 256) (c / 2 ^ 8 % 256) n) last
    ∙ ap (λ (n : ℕ). four n (c / 2 ^ 16 % 256) (c / 2 ^ 8 % 256) (c % 256)) top
    ∙ ap (λ (n : ℕ). (n * 256 + c / 2 ^ 8 % 256) * 256 + c % 256) e
    ∙ ap (λ (n : ℕ). n * 256 + c % 256) f
    ∙ split c 8

pub crc_appended : (m : List ℕ) → crc_of (m ++ crc_bytes_of m) ≡ 0
unfolding turns turn
crc_appended m =
    let c : ℕ = crc_of m in
    four_behind m (c / 2 ^ 24 % 256) (c / 2 ^ 16 % 256) (c / 2 ^ 8 % 256) (c / 2 ^ 0 % 256) (omega arith) (omega arith) (omega arith) (omega arith)
    ∙ ap (λ (n : ℕ). turns 32 (bit_xor c n)) (four_bytes c (crc_lt m))
    ∙ ap (turns 32) (xor_self c)

-- a step loses nothing: the polynomial is odd
top_zero : (t r : ℕ) → t < 2 → r % 2 ≡ 0 → r ≡ t * polynomial → t ≡ 0
top_zero zero r h o e = refl
top_zero (suc zero) r h o e = absurd (omega arith)
top_zero (suc (suc t)) r h o e = absurd (omega arith)

turn_zero : (z : ℕ) → z < 2 ^ 32 → turn z ≡ 0 → z ≡ 0
unfolding turn
turn_zero z h e =
    let f : z * 2 % 2 ^ 32 ≡ z / 2 ^ 31 % 2 * polynomial = xor_zero→eq (z * 2 % 2 ^ 32) (z / 2 ^ 31 % 2 * polynomial) e in
    let o : z * 2 % 2 ^ 32 % 2 ≡ 0 = omega arith in
    let t : z / 2 ^ 31 % 2 ≡ 0 = top_zero (z / 2 ^ 31 % 2) (z * 2 % 2 ^ 32) (omega arith) o f in
    let q : z / 2 ^ 31 ≡ 0 = sym (mod-eq_of_lt (omega arith)) ∙ t in
    let l : z * 2 < 2 ^ 32 = omega arith in
    let g : z * 2 ≡ 0 = sym (mod-eq_of_lt l) ∙ f ∙ ap (λ (n : ℕ). n * polynomial) t in
    omega arith

turns_zero : (n z : ℕ) → z < 2 ^ 32 → turns n z ≡ 0 → z ≡ 0
unfolding turns
turns_zero zero z h e = e
turns_zero (suc n) z h e = turn_zero z h (turns_zero n (turn z) (turn_lt z) e)

four_unique : (m : List ℕ) (a b c d : ℕ) → a < 256 → b < 256 → c < 256 → d < 256
    → crc_of (m ++ a ∷ b ∷ c ∷ d ∷ []) ≡ 0 → a ∷ b ∷ c ∷ d ∷ [] ≡ crc_bytes_of m
four_unique m a b c d ha hb hc hd e =
    let z : ℕ = crc_of m in
    let w : ℕ = four a b c d in
    let f : z ≡ w = xor_zero→eq z w (turns_zero 32 (bit_xor z w) (xor_lt 32 z w (crc_lt m) (omega arith)) (sym (four_behind m a b c d ha hb hc hd) ∙ e)) in
    let ea : a ≡ z / 2 ^ 24 % 256 = omega arith in
    let eb : b ≡ z / 2 ^ 16 % 256 = omega arith in
    let ec : c ≡ z / 2 ^ 8 % 256 = omega arith in
    let ed : d ≡ z / 2 ^ 0 % 256 = omega arith in
    cc

pub crc_unique : (m b : List ℕ) → length b ≡ 4 → ((k : ℕ) → get_or b k 0 < 256) → crc_of (m ++ b) ≡ 0 → b ≡ crc_bytes_of m
crc_unique m [] l h e = absurd (omega arith)
crc_unique m (a ∷ []) l h e = absurd (omega arith)
crc_unique m (a ∷ b ∷ []) l h e = absurd (omega arith)
crc_unique m (a ∷ b ∷ c ∷ []) l h e = absurd (omega arith)
crc_unique m (a ∷ b ∷ c ∷ d ∷ []) l h e = four_unique m a b c d (h 0) (h 1) (h 2) (h 3) e
crc_unique m (a ∷ b ∷ c ∷ d ∷ x ∷ xs) l h e = absurd (omega arith)

pub crc_last : (s : List ℕ) (n : ℕ) → length s ≡ n + 4 → ((k : ℕ) → get_or s k 0 < 256) → crc_of s ≡ 0 → s ≡ take n s ++ crc_bytes_of (take n s)
crc_last s n l h e =
    let overall : take n s ++ drop n s ≡ s = take-append-drop n s in
    sym overall
    ∙ ap (λ (x : List ℕ). take n s ++ x)
    (crc_unique (take n s) (drop n s) (simp length-drop (omega arith)) (λ k. rw get_or-drop (h (n + k))) (ap crc_of overall ∙ e))

pub crc_bytes_lem : (m : List ℕ) (k : ℕ) → get_or (crc_bytes_of m) k 0 < 256
crc_bytes_lem m = let c : ℕ = crc_of m in four_are_bytes (c / 2 ^ 24 % 256) (c / 2 ^ 16 % 256) (c / 2 ^ 8 % 256) (c / 2 ^ 0 % 256) (omega arith) (omega arith) (omega arith) (omega arith)
