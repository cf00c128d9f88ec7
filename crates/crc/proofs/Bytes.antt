-- What bits and bytes of a message do to the register.
--     bits_next       a bit, of the n that are left
--     byte_step, byte_in      a byte: its bits; eight steps, and the byte comes in
use mathlib.Core.Path.{◌≡◌, refl, sym, ap, ap₂, ◌∙◌, subst}
use mathlib.Core.List.{List, [], ◌∷◌, ◌++◌}
use Prim.Native.Nat.{ℕ, zero, suc, ◌+◌, ◌*◌, ◌/◌, ◌%◌, ◌^◌, ◌-◌, ◌<◌, ◌≤◌}
use native.Mathlib.Nat.{mod-lt, mod-one, mod-eq_of_lt, lt_of_lt_of_le}
use native.Mathlib.Numerals.{one-add, add-one, unary_clauses}
use native.Mathlib.Omega.{arith}
use lib.Dec.{lit<}
use lib.ListN.{length, get_or, drop, drop_of_length-le}
use lib.Seq.{drop-cons}
use lib.Pow.{pow_pos, pow_mono, shl-shr, mod-pow-add}
use lib.Bits.{bit_xor, xor_assoc, xor_shr, xor_mod, xor_zero_r, xor_lt}
use Rattle.crc.specs.Crc.{polynomial, fed, crc_bit, crc_bits, crc_of, all_ones}
use Rattle.table.specs.Bits.{bits_of, bits_of_num}
use Rattle.crc_table.specs.Turns.{turn, turns}
use Rattle.crc.specs.Private.{crc_bytes}
use Rattle.crc.proofs.Xor.{xor_shl}
use Rattle.crc.proofs.Turns.{turn_lin, turns_lin, turns_add, turn_lt, turns_lt, turned_lt, behind}

-- ---- bits

fed_xor : (f z : ℕ) → f < 2 → fed f z ≡ bit_xor z (f * polynomial)
fed_xor zero z h = sym (xor_zero_r z)
fed_xor (suc zero) z h = refl
fed_xor (suc (suc f)) z h = absurd (omega arith)

-- a bit comes in at the top
bit_turn : (z bit : ℕ) → z < 2 ^ 32 → bit < 2 → crc_bit z bit ≡ turn (bit_xor z (bit * 2 ^ 31))
unfolding crc_bit turn
bit_turn z bit hz hb =
    let top : bit_xor (z / 2 ^ 31) bit < 2 = xor_lt 1 (z / 2 ^ 31) bit (omega arith) hb in
    let none : bit * 2 ^ 31 * 2 % 2 ^ 32 ≡ 0 = omega arith in
    fed_xor (bit_xor (z / 2 ^ 31) bit) (z * 2 % 2 ^ 32) top
    ∙ sym
    (ap₂ bit_xor
    (ap (λ (n : ℕ). n % 2 ^ 32) (xor_shl z (bit * 2 ^ 31) 1) ∙ xor_mod (z * 2) (bit * 2 ^ 31 * 2) 32
    ∙ ap (bit_xor (z * 2 % 2 ^ 32)) none ∙ xor_zero_r (z * 2 % 2 ^ 32))
    (ap (λ (n : ℕ). n % 2 * polynomial) (xor_shr z (bit * 2 ^ 31) 31 ∙ ap (bit_xor (z / 2 ^ 31)) (shl-shr bit 31))
    ∙ ap (λ (n : ℕ). n * polynomial) (mod-eq_of_lt top)))

bit_down : (bit : ℕ) → bit < 2 → turn (bit * 2 ^ 31) ≡ turns 32 bit
unfolding turns turn
bit_down zero h = refl
bit_down (suc zero) h = refl
bit_down (suc (suc bit)) h = absurd (omega arith)

bit_in : (z bit : ℕ) → z < 2 ^ 32 → bit < 2 → crc_bit z bit ≡ bit_xor (turn z) (turns 32 bit)
bit_in z bit hz hb = bit_turn z bit hz hb ∙ turn_lin.at z (bit * 2 ^ 31) ∙ ap (bit_xor (turn z)) (bit_down bit hb)

-- nothing comes in; what comes in fits
in_none : (z : ℕ) → bit_xor z (turns 32 0) ≡ z
unfolding turns turn
in_none z = xor_zero_r z

in_lt : (z x : ℕ) → z < 2 ^ 32 → bit_xor z (turns 32 x) < 2 ^ 32
in_lt z x h = xor_lt 32 z (turns 32 x) h (turned_lt 31 x)

-- what came in with x, and n bits y behind it
then : (k n z x y : ℕ) → y < 2 ^ n → x * 2 ^ n + y < 2 ^ 32
    → bit_xor (turns n (bit_xor (turns k z) (turns 32 x))) (turns 32 y) ≡ bit_xor (turns (k + n) z) (turns 32 (x * 2 ^ n + y))
then k n z x y h l =
    ap (λ (m : ℕ). bit_xor m (turns 32 y)) ((turns_lin n).at (turns k z) (turns 32 x))
    ∙ xor_assoc (turns n (turns k z)) (turns n (turns 32 x)) (turns 32 y)
    ∙ ap₂ bit_xor (sym (turns_add k n z)) (sym (behind n x y h l))

bits_in_lem : (n x z : ℕ) → n ≤ 32 → z < 2 ^ 32 → crc_bits z (bits_of_num n x) ≡ bit_xor (turns n z) (turns 32 (x % 2 ^ n))
unfolding crc_bits turns
bits_in_lem zero x z h hz = sym (ap (λ (k : ℕ). bit_xor z (turns 32 k)) (mod-one x) ∙ in_none z)
bits_in_lem (suc n) x z h hz =
    let d : ℕ = x / 2 ^ n % 2 in
    let hd : d < 2 = mod-lt (x / 2 ^ n) (lit< tt) in
    let y : ℕ = x % 2 ^ n in
    let hy : y < 2 ^ n = mod-lt x (pow_pos n) in
    let e : x % 2 ^ suc n ≡ d * 2 ^ n + y = ap (λ (k : ℕ). x % 2 ^ k) (sym (one-add n)) ∙ mod-pow-add x 1 n in
    let l : d * 2 ^ n + y < 2 ^ 32 =
    lt_of_lt_of_le (subst (λ (k : ℕ). k < 2 ^ suc n) e (mod-lt x (pow_pos (suc n)))) (pow_mono h)
    in
    let b : crc_bit z d ≡ bit_xor (turn z) (turns 32 d) = bit_in z d hz hd in
    bits_in_lem n x (crc_bit z d) (omega arith) (rw b (in_lt (turn z) d (turn_lt z)))
    ∙ ap (λ (k : ℕ). bit_xor (turns n k) (turns 32 y)) b
    ∙ then 1 n z d y hy l
    ∙ ap₂ (λ (k m : ℕ). bit_xor (turns k z) (turns 32 m)) (one-add n) (sym e)

-- the next bit of the n that are left
pub bits_next : (n x z : ℕ) → 0 < n → crc_bits z (bits_of_num n x) ≡ crc_bits (crc_bit z (x / 2 ^ (n - 1) % 2)) (bits_of_num (n - 1) x)
unfolding crc_bits
bits_next zero x z h = absurd (omega arith)
bits_next (suc n) x z h = simp unary_clauses

bits_append : (z : ℕ) (xs ys : List ℕ) → crc_bits z (xs ++ ys) ≡ crc_bits (crc_bits z xs) ys
unfolding crc_bits
bits_append z [] ys = refl
bits_append z (x ∷ xs) ys = bits_append (crc_bit z x) xs ys

-- ---- bytes

pub byte_step : (z b : ℕ) (bs : List ℕ) → crc_bytes z (b ∷ bs) ≡ crc_bytes (crc_bits z (bits_of_num 8 b)) bs
unfolding crc_bytes
byte_step z b bs = bits_append z (bits_of_num 8 b) (bits_of bs)

pub bytes_append : (z : ℕ) (xs ys : List ℕ) → crc_bytes z (xs ++ ys) ≡ crc_bytes (crc_bytes z xs) ys
unfolding crc_bytes crc_bits
bytes_append z [] ys = refl
bytes_append z (x ∷ xs) ys = byte_step z x (xs ++ ys) ∙ bytes_append (crc_bits z (bits_of_num 8 x)) xs ys ∙ ap (λ (k : ℕ). crc_bytes k ys) (sym (byte_step z x xs))

pub byte_in : (z b : ℕ) (bs : List ℕ) → z < 2 ^ 32 → b < 256 → crc_bytes z (b ∷ bs) ≡ crc_bytes (bit_xor (turns 8 z) (turns 32 b)) bs
byte_in z b bs hz hb =
    byte_step z b bs
    ∙ ap (λ (k : ℕ). crc_bytes k bs) (bits_in_lem 8 b z (omega arith) hz ∙ ap (λ (k : ℕ). bit_xor (turns 8 z) (turns 32 k)) (mod-eq_of_lt hb))

-- four bytes: the number that they make comes in at once
abbrev pub four : ℕ → ℕ → ℕ → ℕ → ℕ
four a b c d = ((a * 256 + b) * 256 + c) * 256 + d

pub four_in : (z a b c d : ℕ) → z < 2 ^ 32 → a < 256 → b < 256 → c < 256 → d < 256 → crc_bytes z (a ∷ b ∷ c ∷ d ∷ []) ≡ turns 32 (bit_xor z (four a b c d))
unfolding crc_bytes crc_bits
four_in z a b c d hz ha hb hc hd =
    let one : ℕ = bit_xor (turns 8 z) (turns 32 a) in
    let two : ℕ = bit_xor (turns 16 z) (turns 32 (a * 256 + b)) in
    let three : ℕ = bit_xor (turns 24 z) (turns 32 ((a * 256 + b) * 256 + c)) in
    byte_in z a (b ∷ c ∷ d ∷ []) hz ha
    ∙ byte_in one b (c ∷ d ∷ []) (in_lt (turns 8 z) a (turns_lt 8 z hz)) hb
    ∙ ap (λ (k : ℕ). crc_bytes k (c ∷ d ∷ [])) (then 8 8 z a b hb (omega arith))
    ∙ byte_in two c (d ∷ []) (in_lt (turns 16 z) (a * 256 + b) (turns_lt 16 z hz)) hc
    ∙ ap (λ (k : ℕ). crc_bytes k (d ∷ [])) (then 16 8 z (a * 256 + b) c hc (omega arith))
    ∙ byte_in three d [] (in_lt (turns 24 z) ((a * 256 + b) * 256 + c) (turns_lt 24 z hz)) hd
    ∙ then 24 8 z ((a * 256 + b) * 256 + c) d hd (omega arith)
    ∙ sym ((turns_lin 32).at z (four a b c d))

-- ---- a message from a place on

pub past_none : (s : List ℕ) → crc_bytes all_ones s ≡ crc_of s
unfolding crc_of crc_bytes
past_none s = refl

pub past_one : (s : List ℕ) (z i : ℕ) → i < length s → crc_bytes z (drop i s) ≡ crc_bytes (crc_bits z (bits_of_num 8 (get_or s i 0))) (drop (i + 1) s)
past_one s z i h = rw (add-one, drop-cons s i 0) (byte_step z (get_or s i 0) (drop (suc i) s))

pub past_all : (s : List ℕ) (z i : ℕ) → length s ≤ i → crc_bytes z (drop i s) ≡ z
unfolding crc_bytes crc_bits
past_all s z i h = rw (drop_of_length-le s)
