-- The register of ISO/IEC 13818-1, Annex A, as the annex words it, and that `crc_of` is what it holds after the message.
-- The register has 32 delay elements z(0) .. z(31), each 1 at the start. The bit that comes in is added to the output of z(31); the result
-- goes to the input of z(0) and to each of the other adders, which stand between some z(i) and z(i + 1). Sums are modulo 2.
-- Nothing cites this: it is for a reader who holds Annex A beside `specs/Crc`.
use mathlib.Core.Path.{◌≡◌, refl, sym, ap, ap₂, ◌∙◌}
use mathlib.Core.Bool.{Bool, true, false}
use mathlib.Core.List.{List, [], ◌∷◌, ◌++◌}
use Prim.Native.Nat.{ℕ, zero, suc, ◌+◌, ◌*◌, ◌/◌, ◌%◌, ◌^◌, ◌-◌, ◌<◌}
use native.Mathlib.Nat.{zero-mul, one-mul, mul-zero, mul-one, mod-lt}
use native.Mathlib.Numerals.{one-add}
use native.Mathlib.Omega.{arith}
use lib.Dec.{lit<, eqb}
use Rattle.std.proofs.lemmas.Bool.{eqb-true}
use lib.Pow.{shr-shr, shl-shr, field, mod-mod-pow}
use lib.Bits.{bit_xor, xor_shr, xor_mod, xor_zero_r, xor_lt}
use Rattle.crc.specs.Crc.{polynomial, all_ones, fed, crc_bit, crc_bits, crc_of}
use Rattle.table.specs.Bits.{bits_of, bits_of_num}
use Rattle.crc.proofs.Laws.{bit_lt}
use Rattle.crc.proofs.Linear.{below}

-- ---- the annex

-- z(i) for each i
abbrev pub Register : Type 0
Register = ℕ → ℕ

abbrev pub initial : Register
initial i = 1

-- the adders: the output of z(i) is connected to the input of z(i + 1) through one, with i =
abbrev pub adders : List ℕ
adders = 0 ∷ 1 ∷ 3 ∷ 4 ∷ 6 ∷ 7 ∷ 9 ∷ 10 ∷ 11 ∷ 15 ∷ 21 ∷ 22 ∷ 25 ∷ []

abbrev pub either : Bool → Bool → Bool
either true b = true
either false b = b

abbrev pub among : ℕ → List ℕ → Bool
among i [] = false
among i (place ∷ places) = either (eqb i place) (among i places)

abbrev pub through : Bool → ℕ → ℕ → ℕ
through true feedback z = bit_xor z feedback
through false feedback z = z

-- one bit of the message
abbrev pub step : Register → ℕ → Register
step z bit zero = bit_xor (z 31) bit
step z bit (suc i) = through (among i adders) (bit_xor (z 31) bit) (z i)

abbrev pub run : Register → List ℕ → Register
run z [] = z
run z (bit ∷ later) = run (step z bit) later

-- ---- the digits of a number as a register

abbrev pub element : ℕ → Register
element z i = z / 2 ^ i % 2

element_xor : (a b i : ℕ) → element (bit_xor a b) i ≡ bit_xor (element a i) (element b i)
element_xor a b i = ap (λ (n : ℕ). n % 2) (xor_shr a b i) ∙ xor_mod (a / 2 ^ i) (b / 2 ^ i) 1

element_fed : (f z i : ℕ) → f < 2 → element (fed f z) i ≡ bit_xor (element z i) (element polynomial i * f)
element_fed zero z i h = sym (ap (bit_xor (element z i)) (mul-zero (element polynomial i)) ∙ xor_zero_r (element z i))
element_fed (suc zero) z i h = element_xor z polynomial i ∙ ap (bit_xor (element z i)) (sym (mul-one (element polynomial i)))
element_fed (suc (suc f)) z i h = absurd (omega arith)

-- the adders are the polynomial's digits
abbrev digit : Bool → ℕ
digit true = 1
digit false = 0

adder_is : (i : ℕ) → i < 31 → element polynomial (suc i) ≡ digit (among i adders)
adder_is i h =
    eqb-true (element polynomial (suc i)) (digit (among i adders)) (below (λ k. eqb (element polynomial (suc k)) (digit (among k adders))) 31 refl i h)

digit_through : (b : Bool) (f z : ℕ) → bit_xor z (digit b * f) ≡ through b f z
digit_through true f z = ap (bit_xor z) (one-mul f)
digit_through false f z = ap (bit_xor z) (zero-mul f) ∙ xor_zero_r z

-- the shift
element_shl : (z i : ℕ) → i < 31 → element (z * 2 % 2 ^ 32) (suc i) ≡ element z i
element_shl z i h =
    let e : 30 - i + 1 + suc i ≡ 32 = omega arith in
    ap (λ (n : ℕ). z * 2 % 2 ^ n / 2 ^ suc i % 2) (sym e)
    ∙ ap (λ (n : ℕ). n % 2) (field (z * 2) (30 - i + 1) (suc i))
    ∙ mod-mod-pow (z * 2 / 2 ^ suc i) (30 - i) 1
    ∙ ap (λ (n : ℕ). z * 2 / 2 ^ n % 2) (sym (one-add i))
    ∙ ap (λ (n : ℕ). n % 2) (sym (shr-shr (z * 2) 1 i))
    ∙ ap (λ (n : ℕ). n / 2 ^ i % 2) (shl-shr z 1)

stepped : (z bit f i : ℕ) → i < 32 → f ≡ bit_xor (element z 31) bit → bit_xor (element (z * 2 % 2 ^ 32) i) (element polynomial i * f) ≡ step (element z) bit i
stepped z bit f zero l e = let none : element (z * 2 % 2 ^ 32) 0 ≡ 0 = omega arith in ap₂ bit_xor none (one-mul f) ∙ e
stepped z bit f (suc i) l e =
    ap₂ (λ (a b : ℕ). bit_xor a (b * f)) (element_shl z i (omega arith)) (adder_is i (omega arith))
    ∙ digit_through (among i adders) f (element z i)
    ∙ ap (λ (n : ℕ). through (among i adders) n (element z i)) e

element_step : (z bit i : ℕ) → z < 2 ^ 32 → bit < 2 → i < 32 → element (crc_bit z bit) i ≡ step (element z) bit i
unfolding crc_bit
element_step z bit i hz hb l =
    let f : ℕ = bit_xor (z / 2 ^ 31) bit in
    let top : z / 2 ^ 31 ≡ element z 31 = omega arith in
    element_fed f (z * 2 % 2 ^ 32) i (xor_lt 1 (z / 2 ^ 31) bit (omega arith) hb) ∙ stepped z bit f i l (ap (λ (n : ℕ). bit_xor n bit) top)

-- ---- the bits of a message

abbrev AllBits : List ℕ → Type 0
AllBits [] = Unit {0}
AllBits (x ∷ xs) = (x < 2) × AllBits xs

all_append : (xs ys : List ℕ) → AllBits xs → AllBits ys → AllBits (xs ++ ys)
all_append [] ys h k = k
all_append (x ∷ xs) ys h k = (h.0, all_append xs ys h.1 k)

bits_all : (n x : ℕ) → AllBits (bits_of_num n x)
bits_all zero x = tt
bits_all (suc n) x = (mod-lt (x / 2 ^ n) (lit< tt), bits_all n x)

message_all : (m : List ℕ) → AllBits (bits_of m)
message_all [] = tt
message_all (b ∷ bs) = all_append (bits_of_num 8 b) (bits_of bs) (bits_all 8 b) (message_all bs)

-- ---- a register that has a number's digits keeps them

abbrev Has : Register → ℕ → Type 0
Has r z = (i : ℕ) → i < 32 → element z i ≡ r i

step_has : (r : Register) (z bit : ℕ) → Has r z → z < 2 ^ 32 → bit < 2 → Has (step r bit) (crc_bit z bit)
step_has r z bit h hz hb zero l = element_step z bit 0 hz hb l ∙ ap (λ (n : ℕ). bit_xor n bit) (h 31 (lit< tt))
step_has r z bit h hz hb (suc i) l =
    element_step z bit (suc i) hz hb l ∙ ap₂ (λ (a b : ℕ). through (among i adders) (bit_xor b bit) a) (h i (omega arith)) (h 31 (lit< tt))

run_has : (xs : List ℕ) (r : Register) (z : ℕ) → AllBits xs → Has r z → z < 2 ^ 32 → Has (run r xs) (crc_bits z xs)
unfolding crc_bits
run_has [] r z a h hz = h
run_has (x ∷ xs) r z a h hz = run_has xs (step r x) (crc_bit z x) a.1 (step_has r z x h hz a.0) (bit_lt z x)

all_ones_lem : Has initial all_ones
all_ones_lem i h = eqb-true (element all_ones i) 1 (below (λ k. eqb (element all_ones k) 1) 32 refl i h)

-- the definition is the annex's register
pub annex : (message : List ℕ) (i : ℕ) → i < 32 → element (crc_of message) i ≡ run initial (bits_of message) i
unfolding crc_of
annex message = run_has (bits_of message) initial all_ones (message_all message) all_ones_lem (lit< tt)
