-- The register's steps and the order of its bytes as linear maps: what the fast form and the laws rest on.
--     turn_lin, turns_lin, reversed_lin   they are linear
--     turns_add, turns_swap               steps after steps
--     turn_lt, turns_lt, turned_lt        they stay below 2 ^ 32
--     turns_low, behind                   zeros, and other bits, behind the bits that come in
--     reversed_twice                      the other order of the other order
use mathlib.Core.Path.{◌≡◌, refl, sym, ap, ap₂, ◌∙◌}
use Prim.Native.Nat.{ℕ, zero, suc, ◌+◌, ◌*◌, ◌/◌, ◌%◌, ◌^◌, ◌<◌, ◌≤◌}
use native.Mathlib.Nat.{zero-add, add_comm, mul_comm, mul_assoc, mul-one, pow-suc, suc-add, mod-lt, div-eq_of_lt, mod-eq_of_lt, le-mul_of_pos_right}
use native.Mathlib.Omega.{arith}
use lib.Dec.{lit<}
use lib.Pow.{pow_pos}
use lib.Bits.{bit_xor, xor_lt, xor_shifted, xor_zero_r}
use Rattle.crc.specs.Crc.{polynomial}
use Rattle.crc_table.specs.Turns.{turn, turns, reversed}
use Rattle.crc.proofs.Linear.{Linear, same_lin, xor_lin, after_lin, shr_lin, mod_lin, times_lin, shl_lin, agree}

-- ---- linear

-- a digit times the polynomial
digit_times : (x y : ℕ) → x < 2 → y < 2 → bit_xor x y * polynomial ≡ bit_xor (x * polynomial) (y * polynomial)
digit_times zero zero hx hy = refl
digit_times zero (suc zero) hx hy = refl
digit_times zero (suc (suc y)) hx hy = absurd (omega arith)
digit_times (suc zero) zero hx hy = refl
digit_times (suc zero) (suc zero) hx hy = refl
digit_times (suc zero) (suc (suc y)) hx hy = absurd (omega arith)
digit_times (suc (suc x)) y hx hy = absurd (omega arith)

abbrev top : ℕ → ℕ
top z = z / 2 ^ 31 % 2

top_lt : (z : ℕ) → top z < 2
top_lt z = mod-lt (z / 2 ^ 31) (lit< tt)

top_lin : Linear top
top_lin = mod_lin (shr_lin same_lin 31) 1

fallen_lin : Linear (λ z. top z * polynomial)
fallen_lin = record { at = λ a b. ap (λ (n : ℕ). n * polynomial) (top_lin.at a b) ∙ digit_times (top a) (top b) (top_lt a) (top_lt b) }

pub turn_lin : Linear turn
unfolding turn
turn_lin = xor_lin (shl_lin 32 same_lin 1) fallen_lin

pub turns_lin : (n : ℕ) → Linear (turns n)
unfolding turns
turns_lin zero = same_lin
turns_lin (suc n) = after_lin turn_lin (turns_lin n)

pub reversed_lin : Linear reversed
unfolding reversed
reversed_lin =
    xor_lin (xor_lin (times_lin (mod_lin same_lin 8) 24) (times_lin (mod_lin (shr_lin same_lin 8) 8) 16))
    (xor_lin (times_lin (mod_lin (shr_lin same_lin 16) 8) 8) (mod_lin (shr_lin same_lin 24) 8))

-- ---- steps after steps

pub turns_add : (n m z : ℕ) → turns (n + m) z ≡ turns m (turns n z)
unfolding turns
turns_add zero m z = ap (λ (k : ℕ). turns k z) (zero-add m)
turns_add (suc n) m z = ap (λ (k : ℕ). turns k z) (suc-add n m) ∙ turns_add n m (turn z)

pub turns_swap : (n m z : ℕ) → turns n (turns m z) ≡ turns m (turns n z)
turns_swap n m z = sym (turns_add m n z) ∙ ap (λ (k : ℕ). turns k z) (add_comm m n) ∙ turns_add n m z

-- ---- below 2 ^ 32

pub turn_lt : (z : ℕ) → turn z < 2 ^ 32
unfolding turn
turn_lt z = xor_lt 32 (z * 2 % 2 ^ 32) (top z * polynomial) (omega arith) (omega (arith, top_lt z))

pub turns_lt : (n z : ℕ) → z < 2 ^ 32 → turns n z < 2 ^ 32
unfolding turns
turns_lt zero z h = h
turns_lt (suc n) z h = turns_lt n (turn z) (turn_lt z)

-- after one step, whatever z was
pub turned_lt : (n z : ℕ) → turns (suc n) z < 2 ^ 32
unfolding turns
turned_lt n z = turns_lt n (turn z) (turn_lt z)

-- ---- what comes in

-- a step that nothing falls out of is a shift
turn_low : (x : ℕ) → x * 2 < 2 ^ 32 → turn x ≡ x * 2
unfolding turn
turn_low x h = let l : x < 2 ^ 31 = omega arith in ap₂ (λ (a b : ℕ). bit_xor a (b % 2 * polynomial)) (mod-eq_of_lt h) (div-eq_of_lt l) ∙ xor_zero_r (x * 2)

pub turns_low : (n x : ℕ) → x * 2 ^ n < 2 ^ 32 → turns n x ≡ x * 2 ^ n
unfolding turns
turns_low zero x h = sym (mul-one x)
turns_low (suc n) x h =
    let e : x * 2 ^ suc n ≡ x * 2 * 2 ^ n = ap (λ (k : ℕ). x * k) (pow-suc 2 n ∙ mul_comm (2 ^ n) 2) ∙ sym (mul_assoc x 2 (2 ^ n)) in
    let l : x * 2 ≤ x * 2 * 2 ^ n = le-mul_of_pos_right (x * 2) (pow_pos n) in
    ap (turns n) (turn_low x (omega arith)) ∙ turns_low n (x * 2) (omega arith) ∙ sym e

-- x, and n bits y behind it
pub behind : (n x y : ℕ) → y < 2 ^ n → x * 2 ^ n + y < 2 ^ 32 → turns 32 (x * 2 ^ n + y) ≡ bit_xor (turns n (turns 32 x)) (turns 32 y)
behind n x y h l =
    ap (turns 32) (sym (xor_shifted x n y h)) ∙ (turns_lin 32).at (x * 2 ^ n) y
    ∙ ap (λ (k : ℕ). bit_xor k (turns 32 y)) (ap (turns 32) (sym (turns_low n x (omega arith))) ∙ turns_swap 32 n x)

-- ---- bytes in the other order

pub reversed_twice : (x : ℕ) → x < 2 ^ 32 → reversed (reversed x) ≡ x
unfolding reversed
reversed_twice = agree (λ x. reversed (reversed x)) (λ x. x) (after_lin reversed_lin reversed_lin) same_lin refl 32 refl
