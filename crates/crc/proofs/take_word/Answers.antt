-- `crc::take_word` meets its contract: the register is the sum of its bytes, each at its place, and the steps and the order of the bytes are
-- linear; a byte that has n zeros behind it is the byte after n steps.
use mathlib.Core.Path.{◌≡◌, sym, ap, ap₂, ◌∙◌}
use Prim.Native.Nat.{ℕ, ◌+◌, ◌*◌, ◌/◌, ◌%◌, ◌^◌, ◌<◌}
use native.Mathlib.Nat.{mul-one}
use native.Mathlib.Omega.{arith}
use lib.Bits.{bit_xor}
use Rattle.crc_table.specs.Turns.{turns, reversed}
use Rattle.crc.proofs.Linear.{Linear, after_lin}
use Rattle.crc.proofs.Turns.{turns_lin, turns_low, turns_add, reversed_lin}
use Rattle.crc.proofs.take_word.Goals as goal

abbrev taken : ℕ → ℕ
taken x = reversed (turns 32 x)

taken_lin : Linear taken
taken_lin = after_lin (turns_lin 32) reversed_lin

-- a byte with n zeros behind it, from its row
row : (n x r : ℕ) → x * 2 ^ n < 2 ^ 32 → r ≡ reversed (turns (n + 32) x) → r ≡ taken (x * 2 ^ n)
row n x r l e = e ∙ ap reversed (turns_add n 32 x ∙ ap (turns 32) (turns_low n x l))

four : (p q r s : ℕ) → bit_xor (bit_xor (taken p) (taken q)) (bit_xor (taken r) (taken s)) ≡ taken (bit_xor (bit_xor p q) (bit_xor r s))
four p q r s = sym (taken_lin.at (bit_xor p q) (bit_xor r s) ∙ ap₂ bit_xor (taken_lin.at p q) (taken_lin.at r s))

by_bytes : (y : ℕ) → bit_xor (bit_xor (y % 256 * 2 ^ 24) (y / 2 ^ 8 % 256 * 2 ^ 16)) (bit_xor (y / 2 ^ 16 % 256 * 2 ^ 8) (y / 2 ^ 24 % 256 * 2 ^ 0)) ≡ reversed y
unfolding reversed
by_bytes y =
    ap (λ (d : ℕ). bit_xor (bit_xor (y % 256 * 2 ^ 24) (y / 2 ^ 8 % 256 * 2 ^ 16)) (bit_xor (y / 2 ^ 16 % 256 * 2 ^ 8) d)) (mul-one (y / 2 ^ 24 % 256))

pub returns : goal.returns
returns c =
    let y : ℕ = c.args.y in
    ap₂ bit_xor
    (ap₂ bit_xor (row 24 (y % 256) _ (omega arith) c.turned.ensures) (row 16 (y / 2 ^ 8 % 256) _ (omega arith) c.turned-2.ensures))
    (ap₂ bit_xor (row 8 (y / 2 ^ 16 % 256) _ (omega arith) c.turned-3.ensures) (row 0 (y / 2 ^ 24 % 256) _ (omega arith) c.turned-4.ensures))
    ∙ four (y % 256 * 2 ^ 24) (y / 2 ^ 8 % 256 * 2 ^ 16) (y / 2 ^ 16 % 256 * 2 ^ 8) (y / 2 ^ 24 % 256 * 2 ^ 0)
    ∙ ap taken (by_bytes y)
