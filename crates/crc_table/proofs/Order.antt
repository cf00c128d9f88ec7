-- The four bytes in the other order as a sum.
use Rattle.std.proofs.Common.{◌≡◌, ℕ, ◌+◌, ◌*◌, ◌/◌, ◌%◌, ◌^◌, ◌<◌, ap₂, ◌∙◌, arith}
use lib.Bits.{bit_xor, xor_shifted}
use Rattle.crc_table.specs.Turns.{reversed}

sum_of : (a b c d : ℕ) → a < 256 → b < 256 → c < 256 → d < 256
    → bit_xor (bit_xor (a * 2 ^ 24) (b * 2 ^ 16)) (bit_xor (c * 2 ^ 8) d) ≡ a * 2 ^ 24 + b * 2 ^ 16 + c * 2 ^ 8 + d
sum_of a b c d ha hb hc hd =
    let high : a * 2 ^ 24 + b * 2 ^ 16 ≡ (a * 2 ^ 8 + b) * 2 ^ 16 = omega arith in
    let all : (a * 2 ^ 8 + b) * 2 ^ 16 + (c * 2 ^ 8 + d) ≡ a * 2 ^ 24 + b * 2 ^ 16 + c * 2 ^ 8 + d = omega arith in
    ap₂ bit_xor (xor_shifted a 24 (b * 2 ^ 16) (omega arith) ∙ high) (xor_shifted c 8 d hd)
    ∙ xor_shifted (a * 2 ^ 8 + b) 16 (c * 2 ^ 8 + d) (omega arith)
    ∙ all

pub reversed_sum : (z : ℕ) → reversed z ≡ z % 256 * 2 ^ 24 + z / 2 ^ 8 % 256 * 2 ^ 16 + z / 2 ^ 16 % 256 * 2 ^ 8 + z / 2 ^ 24 % 256
unfolding reversed
reversed_sum z = sum_of (z % 256) (z / 2 ^ 8 % 256) (z / 2 ^ 16 % 256) (z / 2 ^ 24 % 256) (omega arith) (omega arith) (omega arith) (omega arith)
