-- `crc::take_byte` meets its contract: the register, taken on over the bits that are left, is that of all eight.
use Rattle.std.proofs.Common.{◌≡◌, ℕ, ◌-◌, arith, sym, ap, ◌∙◌}
use Rattle.crc.specs.Crc.{crc_bits}
use Rattle.table.specs.Bits.{bits_of_num}
use Rattle.crc.proofs.Bytes.{bits_next}
use Rattle.crc.proofs.take_byte.Goals as goal

pub loop-left-preserved : goal.loop-left-preserved
loop-left-preserved c =
    let byte : ℕ = c.args.byte in
    ap (λ (z : ℕ). crc_bits z (bits_of_num (c.loop-left.left - 1) byte)) c.take_bit-r.ensures
    ∙ sym (bits_next c.loop-left.left byte c.loop-left.r c.loop-left-test.true)
    ∙ c.loop-left.invariant

pub returns : goal.returns
unfolding crc_bits
returns c =
    let none : c.loop-left.left ≡ 0 = omega arith in
    sym (ap (λ (n : ℕ). crc_bits c.loop-left.r (bits_of_num n c.args.byte)) none) ∙ c.loop-left.invariant
