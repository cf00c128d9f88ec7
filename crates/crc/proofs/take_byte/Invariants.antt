-- `crc::take_byte` meets its contract: the register, taken on over the bits that are left, is that of all eight.
use Rattle.std.proofs.Common.{◌≡◌}
use Rattle.crc.specs.Crc.{crc_bits}
use Rattle.table.specs.Bits.{bits_of_num}
use Rattle.crc.proofs.take_byte.Given as goal

abbrev pub invariant-loop-left : goal.invariant-loop-left
invariant-loop-left l = crc_bits l.r (bits_of_num l.left l.byte) ≡ crc_bits l.z (bits_of_num 8 l.byte)
