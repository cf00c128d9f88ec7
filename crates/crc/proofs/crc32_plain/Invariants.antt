-- `crc::crc32_plain` meets its contract: the register, taken on over the bytes that are left, is the CRC of the whole.
use Rattle.std.proofs.Common.{◌≡◌, drop}
use Rattle.crc.specs.Crc.{crc_of}
use Rattle.crc.specs.Private.{crc_bytes}
use Rattle.crc.proofs.crc32_plain.Given as goal

abbrev pub invariant-loop-byte : goal.invariant-loop-byte
invariant-loop-byte l = crc_bytes l.z (drop l.byte-index l.s) ≡ crc_of l.s
