-- `crc::crc32` meets its contract: the register, taken on over the bytes that are left, is the CRC of the whole.
use Rattle.std.proofs.Common.{◌≡◌, ◌*◌, drop}
use Rattle.crc_table.specs.Turns.{reversed}
use Rattle.crc.specs.Crc.{crc_of}
use Rattle.crc.specs.Private.{crc_bytes}
use Rattle.crc.proofs.crc32.Given as goal

abbrev pub invariant-loop-word : goal.invariant-loop-word
invariant-loop-word l = crc_bytes (reversed l.y) (drop (l.word-index * 4) l.s) ≡ crc_of l.s

abbrev pub invariant-loop-byte : goal.invariant-loop-byte
invariant-loop-byte l = crc_bytes (reversed l.y) (drop l.byte-index l.rest) ≡ crc_of l.s
