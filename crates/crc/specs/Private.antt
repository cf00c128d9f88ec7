-- A name for the proofs; no contract cites it.
use Rattle.std.specs.Prelude.{List, ℕ}
use Rattle.table.specs.Bits.{bits_of}
use Rattle.crc.specs.Crc.{crc_bits}

-- the register z after the bytes of a list
unfoldable pub crc_bytes : ℕ → List ℕ → ℕ
crc_bytes z bytes = crc_bits z (bits_of bytes)
