-- The register of the CRC while no bit of the message comes in, and the order of its bytes.
use Rattle.std.specs.Prelude.{ℕ, zero, suc, ◌*◌, ◌/◌, ◌%◌, ◌^◌}
use Rattle.std.specs.Int.Bits.{bit_xor}

-- one step of the register with nothing coming in: z times x, by the polynomial of crc/specs/Crc.antt (whose proofs fail where the two
-- differ); and n steps
unfoldable pub turn : ℕ → ℕ
turn z = bit_xor (z * 2 % 2 ^ 32) (z / 2 ^ 31 % 2 * 0x04C1_1DB7)

unfoldable pub turns : ℕ → ℕ → ℕ
turns zero z = z
turns (suc n) z = turns n (turn z)

-- the four bytes of a number in the other order
unfoldable pub reversed : ℕ → ℕ
reversed z =
    bit_xor (bit_xor (z % 256 * 2 ^ 24) (z / 2 ^ 8 % 256 * 2 ^ 16)) (bit_xor (z / 2 ^ 16 % 256 * 2 ^ 8) (z / 2 ^ 24 % 256))
