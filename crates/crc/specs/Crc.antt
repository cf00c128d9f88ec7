-- The CRC of a section: ISO/IEC 13818-1, Annex A (document 01, "Section": polynomial 0x04C11DB7, start 0xFFFFFFFF, high bit first, no
-- final change). The annex's 32 delay elements z(31) .. z(0) are one number z below 2 ^ 32, whose binary digit i is z(i).
-- `proofs/Annex` has the same, delay element by delay element.
use Rattle.std.specs.Prelude.{List, [], ◌∷◌, ℕ, zero, suc, ◌*◌, ◌/◌, ◌%◌, ◌^◌}
use Rattle.std.specs.Int.Bits.{bit_xor}
use Rattle.table.specs.Bits.{bits_of, big_endian}

-- x^26 + x^23 + x^22 + x^16 + x^12 + x^11 + x^10 + x^8 + x^7 + x^5 + x^4 + x^2 + x + 1, below x^32
abbrev pub polynomial : ℕ
polynomial = 0x04C1_1DB7

-- at the start every z(i) is 1
abbrev pub all_ones : ℕ
all_ones = 0xFFFF_FFFF

-- a feedback of 1 is added into the register at the polynomial's places
abbrev pub fed : ℕ → ℕ → ℕ
fed zero z = z
fed (suc f) z = bit_xor z polynomial

-- one bit of the message: the feedback is z(31) xor the bit; the register shifts by one place, z(31) falls out and 0 comes in; the
-- feedback is added
unfoldable pub crc_bit : ℕ → ℕ → ℕ
crc_bit z bit = fed (bit_xor (z / 2 ^ 31) bit) (z * 2 % 2 ^ 32)

-- the register z after some bits, in order
unfoldable pub crc_bits : ℕ → List ℕ → ℕ
crc_bits z [] = z
crc_bits z (bit ∷ later) = crc_bits (crc_bit z bit) later

-- the CRC of a message, byte after byte, the highest bit of each first; a section, its own CRC included, is right where this is 0
unfoldable pub crc_of : List ℕ → ℕ
crc_of message = crc_bits all_ones (bits_of message)

-- as a section carries it: four bytes, the highest first
abbrev pub crc_bytes_of : List ℕ → List ℕ
crc_bytes_of message = big_endian 4 (crc_of message)
