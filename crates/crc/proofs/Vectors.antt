-- The check value, worked out from the definition.
use mathlib.Core.Path.{◌≡◌, refl}
use mathlib.Core.List.{[], ◌∷◌}
use Rattle.crc.specs.Crc.{crc_of, crc_bits, crc_bit}

-- the CRC of "123456789"
pub check_value : crc_of (49 ∷ 50 ∷ 51 ∷ 52 ∷ 53 ∷ 54 ∷ 55 ∷ 56 ∷ 57 ∷ []) ≡ 0x0376_E6E7
unfolding crc_of crc_bits crc_bit
check_value = refl

-- a message without bytes
pub check_empty : crc_of [] ≡ 0xFFFF_FFFF
unfolding crc_of crc_bits
check_empty = refl
