-- A section by its bytes that are neither section_length nor CRC.
use Rattle.std.specs.Prelude.{ℕ, List, ◌∷◌, ◌++◌, ◌≡◌, length}
use Rattle.crc.specs.Crc.{crc_of}

-- s is the table's byte and these others, with any bytes 1 and 2, which have section_length, before them, and a right CRC of four bytes behind
pub record Around (table : ℕ) (others s : List ℕ) : Type 0 where
  pub byte_1 : ℕ
  pub byte_2 : ℕ
  pub crc : List ℕ
  pub is : s ≡ table ∷ byte_1 ∷ byte_2 ∷ (others ++ crc)
  pub four : length crc ≡ 4
  pub right : crc_of s ≡ 0
