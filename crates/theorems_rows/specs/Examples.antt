-- Sections that are worked out: document 01's of 18, 19 and 20 bytes, and one with a MID of two identifiers, of 8 bytes and
-- of 12.
use Rattle.std.specs.Prelude.{ℕ, List, [], ◌∷◌, ◌++◌, ◌≡◌, get_or, Ok}
use Rattle.crc.specs.Crc.{crc_of}
use Rattle.section.specs.Section.{command_length, section_of}
use Rattle.section.specs.declared.Section.{Section}
use Rattle.table.specs.Bits.{bits_of, field}
use Rattle.theorems_reader.specs.Identifiers.{Identifier, identifiers_of}

-- "Sections with right CRC and command length 0", which begin with 0xFC and are not encrypted
pub record EmptyCommand (s : List ℕ) : Type 0 where
  pub table : get_or s 0 0 ≡ 0xFC
  pub crc : crc_of s ≡ 0
  pub clear : field (bits_of s) 32 1 ≡ 0
  pub size : command_length s ≡ 0

-- a null: 20 bytes, loop length 0
abbrev pub splice_null : List ℕ
splice_null =
    0xFC ∷ 0x30 ∷ 0x11 ∷ 0x00 ∷ 0x00 ∷ 0x00 ∷ 0x00 ∷ 0x00 ∷ 0x00 ∷ 0x00 ∷ 0xFF ∷ 0xF0 ∷ 0x00 ∷ 0x00 ∷ 0x00 ∷ 0x00 ∷ 0x7A ∷ 0x4F ∷ 0xBF ∷ 0xFF ∷ []

-- a time signal with a segmentation descriptor, whose MID has a part of type 8 with 8 bytes and one of type 3 with 12
abbrev pub eight : List ℕ
eight = 0x11 ∷ 0x22 ∷ 0x33 ∷ 0x44 ∷ 0x55 ∷ 0x66 ∷ 0x77 ∷ 0x88 ∷ []

abbrev pub twelve : List ℕ
twelve = 0x41 ∷ 0x42 ∷ 0x43 ∷ 0x44 ∷ 0x31 ∷ 0x32 ∷ 0x33 ∷ 0x34 ∷ 0x35 ∷ 0x36 ∷ 0x37 ∷ 0x38 ∷ []

abbrev pub both : List ℕ
both = 0x08 ∷ 0x08 ∷ (eight ++ (0x03 ∷ 0x0C ∷ twelve))

unfoldable pub eight_and_twelve : List ℕ
eight_and_twelve =
    -- the common header, the splice header, and a time of 0
    0xFC ∷ 0x30 ∷ 0x3F ∷ 0x00 ∷ 0x00 ∷ 0x00 ∷ 0x00 ∷ 0x00 ∷ 0x00 ∷ 0xFF ∷ 0xFF ∷ 0xF0 ∷ 0x05 ∷ 0x06 ∷ 0xFE ∷ 0x00 ∷ 0x00 ∷ 0x00 ∷ 0x00
    -- a loop of 41 bytes: one descriptor, with tag 2, L 39 and "CUEI"
    ∷ 0x00 ∷ 0x29 ∷ 0x02 ∷ 0x27 ∷ 0x43 ∷ 0x55 ∷ 0x45 ∷ 0x49
    -- event 42, and a MID of 24 bytes
    ∷ 0x00 ∷ 0x00 ∷ 0x00 ∷ 0x2A ∷ 0x7F ∷ 0xBF ∷ 0x0D ∷ 0x18 ∷ (both
    -- program start, 1 of 1, and the CRC
    ++ (0x10 ∷ 0x01 ∷ 0x01 ∷ 0xA8 ∷ 0x6A ∷ 0x17 ∷ 0xBC ∷ []))

-- a section is accepted, and has these identifiers
pub record Identified (s : List ℕ) (ids : List Identifier) : Type 0 where
  pub section : Section
  pub accepted : section_of s ≡ Ok section
  pub identified : identifiers_of s section ≡ ids
