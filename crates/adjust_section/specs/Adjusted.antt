-- 02, Q-12: a section with another pts_adjustment, its CRC mended, and no other byte changed.
use Rattle.std.specs.Prelude.{ℕ, ◌+◌, ◌*◌, ◌-◌, ◌/◌, ◌%◌, ◌^◌, List, ◌++◌, ltb, eqb, length, get_or, take, drop}
use Rattle.crc.specs.Crc.{crc_bytes_of}
use Rattle.section.specs.Section.{section_of, number_of}
use Rattle.table.specs.Bits.{pick, bits_of, field, big_endian}
use Rattle.table.specs.Writing.{Made, made, refused}

-- pts_adjustment: 33 bits from the last bit of byte 4 on
unfoldable pub adjustment_in : List ℕ → ℕ
adjustment_in s = field (bits_of s) 39 33

-- bytes 4 to 8 as one number of 40 bits: its first seven bits stay (encrypted, algorithm), its last 33 are p
abbrev pub with_adjustment : ℕ → ℕ → List ℕ
with_adjustment byte p = big_endian 5 (byte / 2 * 8589934592 + p)

-- all before the CRC
unfoldable pub body_with : ℕ → List ℕ → List ℕ
body_with p s = take 4 s ++ (with_adjustment (get_or s 4 0) p ++ take (length s - 13) (drop 9 s))

unfoldable pub section_with : ℕ → List ℕ → List ℕ
section_with p s = body_with p s ++ crc_bytes_of (body_with p s)

-- "1 to 11 for the section, 32, 36" (36 by `answer_of`): the section with p replaced by the remainder of p + a
unfoldable pub adjusted_section : List ℕ → ℕ → Made
adjusted_section s a =
    pick (eqb (number_of (section_of s)) 0)
    (pick (ltb a (2 ^ 33)) (made (section_with ((adjustment_in s + a) % 8589934592) s)) (refused 32))
    (refused (number_of (section_of s)))
