-- The line that is written for a section (document 02, Q-1).
use Rattle.std.specs.Prelude.{ℕ, ◌+◌, ◌/◌, ◌%◌, ◌&&◌, List, [], ◌∷◌, ◌++◌, ltb}
use Rattle.table.specs.Bits.{pick}
use Rattle.table.specs.Writing.{Made, made, refused}
use Rattle.attribute_list.specs.Grammar.{quoted, plain, Attribute, all, quoted_byte, tag, list_text}
use Rattle.daterange_line.specs.Reading.{id_name, date_name, cue_name}
use Rattle.daterange_line.specs.declared.Cue.{Cue}

-- "hexadecimal in capitals"
abbrev pub hex_digit : ℕ → ℕ
hex_digit n = pick (ltb n 10) (0x30 + n) (0x37 + n)

unfoldable pub hex_of : List ℕ → List ℕ
hex_of [] = []
hex_of (b ∷ bs) = hex_digit (b / 16) ∷ (hex_digit (b % 16) ∷ hex_of bs)

-- "ID and START-DATE as given by the caller, then the section as a hexadecimal sequence"
abbrev pub attributes_for : List ℕ → Cue → List ℕ → List ℕ → List Attribute
attributes_for section cue id date =
    record { name = id_name; value = quoted id }
    ∷ (record { name = date_name; value = quoted date }
    ∷ (record { name = cue_name cue; value = plain (0x30 ∷ (0x78 ∷ hex_of section)) }
    ∷ []))

unfoldable pub line_of : List ℕ → Cue → List ℕ → List ℕ → List ℕ
line_of section cue id date = tag ++ list_text (attributes_for section cue id date)

-- "53 an ID or date holding a double quote, CR or LF"
unfoldable pub line_made : List ℕ → Cue → List ℕ → List ℕ → Made
line_made section cue id date = pick (all quoted_byte id && all quoted_byte date) (made (line_of section cue id date)) (refused 53)
