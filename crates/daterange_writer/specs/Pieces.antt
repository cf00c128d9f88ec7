-- A line as the pieces that are stored one behind the other. No public contract cites this.
use Rattle.std.specs.Prelude.{ℕ, List, [], ◌∷◌, ◌++◌}
use Rattle.attribute_list.specs.Grammar.{tag}

-- what is written before the ID, and between ID and START-DATE: #EXT-X-DATERANGE:ID=" and ",START-DATE="
abbrev pub opening : List ℕ
opening = tag ++ (0x49 ∷ 0x44 ∷ 0x3D ∷ 0x22 ∷ [])

abbrev pub middle : List ℕ
middle = 0x22 ∷ 0x2C ∷ 0x53 ∷ 0x54 ∷ 0x41 ∷ 0x52 ∷ 0x54 ∷ 0x2D ∷ 0x44 ∷ 0x41 ∷ 0x54 ∷ 0x45 ∷ 0x3D ∷ 0x22 ∷ []

-- the line with these bytes between the date and the digits
unfoldable pub pieces : List ℕ → List ℕ → List ℕ → List ℕ → List ℕ
pieces id date word digits = opening ++ (id ++ (middle ++ (date ++ (word ++ digits))))
