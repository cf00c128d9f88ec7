-- What is handed in: sections, loops and words that are worked out.
use Rattle.std.specs.Prelude.{ℕ, ◌+◌, List, [], ◌∷◌, ◌++◌, length, replicate}

-- ---- sections. Those of 5 to 11 have the right CRC
abbrev pub section1 : List ℕ
section1 = 0xFC ∷ 0x30 ∷ []

abbrev pub section2 : List ℕ
section2 = replicate 4097 0xFC

abbrev pub section3 : List ℕ
section3 = 0x00 ∷ 0x30 ∷ 0x11 ∷ []

abbrev pub section4 : List ℕ
section4 = 0xFC ∷ 0x30 ∷ 0x11 ∷ []

-- of 7 bytes
abbrev pub section5 : List ℕ
section5 = 0xFC ∷ 0x30 ∷ 0x04 ∷ 0x21 ∷ 0xD7 ∷ 0x4A ∷ 0x1D ∷ []

-- the encrypted bit is 1
abbrev pub section6 : List ℕ
section6 =
    0xFC ∷ 0x30 ∷ 0x11 ∷ 0x00 ∷ 0x80 ∷ 0x00 ∷ 0x00 ∷ 0x00 ∷ 0x00 ∷ 0xFF ∷ 0xFF ∷ 0xF0 ∷ 0x00 ∷ 0x00 ∷ 0x00 ∷ 0x00
    ∷ 0x80 ∷ 0x2F ∷ 0x76 ∷ 0x6F ∷ []

-- a command of 3 bytes, where 2 are left
abbrev pub section7 : List ℕ
section7 =
    0xFC ∷ 0x30 ∷ 0x11 ∷ 0x00 ∷ 0x00 ∷ 0x00 ∷ 0x00 ∷ 0x00 ∷ 0x00 ∷ 0xFF ∷ 0xFF ∷ 0xF0 ∷ 0x03 ∷ 0x00 ∷ 0x00 ∷ 0x00
    ∷ 0x16 ∷ 0x6A ∷ 0x61 ∷ 0xD8 ∷ []

-- of 18 bytes
abbrev pub section8 : List ℕ
section8 = 0xFC ∷ 0x30 ∷ 0x0F ∷ 0x00 ∷ 0x00 ∷ 0x00 ∷ 0x00 ∷ 0x00 ∷ 0x00 ∷ 0xFF ∷ 0xFF ∷ 0xF0 ∷ 0x00 ∷ 0x00 ∷ 0xAB ∷ 0xE5 ∷ 0x30 ∷ 0x48 ∷ []

-- a loop of one byte, where none is left
abbrev pub section9 : List ℕ
section9 =
    0xFC ∷ 0x30 ∷ 0x11 ∷ 0x00 ∷ 0x00 ∷ 0x00 ∷ 0x00 ∷ 0x00 ∷ 0x00 ∷ 0xFF ∷ 0xFF ∷ 0xF0 ∷ 0x00 ∷ 0x00 ∷ 0x00 ∷ 0x01
    ∷ 0x72 ∷ 0xDC ∷ 0xCE ∷ 0x01 ∷ []

-- command type 4
abbrev pub section10 : List ℕ
section10 =
    0xFC ∷ 0x30 ∷ 0x11 ∷ 0x00 ∷ 0x00 ∷ 0x00 ∷ 0x00 ∷ 0x00 ∷ 0x00 ∷ 0xFF ∷ 0xFF ∷ 0xF0 ∷ 0x00 ∷ 0x04 ∷ 0x00 ∷ 0x00
    ∷ 0x71 ∷ 0x7F ∷ 0x61 ∷ 0xAA ∷ []

-- a null with one byte
abbrev pub section11 : List ℕ
section11 =
    0xFC ∷ 0x30 ∷ 0x12 ∷ 0x00 ∷ 0x00 ∷ 0x00 ∷ 0x00 ∷ 0x00 ∷ 0x00 ∷ 0xFF ∷ 0xFF ∷ 0xF0 ∷ 0x01 ∷ 0x00 ∷ 0x07 ∷ 0x00 ∷ 0x00
    ∷ 0xC8 ∷ 0x36 ∷ 0xF8 ∷ 0x6C ∷ []

-- ---- items: a descriptor of "CUEI" with a tag and a payload
abbrev pub cuei_item : ℕ → List ℕ → List ℕ
cuei_item tag payload = tag ∷ ((4 + length payload) ∷ (0x43 ∷ 0x55 ∷ 0x45 ∷ 0x49 ∷ payload))

-- a segmentation of event 42 whose flags and what follows are these; by program, without duration and restrictions the flags are 0xBF
abbrev pub segment : List ℕ → List ℕ
segment rest = cuei_item 2 (0x00 ∷ 0x00 ∷ 0x00 ∷ 0x2A ∷ 0x7F ∷ rest)

-- ---- words: those of a command up to its type; of a time signal its time; of any its view
abbrev pub command_handed : ℕ → ℕ → ℕ → ℕ → ℕ → List ℕ
command_handed type upid_type_number ticks at len = 0 ∷ type ∷ replicate 14 0 ++ (upid_type_number ∷ ticks ∷ 0 ∷ at ∷ len ∷ [])

-- of a step: an item's kind, its tag and its view
abbrev pub item_handed : ℕ → ℕ → ℕ → ℕ → ℕ → List ℕ
item_handed identifier upid_type_number tag at len = replicate 5 0 ++ (identifier ∷ upid_type_number ∷ replicate 23 0 ++ (tag ∷ at ∷ len ∷ []))

-- a segmentation, not restricted: whether by program, how many components, and the UPID's type
abbrev pub segment_handed : ℕ → ℕ → ℕ → List ℕ
segment_handed program count upid = replicate 6 0 ++ (4 ∷ 0 ∷ 0 ∷ 42 ∷ 0 ∷ program ∷ 0 ∷ 1 ∷ replicate 4 0 ++ (count ∷ 0 ∷ upid ∷ replicate 12 0))
