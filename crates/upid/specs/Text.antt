-- UTF-8 as RFC 3629, section 4, has it.
use Rattle.std.specs.Prelude.{ℕ, ◌+◌, Bool, true, false, ◌&&◌, cond as pick, ◌≡◌, leb}
use mathlib.Core.List.{List, [], ◌∷◌, ◌++◌, foldl, Memᴰ}

-- the bytes from the first to the second
infix 80 ◌to◌
pub data Range : Type 0 where
  ◌to◌ : ℕ → ℕ → Range

unfoldable pub within : Range → ℕ → Bool
within (low to high) b = leb low b && leb b high

-- UTF8-tail
abbrev pub tail : Range
tail = 0x80 to 0xBF

-- UTF8-char: the rows of the RFC's grammar, a range for each byte of a character
abbrev pub characters : List (List Range)
characters =
    (0x00 to 0x7F ∷ [])
    ∷ (0xC2 to 0xDF ∷ tail ∷ [])
    ∷ (0xE0 to 0xE0 ∷ 0xA0 to 0xBF ∷ tail ∷ [])
    ∷ (0xE1 to 0xEC ∷ tail ∷ tail ∷ [])
    ∷ (0xED to 0xED ∷ 0x80 to 0x9F ∷ tail ∷ [])
    ∷ (0xEE to 0xEF ∷ tail ∷ tail ∷ [])
    ∷ (0xF0 to 0xF0 ∷ 0x90 to 0xBF ∷ tail ∷ tail ∷ [])
    ∷ (0xF1 to 0xF3 ∷ tail ∷ tail ∷ tail ∷ [])
    ∷ (0xF4 to 0xF4 ∷ 0x80 to 0x8F ∷ tail ∷ tail ∷ [])
    ∷ []

-- the bytes of one character: one in each range of a row
pub data Matches : List Range → List ℕ → Type 0 where
  none : Matches [] []
  byte : {r : Range} {row : List Range} {b : ℕ} {bs : List ℕ} → within r b ≡ true → Matches row bs → Matches (r ∷ row) (b ∷ bs)

-- UTF8-octets = *( UTF8-char )
pub data Octets : List ℕ → Type 0 where
  end : Octets []
  char : {row : List Range} {c rest : List ℕ} → Memᴰ row characters → Matches row c → Octets rest → Octets (c ++ rest)

-- how many of these rows a byte begins
unfoldable pub begun : ℕ → List (List Range) → ℕ
begun b [] = 0
begun b ([] ∷ rows) = begun b rows
begun b ((r ∷ more) ∷ rows) = pick (within r b) 1 0 + begun b rows

-- ---- the same as a test, byte by byte (`text_is_utf8` and `utf8_is_text` in proofs/Theorems.antt)

-- where a reading stands: the ranges of the bytes of a character that are still to come, or past a byte that nothing allows
pub data State : Type 0 where
  wants : List Range → State
  broken : State

-- the rest of the row that a first byte begins (no byte begins two: `no_byte_begins_two_rows`)
abbrev pub begin : List (List Range) → ℕ → State
begin [] b = broken
begin ([] ∷ rows) b = begin rows b
begin ((r ∷ more) ∷ rows) b = pick (within r b) (wants more) (begin rows b)

unfoldable pub step : State → ℕ → State
step (wants []) b = begin characters b
step (wants (r ∷ more)) b = pick (within r b) (wants more) broken
step broken b = broken

unfoldable pub done : State → Bool
done (wants []) = true
done (wants (r ∷ more)) = false
done broken = false

unfoldable pub text_of : List ℕ → Bool
text_of s = done (foldl step (wants []) s)
