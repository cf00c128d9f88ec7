-- What C hands to a writer: words, those of its structs in their order. A word past the end of the slice counts as 0; words past the struct's end are not
-- looked at.
use Rattle.std.specs.Prelude.{ℕ, zero, suc, ◌^◌, Bool, true, ◌&&◌, List, [], ◌∷◌, eqb, ltb, get_or, drop, Ok, Err, Result}
use Rattle.table.specs.Bits.{pick}
use Rattle.table.specs.Writing.{Made, made, refused}
use Rattle.c_command_writer.specs.declared.FlatWritten.{FlatWritten}

abbrev pub word : List ℕ → ℕ → ℕ
word words i = get_or words i 0

-- refusal 32: "a number or count handed in exceeds its field". Is each word within its width, in bits?
unfoldable pub within : List ℕ → List ℕ → Bool
within [] words = true
within (width ∷ widths) words = ltb (word words 0) (2 ^ width) && within widths (drop 1 words)

-- refusal 33: are these words, those of a value's flat form, what was handed in?
unfoldable pub same : List ℕ → List ℕ → Bool
same [] words = true
same (x ∷ own) words = eqb (word words 0) x && same own (drop 1 words)

-- does each of the first n places of an array, each of k words, pass a test?
unfoldable pub each_place : (List ℕ → Bool) → ℕ → ℕ → List ℕ → Bool
each_place test k zero words = true
each_place test k (suc n) words = test words && each_place test k n (drop k words)

-- ---- the flat form of what a writer answers
unfoldable pub flat_written : Result ℕ ℕ → FlatWritten
flat_written (Ok n) = record { refusal = 0; length = n }
flat_written (Err n) = record { refusal = n; length = 0 }

-- ---- for what the contracts say by functions (CommandGiven.antt and the like)
-- the first n places of an array, each of k words
unfoldable pub places_of : {A : Type 0} → (List ℕ → A) → ℕ → ℕ → List ℕ → List A
places_of f k zero words = []
places_of f k (suc n) words = f words ∷ places_of f k n (drop k words)

-- the number of the words' own refusal, 0 for none
abbrev pub refusal_of : Bool → Bool → ℕ
refusal_of fits own = pick fits (pick own 0 33) 32

-- 31 before it, where a view is not seen
abbrev pub seen_first : Bool → ℕ → ℕ
seen_first seen n = pick seen n 31

-- the lower of two refusals
abbrev pub lower_of : ℕ → ℕ → ℕ
lower_of m n = pick (ltb n m) n m

-- "31 to 36 are checked in order of number": the words' own refusal, unless that of the value is lower
abbrev pub lowest : ℕ → Made → ℕ
lowest n (made b) = n
lowest n (refused k) = lower_of n k

unfoldable pub no_less : ℕ → Made → Made
no_less n m = pick (eqb n 0) m (refused (lowest n m))
