-- What the theorems on chains speak of: an adjustment after another, a chain of any length, and the orders of one.
use Rattle.std.specs.Prelude.{ℕ, ◌+◌, ◌^◌, ◌<◌, List, [], ◌∷◌, Ok, Err, Result}
use Rattle.adjust.specs.Adjust.{adjust_of}
use Rattle.splice_time.specs.declared.SpliceTime.{SpliceTime}
use Rattle.splice_time.specs.declared.TooLarge.{TooLarge}
use Rattle.splice_time.specs.Time.{too_large}

-- what was moved, moved again; a refusal stands
abbrev pub and_then : Result SpliceTime TooLarge → ℕ → Result SpliceTime TooLarge
and_then (Ok t) b = adjust_of t b
and_then (Err too_large) b = Err too_large

-- a time through each box of a chain in turn
abbrev pub through : Result SpliceTime TooLarge → List ℕ → Result SpliceTime TooLarge
through m [] = m
through m (a ∷ later) = through (and_then m a) later

abbrev pub sum : List ℕ → ℕ
sum [] = 0
sum (a ∷ later) = a + sum later

-- every number is below 2 ^ 33
abbrev pub Each33 : List ℕ → Type 0
Each33 [] = Unit {0}
Each33 (a ∷ later) = (a < 2 ^ 33) × Each33 later

-- the same numbers in another order
pub data Reordered : List ℕ → List ℕ → Type 0 where
  none : Reordered [] []
  kept : {a : ℕ} {l r : List ℕ} → Reordered l r → Reordered (a ∷ l) (a ∷ r)
  exchanged : {a b : ℕ} {l : List ℕ} → Reordered (a ∷ b ∷ l) (b ∷ a ∷ l)
  joined : {l m r : List ℕ} → Reordered l m → Reordered m r → Reordered l r
