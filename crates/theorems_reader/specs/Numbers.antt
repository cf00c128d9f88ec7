-- Which value a number stands for.
use Rattle.std.specs.Prelude.{ℕ, Bool, true, ◌≡◌}
use Rattle.names.specs.Numbering.{Entry, named}

-- The values of numbers go by a table (names/specs), which has the number and the class of each value: the number of a name stands for that name, and a number that no name has
-- stands for what `others` makes of it.
pub record GoesBy {A : Type 0} (entry : A → Entry) (others value : ℕ → A) : Type 0 where
  pub names : (x : A) → (entry x).1 ≡ named → value (entry x).0 ≡ x
  pub rest : (n : ℕ) → ((x : A) → (entry x).1 ≡ named → (entry x).0 ≡ n → ⊥) → value n ≡ others n

-- and nothing else does; and the values that are writable, which a writer takes ("a reserved number that has a name or lies in another range" is refusal 33),
-- are those that their own number stands for
pub record OnlyBy {A : Type 0} (entry : A → Entry) (others value : ℕ → A) (writable : A → Bool) : Type 0 where
  pub goes : GoesBy entry others value
  pub only : (other : ℕ → A) → GoesBy entry others other → (n : ℕ) → other n ≡ value n
  pub own : (x : A) → writable x ≡ true → value (entry x).0 ≡ x
  pub writably : (x : A) → value (entry x).0 ≡ x → writable x ≡ true
