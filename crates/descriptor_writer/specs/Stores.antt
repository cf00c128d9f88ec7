-- What the contracts of the writer's functions say.
use Rattle.std.specs.Prelude.{ℕ, List, ◌≡◌, Result}
use Rattle.table.specs.Writing.{Made}
use Rattle.bit_stores.specs.Written.{answer_of, later_of}

-- what is made was written: the answer and the target's later bytes
pub record Writes (m : Made) (target : List ℕ) (later : List ℕ) (r : Result ℕ ℕ) : Type 0 where
  pub answer : r ≡ answer_of m target
  pub target_later : later ≡ later_of m target
