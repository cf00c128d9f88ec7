-- Calls of the board over C one after the other, as the contracts of the functions allow them.
use Rattle.std.specs.Prelude.{ℕ, List, [], ◌∷◌}
pub use Rattle.board.specs.Calls.{May}
use Rattle.channels.specs.Runs.{On}
use Rattle.c_board.specs.declared.FlatBoardAnswer.{FlatBoardAnswer}

-- calls from lent words on, and what each answers; `Does o words answer later` is what a call may do
pub data LentRun (Does : On → List ℕ → FlatBoardAnswer → List ℕ → Type 0) : List ℕ → List On → List FlatBoardAnswer → Type 0 where
  nothing : {words : List ℕ} → LentRun Does words [] []
  then : {o : On} {words : List ℕ} (answer : FlatBoardAnswer) (later : List ℕ) {os : List On} {answers : List FlatBoardAnswer}
      → Does o words answer later → LentRun Does later os answers → LentRun Does words (o ∷ os) (answer ∷ answers)
