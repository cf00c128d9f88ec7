-- Calls of the functions one after the other, and what a write does.
use Rattle.std.specs.Prelude.{ℕ, ◌-◌, ◌≤◌, ◌<◌, List, [], ◌∷◌, ◌++◌, ◌≡◌, length, drop, Ok, Err, None, Result}
use Rattle.command.specs.declared.SpliceCommand.{SpliceCommand}
use Rattle.command.specs.declared.components.InsertComponent.{InsertComponent}
use Rattle.header.specs.declared.header.SpliceInfoHeader.{SpliceInfoHeader}
use Rattle.descriptor_loop.specs.Items.{Listed}
use Rattle.descriptor_loop.specs.declared.Step.{Step}

-- A loop that is stepped through from an offset on, each step from where the one before said, until one says that the loop has ended: what the steps answered.
-- `Steps offset step` is what a step there may answer.
pub data Stepped (Steps : ℕ → Step → Type 0) : ℕ → List Listed → Type 0 where
  ended : {offset : ℕ} (step : Step) → Steps offset step → step.item ≡ None → Stepped Steps offset []
  then : {offset : ℕ} (step : Step) {xs : List Listed} → Steps offset step → (step.item ≡ None → ⊥) → Stepped Steps step.next xs
      → Stepped Steps offset (record { offset = offset; used = step.next - offset; step = step } ∷ xs)

-- what the section writer is handed: a header, a command with its components and the bytes that its view refers to, and a loop
pub record SectionGiven : Type 0 where
  pub header : SpliceInfoHeader
  pub command : SpliceCommand
  pub components : List InsertComponent
  pub lent : List ℕ
  pub loop : List ℕ

-- A write of the bytes b: they stand at the target's start and its other bytes are as they were; or the target is too short, and is left as it was
pub record Puts (b target : List ℕ) (answer : Result ℕ ℕ) (later : List ℕ) : Type 0 where
  pub fits : length b ≤ length target → (answer ≡ Ok (length b)) × (later ≡ b ++ drop (length b) target)
  -- refusal 36: "target shorter than the result"
  pub short : length target < length b → (answer ≡ Err 36) × (later ≡ target)
