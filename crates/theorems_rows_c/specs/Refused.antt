-- What comes back with a refusal: its number, its values where it has some, and 0 in every other word.
use Rattle.std.specs.Prelude.{ℕ, List, [], ◌∷◌, ◌≡◌, replicate}
use Rattle.bit_stores.specs.Written.{answer_of, later_of}
use Rattle.c_command_writer.specs.Words.{flat_written}
use Rattle.c_items.specs.FlatItem.{blank_item}
use Rattle.c_items.specs.FlatUpid.{no_parts}
use Rattle.c_items.specs.declared.steps.FlatStep.{FlatStep}
use Rattle.c_items.specs.declared.upids.FlatUpid.{FlatUpid}
use Rattle.c_section.specs.Flat.{no_header, flat_view}
use Rattle.c_section.specs.FlatCommand.{no_command}
use Rattle.c_section.specs.declared.sections.FlatSection.{FlatSection}
use Rattle.table.specs.Lent.{no_view}
use Rattle.table.specs.Writing.{Made}

abbrev pub section_refused : ℕ → FlatSection
section_refused n = record { refusal = n; header = no_header 0; command = no_command 0 0; descriptors = flat_view no_view; payload = flat_view no_view }

-- an item's kind is then 7; `next` is where the next item starts
abbrev pub step_refused : ℕ → ℕ → ℕ → ℕ → ℕ → FlatStep
step_refused n a b c next = record { refusal = n; values = a ∷ b ∷ c ∷ []; next = next; identifier = 0; item = blank_item 7 }

abbrev pub upid_refused : ℕ → ℕ → ℕ → ℕ → FlatUpid
upid_refused n a b c = record { refusal = n; values = a ∷ b ∷ c ∷ []; upid_type = 0; eidr = replicate 12 0; count = 0; parts = no_parts }

-- a write of what is made, m, to a target: the number alone, and the target as it was
abbrev pub WriteRefused : ℕ → Made → List ℕ → Type 0
WriteRefused n m target = (flat_written (answer_of m target) ≡ record { refusal = n; length = 0 }) × (later_of m target ≡ target)
