-- The full reading of a section. 01, "What must change shape": "arrays stand beside enums, not in them".
use Rattle.std.specs.Prelude.{ℕ, List, [], Ok, Err, Result}
use Rattle.command.specs.Command.{array, components_of, of_insert}
use Rattle.command.specs.declared.SpliceCommand.{SpliceCommand}
use Rattle.command.specs.declared.components.InsertComponent.{InsertComponent}
use Rattle.section.specs.Section.{command_bytes, section_of}
use Rattle.section.specs.declared.full.FullSection.{FullSection}
use Rattle.section.specs.declared.Section.{Section}
use Rattle.section.specs.declared.Refusal.{Refusal}

-- beside a command with this payload: an insert's components; "blank .. past" their count, and beside any other command
abbrev pub beside_command : SpliceCommand → List ℕ → List InsertComponent
beside_command c payload = of_insert (λ i. components_of payload) (array []) c

abbrev pub beside_section : Result Section Refusal → List ℕ → List InsertComponent
beside_section (Ok x) payload = beside_command x.command payload
beside_section (Err r) payload = array []

unfoldable pub full_section_of : List ℕ → FullSection
full_section_of s = record { read = section_of s; components = beside_section (section_of s) (command_bytes s) }
