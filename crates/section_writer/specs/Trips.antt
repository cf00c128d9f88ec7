-- What is read of a section that is written.
use Rattle.std.specs.Prelude.{ℕ, ◌+◌, true, List, ◌≡◌, length, Ok}
use Rattle.command.specs.Command.{with_view}
use Rattle.command.specs.declared.SpliceCommand.{SpliceCommand}
use Rattle.command.specs.declared.components.InsertComponent.{InsertComponent}
use Rattle.command_measure.specs.Made.{command_made}
use Rattle.header.specs.declared.header.SpliceInfoHeader.{SpliceInfoHeader}
use Rattle.section.specs.Section.{loop_bytes, moved, section_of}
use Rattle.table.specs.Writing.{made}
use Rattle.canonical_form.specs.Section.{canonical_section}
use Rattle.section_writer.specs.Frame.{headed}
use Rattle.section_writer.specs.Writing.{type_of}

-- the command as it reads from its payload: a private command's bytes stand behind its identifier
abbrev pub own_of : SpliceCommand → SpliceCommand
own_of c = with_view (λ v. record { at = 4; len = v.len }) c

-- of a header, a command with its components, and a loop
pub record ReadsBack (h : SpliceInfoHeader) (c : SpliceCommand) (cs : List InsertComponent) (lent loop b : List ℕ) : Type 0 where
  pub payload : List ℕ
  pub command : command_made c cs lent ≡ made payload
  pub reads : section_of b ≡ Ok (record { header = headed h (length payload) (type_of c); command = moved 14 (own_of c); descriptors = record { at = 16 + length payload; len = length loop }; payload = record { at = 14; len = length payload } })
  pub loops : loop_bytes b ≡ loop
  pub form : canonical_section b ≡ true
