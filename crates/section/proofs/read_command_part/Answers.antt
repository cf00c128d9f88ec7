-- `section::read_command_part`, by what is read of the command.
use Rattle.std.proofs.Common.{Err}
use mathlib.Core.Path.{sym, ◌∙◌, ap}
use native.Mathlib.Omega.{arith}
use Rattle.section.proofs.Framing.{within_four, is_moved, unknown_moved, malformed_moved}
use Rattle.section.proofs.read_command_part.Goals as goal

pub move_command-requires : goal.move_command-requires
move_command-requires c =
    (within_four _ _ _ (sym c.read_command.ensures ∙ c.in-Ok.is), omega arith)

pub returns-in-Ok : goal.returns-in-Ok
returns-in-Ok c =
    is_moved _ _ _ (sym c.read_command.ensures ∙ c.in-Ok.is) c.move_command.ensures

pub returns-in-Err-UnknownType : goal.returns-in-Err-UnknownType
returns-in-Err-UnknownType c = unknown_moved _ (sym c.read_command.ensures ∙ (rw c.in-Err-UnknownType.field-0-is at c.in-Err-UnknownType.is))

pub returns-in-Err-Malformed : goal.returns-in-Err-Malformed
returns-in-Err-Malformed c = malformed_moved _ (sym c.read_command.ensures ∙ (rw c.in-Err-Malformed.field-0-is at c.in-Err-Malformed.is))
