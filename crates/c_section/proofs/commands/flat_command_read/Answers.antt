-- `c_section::commands::flat_command_read` meets its contract.
use Rattle.std.proofs.Common.{Err}
use mathlib.Core.Path.{ap, sym, ◌∙◌}
use Rattle.c_section.specs.FlatCommand.{flat_command_read}
use Rattle.c_section.proofs.commands.flat_command_read.Goals as goal

pub returns-in-Ok : goal.returns-in-Ok
unfolding flat_command_read
returns-in-Ok c = c.flat_command.ensures ∙ ap flat_command_read (sym c.in-Ok.is)

pub returns-in-Err-UnknownType : goal.returns-in-Err-UnknownType
unfolding flat_command_read
returns-in-Err-UnknownType c = rw (c.no_command.ensures, c.number.ensures, c.in-Err-UnknownType.is, rw c.in-Err-UnknownType.is at c.in-Err-UnknownType.field-0-is)

pub returns-in-Err-Malformed : goal.returns-in-Err-Malformed
unfolding flat_command_read
returns-in-Err-Malformed c = rw (c.no_command-in-Err-Malformed.ensures, c.number-in-Err-Malformed.ensures, c.in-Err-Malformed.is, rw c.in-Err-Malformed.is at c.in-Err-Malformed.field-0-is)
