-- `scte35::scte35_read_command` meets its contract.
use mathlib.Core.Path.{ap, ◌∙◌}
use Rattle.command.specs.Command.{command_of}
use Rattle.c_section.specs.FlatCommand.{flat_command_read}
use Rattle.scte35.proofs.scte35_read_command.Goals as goal

pub returns : goal.returns
returns c = c.flat_command_read.ensures ∙ ap flat_command_read (c.read_command.ensures ∙ ap (command_of c.args.command_type) c.rest.ensures)
