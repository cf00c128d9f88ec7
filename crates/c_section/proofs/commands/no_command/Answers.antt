-- `c_section::commands::no_command` meets its contract.
use Rattle.c_section.specs.FlatCommand.{no_command}
use Rattle.c_section.proofs.commands.no_command.Goals as goal

pub returns : goal.returns
unfolding no_command
returns c = rw c.insert_head.ensures
