-- `c_section::commands::insert_head` meets its contract.
use Rattle.c_section.specs.FlatCommand.{flat_mode, active_insert, insert_head}
use Rattle.c_section.proofs.commands.insert_head.Goals as goal

pub returns : goal.returns
unfolding insert_head active_insert flat_mode
returns c = rw c.flat_break.ensures
