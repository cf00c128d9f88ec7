-- `c_section::commands::flat_insert` meets its contract.
use Rattle.c_section.specs.FlatCommand.{flat_insertion}
use Rattle.c_section.proofs.commands.flat_insert.Goals as goal

pub returns-in-Cancel : goal.returns-in-Cancel
unfolding flat_insertion
returns-in-Cancel c = rw c.in-Cancel.is c.insert_head.ensures

pub returns-in-Insert : goal.returns-in-Insert
unfolding flat_insertion
returns-in-Insert c = rw c.in-Insert.is c.active_insert.ensures
