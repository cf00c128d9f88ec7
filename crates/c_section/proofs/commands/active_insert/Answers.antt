-- `c_section::commands::active_insert` meets its contract.
use Rattle.c_section.specs.FlatCommand.{active_insert}
use Rattle.c_section.proofs.commands.active_insert.Goals as goal

pub returns : goal.returns
unfolding active_insert
returns c = rw (c.from.ensures, c.flat_mode.ensures, c.flat_break.ensures)
