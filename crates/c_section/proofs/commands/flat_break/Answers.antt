-- `c_section::commands::flat_break` meets its contract.
use Rattle.c_section.specs.FlatCommand.{flat_break}
use Rattle.c_section.proofs.commands.flat_break.Goals as goal

pub returns-in-None : goal.returns-in-None
unfolding flat_break
returns-in-None c = rw c.in-None.is

pub returns-in-Some : goal.returns-in-Some
unfolding flat_break
returns-in-Some c = rw (c.in-Some.is, c.from.ensures)
