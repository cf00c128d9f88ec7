-- `c_section::commands::flat_mode` meets its contract.
use Rattle.c_section.specs.FlatCommand.{flat_mode}
use Rattle.c_section.proofs.commands.flat_mode.Goals as goal

pub returns-in-Program : goal.returns-in-Program
unfolding flat_mode
returns-in-Program c = rw (c.in-Program.is, c.flat_time.ensures)

pub returns-in-Components : goal.returns-in-Components
unfolding flat_mode
returns-in-Components c = rw c.in-Components.is
