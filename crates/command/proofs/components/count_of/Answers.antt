-- `command::components::count_of`: by what the reading has, down to the mode.
use Rattle.command.proofs.Filling.{counted}
use Rattle.command.proofs.components.count_of.Goals as goal

pub returns-in-Components : goal.returns-in-Components
returns-in-Components c =
    counted _ _ _ _ _ c.in-Ok.is c.in-SpliceInsert.is c.in-Insert.is c.in-Components.is

pub returns-in-Program : goal.returns-in-Program
returns-in-Program c =
    counted _ _ _ _ _ c.in-Ok.is c.in-SpliceInsert.is c.in-Insert.is c.in-Program.is
