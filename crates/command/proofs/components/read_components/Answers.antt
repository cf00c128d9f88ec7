-- `command::components::read_components`: the reading, and the components beside it.
use Rattle.command.specs.Command.{listed_of}
use Rattle.command.proofs.components.read_components.Goals as goal

pub returns : goal.returns
unfolding listed_of
returns c = rw (c.read_command.ensures, c.list_components.ensures)
