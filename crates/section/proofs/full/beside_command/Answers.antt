-- `section::full::beside_command`, by the kind of the command.
use mathlib.Core.Path.{ap}
use Rattle.command.specs.Command.{listed_of}
use Rattle.command.specs.declared.components.ListedCommand.{ListedCommand}
use Rattle.section.proofs.full.beside_command.Goals as goal

pub returns-in-SpliceInsert : goal.returns-in-SpliceInsert
unfolding listed_of
returns-in-SpliceInsert c = rw c.in-SpliceInsert.is (ap (λ (l : ListedCommand). l.components) c.read_components-listed.ensures)
