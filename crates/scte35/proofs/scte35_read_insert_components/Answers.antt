-- `scte35::scte35_read_insert_components` meets its contract.
use mathlib.Core.Path.{ap, ◌∙◌}
use Rattle.command.specs.Command.{listed_of}
use Rattle.command.specs.declared.components.ListedCommand.{ListedCommand}
use Rattle.c_section.specs.FlatCommand.{flat_insert_components}
use Rattle.scte35.proofs.scte35_read_insert_components.Goals as goal

pub returns : goal.returns
unfolding listed_of
returns c =
    c.flat_insert_components.ensures ∙ ap (λ (l : ListedCommand). flat_insert_components l.read l.components) (c.read_components-listed.ensures ∙ ap listed_of c.rest.ensures)
