-- `c_command_writer::insert_components::insert_components_within` meets its contract.
use Rattle.c_command_writer.specs.CommandGiven.{insert_components_within}
use Rattle.c_command_writer.specs.CommandWords.{component_widths}
use Rattle.c_command_writer.proofs.insert_components.insert_components_within.Goals as goal

pub returns : goal.returns
unfolding insert_components_within component_widths
returns c = rw (c.are_places_within.ensures, c.words_from.ensures)
