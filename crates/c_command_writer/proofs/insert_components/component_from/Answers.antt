-- `c_command_writer::insert_components::component_from` meets its contract.
use Rattle.c_command_writer.specs.CommandGiven.{component_from}
use Rattle.c_command_writer.proofs.insert_components.component_from.Goals as goal

pub returns : goal.returns
unfolding component_from
returns c = rw (c.time_from.ensures, c.word_at-3.ensures, c.word_at-2.ensures, c.word_at.ensures)
