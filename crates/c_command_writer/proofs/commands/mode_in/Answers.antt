-- `c_command_writer::commands::mode_in` meets its contract.
use Rattle.c_command_writer.specs.CommandGiven.{mode_in}
use Rattle.c_command_writer.proofs.commands.mode_in.Goals as goal

pub returns : goal.returns
unfolding mode_in
returns c = rw (c.word_at-4.ensures, c.word_at-3.ensures, c.word_at-2.ensures, c.word_at.ensures)
