-- `c_command_writer::commands::command_in` meets its contract.
use Rattle.c_command_writer.specs.CommandGiven.{command_in}
use Rattle.c_command_writer.proofs.commands.command_in.Goals as goal

pub returns : goal.returns
unfolding command_in
returns c = rw (c.word_at-7.ensures, c.word_at-6.ensures, c.word_at-5.ensures, c.word_at-4.ensures, c.word_at-3.ensures, c.insert_in.ensures, c.word_at-2.ensures, c.word_at.ensures)
