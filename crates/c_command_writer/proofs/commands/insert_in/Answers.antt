-- `c_command_writer::commands::insert_in` meets its contract.
use Rattle.c_command_writer.specs.CommandGiven.{insert_in}
use Rattle.c_command_writer.proofs.commands.insert_in.Goals as goal

pub returns : goal.returns
unfolding insert_in
returns c = rw (c.word_at-7.ensures, c.word_at-6.ensures, c.word_at-5.ensures, c.break_in.ensures, c.mode_in.ensures, c.word_at-4.ensures, c.word_at-3.ensures, c.word_at-2.ensures, c.word_at.ensures)
