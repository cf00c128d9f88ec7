-- `c_command_writer::commands::break_in` meets its contract.
use Rattle.c_command_writer.specs.CommandGiven.{break_in}
use Rattle.c_command_writer.proofs.commands.break_in.Goals as goal

pub returns : goal.returns
unfolding break_in
returns c = rw (c.word_at-3.ensures, c.word_at-2.ensures, c.word_at.ensures)
