-- `c_command_writer::commands::mode_from`, by the flag.
use borrow.Author.Tests.{eq-eqb, ne_eqb}
use Rattle.c_command_writer.specs.CommandGiven.{mode_from}
use Rattle.c_command_writer.proofs.commands.mode_from.Goals as goal

pub returns-then-m-eq1 : goal.returns-then-m-eq1
unfolding mode_from
returns-then-m-eq1 c = rw (eq-eqb _ _ c.if-m-eq1.true, c.time_from.ensures)

pub returns : goal.returns
unfolding mode_from
returns c = rw (ne_eqb _ _ c.if-m-eq1.false)
