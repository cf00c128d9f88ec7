-- `c_command_writer::commands::break_from`, by the flags.
use borrow.Author.Tests.{eq-eqb, ne_eqb}
use Rattle.c_command_writer.specs.CommandGiven.{break_from}
use Rattle.c_command_writer.proofs.commands.break_from.Goals as goal

pub returns-then-b-eq1-2 : goal.returns-then-b-eq1-2
unfolding break_from
returns-then-b-eq1-2 c = rw (eq-eqb _ _ c.if-b-eq1.true, eq-eqb _ _ c.if-b-eq1-2.true)

pub returns-else-b-eq1-2 : goal.returns-else-b-eq1-2
unfolding break_from
returns-else-b-eq1-2 c = rw (eq-eqb _ _ c.if-b-eq1.true, ne_eqb _ _ c.if-b-eq1-2.false)

pub returns : goal.returns
unfolding break_from
returns c = rw (ne_eqb _ _ c.if-b-eq1.false)
