-- `c_command_writer::commands::command_from`, by the type.
use native.Mathlib.Omega.{arith}
use borrow.Author.Tests.{ne_eqb}
use Rattle.c_command_writer.specs.CommandGiven.{command_from}
use Rattle.c_command_writer.proofs.commands.command_from.Goals as goal

pub returns-in-5 : goal.returns-in-5
unfolding command_from
returns-in-5 c = rw (c.in-5.is, c.insertion_from.ensures)

pub returns-in-6 : goal.returns-in-6
unfolding command_from
returns-in-6 c = rw (c.in-6.is, c.time_from.ensures)

pub returns-in-7 : goal.returns-in-7
unfolding command_from
returns-in-7 c = rw c.in-7.is

pub returns-in-255 : goal.returns-in-255
unfolding command_from
returns-in-255 c = rw c.in-255.is

pub returns-in_default : goal.returns-in_default
unfolding command_from
returns-in_default c =
    let k = c.args.c.splice_command_type in
    rw (ne_eqb k 5 (λ e. omega arith), ne_eqb k 6 (λ e. omega arith), ne_eqb k 7 (λ e. omega arith), ne_eqb k 255 (λ e. omega arith))
