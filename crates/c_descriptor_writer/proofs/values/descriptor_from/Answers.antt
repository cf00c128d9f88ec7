-- `c_descriptor_writer::values::descriptor_from`, by the kind.
use native.Mathlib.Omega.{arith}
use borrow.Author.Tests.{ne_eqb}
use Rattle.c_descriptor_writer.specs.ItemGiven.{descriptor_from}
use Rattle.c_descriptor_writer.proofs.values.descriptor_from.Goals as goal

pub returns-in-2 : goal.returns-in-2
unfolding descriptor_from
returns-in-2 c = rw c.in-2.is

pub returns-in-3 : goal.returns-in-3
unfolding descriptor_from
returns-in-3 c = rw c.in-3.is

pub returns-in-4 : goal.returns-in-4
unfolding descriptor_from
returns-in-4 c = rw (c.in-4.is, c.detail_from.ensures)

pub returns-in-5 : goal.returns-in-5
unfolding descriptor_from
returns-in-5 c = rw c.in-5.is

pub returns-in-6 : goal.returns-in-6
unfolding descriptor_from
returns-in-6 c = rw c.in-6.is

pub returns-in_default : goal.returns-in_default
unfolding descriptor_from
returns-in_default c =
    let k = c.args.i.kind in
    rw (ne_eqb k 2 (λ e. omega arith), ne_eqb k 3 (λ e. omega arith), ne_eqb k 4 (λ e. omega arith), ne_eqb k 5 (λ e. omega arith), ne_eqb k 6 (λ e. omega arith))
