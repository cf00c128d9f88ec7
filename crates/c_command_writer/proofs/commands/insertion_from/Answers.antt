-- `c_command_writer::commands::insertion_from` meets its contract.
use mathlib.Core.Path.{◌≡◌, ap, ◌∙◌}
use lib.Dec.{eqb}
use borrow.Author.Tests.{eq-eqb, ne_eqb}
use Rattle.command.specs.declared.insert.SpliceDetail.{SpliceDetail}
use Rattle.table.specs.Bits.{pick}
use Rattle.c_command_writer.specs.CommandGiven.{insert_from, insertion_from}
use Rattle.c_command_writer.proofs.commands.insertion_from.Goals as goal
use Rattle.c_command_writer.proofs.commands.insertion_from.Goals.{then-i-eq1, else-i-eq1}

pub returns : goal.returns
unfolding insertion_from
returns c =
    let detailed : let i = c.args.i in c.if-i-eq1.splice_detail ≡ pick (eqb i.splice_event_cancel_indicator 1) SpliceDetail.Cancel (SpliceDetail.Insert (insert_from i)) = elim c.if-i-eq1.branch [ then-i-eq1 w ↦ w.splice_detail-is ∙ rw (eq-eqb _ _ w.if-i-eq1.true) | else-i-eq1 w ↦ w.splice_detail-is ∙ rw (ne_eqb _ _ w.if-i-eq1.false) (ap SpliceDetail.Insert w.insert_from.ensures) ] in
    rw detailed
