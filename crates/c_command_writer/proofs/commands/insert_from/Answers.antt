-- `c_command_writer::commands::insert_from` meets its contract.
use mathlib.Core.Path.{◌≡◌, ◌∙◌}
use lib.Dec.{eqb}
use borrow.Author.Tests.{eq-eqb, ne_eqb}
use Rattle.names.specs.declared.flags.NetworkIndicator.{NetworkIndicator}
use Rattle.table.specs.Bits.{pick}
use Rattle.c_command_writer.specs.CommandGiven.{insert_from}
use Rattle.c_command_writer.proofs.commands.insert_from.Goals as goal
use Rattle.c_command_writer.proofs.commands.insert_from.Goals.{then-i-eq1, else-i-eq1}

pub returns : goal.returns
unfolding insert_from
returns c =
    let indicated : c.if-i-eq1.network_indicator ≡ pick (eqb c.args.i.out_of_network_indicator 1) NetworkIndicator.Out NetworkIndicator.In = elim c.if-i-eq1.branch [ then-i-eq1 w ↦ w.network_indicator-is ∙ rw (eq-eqb _ _ w.if-i-eq1.true) | else-i-eq1 w ↦ w.network_indicator-is ∙ rw (ne_eqb _ _ w.if-i-eq1.false) ] in
    rw (indicated, c.mode_from.ensures, c.break_from.ensures)
