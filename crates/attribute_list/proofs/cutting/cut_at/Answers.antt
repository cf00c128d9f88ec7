-- `attribute_list::cutting::cut_at`: the attribute behind the name, quoted or not, lies in the line.
use Rattle.std.proofs.Common.{◌∙◌, sym, true, false}
use Rattle.attribute_list.proofs.Completes.{IfSome-cut_of}
use Rattle.attribute_list.proofs.Places.{cut_behind}
use Rattle.attribute_list.proofs.cutting.cut_at.Goals as goal

pub returns-then-stands_at-clause-cut : goal.returns-then-stands_at-clause-cut
returns-then-stands_at-clause-cut c =
    c.quoted.ensures ∙ sym (cut_behind c.args.line.now c.args.at c.past-equals.result true c.past-equals.ensures c.if-equals-at.false c.if-not-stands_at.ensures c.if-stands_at.ensures)

pub returns-clause-cut : goal.returns-clause-cut
returns-clause-cut c =
    c.plain.ensures ∙ sym (cut_behind c.args.line.now c.args.at c.past-equals.result false c.past-equals.ensures c.if-equals-at.false c.if-not-stands_at.ensures c.if-stands_at.ensures)

pub returns-clause-within : goal.returns-clause-within
returns-clause-within c = IfSome-cut_of c.args.line.now c.args.at c.plain.result (returns-clause-cut c)
