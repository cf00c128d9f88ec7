-- `daterange_line::looking::find_cue`: the walk from `at` on answers what the line says.
use Rattle.std.proofs.Common.{◌≡◌, ℕ, arith, sym, ap, ◌∙◌, length, ◌-◌, ◌+◌, ◌≤◌, ◌<◌, Ok, Err}
use Rattle.std.proofs.lemmas.Result.{err_from_is_err_and}
use Rattle.daterange_line.specs.Private.{nothing, walk}
use Rattle.daterange_line.specs.declared.looking.Turn.TheVariants.{Done, More}
use Rattle.daterange_line.proofs.Looks.{look_is, look_other, look_short, walk_none, walk_turn}
use Rattle.daterange_line.proofs.looking.find_cue.Goals as goal
use Rattle.daterange_line.proofs.looking.find_cue.Goals.{then-line-lt17-via-then-line-lt17, then-line-lt17-via-else-line-lt17+then-not-same_bytes}

pub returns-then-line-lt17 : goal.returns-then-line-lt17
returns-then-line-lt17 c = elim c.then-line-lt17.branch [
  | then-line-lt17-via-then-line-lt17 w ↦ look_short _ w.if-line-lt17.true
  | then-line-lt17-via-else-line-lt17+then-not-same_bytes w ↦ look_other _ (sym w.same_bytes.ensures ∙ w.if-not-same_bytes.true)
]

pub loop-init : goal.loop-init
loop-init c =
    let all : length c.args.line.now ≡ length c.args.line.now - 0 = omega arith in
    rw c.nothing_found-f.ensures
    (sym (look_is _ (sym c.same_bytes.ensures ∙ c.if-not-same_bytes.false)) ∙ ap (λ (m : ℕ). walk m c.args.line.now 17 nothing) all)

pub returns-in_err-g : goal.returns-in_err-g
returns-in_err-g c =
    let left : 0 < length c.args.line.now - c.loop.counter = omega arith in
    let p = err_from_is_err_and c.from_residual.result c.from_residual.ensures.1 in
    rw (p.1, p.2) (sym (c.loop.invariant ∙ walk_turn _ _ _ _ _ (Err c.in_err-g.field-0.0) left c.turn_at.ensures c.in_err-g.was))

pub returns-in-Done : goal.returns-in-Done
returns-in-Done c =
    let left : 0 < length c.args.line.now - c.loop.counter = omega arith in
    c.finish.ensures ∙ sym (c.loop.invariant ∙ walk_turn _ _ _ _ _ (Ok (Done c.in-Done.g)) left c.turn_at.ensures (c.in_ok-g.was ∙ ap Ok c.in-Done.is))

pub loop-preserved : goal.loop-preserved
loop-preserved c =
    let left : 0 < length c.args.line.now - c.loop.counter = omega arith in
    let one : length c.args.line.now - c.loop.counter - 1 ≡ length c.args.line.now - (c.loop.counter + 1) = omega arith in
    c.loop.invariant
    ∙ walk_turn _ _ _ _ _ (Ok (More c.in-More.g c.in-More.next)) left c.turn_at.ensures (c.in_ok-g.was ∙ ap Ok c.in-More.is)
    ∙ ap (λ (m : ℕ). walk m c.args.line.now c.in-More.next c.in-More.g) one

pub returns : goal.returns
returns c =
    let none : length c.args.line.now - c.loop.counter ≤ 0 = omega arith in
    sym (c.loop.invariant ∙ walk_none _ _ _ _ none)
