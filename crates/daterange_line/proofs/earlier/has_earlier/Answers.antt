-- `daterange_line::earlier::has_earlier`: the search from `at` on answers what the whole search answers.
use Rattle.std.proofs.Common.{◌≡◌, ℕ, arith, sym, ap, ◌∙◌, length, ◌-◌, ◌+◌, ◌≤◌, ◌<◌}
use Rattle.daterange_line.specs.Private.{earlier}
use Rattle.daterange_line.proofs.Searches.{earlier_end, earlier_none, earlier_fault, earlier_found, earlier_next}
use Rattle.daterange_line.proofs.earlier.has_earlier.Goals as goal

pub loop-init : goal.loop-init
loop-init c =
    let all : length c.args.line.now ≡ length c.args.line.now - 0 = omega arith in
    ap (λ (m : ℕ). earlier m c.args.line.now c.args.place c.args.name.now 17) all

pub returns-then-place-at : goal.returns-then-place-at
returns-then-place-at c = sym (c.loop.invariant ∙ earlier_end _ _ _ _ _ c.if-place-at.true)

pub returns-in_default : goal.returns-in_default
returns-in_default c =
    let left : 0 < length c.args.line.now - c.loop.counter = omega arith in
    sym (c.loop.invariant ∙ earlier_fault _ _ _ _ _ _ left c.if-place-at.false c.cut_at.ensures.cut c.in_default.is)

pub returns-then-same_bytes : goal.returns-then-same_bytes
returns-then-same_bytes c =
    let left : 0 < length c.args.line.now - c.loop.counter = omega arith in
    sym (c.loop.invariant ∙ earlier_found _ _ _ _ _ _ _ left c.if-place-at.false c.cut_at.ensures.cut c.in-Some.is (sym c.same_bytes.ensures ∙ c.if-same_bytes.true))

pub loop-preserved : goal.loop-preserved
loop-preserved c =
    let left : 0 < length c.args.line.now - c.loop.counter = omega arith in
    let one : length c.args.line.now - c.loop.counter - 1 ≡ length c.args.line.now - (c.loop.counter + 1) = omega arith in
    c.loop.invariant
    ∙ earlier_next _ _ _ _ _ _ _ left c.if-place-at.false c.cut_at.ensures.cut c.in-Some.is c.size.result (sym c.same_bytes.ensures ∙ c.if-same_bytes.false) c.size.ensures
    ∙ ap (λ (m : ℕ). earlier m c.args.line.now c.args.place c.args.name.now (c.loop.at + (c.size.result + 1))) one

pub returns : goal.returns
returns c =
    let none : length c.args.line.now - c.loop.counter ≤ 0 = omega arith in
    sym (c.loop.invariant ∙ earlier_none _ _ _ _ _ none)
