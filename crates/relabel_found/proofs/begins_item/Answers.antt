-- `relabel_found::begins_item`: no item that was passed begins at the offset.
use native.Mathlib.Omega.{arith}
use Rattle.relabel_found.proofs.Walks.{begins_first, begins_next, begins_here, begins_past, goes_forward}
use Rattle.relabel_found.proofs.begins_item.Goals as goal

pub loop-at-init : goal.loop-at-init
loop-at-init c = (omega arith, c.requires, begins_first _ c.requires _)

pub returns-then-offset-at : goal.returns-then-offset-at
returns-then-offset-at c =
    begins_here _ c.loop-at.invariant.1 _ _ c.loop-at-test.true c.if-offset-at.true c.loop-at.invariant.2

pub skip_item-at-requires : goal.skip_item-at-requires
skip_item-at-requires c = (c.loop-at-test.true, c.loop-at.invariant.1)

pub loop-at-smaller : goal.loop-at-smaller
loop-at-smaller c =
    omega (arith, c.skip_item-at.ensures, (goes_forward c.args.items.now c.loop-at.invariant.1 c.loop-at.at c.loop-at-test.true).0)

pub loop-at-preserved : goal.loop-at-preserved
loop-at-preserved c =
    let fits = c.loop-at.invariant.1 in
    let inside = c.loop-at-test.true in
    rw c.skip_item-at.ensures ((goes_forward _ fits _ inside).1, fits, begins_next _ fits _ _ inside c.if-offset-at.false c.loop-at.invariant.2)

pub returns : goal.returns
returns c = let l = c.loop-at in begins_past _ l.invariant.1 _ _ c.loop-at-test.false l.invariant.2
