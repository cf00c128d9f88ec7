-- `descriptor_loop::iteration::count_items` meets its contract: what was counted and what is left are all the items.
use native.Mathlib.Omega.{arith}
use borrow.Author.Tests.{lt-ltb}
use Rattle.descriptor_loop.specs.Items.{count_of}
use Rattle.descriptor_loop.proofs.Lists.{counted_none, counted_one, counted_all, step_forward}
use Rattle.descriptor_loop.proofs.iteration.count_items.Goals as goal

pub returns-then-descriptors-gt-MAX_LOOP : goal.returns-then-descriptors-gt-MAX_LOOP
unfolding count_of
returns-then-descriptors-gt-MAX_LOOP c = rw (lt-ltb _ _ c.if-descriptors-gt-MAX_LOOP.true)

pub loop-offset-init : goal.loop-offset-init
loop-offset-init c = (omega arith, omega arith, omega arith, counted_none _ c.if-descriptors-gt-MAX_LOOP.false)

pub overflow_add-count : goal.overflow_add-count
overflow_add-count c = omega arith

pub loop-offset-smaller : goal.loop-offset-smaller
loop-offset-smaller c = omega (arith, step_forward _ _ _ c.loop-offset.invariant.0 c.loop-offset-test.true c.step-s.ensures)

pub loop-offset-preserved : goal.loop-offset-preserved
loop-offset-preserved c =
    let f = step_forward _ _ _ c.loop-offset.invariant.0 c.loop-offset-test.true c.step-s.ensures in
    (c.loop-offset.invariant.0, omega (arith, f.0), f.1, counted_one _ _ _ _ c.loop-offset.invariant.0 c.loop-offset-test.true c.step-s.ensures c.loop-offset.invariant.3)

pub returns : goal.returns
returns c = let l = c.loop-offset.invariant in counted_all _ _ _ l.0 c.loop-offset-test.false l.3
