-- `descriptor_canonical::is_canonical_loop`. The loop's invariant: what is left says what the whole says.
use Prim.Native.Nat.{◌+◌}
use mathlib.Core.Path.{refl, ap}
use native.Mathlib.Omega.{arith}
use Rattle.descriptor_canonical.proofs.Loops.{loop_few, loop_over, loop_spoilt, loop_turn, loop_end}
use Rattle.descriptor_canonical.proofs.is_canonical_loop.Goals as goal

pub loop-at-init : goal.loop-at-init
loop-at-init c = (omega arith, refl)

pub overflow_sub-left : goal.overflow_sub-left
overflow_sub-left c = omega arith

pub returns-then-left-lt6 : goal.returns-then-left-lt6
returns-then-left-lt6 c =
    loop_few c.args.descriptors.now c.loop-at.at c.loop-at-test.true _ refl c.loop-at.invariant.1 c.if-left-lt6.true

pub overflow_add-at : goal.overflow_add-at
overflow_add-at c = omega arith

pub bounds-descriptors-at : goal.bounds-descriptors-at
bounds-descriptors-at c = omega arith

pub overflow_add-taken : goal.overflow_add-taken
overflow_add-taken c = omega arith

pub returns-then-left-taken : goal.returns-then-left-taken
returns-then-left-taken c =
    loop_over c.args.descriptors.now c.loop-at.at (omega arith) _ (ap (λ n. n + 2) c.size-taken.ensures.0) c.loop-at.invariant.1 c.if-left-taken.true

pub overflow_add-next : goal.overflow_add-next
overflow_add-next c = omega arith

pub slice_bounds-is_canonical_descriptor-count : goal.slice_bounds-is_canonical_descriptor-count
slice_bounds-is_canonical_descriptor-count c = omega arith

pub slice_bounds-is_canonical_descriptor-start : goal.slice_bounds-is_canonical_descriptor-start
slice_bounds-is_canonical_descriptor-start c = omega arith

pub slice_bounds-is_canonical_descriptor-end : goal.slice_bounds-is_canonical_descriptor-end
slice_bounds-is_canonical_descriptor-end c = omega arith

pub returns-then-not-is_canonical_descriptor : goal.returns-then-not-is_canonical_descriptor
returns-then-not-is_canonical_descriptor c =
    loop_spoilt c.args.descriptors.now c.loop-at.at (omega arith) _ (ap (λ n. n + 2) c.size-taken.ensures.0) c.loop-at.invariant.1 _ c.is_canonical_descriptor.ensures c.if-not-is_canonical_descriptor.true-raw

pub loop-at-smaller : goal.loop-at-smaller
loop-at-smaller c = omega arith

pub loop-at-preserved : goal.loop-at-preserved
loop-at-preserved c =
    (omega arith, loop_turn c.args.descriptors.now c.loop-at.at (omega arith) _ (ap (λ n. n + 2) c.size-taken.ensures.0) c.loop-at.invariant.1 _ c.is_canonical_descriptor.ensures c.if-not-is_canonical_descriptor.false-raw)

pub returns : goal.returns
returns c =
    loop_end c.args.descriptors.now c.loop-at.at c.loop-at-test.false c.loop-at.invariant.1
