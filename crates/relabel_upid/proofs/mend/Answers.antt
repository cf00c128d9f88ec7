-- `relabel_upid::mend` meets its contract. The loop's invariant: the parts that are still to come from the place on, and what is left of them, mended in the
-- target as it is now, gives what all of them give in the target as it was.
use mathlib.Core.Path.{refl, sym, ap, ◌∙◌}
use native.Mathlib.Omega.{arith}
use lib.ListN.{length, length-set}
use Rattle.relabel_upid.specs.Private.{heads, nth}
use Rattle.relabel_upid.proofs.Heads.{first}
use Rattle.relabel_upid.proofs.Stores.{head_complete, next_ahead, counts, mends_it, keeps_it}
use Rattle.relabel_upid.proofs.Turns.{mended_end}
use Rattle.relabel_upid.proofs.mend.Goals as goal
use Rattle.relabel_upid.proofs.mend.Goals.{then-end-at, else-end-at}

pub loop-init : goal.loop-init
loop-init c = (refl, first c.args.upid.now c.requires.walk, refl)

pub overflow_add-at : goal.overflow_add-at
overflow_add-at c =
    let a = c.args in
    let w = head_complete a.upid.now a.i a.end a.old a.n c.loop.counter c.loop.at a.target.now c.requires c.loop-test.true c.loop.invariant.1 in
    omega (arith, w.0, c.requires.walk.short)

pub bounds-upid-at : goal.bounds-upid-at
bounds-upid-at c =
    let a = c.args in
    let w = head_complete a.upid.now a.i a.end a.old a.n c.loop.counter c.loop.at a.target.now c.requires c.loop-test.true c.loop.invariant.1 in
    omega (arith, w.0)

pub overflow_add-at-in-loop : goal.overflow_add-at-in-loop
overflow_add-at-in-loop c =
    let a = c.args in
    let w = head_complete a.upid.now a.i a.end a.old a.n c.loop.counter c.loop.at a.target.now c.requires c.loop-test.true c.loop.invariant.1 in
    omega (arith, w.0, c.requires.walk.short)

pub overflow_add-at-in-loop-2 : goal.overflow_add-at-in-loop-2
overflow_add-at-in-loop-2 c =
    let a = c.args in
    let w = head_complete a.upid.now a.i a.end a.old a.n c.loop.counter c.loop.at a.target.now c.requires c.loop-test.true c.loop.invariant.1 in
    omega (arith, w.0, c.requires.walk.short, c.size-l.ensures.1)

pub mended_length-requires : goal.mended_length-requires
mended_length-requires c =
    let a = c.args in
    let x = counts a.upid.now a.i a.end a.old a.n c.loop.counter c.loop.at a.target.now c.requires c.loop-test.true c.loop.invariant.1 _ c.size-l.ensures.0 c.if-end-at.true in
    (x.0, omega (arith, c.size-l.ensures.1), c.requires.new, x.1)

pub overflow_add-target : goal.overflow_add-target
overflow_add-target c =
    let a = c.args in
    let w = head_complete a.upid.now a.i a.end a.old a.n c.loop.counter c.loop.at a.target.now c.requires c.loop-test.true c.loop.invariant.1 in
    omega (arith, w.0, c.requires.walk.short)

pub bounds-target-at : goal.bounds-target-at
bounds-target-at c =
    let a = c.args in
    let w = head_complete a.upid.now a.i a.end a.old a.n c.loop.counter c.loop.at a.target.now c.requires c.loop-test.true c.loop.invariant.1 in
    omega (arith, w.1, c.loop.invariant.0)

pub next_head-at-requires : goal.next_head-at-requires
next_head-at-requires c =
    let a = c.args in
    let w = head_complete a.upid.now a.i a.end a.old a.n c.loop.counter c.loop.at a.target.now c.requires c.loop-test.true c.loop.invariant.1 in
    (omega (arith, w.0), c.requires.walk.short)

pub loop-preserved : goal.loop-preserved
loop-preserved c =
    let a = c.args in
    let inv = c.loop.invariant in
    let next = next_ahead a.upid.now a.i a.end a.old a.n c.loop.counter c.loop.at a.target.now c.requires c.loop-test.true inv.1 _ c.next_head-at.ensures in
    elim c.if-end-at.branch [
      | then-end-at w ↦ (
        ap length w.target-is ∙ simp length-set inv.0,
        next,
        mends_it a.upid.now a.i a.end a.old a.n c.loop.counter c.loop.at a.target.now c.requires c.loop-test.true inv.1 _ c.size-l.ensures.0 c.loop.target c.if-end-at.target _ w.if-end-at.true w.mended_length.ensures w.target-is ∙ inv.2,
      )
      | else-end-at w ↦ (
        ap length w.target-is ∙ inv.0,
        next,
        keeps_it a.upid.now a.i a.end a.old a.n c.loop.counter c.loop.at a.target.now c.requires c.loop-test.true inv.1 _ c.size-l.ensures.0 c.loop.target c.if-end-at.target w.if-end-at.false w.target-is ∙ inv.2,
      )
    ]

pub shape_of-target : goal.shape_of-target
shape_of-target c = c.loop.invariant.0

pub returns : goal.returns
returns c =
    let a = c.args in
    sym (mended_end (heads a.upid.now) (nth a.upid.now a.i) a.n c.loop.counter a.i c.loop.target (omega arith)) ∙ c.loop.invariant.2
