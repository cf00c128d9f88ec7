-- `relabel_upid::head_of`: the loop's invariant says which parts are still to come from the place on.
use Rattle.std.proofs.Common.{◌≡◌, arith}
use Rattle.relabel_upid.proofs.Heads.{first, headed, headed_past, complete, onward}
use Rattle.relabel_upid.proofs.head_of.Goals as goal

pub loop-init : goal.loop-init
loop-init c = first c.args.upid.now c.requires

pub returns-then-upid-at : goal.returns-then-upid-at
returns-then-upid-at c = headed_past c.args.upid.now c.loop.counter c.loop.at c.loop.invariant c.args.i (omega arith) c.if-upid-at.true

pub next_head-at-requires : goal.next_head-at-requires
next_head-at-requires c =
    let w = complete c.args.upid.now c.loop.counter c.loop.at c.loop.invariant c.if-upid-at.false in
    (omega (arith, w.0), c.requires.short)

pub loop-preserved : goal.loop-preserved
loop-preserved c = onward c.args.upid.now c.loop.counter c.loop.at c.loop.invariant c.if-upid-at.false _ c.next_head-at.ensures

pub returns : goal.returns
returns c =
    let z : c.loop.counter ≡ c.args.i = omega arith in
    headed c.args.upid.now c.args.i c.loop.at (rw z at c.loop.invariant)
