-- `descriptor_canonical::segment::is_canonical_upid`, test by test.
use Prim.Native.Nat.{◌+◌, ◌≤◌}
use mathlib.Core.Path.{sym, ◌∙◌}
use native.Mathlib.Omega.{arith}
use lib.ListN.{length}
use borrow.Author.Tests.{not-false}
use Rattle.descriptor_canonical.proofs.Segments.{ends_there_at}
use Rattle.descriptor_canonical.proofs.Tests.{upid_short, upid_spare, upid_empty, upid_full}
use Rattle.descriptor_canonical.proofs.segment.is_canonical_upid.Goals as goal

pub returns-then-end-at : goal.returns-then-end-at
returns-then-end-at c = let a = c.args in upid_short a.s.now a.at c.if-end-at.true

pub returns-then-not-ends_at : goal.returns-then-not-ends_at
returns-then-not-ends_at c =
    let a = c.args in
    upid_spare a.s.now a.at c.if-end-at.false _ c.size-n.ensures.0 _ c.ends_at.ensures c.if-not-ends_at.true-raw

pub returns-then-n-eq0 : goal.returns-then-n-eq0
returns-then-n-eq0 c =
    let a = c.args in
    upid_empty a.s.now a.at c.if-end-at.false _ c.size-n.ensures.0 _ c.ends_at.ensures c.if-not-ends_at.false-raw c.if-n-eq0.true

pub slice_bounds-is_accepted-end : goal.slice_bounds-is_accepted-end
slice_bounds-is_accepted-end c =
    let a = c.args in
    let h : a.at + 2 + c.size-n.result ≤ length a.s.now = ends_there_at a.s.now (a.at + 2 + c.size-n.result) (a.at + 2 + c.size-n.result) (sym c.ends_at.ensures ∙ not-false _ c.if-not-ends_at.false-raw) (omega arith) in
    omega (arith, h)

pub returns : goal.returns
returns c =
    let a = c.args in
    upid_full a.s.now a.at c.if-end-at.false _ c.size-n.ensures.0 _ c.ends_at.ensures c.if-not-ends_at.false-raw c.if-n-eq0.false _ c.is_accepted.ensures
