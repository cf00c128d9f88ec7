-- `lent::view`: a view that lies in the lent bytes is that part of them.
use Prim.Native.Nat.{◌+◌, ◌≤◌}
use mathlib.Core.Path.{sym, ◌∙◌}
use native.Mathlib.Nat.{add-sub_cancel_left}
use native.Mathlib.Omega.{arith}
use lib.ListN.{length}
use borrow.Author.Tests.{leb-true, not-true, not-false}
use Rattle.table.specs.Lent.{viewed}
use Rattle.table.proofs.lent.view.Goals as goal

pub returns-then-not-lies_in : goal.returns-then-not-lies_in
unfolding viewed
returns-then-not-lies_in c =
    let b = c.lies_in in
    rw (← b.ensures, not-true b.result c.if-not-lies_in.true-raw)

pub overflow_add-end : goal.overflow_add-end
overflow_add-end c =
    let v = c.args.v in
    let l = c.args.lent.now in
    let h : v.at + v.len ≤ length l = leb-true (v.at + v.len) (length l) (sym c.lies_in.ensures ∙ not-false _ c.if-not-lies_in.false-raw) in
    omega arith

pub slice_bounds-result-end-2 : goal.slice_bounds-result-end-2
slice_bounds-result-end-2 c =
    let v = c.args.v in
    let l = c.args.lent.now in
    let h : v.at + v.len ≤ length l = leb-true (v.at + v.len) (length l) (sym c.lies_in.ensures ∙ not-false _ c.if-not-lies_in.false-raw) in
    omega arith

pub returns : goal.returns
unfolding viewed
returns c =
    rw (← c.lies_in.ensures, not-false c.lies_in.result c.if-not-lies_in.false-raw, add-sub_cancel_left)
