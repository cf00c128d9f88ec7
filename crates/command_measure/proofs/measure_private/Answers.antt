-- `command_measure::measure_private`: its view lies in the lent bytes, or not.
use Prim.Native.Nat.{◌+◌, ◌≤◌}
use mathlib.Core.Path.{sym, ◌∙◌}
use native.Mathlib.Omega.{arith}
use lib.ListN.{length}
use borrow.Author.Tests.{leb-true, leb-false, not-true, not-false}
use Rattle.command_measure.proofs.Making.{private_outside, private_inside}
use Rattle.command_measure.proofs.measure_private.Goals as goal

pub returns-then-not-lies_in : goal.returns-then-not-lies_in
returns-then-not-lies_in c =
    let a = c.args in
    let v = a.p.private_bytes in
    c.refuse.ensures
    ∙ private_outside a.p a.lent.now (leb-false (v.at + v.len) (length a.lent.now) (sym c.lies_in.ensures ∙ not-true c.lies_in.result c.if-not-lies_in.true-raw))

pub overflow_add-result : goal.overflow_add-result
overflow_add-result c =
    let a = c.args in
    let v = a.p.private_bytes in
    let h : v.at + v.len ≤ length a.lent.now = leb-true _ _ (sym c.lies_in.ensures ∙ not-false c.lies_in.result c.if-not-lies_in.false-raw) in
    omega arith

pub returns : goal.returns
returns c =
    let a = c.args in
    let v = a.p.private_bytes in
    private_inside a.p a.lent.now (omega arith) (leb-true (v.at + v.len) (length a.lent.now) (sym c.lies_in.ensures ∙ not-false c.lies_in.result c.if-not-lies_in.false-raw))
