-- `command_canonical::pass_time`: by how many bytes are left, and by the first of them.
use native.Mathlib.Omega.{arith}
use Rattle.command_canonical.proofs.Times.{no_time_lem, unspecified, no_form, no_ticks, specified}
use Rattle.command_canonical.proofs.pass_time.Goals as goal

pub returns-then-s-at : goal.returns-then-s-at
returns-then-s-at c = let a = c.args in no_time_lem a.s.now a.at c.if-s-at.true

pub returns-then-s-at-eq127 : goal.returns-then-s-at-eq127
returns-then-s-at-eq127 c =
    let a = c.args in
    unspecified a.s.now a.at c.if-s-at.false (c.type_inv.s a.at).fits c.if-s-at-eq127.true

pub returns-then-s-at-lt254 : goal.returns-then-s-at-lt254
returns-then-s-at-lt254 c =
    let a = c.args in
    no_form a.s.now a.at c.if-s-at.false (c.shared_slice_known-1.given a.at).fits c.if-s-at-eq127.false c.if-s-at-lt254.true

pub returns-then-s-at-lt5 : goal.returns-then-s-at-lt5
returns-then-s-at-lt5 c =
    let a = c.args in
    no_ticks a.s.now a.at c.if-s-at.false (c.shared_slice_known-1.given a.at).fits c.if-s-at-lt254.false (omega (arith, c.if-s-at-lt5.true, c.if-s-at.false))

pub returns : goal.returns
returns c =
    let a = c.args in
    specified a.s.now a.at c.if-s-at.false (c.shared_slice_known-1.given a.at).fits c.if-s-at-lt254.false (omega (arith, c.if-s-at-lt5.false, c.if-s-at.false))
