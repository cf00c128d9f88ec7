-- `command_canonical::pass_break`, return by return.
use native.Mathlib.Omega.{arith}
use Rattle.command_canonical.proofs.Inserts.{no_break, lacks_break, break_reserved, no_duration, a_break}
use Rattle.command_canonical.proofs.pass_break.Goals as goal

pub returns-then-not-flagged : goal.returns-then-not-flagged
returns-then-not-flagged c = let a = c.args in no_break a.s.now a.at a.flagged c.if-not-flagged.true-raw

pub returns-then-s-at : goal.returns-then-s-at
returns-then-s-at c = let a = c.args in lacks_break a.s.now a.at a.flagged c.if-not-flagged.false-raw c.if-s-at.true

pub returns-then-s-at-ne63 : goal.returns-then-s-at-ne63
returns-then-s-at-ne63 c =
    let a = c.args in
    break_reserved a.s.now a.at a.flagged c.if-not-flagged.false-raw c.if-s-at.false (c.type_inv.s a.at).fits c.if-s-at-ne63.true

pub returns-then-s-at-lt5 : goal.returns-then-s-at-lt5
returns-then-s-at-lt5 c =
    let a = c.args in
    no_duration a.s.now a.at a.flagged c.if-not-flagged.false-raw c.if-s-at.false (c.type_inv.s a.at).fits (omega (arith, c.if-s-at-lt5.true, c.if-s-at.false))

pub returns : goal.returns
returns c =
    let a = c.args in
    a_break a.s.now a.at a.flagged c.if-not-flagged.false-raw c.if-s-at.false (c.type_inv.s a.at).fits c.if-s-at-ne63.false (omega (arith, c.if-s-at-lt5.false, c.if-s-at.false))
