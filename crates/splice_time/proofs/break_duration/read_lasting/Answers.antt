-- `splice_time::break_duration::read_lasting`: by how many bytes are left.
use Prim.Native.Nat.{◌+◌, ◌≤◌}
use mathlib.Core.Path.{refl}
use native.Mathlib.Omega.{arith}
use lib.ListN.{length}
use Rattle.splice_time.proofs.Breaks.{no_auto_return, no_duration, a_break}
use Rattle.splice_time.proofs.break_duration.read_lasting.Goals as goal

pub returns-then-s-at : goal.returns-then-s-at
returns-then-s-at c = let a = c.args in no_auto_return a.s.now a.at c.if-s-at.true

pub returns-then-left-lt5 : goal.returns-then-left-lt5
returns-then-left-lt5 c =
    let a = c.args in
    no_duration a.s.now a.at _ c.if-s-at.false refl c.if-left-lt5.true

pub returns : goal.returns
returns c =
    let a = c.args in
    let there : a.at + 5 ≤ length a.s.now = omega (arith, c.if-left-lt5.false, c.if-s-at.false) in
    a_break a.s.now a.at c.wide-first.result c.time33.result c.returning.result there c.wide-first.ensures.0 c.wide-first.ensures.1 c.returning.ensures c.time33.ensures
