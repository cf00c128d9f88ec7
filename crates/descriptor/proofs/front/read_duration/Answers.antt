-- `descriptor::front::read_duration`, by the flag: five bytes.
use mathlib.Core.Path.{refl}
use native.Mathlib.Omega.{arith}
use Rattle.descriptor.proofs.Parts.{no_ticks, lasts, no_duration}
use Rattle.descriptor.proofs.front.read_duration.Goals as goal

pub returns-then-left-lt5 : goal.returns-then-left-lt5
returns-then-left-lt5 c =
    let a = c.args in
    no_ticks a.s.now a.at _ c.if-flagged.true _ refl c.if-left-lt5.true c.requires

pub returns-then-flagged : goal.returns-then-flagged
returns-then-flagged c =
    let a = c.args in
    lasts a.s.now a.at _ c.if-flagged.true _ c.number40.ensures (omega (arith, c.if-left-lt5.false, c.requires))

pub returns : goal.returns
returns c = let a = c.args in no_duration a.s.now a.at _ c.if-flagged.false
