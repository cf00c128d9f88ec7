-- `section::two_bytes`: the high byte, then the low.
use native.Mathlib.Omega.{arith}
use Rattle.section.proofs.Framing.{number_of}
use Rattle.section.proofs.two_bytes.Goals as goal

pub returns : goal.returns
returns c =
    let a = c.args in
    (number_of a.section.now a.at _ _ c.requires c.wide.ensures.0 c.wide.ensures.1 c.wide-2.ensures.0 c.wide-2.ensures.1, omega (arith, c.wide.ensures.1, c.wide-2.ensures.1))
