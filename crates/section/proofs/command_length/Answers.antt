-- `section::command_length`: four bits and a byte.
use native.Mathlib.Omega.{arith}
use Rattle.section.proofs.Framing.{size_of}
use Rattle.section.proofs.command_length.Goals as goal

pub returns : goal.returns
returns c =
    let s = c.args.section.now in
    (size_of s _ _ c.requires c.wide.ensures.0 c.wide.ensures.1 c.wide-2.ensures.0 c.wide-2.ensures.1, omega (arith, c.wide.ensures.1, c.wide-2.ensures.1))
