-- `descriptor::front::pass_components`: all of them, or what the first that is not whole lacks.
use native.Mathlib.Omega.{arith}
use Rattle.descriptor.proofs.Parts.{components_there, components_lack, as_counted, lacked_as}
use Rattle.descriptor.proofs.front.pass_components.Goals as goal

pub returns-then-left-bytes : goal.returns-then-left-bytes
returns-then-left-bytes c =
    let a = c.args in
    lacked_as _ _ c.lacked.ensures _ (components_lack a.s.now a.n a.at c.requires (omega (arith, c.if-left-bytes.true, c.size-bytes.ensures.0)))

pub returns : goal.returns
returns c =
    let a = c.args in
    let g = components_there a.s.now a.n a.at (omega (arith, c.if-left-bytes.false, c.size-bytes.ensures.0, c.requires)) in
    (g.0, as_counted a.at a.n _ c.size-bytes.ensures.0 _ _ g.1)
