-- `descriptor::front::read_component`: six bytes, or what they lack.
use mathlib.Core.Path.{refl, sym}
use native.Mathlib.Omega.{arith}
use Rattle.table.proofs.Fields.{byte_field}
use Rattle.descriptor.proofs.Parts.{component_there, component_lacks, lacked_as}
use Rattle.descriptor.proofs.front.read_component.Goals as goal

pub returns-then-left-lt6 : goal.returns-then-left-lt6
returns-then-left-lt6 c =
    let a = c.args in
    lacked_as _ _ c.lacked.ensures _ (component_lacks a.s.now a.at _ refl c.if-left-lt6.true c.requires)

pub returns : goal.returns
returns c =
    let a = c.args in
    component_there a.s.now a.at _ _ (sym (byte_field a.s.now a.at (omega (arith, c.if-left-lt6.false)) (c.type_inv.s a.at).fits)) c.time33.ensures (omega (arith, c.if-left-lt6.false))
