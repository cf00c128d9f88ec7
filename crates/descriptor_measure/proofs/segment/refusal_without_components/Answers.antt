-- `descriptor_measure::segment::refusal_without_components`, cancelled or not.
use native.Mathlib.Omega.{arith}
use Rattle.descriptor_measure.proofs.Refusals.{cancel_identifier, cancel_eidr, cancel_writable, refused_all, refused_active}
use Rattle.descriptor_measure.proofs.segment.refusal_without_components.Goals as goal

pub returns-then-not-is_zero : goal.returns-then-not-is_zero
returns-then-not-is_zero c =
    let a = c.args in
    refused_all _ _ _ _ _ (λ cs. cancel_identifier a.x a.identifier cs a.eidr a.lent.now c.in-Cancel.is (omega (arith, c)) _ c.is_zero.ensures c.if-not-is_zero.true-raw)

pub returns-then-not-is_zero-2 : goal.returns-then-not-is_zero-2
returns-then-not-is_zero-2 c =
    let a = c.args in
    refused_all _ _ _ _ _ (λ cs. cancel_eidr a.x a.identifier cs a.eidr a.lent.now c.in-Cancel.is (omega (arith, c)) _ c.is_zero.ensures c.if-not-is_zero.false-raw _ c.is_zero-in-Cancel.ensures c.if-not-is_zero-2.true-raw)

pub returns-else-not-is_zero-2 : goal.returns-else-not-is_zero-2
returns-else-not-is_zero-2 c =
    let a = c.args in
    refused_all _ _ _ _ _ (λ cs. cancel_writable a.x a.identifier cs a.eidr a.lent.now c.in-Cancel.is (omega (arith, c)) _ c.is_zero.ensures c.if-not-is_zero.false-raw _ c.is_zero-in-Cancel.ensures c.if-not-is_zero-2.false-raw)

pub returns-in-Active : goal.returns-in-Active
returns-in-Active c = refused_active _ _ _ _ _ _ c.in-Active.is c.refusal_of_active.ensures
