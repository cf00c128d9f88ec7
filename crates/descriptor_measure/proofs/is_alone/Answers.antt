-- `descriptor_measure::is_alone`, both in turn.
use Rattle.descriptor_measure.proofs.Tests.{zero_alone, not_alone}
use Rattle.descriptor_measure.proofs.is_alone.Goals as goal

pub returns-then-is_zero : goal.returns-then-is_zero
returns-then-is_zero c = zero_alone _ _ _ _ c.is_zero.ensures c.if-is_zero.true c.is_zero-then-is_zero.ensures

pub returns : goal.returns
returns c = not_alone _ _ _ c.is_zero.ensures c.if-is_zero.false
