-- `descriptor_measure::is_writable_reserved`, test by test.
use Rattle.descriptor_measure.proofs.Tests.{reserved_beside, reserved_tag, reserved_other}
use Rattle.descriptor_measure.proofs.is_writable_reserved.Goals as goal

pub returns-then-not-is_zero : goal.returns-then-not-is_zero
returns-then-not-is_zero c = reserved_beside _ _ _ _ c.is_zero.ensures c.if-not-is_zero.true-raw

pub returns-then-is_cuei : goal.returns-then-is_cuei
returns-then-is_cuei c = reserved_tag _ _ _ _ c.is_zero.ensures c.if-not-is_zero.false-raw _ c.is_cuei.ensures c.if-is_cuei.true

pub returns : goal.returns
returns c = reserved_other _ _ _ _ c.is_zero.ensures c.if-not-is_zero.false-raw _ c.is_cuei.ensures c.if-is_cuei.false
