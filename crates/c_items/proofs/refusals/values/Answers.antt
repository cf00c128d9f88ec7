-- `c_items::refusals::values` meets its contract.
use Rattle.upid.specs.Upid.{values_of}
use Rattle.c_items.proofs.refusals.values.Goals as goal

pub returns-in-InputTooLong : goal.returns-in-InputTooLong
unfolding values_of
returns-in-InputTooLong c = rw c.in-InputTooLong.is

pub returns-in-NotEnoughData : goal.returns-in-NotEnoughData
unfolding values_of
returns-in-NotEnoughData c = rw c.in-NotEnoughData.is

pub returns-in-UpidLengthTypeMismatch : goal.returns-in-UpidLengthTypeMismatch
unfolding values_of
returns-in-UpidLengthTypeMismatch c = rw c.in-UpidLengthTypeMismatch.is

pub returns-in-InvalidUpidContent : goal.returns-in-InvalidUpidContent
unfolding values_of
returns-in-InvalidUpidContent c = rw c.in-InvalidUpidContent.is

pub returns-in-InvalidUpidLength : goal.returns-in-InvalidUpidLength
unfolding values_of
returns-in-InvalidUpidLength c = rw c.in-InvalidUpidLength.is
