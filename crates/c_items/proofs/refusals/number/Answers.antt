-- `c_items::refusals::number` meets its contract.
use Rattle.upid.specs.Upid.{number_of}
use Rattle.c_items.proofs.refusals.number.Goals as goal

pub returns-in-InputTooLong : goal.returns-in-InputTooLong
unfolding number_of
returns-in-InputTooLong c = rw c.in-InputTooLong.is

pub returns-in-NotEnoughData : goal.returns-in-NotEnoughData
unfolding number_of
returns-in-NotEnoughData c = rw c.in-NotEnoughData.is

pub returns-in-UpidLengthTypeMismatch : goal.returns-in-UpidLengthTypeMismatch
unfolding number_of
returns-in-UpidLengthTypeMismatch c = rw c.in-UpidLengthTypeMismatch.is

pub returns-in-InvalidUpidContent : goal.returns-in-InvalidUpidContent
unfolding number_of
returns-in-InvalidUpidContent c = rw c.in-InvalidUpidContent.is

pub returns-in-InvalidUpidLength : goal.returns-in-InvalidUpidLength
unfolding number_of
returns-in-InvalidUpidLength c = rw c.in-InvalidUpidLength.is
