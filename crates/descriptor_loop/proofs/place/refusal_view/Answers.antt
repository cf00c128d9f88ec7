-- `descriptor_loop::place::refusal_view` meets its contract, case by case.
use Rattle.descriptor_loop.proofs.place.refusal_view.Goals as goal

pub returns-in-InputTooLong : goal.returns-in-InputTooLong
returns-in-InputTooLong c = rw c.in-InputTooLong.is

pub returns-in-NotEnoughData : goal.returns-in-NotEnoughData
returns-in-NotEnoughData c = rw c.in-NotEnoughData.is

pub returns-in-UpidLengthTypeMismatch : goal.returns-in-UpidLengthTypeMismatch
returns-in-UpidLengthTypeMismatch c = rw c.in-UpidLengthTypeMismatch.is

pub returns-in-InvalidUpidLength : goal.returns-in-InvalidUpidLength
returns-in-InvalidUpidLength c = rw c.in-InvalidUpidLength.is
