-- `descriptor::segmentation::checked_upid`: the answer of the UPID's own rules, its view moved.
use mathlib.Core.Path.{refl, ap, ◌∙◌}
use native.Mathlib.Omega.{arith}
use Rattle.descriptor.proofs.Segmentations.{upid_fine, upid_refused_lem, text_fits}
use Rattle.descriptor.proofs.segmentation.checked_upid.Goals as goal
use Rattle.std.proofs.Common.{Err}

pub overflow_add-result : goal.overflow_add-result
overflow_add-result c =
    let a = c.args in
    omega (arith, text_fits a.payload.now a.written _ _ c.view-part.ensures c.check_upid.ensures _ _ (c.in-Err.is ∙ ap Err c.in-InvalidUpidContent.is))

pub returns-in-Ok : goal.returns-in-Ok
returns-in-Ok c =
    let a = c.args in
    upid_fine a.payload.now a.written _ _ c.view-part.ensures c.check_upid.ensures _ _ c.in-Ok.is c.reported.ensures

pub returns-in-InputTooLong : goal.returns-in-InputTooLong
returns-in-InputTooLong c =
    let a = c.args in
    upid_refused_lem a.payload.now a.written _ _ c.view-part.ensures c.check_upid.ensures _ _ (c.in-Err.is ∙ ap Err c.in-InputTooLong.is) c.in-InputTooLong.is

pub returns-in-NotEnoughData : goal.returns-in-NotEnoughData
returns-in-NotEnoughData c =
    let a = c.args in
    upid_refused_lem a.payload.now a.written _ _ c.view-part.ensures c.check_upid.ensures _ _ c.in-Err.is (rw c.in-NotEnoughData.is)

pub returns-in-UpidLengthTypeMismatch : goal.returns-in-UpidLengthTypeMismatch
returns-in-UpidLengthTypeMismatch c =
    let a = c.args in
    upid_refused_lem a.payload.now a.written _ _ c.view-part.ensures c.check_upid.ensures _ _ (c.in-Err.is ∙ ap Err c.in-UpidLengthTypeMismatch.is) c.in-UpidLengthTypeMismatch.is

pub returns-in-InvalidUpidContent : goal.returns-in-InvalidUpidContent
returns-in-InvalidUpidContent c =
    let a = c.args in
    upid_refused_lem a.payload.now a.written _ _ c.view-part.ensures c.check_upid.ensures _ _ (c.in-Err.is ∙ ap Err c.in-InvalidUpidContent.is) refl

pub returns-in-InvalidUpidLength : goal.returns-in-InvalidUpidLength
returns-in-InvalidUpidLength c =
    let a = c.args in
    upid_refused_lem a.payload.now a.written _ _ c.view-part.ensures c.check_upid.ensures _ _ c.in-Err.is (rw c.in-InvalidUpidLength.is)
