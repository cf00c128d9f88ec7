-- `descriptor::segmentation::read_segmentation`: the head, and what follows it.
use Rattle.std.proofs.lemmas.Result.{err_from_is_err_and}
use mathlib.Core.Path.{◌∙◌}
use Rattle.descriptor.specs.Private.{lacking, head_read}
use Rattle.descriptor.proofs.Parts.{told}
use Rattle.descriptor.proofs.Segmentations.{no_head, cancel_is, detail_from_lem}
use Rattle.descriptor.proofs.segmentation.read_segmentation.Goals as goal

pub returns-in_err-head : goal.returns-in_err-head
unfolding lacking
returns-in_err-head c =
    let p = err_from_is_err_and c.from_residual.result c.from_residual.ensures.1 in
    let a = c.args in
    rw (p.1, p.2) (no_head a.payload.now _ (told head_read _ _ _ c.in_err-head.was c.read_head.ensures))

pub returns-then-head : goal.returns-then-head
returns-then-head c =
    let a = c.args in
    cancel_is a.payload.now _ (told head_read _ _ _ c.in_ok-head.was c.read_head.ensures) c.if-head.true

pub returns : goal.returns
returns c =
    let a = c.args in
    c.read_active.ensures ∙ detail_from_lem a.payload.now _ (told head_read _ _ _ c.in_ok-head.was c.read_head.ensures) c.if-head.false
