-- `descriptor::segmentation::read_active`: front, UPID and back in turn.
use Rattle.std.proofs.lemmas.Result.{err_from_is_err_and}
use Prim.Native.Nat.{◌*◌}
use mathlib.Core.Path.{sym, ◌∙◌}
use Rattle.descriptor.specs.Private.{lacking, front_read, back_read}
use Rattle.descriptor.proofs.Parts.{told}
use Rattle.descriptor.proofs.Segmentations.{front_inside, no_front, bad_upid, no_back, active_is}
use Rattle.descriptor.proofs.segmentation.read_active.Goals as goal

pub returns-in_err-fronted : goal.returns-in_err-fronted
unfolding lacking
returns-in_err-fronted c =
    let p = err_from_is_err_and c.from_residual.result c.from_residual.ensures.1 in
    let a = c.args in
    rw (p.1, p.2) (no_front a.payload.now a.event (a.at * 8) _ (told front_read _ _ _ c.in_err-fronted.was c.read_front.ensures))

pub returns-in_err-segmentation_upid : goal.returns-in_err-segmentation_upid
returns-in_err-segmentation_upid c =
    let p = err_from_is_err_and c.from_residual-in_err-segmentation_upid.result c.from_residual-in_err-segmentation_upid.ensures.1 in
    let a = c.args in
    let g = told front_read _ _ _ c.in_ok-fronted.was c.read_front.ensures in
    rw (p.1, p.2) (bad_upid a.payload.now a.event (a.at * 8) _ _ _ g.1 _ (sym c.in_err-segmentation_upid.was ∙ c.checked_upid.ensures))

pub read_back-requires : goal.read_back-requires
read_back-requires c =
    let a = c.args in
    let g = told front_read _ _ _ c.in_ok-fronted.was c.read_front.ensures in
    front_inside a.payload.now a.at _ _ g.1

pub returns-in_err-back : goal.returns-in_err-back
unfolding lacking
returns-in_err-back c =
    let p = err_from_is_err_and c.from_residual-in_err-back.result c.from_residual-in_err-back.ensures.1 in
    let a = c.args in
    let g = told front_read _ _ _ c.in_ok-fronted.was c.read_front.ensures in
    rw (p.1, p.2) (no_back a.payload.now a.event (a.at * 8) _ _ _ g.1 _ (sym c.in_ok-segmentation_upid.was ∙ c.checked_upid.ensures) _ (told back_read _ _ _ c.in_err-back.was c.read_back.ensures))

pub returns : goal.returns
returns c =
    let a = c.args in
    let g = told front_read _ _ _ c.in_ok-fronted.was c.read_front.ensures in
    c.active_with.ensures ∙ active_is a.payload.now a.event (a.at * 8) _ _ _ g.1 _ (sym c.in_ok-segmentation_upid.was ∙ c.checked_upid.ensures) _ _ (told back_read _ _ _ c.in_ok-back.was c.read_back.ensures).1
