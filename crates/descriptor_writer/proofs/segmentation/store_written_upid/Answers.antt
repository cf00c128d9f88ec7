-- `descriptor_writer::segmentation::store_written_upid`: kind and length as one number, and the bytes by kind.
use mathlib.Core.Path.{refl, ◌∙◌}
use native.Mathlib.Omega.{arith}
use Rattle.descriptor_writer.proofs.Segmenting.{upid_of_eidr, upid_of_view}
use Rattle.descriptor_writer.proofs.segmentation.store_written_upid.Goals as goal

pub returns-then-u-eq-UPID_EIDR : goal.returns-then-u-eq-UPID_EIDR
returns-then-u-eq-UPID_EIDR c =
    let a = c.args in
    upid_of_eidr _ _ _ _ _ _ a.u _ a.lent.now _ _ _ (c.wide-upid_type.ensures.0 ∙ c.written_type.ensures) c.upid_size.ensures refl c.if-u-eq-UPID_EIDR.true (omega (arith, c)) c.put_bits-second.ensures c.put_run.ensures

pub returns : goal.returns
returns c =
    let a = c.args in
    upid_of_view _ _ _ _ _ _ a.u _ a.lent.now _ _ _ (c.wide-upid_type.ensures.0 ∙ c.written_type.ensures) c.upid_size.ensures refl c.if-u-eq-UPID_EIDR.false c.requires _ c.view-part.ensures c.put_bits-second.ensures c.put_run-2.ensures
