-- `descriptor_writer::segmentation::store_active`, part by part.
use Rattle.descriptor_measure.specs.Writing.{upid_source}
use Rattle.descriptor_writer.proofs.Segmenting.{active_stores}
use Rattle.descriptor_writer.proofs.segmentation.store_active.Goals as goal

pub returns : goal.returns
returns c =
    let a = c.args in
    let src = upid_source a.i.segmentation_upid a.eidr a.lent.now in
    λ cs e. active_stores a.i cs src _ _ _ c.by_program.ensures c.lasts.ensures c.is_free-free.ensures _ _ _ _ _ _ _ _ _ _ _ _ (c.store_flags-second.ensures src) (c.store_mode-third.ensures src cs e) (c.store_duration-fourth.ensures src) c.store_written_upid-fifth.ensures (c.store_back.ensures src)
