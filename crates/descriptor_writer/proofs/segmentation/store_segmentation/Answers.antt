-- `descriptor_writer::segmentation::store_segmentation`, cancelled or not.
use Rattle.descriptor_writer.proofs.Segmenting.{cancel_stores, payload_stores, active_seen}
use Rattle.descriptor_writer.proofs.segmentation.store_segmentation.Goals as goal

pub store_active-requires : goal.store_active-requires
store_active-requires c = active_seen _ _ _ c.in-Active.is c.requires

pub returns-in-Cancel : goal.returns-in-Cancel
returns-in-Cancel c =
    let a = c.args in
    λ cs e. cancel_stores a.x _ _ _ _ _ _ _ c.in-Cancel.is c.store_head.ensures

pub returns-in-Active : goal.returns-in-Active
returns-in-Active c =
    let a = c.args in
    λ cs e. payload_stores a.x _ _ _ _ _ _ _ _ _ _ c.in-Active.is c.store_head-second.ensures (c.store_active.ensures cs e)
