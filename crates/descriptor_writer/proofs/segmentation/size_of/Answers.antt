-- `descriptor_writer::segmentation::size_of`, cancelled or not.
use Rattle.descriptor_writer.proofs.Segmenting.{size_cancel, size_active, active_short}
use Rattle.descriptor_writer.proofs.segmentation.size_of.Goals as goal

pub size_of_active-requires : goal.size_of_active-requires
size_of_active-requires c = active_short _ _ c.in-Active.is c.requires

pub returns-in-Cancel : goal.returns-in-Cancel
returns-in-Cancel c = size_cancel _ c.in-Cancel.is

pub returns-in-Active : goal.returns-in-Active
returns-in-Active c = size_active _ _ _ c.in-Active.is c.size_of_active.ensures
