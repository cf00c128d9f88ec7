-- `c_items::segmentations::segmentation_head` meets its contract.
use Rattle.c_items.specs.FlatItem.{segmentation_head}
use Rattle.c_items.proofs.segmentations.segmentation_head.Goals as goal

pub returns : goal.returns
unfolding segmentation_head
returns c = rw (c.flat_restrictions.ensures, c.flat_sub_segments.ensures)
