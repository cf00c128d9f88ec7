-- `c_items::segmentations::active_segmentation` meets its contract.
use Rattle.c_items.specs.FlatItem.{active_segmentation}
use Rattle.c_items.proofs.segmentations.active_segmentation.Goals as goal

pub returns : goal.returns
unfolding active_segmentation
returns c = rw (c.flat_flag.ensures, c.flat_flag-2.ensures, c.flat_flag-3.ensures, c.flat_restrictions.ensures, c.component_count.ensures, c.duration.ensures, c.from.ensures, c.flat_sub_segments.ensures)
