-- `c_items::descriptors::active_item` meets its contract.
use Rattle.c_items.specs.FlatItem.{blank_item, segmentation_item}
use Rattle.c_items.proofs.descriptors.active_item.Goals as goal

pub returns : goal.returns
unfolding blank_item segmentation_item
returns c = rw (c.blank_item-out.ensures, c.active_segmentation-out.ensures, c.flat_view-out.ensures)
