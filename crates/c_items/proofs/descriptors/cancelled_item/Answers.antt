-- `c_items::descriptors::cancelled_item` meets its contract.
use Rattle.c_items.specs.FlatItem.{blank_item, segmentation_item}
use Rattle.c_items.proofs.descriptors.cancelled_item.Goals as goal

pub returns : goal.returns
unfolding blank_item segmentation_item
returns c = rw (c.blank_item-out.ensures, c.segmentation_head-out.ensures)
