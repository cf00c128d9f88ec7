-- `c_items::descriptors::blank_item` meets its contract.
use Rattle.c_items.specs.FlatItem.{blank_item}
use Rattle.c_items.proofs.descriptors.blank_item.Goals as goal

pub returns : goal.returns
unfolding blank_item
returns c = rw c.segmentation_head.ensures
