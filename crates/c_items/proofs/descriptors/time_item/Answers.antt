-- `c_items::descriptors::time_item` meets its contract.
use Rattle.c_items.specs.FlatItem.{blank_item, flat_descriptor}
use Rattle.c_items.proofs.descriptors.time_item.Goals as goal

pub returns : goal.returns
unfolding blank_item flat_descriptor
returns c = rw (c.blank_item-out.ensures, c.flat_time_descriptor-out.ensures)
