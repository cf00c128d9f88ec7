-- `c_items::descriptors::dtmf_item` meets its contract.
use Rattle.c_items.specs.FlatItem.{blank_item, flat_descriptor}
use Rattle.c_items.proofs.descriptors.dtmf_item.Goals as goal

pub returns : goal.returns
unfolding blank_item flat_descriptor
returns c = rw (c.blank_item-out.ensures, c.flat_view-out.ensures)
