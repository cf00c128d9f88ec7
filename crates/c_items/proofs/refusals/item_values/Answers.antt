-- `c_items::refusals::item_values` meets its contract.
use Rattle.descriptor_loop.specs.Items.{values_of}
use Rattle.c_items.proofs.refusals.item_values.Goals as goal

pub returns-in-InvalidDescriptorLength : goal.returns-in-InvalidDescriptorLength
unfolding values_of
returns-in-InvalidDescriptorLength c = rw c.in-InvalidDescriptorLength.is

pub returns-in-Other : goal.returns-in-Other
unfolding values_of
returns-in-Other c = rw c.in-Other.is c.values.ensures
