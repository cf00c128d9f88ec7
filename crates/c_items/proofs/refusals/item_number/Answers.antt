-- `c_items::refusals::item_number` meets its contract.
use Rattle.descriptor_loop.specs.Items.{number_of}
use Rattle.c_items.proofs.refusals.item_number.Goals as goal

pub returns-in-InvalidDescriptorLength : goal.returns-in-InvalidDescriptorLength
unfolding number_of
returns-in-InvalidDescriptorLength c = rw c.in-InvalidDescriptorLength.is

pub returns-in-Other : goal.returns-in-Other
unfolding number_of
returns-in-Other c = rw c.in-Other.is c.number.ensures
