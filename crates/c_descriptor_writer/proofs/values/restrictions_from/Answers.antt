-- `c_descriptor_writer::values::restrictions_from` meets its contract.
use Rattle.c_descriptor_writer.specs.ItemGiven.{restrictions_from}
use Rattle.c_descriptor_writer.proofs.values.restrictions_from.Goals as goal

pub returns : goal.returns
unfolding restrictions_from
returns c = rw c.device_from.ensures
