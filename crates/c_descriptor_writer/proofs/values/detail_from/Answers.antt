-- `c_descriptor_writer::values::detail_from` meets its contract.
use Rattle.c_descriptor_writer.specs.ItemGiven.{detail_from}
use Rattle.c_descriptor_writer.proofs.values.detail_from.Goals as goal

pub returns : goal.returns
unfolding detail_from
returns c = rw (c.sub_segments_from.ensures, c.from.ensures, c.duration_from.ensures, c.mode_from.ensures, c.delivery_from.ensures)
