-- `c_descriptor_writer::values::sub_segments_in` meets its contract.
use Rattle.c_descriptor_writer.specs.ItemGiven.{sub_segments_in}
use Rattle.c_descriptor_writer.proofs.values.sub_segments_in.Goals as goal

pub returns : goal.returns
unfolding sub_segments_in
returns c = rw (c.word_at-3.ensures, c.word_at-2.ensures, c.word_at.ensures)
