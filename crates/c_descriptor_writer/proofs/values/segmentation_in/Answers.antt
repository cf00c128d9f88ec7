-- `c_descriptor_writer::values::segmentation_in` meets its contract.
use Rattle.c_descriptor_writer.specs.ItemGiven.{segmentation_in}
use Rattle.c_descriptor_writer.proofs.values.segmentation_in.Goals as goal

pub returns : goal.returns
unfolding segmentation_in
returns c = rw (c.sub_segments_in.ensures, c.word_at-11.ensures, c.word_at-10.ensures, c.word_at-9.ensures, c.word_at-8.ensures, c.word_at-7.ensures, c.word_at-6.ensures, c.restrictions_in.ensures, c.word_at-5.ensures, c.word_at-4.ensures, c.word_at-3.ensures, c.word_at-2.ensures, c.word_at.ensures)
