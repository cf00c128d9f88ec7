-- `c_descriptor_writer::values::item_in` meets its contract.
use Rattle.c_descriptor_writer.specs.ItemGiven.{item_in}
use Rattle.c_descriptor_writer.proofs.values.item_in.Goals as goal

pub returns : goal.returns
unfolding item_in
returns c = rw (c.word_at-9.ensures, c.word_at-8.ensures, c.word_at-7.ensures, c.word_at-6.ensures, c.word_at-5.ensures, c.word_at-4.ensures, c.segmentation_in.ensures, c.word_at-3.ensures, c.word_at-2.ensures, c.word_at.ensures)
