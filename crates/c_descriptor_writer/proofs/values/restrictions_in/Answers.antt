-- `c_descriptor_writer::values::restrictions_in` meets its contract.
use Rattle.c_descriptor_writer.specs.ItemGiven.{restrictions_in}
use Rattle.c_descriptor_writer.proofs.values.restrictions_in.Goals as goal

pub returns : goal.returns
unfolding restrictions_in
returns c = rw (c.word_at-4.ensures, c.word_at-3.ensures, c.word_at-2.ensures, c.word_at.ensures)
