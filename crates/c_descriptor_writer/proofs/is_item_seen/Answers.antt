-- `c_descriptor_writer::is_item_seen`: the view that the last two words are.
use mathlib.Core.Path.{◌∙◌}
use Rattle.c_descriptor_writer.specs.ItemWords.{item_seen}
use Rattle.c_descriptor_writer.proofs.is_item_seen.Goals as goal

pub returns : goal.returns
unfolding item_seen
returns c = c.lies_in.ensures ∙ rw (c.word_at-2.ensures, c.word_at.ensures)
