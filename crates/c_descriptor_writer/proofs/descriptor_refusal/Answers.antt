-- `c_descriptor_writer::descriptor_refusal`: 31, and then the words' own.
use mathlib.Core.Path.{sym, ◌∙◌}
use borrow.Author.Tests.{not-true, not-false}
use Rattle.c_descriptor_writer.specs.ItemGiven.{descriptor_refusal}
use Rattle.c_descriptor_writer.proofs.descriptor_refusal.Goals as goal

pub returns-then-not-is_item_seen : goal.returns-then-not-is_item_seen
unfolding descriptor_refusal
returns-then-not-is_item_seen c = rw (sym c.is_item_seen.ensures ∙ not-true _ c.if-not-is_item_seen.true-raw)

pub returns : goal.returns
unfolding descriptor_refusal
returns c = rw (sym c.is_item_seen.ensures ∙ not-false _ c.if-not-is_item_seen.false-raw) c.words_refusal.ensures
