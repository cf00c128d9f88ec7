-- `c_descriptor_writer::is_own_item` meets its contract.
use mathlib.Core.Path.{ap, ◌∙◌}
use lib.ListN.{drop}
use Rattle.c_items.specs.FlatItem.{flat_step, flat_item}
use Rattle.c_items.specs.declared.steps.FlatStep.{FlatStep}
use Rattle.c_command_writer.specs.Words.{same}
use Rattle.c_descriptor_writer.specs.ItemGiven.{own_item}
use Rattle.c_descriptor_writer.specs.ItemWords.{item_words}
use Rattle.c_descriptor_writer.proofs.is_own_item.Goals as goal

pub returns : goal.returns
unfolding own_item flat_step flat_item
returns c =
    let a = c.args in
    c.is_flat_item.ensures ∙ ap (λ (s : FlatStep). same (item_words s.item) (drop 6 a.words.now)) c.flat_step-step.ensures
