-- `scte35::scte35_read_item` meets its contract.
use mathlib.Core.Path.{ap, ◌∙◌}
use Rattle.c_items.specs.FlatItem.{flat_step}
use Rattle.scte35.proofs.scte35_read_item.Goals as goal

pub returns : goal.returns
returns c = c.flat_step.ensures ∙ ap flat_step c.step.ensures
