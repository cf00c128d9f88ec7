-- `scte35::scte35_read_segmentation_components` meets its contract.
use mathlib.Core.Path.{ap, ◌∙◌}
use Rattle.c_items.specs.FlatItem.{flat_beside}
use Rattle.scte35.proofs.scte35_read_segmentation_components.Goals as goal

pub returns : goal.returns
returns c = c.flat_beside.ensures ∙ ap flat_beside c.read_item.ensures
