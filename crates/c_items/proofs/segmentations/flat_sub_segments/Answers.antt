-- `c_items::segmentations::flat_sub_segments` meets its contract.
use Rattle.c_items.specs.FlatItem.{flat_sub_segments}
use Rattle.c_items.proofs.segmentations.flat_sub_segments.Goals as goal

pub returns-in-None : goal.returns-in-None
unfolding flat_sub_segments
returns-in-None c = rw c.in-None.is

pub returns-in-Some : goal.returns-in-Some
unfolding flat_sub_segments
returns-in-Some c = rw c.in-Some.is
