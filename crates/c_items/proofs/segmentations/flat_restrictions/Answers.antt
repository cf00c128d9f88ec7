-- `c_items::segmentations::flat_restrictions` meets its contract.
use Rattle.c_items.specs.FlatItem.{flat_restrictions}
use Rattle.c_items.proofs.segmentations.flat_restrictions.Goals as goal

pub returns-in-None : goal.returns-in-None
unfolding flat_restrictions
returns-in-None c = rw c.in-None.is

pub returns-in-Some : goal.returns-in-Some
unfolding flat_restrictions
returns-in-Some c = rw (c.in-Some.is, c.flat_flag.ensures, c.flat_flag-in-Some.ensures, c.flat_flag-in-Some-2.ensures, c.from.ensures)
