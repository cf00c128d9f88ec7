-- `c_items::upids::flat_part` meets its contract.
use mathlib.Core.Path.{refl}
use Rattle.c_items.specs.FlatUpid.{flat_part}
use Rattle.c_items.proofs.upids.flat_part.Goals as goal

pub returns : goal.returns
unfolding flat_part
returns c = refl
