-- `c_items::beside::flat_component` meets its contract.
use mathlib.Core.Path.{refl}
use Rattle.c_items.specs.FlatItem.{flat_component}
use Rattle.c_items.proofs.beside.flat_component.Goals as goal

pub returns : goal.returns
unfolding flat_component
returns c = refl
