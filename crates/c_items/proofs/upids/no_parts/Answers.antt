-- `c_items::upids::no_parts` meets its contract.
use mathlib.Core.Path.{refl}
use Rattle.c_items.specs.FlatUpid.{no_parts}
use Rattle.c_items.proofs.upids.no_parts.Goals as goal

pub returns : goal.returns
unfolding no_parts
returns c = refl
