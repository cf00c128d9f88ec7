-- `upid::mid::blank` meets its contract, by computation.
use mathlib.Core.Path.{refl}
use Rattle.upid.specs.Upid.{listed}
use Rattle.upid.proofs.mid.blank.Goals as goal

pub returns : goal.returns
unfolding listed
returns c = refl
