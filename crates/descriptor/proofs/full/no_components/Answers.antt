-- `descriptor::full::no_components`, by definition.
use mathlib.Core.Path.{refl}
use Rattle.descriptor.specs.Full.{filled}
use Rattle.descriptor.proofs.full.no_components.Goals as goal

pub returns : goal.returns
unfolding filled
returns c = refl
