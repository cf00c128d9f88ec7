-- `descriptor::segmentation::active_with`, by definition.
use mathlib.Core.Path.{refl}
use Rattle.descriptor.specs.Descriptor.{active_with}
use Rattle.descriptor.proofs.segmentation.active_with.Goals as goal

pub returns : goal.returns
unfolding active_with
returns c = refl
