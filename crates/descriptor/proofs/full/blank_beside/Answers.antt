-- `descriptor::full::blank_beside`, by definition.
use Rattle.descriptor.specs.Full.{blank_beside}
use Rattle.descriptor.proofs.full.blank_beside.Goals as goal

pub returns : goal.returns
unfolding blank_beside
returns c = rw c.no_components.ensures
