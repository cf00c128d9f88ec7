-- `descriptor::full::beside_of`, by the kind of what was read.
use Rattle.descriptor.proofs.full.beside_of.Goals as goal

pub returns-in-Segmentation : goal.returns-in-Segmentation
returns-in-Segmentation c = rw (c.in-Ok.is, c.in-Segmentation.is) c.read_beside.ensures
