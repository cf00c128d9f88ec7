-- `descriptor::full::read_full_descriptor`: the reading, and what stands beside it.
use Rattle.descriptor.proofs.Besides.{full_is}
use Rattle.descriptor.proofs.full.read_full_descriptor.Goals as goal

pub returns : goal.returns
returns c =
    let a = c.args in
    full_is a.tag a.identifier a.payload.now _ c.read_descriptor-read.ensures _ c.identifier_of.ensures _ c.beside_of.ensures
