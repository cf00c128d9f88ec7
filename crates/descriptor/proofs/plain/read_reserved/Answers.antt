-- `descriptor::plain::read_reserved`: all bytes are left.
use Rattle.descriptor.proofs.Plains.{reserved_is}
use Rattle.descriptor.proofs.plain.read_reserved.Goals as goal

pub returns : goal.returns
returns c =
    let a = c.args in
    reserved_is a.payload.now a.tag
