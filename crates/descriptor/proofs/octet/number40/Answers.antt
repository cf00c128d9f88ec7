-- `descriptor::octet::number40`: one byte behind four.
use Rattle.descriptor.proofs.Octets.{is_five}
use Rattle.descriptor.proofs.octet.number40.Goals as goal

pub returns : goal.returns
returns c =
    let a = c.args in
    is_five a.s.now (λ j. (c.type_inv.s j).fits) a.at _ _ c.number32.ensures.0 c.wide.ensures.0 c.requires
