-- `descriptor::octet::number32`: four bytes, each behind those before it.
use Rattle.descriptor.proofs.Octets.{is_four}
use Rattle.descriptor.proofs.octet.number32.Goals as goal

pub returns : goal.returns
returns c =
    let a = c.args in
    is_four a.s.now (λ j. (c.type_inv.s j).fits) a.at _ _ _ _ c.wide.ensures.0 c.wide-2.ensures.0 c.wide-3.ensures.0 c.wide-4.ensures.0 c.requires
