-- `c_items::upids::flat_eidr`: each byte in its place.
use Rattle.std.proofs.Common.{rules}
use Rattle.c_section.proofs.Arrays.{made}
use Rattle.c_items.proofs.upids.flat_eidr.Goals as goal

pub returns : goal.returns
returns c = made _ _ 12 _ c.args.e (search rules) (λ i y q h k. (search rules, search rules)) c.from_fn.ensures.items
