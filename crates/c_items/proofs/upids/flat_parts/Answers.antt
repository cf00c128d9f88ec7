-- `c_items::upids::flat_parts`: each part in its place.
use Rattle.std.proofs.Common.{rules}
use Rattle.c_items.specs.FlatUpid.{flat_part}
use Rattle.c_section.proofs.Arrays.{made_map}
use Rattle.c_items.proofs.upids.flat_parts.Goals as goal

pub returns : goal.returns
returns c = made_map _ _ 127 flat_part c.args.ps _ (search rules) (λ i y q h k. (search rules, search rules)) c.from_fn.ensures.items
