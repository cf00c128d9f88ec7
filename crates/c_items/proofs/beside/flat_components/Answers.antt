-- `c_items::beside::flat_components`: each component in its place.
use Rattle.std.proofs.Common.{rules}
use Rattle.c_items.specs.FlatItem.{flat_component}
use Rattle.c_section.proofs.Arrays.{made_map}
use Rattle.c_items.proofs.beside.flat_components.Goals as goal

pub returns : goal.returns
returns c = made_map _ _ 255 flat_component c.args.cs _ (search rules) (λ i y q h k. (search rules, search rules)) c.from_fn.ensures.items
