-- `relabel::store_around`: two stores, one on the other.
use mathlib.Core.Path.{ap, ◌∙◌}
use Rattle.relabel.specs.Private.{sealed}
use Rattle.relabel.proofs.store_around.Goals as goal

pub returns : goal.returns
returns c =
    let a = c.args in
    c.store_back.ensures ∙ ap (sealed a.section.now a.p a.n) c.store_front.ensures
