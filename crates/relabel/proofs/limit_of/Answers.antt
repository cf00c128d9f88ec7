-- `relabel::limit_of`.
use mathlib.Core.Path.{refl}
use Rattle.relabel.proofs.Mades.{limit_is}
use Rattle.relabel.proofs.limit_of.Goals as goal

pub returns : goal.returns
returns c =
    let a = c.args in
    let l = c.lesser.ensures in
    limit_is a.section.now a.p _ _ _ _ _ c.requires c.size.ensures.0 refl refl refl l.0 l.1 l.2 l.3
