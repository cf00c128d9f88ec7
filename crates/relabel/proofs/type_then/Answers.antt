-- `relabel::type_then`.
use Rattle.relabel.proofs.Stores.{type_more}
use Rattle.relabel.proofs.type_then.Goals as goal

pub returns : goal.returns
returns c = type_more _ _ _ c.if-part-eq0.false
