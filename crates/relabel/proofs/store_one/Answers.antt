-- `relabel::store_one`.
use Rattle.relabel.proofs.Stores.{one_stored}
use Rattle.relabel.proofs.store_one.Goals as goal

pub returns : goal.returns
returns c = one_stored _ _ _ c.requires
