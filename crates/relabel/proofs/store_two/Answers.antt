-- `relabel::store_two`: two stores as one.
use Rattle.relabel.proofs.Stores.{two_stored}
use Rattle.relabel.proofs.store_two.Goals as goal

pub returns : goal.returns
returns c =
    let a = c.args in
    two_stored a.target.now _ _ a.at a.v c.requires.1 c.requires.0 c.store_one.ensures c.store_one-2.ensures
