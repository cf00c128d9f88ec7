-- `relabel::store_back`: two stores, and the CRC between them.
use mathlib.Core.Path.{refl}
use Rattle.relabel.proofs.Stores.{back_stored}
use Rattle.relabel.proofs.store_back.Goals as goal

pub returns : goal.returns
returns c =
    let a = c.args in
    back_stored a.section.now a.p a.n a.target.now _ _ _ _ refl c.put_bytes.ensures c.crc32-crc.ensures c.put_number.ensures
