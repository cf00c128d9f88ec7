-- `relabel_upid::store_part` meets its contract: six stores, one behind the other.
use mathlib.Core.Path.{ap, ◌∙◌}
use Prim.Native.Nat.{◌+◌}
use native.Mathlib.Omega.{arith}
use lib.ListN.{length}
use Rattle.table.proofs.Stores.{length_stored}
use Rattle.relabel_upid.proofs.Stores.{mendable, prior_slice, back_slice, store_all}
use Rattle.relabel_upid.proofs.store_part.Goals as goal

pub mend-requires : goal.mend-requires
mend-requires c =
    let a = c.args in
    mendable a.upid.now a.i a.head _ _ a.new.now a.target.now _ c.requires c.size-old.ensures.0 (omega arith) (ap length c.put_bytes.ensures ∙ length_stored _ _ _)

pub returns : goal.returns
returns c =
    let a = c.args in
    let end = a.head + 2 + c.size-old.result in
    store_all a.upid.now a.i a.new_type a.new.now a.target.now _ _ _ _ _ _ _ _ a.head (a.head + 2) end c.requires
    (omega arith) (omega (arith, c.requires.starts, c.requires.has, c.size-old.ensures.0))
    (prior_slice a.head a.upid.now) (back_slice end a.upid.now)
    c.put_bytes.ensures c.mend.ensures c.put_byte.ensures c.put_byte-2.ensures c.put_bytes-2.ensures c.put_bytes-3.ensures
