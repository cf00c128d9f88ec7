-- `table::store::put_bytes`: the first i bytes stand in the target.
use Rattle.std.proofs.Common.{◌≡◌, take}
use Rattle.table.specs.Lent.{stored}
use Rattle.table.proofs.store.put_bytes.Given as goal

abbrev pub invariant-loop-i : goal.invariant-loop-i
invariant-loop-i l = l.out ≡ stored l.initial.out l.at (take l.i l.src)
