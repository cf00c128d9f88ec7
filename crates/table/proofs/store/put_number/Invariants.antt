-- `table::store::put_number`: the low bytes stand in the target from at + i on, and `high` is what is left of the number.
use Rattle.std.proofs.Common.{◌≡◌, ◌+◌, ◌-◌, ◌*◌, ◌/◌, ◌^◌}
use Rattle.table.specs.Bits.{big_endian}
use Rattle.table.specs.Lent.{stored}
use Rattle.table.proofs.store.put_number.Given as goal

abbrev pub invariant-loop-i : goal.invariant-loop-i
invariant-loop-i l = (l.high ≡ l.v / 2 ^ ((l.n - l.i) * 8)) × (l.out ≡ stored l.initial.out (l.at + l.i) (big_endian (l.n - l.i) l.v))
