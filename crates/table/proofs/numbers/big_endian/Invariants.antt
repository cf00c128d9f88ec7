-- `table::numbers::big_endian`: the bytes that are behind stand in v.
use Prim.Native.Nat.{◌+◌, ◌-◌, ◌*◌, ◌%◌, ◌^◌, ◌≤◌}
use mathlib.Core.Path.{◌≡◌}
use Rattle.table.specs.Bits.{bits_of, field}
use Rattle.table.proofs.numbers.big_endian.Given as goal

abbrev pub invariant-loop-ahead : goal.invariant-loop-ahead
invariant-loop-ahead l = (l.ahead ≤ l.n) × (l.i ≡ l.at + (l.n - l.ahead)) × (l.v ≡ field (bits_of l.s) (l.at * 8) (l.n * 8 - l.ahead * 8) % 2 ^ 64)

abbrev pub decreases-loop-ahead : goal.decreases-loop-ahead
decreases-loop-ahead l = l.ahead
