-- `table::numbers::bits`: the bits of the field that are behind stand in v, and the byte goes on where they end.
use Prim.Native.Nat.{◌+◌, ◌-◌, ◌*◌, ◌%◌, ◌^◌, ◌≤◌, ◌<◌}
use mathlib.Core.Path.{◌≡◌}
use Rattle.table.specs.Bits.{bits_of, field}
use Rattle.table.proofs.numbers.bits.Given as goal

abbrev pub invariant-loop-ahead : goal.invariant-loop-ahead
invariant-loop-ahead l =
    (l.ahead ≤ l.w) × (l.behind < 8) × (l.at * 8 + l.behind ≡ l.i * 8 + l.j + (l.w - l.ahead)) × (l.v ≡ field (bits_of l.s) (l.i * 8 + l.j) (l.w - l.ahead) % 2 ^ 64)

abbrev pub decreases-loop-ahead : goal.decreases-loop-ahead
decreases-loop-ahead l = l.ahead
