-- `bit_stores::put_across`: of the field, w - ahead bits are stored, and the byte `at` goes on where they end.
use Prim.Native.Nat.{◌+◌, ◌-◌, ◌*◌, ◌/◌, ◌^◌, ◌≤◌, ◌<◌}
use mathlib.Core.Path.{◌≡◌}
use Rattle.table.specs.Bits.{bits_of_num}
use Rattle.bit_stores.specs.Pen.{penned}
use Rattle.bit_stores.proofs.put_across.Given as goal

abbrev pub invariant-loop-ahead : goal.invariant-loop-ahead
invariant-loop-ahead l =
    (l.ahead ≤ l.w) × (l.behind < 8) × (l.at * 8 + l.behind ≡ l.byte * 8 + l.bit + (l.w - l.ahead)) × (l.out ≡ penned l.initial.out (l.byte * 8 + l.bit) (bits_of_num (l.w - l.ahead) (l.v / 2 ^ l.ahead)))

abbrev pub decreases-loop-ahead : goal.decreases-loop-ahead
decreases-loop-ahead l = l.ahead
