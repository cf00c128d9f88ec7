-- `upid::mid::list_parts` meets its contract. The loop's invariant: what is left of each open MID was accepted, and the parts that are left of them go
-- after those of `out`; each level and each part took two bytes of head, so that both have their places. The measure: a turn goes two bytes on or leaves
-- a MID. In the answers `start`, `loop`, `turn` and `part` are the places where the function, the loop, its turn and a part begin.
use Prim.Native.Nat.{◌+◌, ◌*◌, ◌-◌, ◌≤◌}
use mathlib.Core.Path.{◌≡◌}
use lib.ListN.{length}
use Rattle.upid.specs.Upid.{list_of, listed}
use Rattle.upid.specs.Private.{grown, Open, pending}
use Rattle.upid.proofs.mid.list_parts.Given as goal

abbrev pub invariant-walk : goal.invariant-walk
invariant-walk l =
    (l.at ≤ length l.s)
    × (2 * l.level ≤ l.at + 2)
    × (2 * l.out.count ≤ l.at)
    × Open l.s l.ends l.level l.at
    × (listed (list_of l.upid_type 1 0 l.s) ≡ grown l.out (pending l.s l.ends l.level l.at))
    × (length l.ends ≡ 128)

abbrev pub decreases-walk : goal.decreases-walk
decreases-walk l = 2 * (length l.s - l.at) + l.level
