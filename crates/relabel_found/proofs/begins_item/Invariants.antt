-- `relabel_found::begins_item`: no item that was passed begins at the offset.
use Prim.Native.Nat.{◌-◌, ◌≤◌}
use lib.ListN.{length}
use Rattle.relabel_found.proofs.Walks.{Begins}
use Rattle.relabel_found.proofs.begins_item.Given as goal

abbrev pub invariant-loop-at : goal.invariant-loop-at
invariant-loop-at l = (l.at ≤ length l.items) × (fits : length l.items ≤ 4076) × Begins l.items fits l.offset l.at

abbrev pub decreases-loop-at : goal.decreases-loop-at
decreases-loop-at l = length l.items - l.at
