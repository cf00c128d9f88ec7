-- `descriptor::full::list_components`. The loop's invariant: what is left, stored from a place on, gives what the whole gives.
use Rattle.std.proofs.Common.{◌≡◌, ◌-◌, ◌≤◌, [], length}
use Rattle.descriptor.specs.Full.{filled}
use Rattle.descriptor.proofs.Besides.{filling_from}
use Rattle.descriptor.proofs.full.list_components.Given as goal

abbrev pub invariant-loop-at : goal.invariant-loop-at
invariant-loop-at l = (length l.out ≡ 255) × (l.next ≤ length l.s) × (filling_from l.s l.out l.at (l.n - l.at) l.next ≡ filling_from l.s (filled []) 0 l.n l.initial.next)
