-- `descriptor_loop::iteration::count_items` meets its contract: what was counted and what is left are all the items.
use Prim.Native.Nat.{◌+◌, ◌-◌, ◌≤◌}
use mathlib.Core.Path.{◌≡◌}
use lib.ListN.{length}
use Rattle.descriptor_loop.specs.Items.{items_from, items_of}
use Rattle.descriptor_loop.proofs.iteration.count_items.Given as goal

abbrev pub invariant-loop-offset : goal.invariant-loop-offset
invariant-loop-offset l =
    (length l.descriptors ≤ 4076) × (l.count ≤ l.offset) × (l.offset ≤ length l.descriptors) × (l.count + length (items_from (length l.descriptors - l.offset) l.descriptors l.offset) ≡ length (items_of l.descriptors))

abbrev pub decreases-loop-offset : goal.decreases-loop-offset
decreases-loop-offset l = length l.descriptors - l.offset
