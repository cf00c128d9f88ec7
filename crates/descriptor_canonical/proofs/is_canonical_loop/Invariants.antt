-- `descriptor_canonical::is_canonical_loop`. The loop's invariant: what is left says what the whole says.
use Prim.Native.Nat.{◌-◌, ◌≤◌}
use mathlib.Core.Path.{◌≡◌}
use lib.ListN.{length, drop}
use Rattle.canonical_form.specs.Descriptor.{canonical_loop}
use Rattle.descriptor_canonical.proofs.is_canonical_loop.Given as goal

abbrev pub invariant-loop-at : goal.invariant-loop-at
invariant-loop-at l = (l.at ≤ length l.descriptors) × (canonical_loop (drop l.at l.descriptors) ≡ canonical_loop l.descriptors)

abbrev pub decreases-loop-at : goal.decreases-loop-at
decreases-loop-at l = length l.descriptors - l.at
