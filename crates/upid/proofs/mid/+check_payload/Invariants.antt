-- `upid::mid::check_payload` calls itself on a part of its slice, so its measure is the slice's length. The walk's invariant: what is left
-- is read as the whole is.
use Prim.Native.Nat.{◌+◌, ◌-◌, ◌≤◌}
use mathlib.Core.Path.{◌≡◌}
use lib.ListN.{length, drop}
use Rattle.upid.specs.Upid.{read_of}
use Rattle.upid.proofs.mid.+check_payload.Given as goal

abbrev pub decreases-check_payload : goal.decreases-check_payload
decreases-check_payload l = length l.s.now

abbrev pub invariant-walk : goal.invariant-walk
invariant-walk l = (l.at ≤ length l.s) × (read_of l.upid_type l.start l.s ≡ read_of 13 (l.start + l.at) (drop l.at l.s))

abbrev pub decreases-walk : goal.decreases-walk
decreases-walk l = length l.s - l.at
