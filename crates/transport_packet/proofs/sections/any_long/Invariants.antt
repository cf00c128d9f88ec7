-- `any_long`: the bytes from i on have a section that is too long where those from `at` on have one.
use mathlib.Core.Path.{◌≡◌}
use Prim.Native.Nat.{◌-◌}
use lib.ListN.{length, drop}
use Rattle.transport_packet.specs.Sections.{cut}
use Rattle.transport_packet.proofs.sections.any_long.Given as goal

abbrev pub invariant-loop-size : goal.invariant-loop-size
invariant-loop-size l = (cut (drop l.i l.s)).long ≡ (cut (drop l.at l.s)).long

abbrev pub decreases-loop-size : goal.decreases-loop-size
decreases-loop-size l = length l.s - l.i
