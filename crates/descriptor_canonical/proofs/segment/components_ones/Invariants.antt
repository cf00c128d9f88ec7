-- `descriptor_canonical::segment::components_ones`. The loop's invariant: what is left says what the whole says.
use Rattle.std.proofs.Common.{◌≡◌, ◌+◌, ◌-◌, ◌*◌}
use Rattle.descriptor_canonical.specs.Private.{components_ones}
use Rattle.descriptor_canonical.proofs.segment.components_ones.Given as goal

abbrev pub invariant-loop-i : goal.invariant-loop-i
invariant-loop-i l = components_ones (l.n - l.i) l.s (7 + l.i * 6) ≡ components_ones l.n l.s 7
