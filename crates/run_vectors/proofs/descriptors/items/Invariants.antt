-- Each turn goes forward.
use Rattle.std.proofs.Common.{length, ◌-◌}
use Rattle.run_vectors.proofs.descriptors.items.Given as goal

abbrev pub decreases-loop-offset : goal.decreases-loop-offset
decreases-loop-offset g l = length l.lent - l.offset
