-- Each turn counts one part at most, and adds a number of 32 bits.
use Rattle.std.proofs.Common.{◌*◌, ◌≤◌, ◌^◌}
use Rattle.run_crc.proofs.parts.Given as goal

abbrev pub invariant-loop-n : goal.invariant-loop-n
invariant-loop-n g l = (l.differ ≤ l.n) × (l.sum ≤ l.n * 2 ^ 32)
