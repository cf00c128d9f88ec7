-- The number stays below 2 ^ 31.
use Rattle.std.proofs.Common.{◌<◌, ◌^◌}
use Rattle.run_crc.proofs.fill.Given as goal

abbrev pub invariant-loop-byte : goal.invariant-loop-byte
invariant-loop-byte l = l.x < 2 ^ 31
