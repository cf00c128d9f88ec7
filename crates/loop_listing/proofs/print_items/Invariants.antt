-- Each step goes forward in the loop.
use Rattle.std.proofs.Common.{length, ◌-◌}
use Rattle.loop_listing.proofs.print_items.Given as goal

abbrev pub decreases-loop-offset : goal.decreases-loop-offset
decreases-loop-offset g l = length l.bytes - l.offset
