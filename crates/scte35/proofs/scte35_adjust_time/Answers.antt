-- `scte35::scte35_adjust_time` meets its contract: it is what it calls.
use Rattle.scte35.proofs.scte35_adjust_time.Goals as goal

pub returns : goal.returns
returns c = rw (c.flat_adjusted.ensures, c.adjusted_time.ensures, c.time_from.ensures)
