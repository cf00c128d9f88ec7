-- `scte35::adjusting::scte35_move_time` meets its contract: it is what it calls.
use Rattle.scte35.proofs.adjusting.scte35_move_time.Goals as goal

pub returns : goal.returns
returns c = rw (c.flat_moved.ensures, c.adjust.ensures, c.time_from.ensures)
