-- `scte35::adjusting::scte35_undo_adjustment` meets its contract: it is what it calls.
use Rattle.scte35.proofs.adjusting.scte35_undo_adjustment.Goals as goal

pub returns : goal.returns
returns c = rw (c.flat_adjustment.ensures, c.undo.ensures)
