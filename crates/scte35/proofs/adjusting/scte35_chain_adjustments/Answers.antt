-- `scte35::adjusting::scte35_chain_adjustments` meets its contract: it is what it calls.
use Rattle.scte35.proofs.adjusting.scte35_chain_adjustments.Goals as goal

pub returns : goal.returns
returns c = rw (c.flat_adjustment.ensures, c.chain.ensures)
