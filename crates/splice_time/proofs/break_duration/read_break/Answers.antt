-- `splice_time::break_duration::read_break` meets its contract.
use Rattle.splice_time.proofs.Breaks.{no_break}
use Rattle.splice_time.proofs.break_duration.read_break.Goals as goal

pub returns-then-flagged : goal.returns-then-flagged
returns-then-flagged c = rw c.if-flagged.true c.read_lasting.ensures

pub returns : goal.returns
returns c = let a = c.args in rw c.if-flagged.false (no_break a.s.now a.at)
