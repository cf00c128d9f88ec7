-- `command_measure::measure::verdict`, test by test.

use Rattle.command_measure.proofs.measure.verdict.Goals as goal

pub returns-then-writable : goal.returns-then-writable
returns-then-writable c = rw (c.if-fits.true, c.if-writable.true)

pub returns-then-fits : goal.returns-then-fits
returns-then-fits c = rw (c.if-fits.true, c.if-writable.false)

pub returns : goal.returns
returns c = rw c.if-fits.false
