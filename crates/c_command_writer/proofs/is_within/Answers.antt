-- `c_command_writer::is_within`: what lies over the width is 0.
use Rattle.c_command_writer.proofs.Words.{within_64, within_shift}
use Rattle.c_command_writer.proofs.is_within.Goals as goal

pub returns-then-width-ge64 : goal.returns-then-width-ge64
returns-then-width-ge64 c = let a = c.args in within_64 a.width a.word c.ranges.word.fits c.if-width-ge64.true

pub returns : goal.returns
returns c = let a = c.args in within_shift a.width a.word
