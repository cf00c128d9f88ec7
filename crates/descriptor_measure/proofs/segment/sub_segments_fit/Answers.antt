-- `descriptor_measure::segment::sub_segments_fit`: a byte fits.
use Rattle.descriptor_measure.proofs.Tests.{sub_over, sub_byte}
use Rattle.descriptor_measure.proofs.segment.sub_segments_fit.Goals as goal

pub returns-then-wide-gt255 : goal.returns-then-wide-gt255
returns-then-wide-gt255 c = sub_over _ _ c.in-Some.is _ c.wide.ensures.0 c.if-wide-gt255.true c.wide.ensures.1

pub returns-else-wide-gt255 : goal.returns-else-wide-gt255
returns-else-wide-gt255 c = sub_byte _ _ c.in-Some.is _ _ c.wide.ensures.0 c.if-wide-gt255.false c.wide-in-Some.ensures.0
