-- `descriptor_measure::segment::duration_fits`, by cases.
use Rattle.descriptor_measure.proofs.Tests.{duration_byte}
use Rattle.descriptor_measure.proofs.segment.duration_fits.Goals as goal

pub returns-in-Some : goal.returns-in-Some
returns-in-Some c = duration_byte _ _ c.in-Some.is
