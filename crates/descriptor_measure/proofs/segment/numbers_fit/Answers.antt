-- `descriptor_measure::segment::numbers_fit`, part by part.
use native.Mathlib.Omega.{arith}
use Rattle.descriptor_measure.proofs.Tests.{no_mode_fit, no_duration_fit, no_type_fit, sub_fits}
use Rattle.descriptor_measure.proofs.segment.numbers_fit.Goals as goal

pub returns-then-not-count_fits : goal.returns-then-not-count_fits
returns-then-not-count_fits c = (no_mode_fit c.args.i _ _ c.count_fits.ensures.0 c.if-not-count_fits.true-raw, c.count_fits.ensures.1)

pub returns-then-not-duration_fits : goal.returns-then-not-duration_fits
returns-then-not-duration_fits c = (no_duration_fit c.args.i _ _ c.count_fits.ensures.0 c.if-not-count_fits.false-raw _ c.duration_fits.ensures c.if-not-duration_fits.true-raw, c.count_fits.ensures.1)

pub returns-then-wide-gt255 : goal.returns-then-wide-gt255
returns-then-wide-gt255 c = (no_type_fit c.args.i _ _ c.count_fits.ensures.0 c.if-not-count_fits.false-raw _ c.duration_fits.ensures c.if-not-duration_fits.false-raw _ _ c.into.ensures c.wide.ensures.0 c.if-wide-gt255.true, c.count_fits.ensures.1)

pub returns : goal.returns
returns c = (sub_fits c.args.i _ _ c.count_fits.ensures.0 c.if-not-count_fits.false-raw _ c.duration_fits.ensures c.if-not-duration_fits.false-raw _ _ c.into.ensures c.wide.ensures.0 c.if-wide-gt255.false (omega (arith, c)) (omega (arith, c)) _ c.sub_segments_fit.ensures, c.count_fits.ensures.1)
