-- `descriptor_measure::segment::is_writable_active`, flag by flag.
use Rattle.names.specs.Segmentation.{writable_segmentation}
use Rattle.descriptor_measure.proofs.Tests.{writable_no_program, writable_no_lasting, writable_no_free, writable_type}
use Rattle.descriptor_measure.proofs.segment.is_writable_active.Goals as goal

pub returns-then-not-agree : goal.returns-then-not-agree
returns-then-not-agree c =
    writable_no_program c.args.i _ _ c.by_program.ensures c.agree.ensures c.if-not-agree.true-raw

pub returns-then-not-agree-2 : goal.returns-then-not-agree-2
returns-then-not-agree-2 c =
    writable_no_lasting c.args.i _ _ c.by_program.ensures c.agree.ensures c.if-not-agree.false-raw _ _ c.lasts.ensures c.agree-2.ensures c.if-not-agree-2.true-raw

pub returns-then-not-agree-3 : goal.returns-then-not-agree-3
returns-then-not-agree-3 c =
    writable_no_free c.args.i _ _ c.by_program.ensures c.agree.ensures c.if-not-agree.false-raw _ _ c.lasts.ensures c.agree-2.ensures c.if-not-agree-2.false-raw _ _ c.is_free.ensures c.agree-3.ensures c.if-not-agree-3.true-raw

pub returns : goal.returns
unfolding writable_segmentation
returns c =
    writable_type c.args.i _ _ c.by_program.ensures c.agree.ensures c.if-not-agree.false-raw _ _ c.lasts.ensures c.agree-2.ensures c.if-not-agree-2.false-raw _ _ c.is_free.ensures c.agree-3.ensures c.if-not-agree-3.false-raw _ c.writable.ensures
