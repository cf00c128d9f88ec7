-- `descriptor_canonical::segment::is_canonical_active`, test by test.
use Rattle.descriptor_canonical.proofs.Tests.{flags_short, flags_spoilt, by_program_lem, by_components}
use Rattle.descriptor_canonical.proofs.segment.is_canonical_active.Goals as goal

pub returns-then-s-lt6 : goal.returns-then-s-lt6
returns-then-s-lt6 c = flags_short c.args.s.now c.if-s-lt6.true

pub returns-then-not-flags_ones : goal.returns-then-not-flags_ones
returns-then-not-flags_ones c =
    flags_spoilt c.args.s.now c.if-s-lt6.false _ c.flags_ones.ensures c.if-not-flags_ones.true-raw

pub returns-then-b-eq1 : goal.returns-then-b-eq1
returns-then-b-eq1 c =
    by_program_lem c.args.s.now c.if-s-lt6.false _ c.flags_ones.ensures c.if-not-flags_ones.false-raw _ c.lasting_bytes-lasting.ensures.0 c.if-b-eq1.true _ c.is_canonical_upid.ensures

pub returns : goal.returns
returns c =
    by_components c.args.s.now c.if-s-lt6.false _ c.flags_ones.ensures c.if-not-flags_ones.false-raw _ c.lasting_bytes-lasting.ensures.0 c.if-b-eq1.false _ c.is_canonical_by_components.ensures
