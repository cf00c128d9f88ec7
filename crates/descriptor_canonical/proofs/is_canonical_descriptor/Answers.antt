-- `descriptor_canonical::is_canonical_descriptor`, test by test.
use Rattle.descriptor_canonical.proofs.Tests.{envelope_short, envelope_other, envelope_long, envelope_is}
use Rattle.descriptor_canonical.proofs.is_canonical_descriptor.Goals as goal

pub returns-then-end-lt6 : goal.returns-then-end-lt6
returns-then-end-lt6 c = envelope_short c.args.descriptor.now c.if-end-lt6.true

pub returns-then-len-end : goal.returns-then-len-end
returns-then-len-end c =
    envelope_other c.args.descriptor.now c.if-end-lt6.false _ c.size-len.ensures.0 c.if-len-end.true

pub returns-then-len-gt-MAX_DESCRIPTOR : goal.returns-then-len-gt-MAX_DESCRIPTOR
returns-then-len-gt-MAX_DESCRIPTOR c =
    envelope_long c.args.descriptor.now c.if-end-lt6.false _ c.size-len.ensures.0 c.if-len-end.false c.if-len-gt-MAX_DESCRIPTOR.true

pub returns : goal.returns
returns c =
    envelope_is c.args.descriptor.now c.if-end-lt6.false _ c.size-len.ensures.0 c.if-len-end.false c.if-len-gt-MAX_DESCRIPTOR.false _ c.is_canonical_payload.ensures
