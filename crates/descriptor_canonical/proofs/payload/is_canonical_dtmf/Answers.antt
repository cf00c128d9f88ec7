-- `descriptor_canonical::payload::is_canonical_dtmf`, test by test.
use Rattle.descriptor_canonical.proofs.Tests.{dtmf_short, dtmf_spoilt, dtmf_counted}
use Rattle.descriptor_canonical.proofs.payload.is_canonical_dtmf.Goals as goal

pub returns-then-s-lt2 : goal.returns-then-s-lt2
returns-then-s-lt2 c =
    dtmf_short c.args.s.now (λ i. (c.type_inv.s i).fits) c.if-s-lt2.true

pub returns-then-b-ne31 : goal.returns-then-b-ne31
returns-then-b-ne31 c =
    dtmf_spoilt c.args.s.now (λ i. (c.shared_slice_known-1.given i).fits) c.if-s-lt2.false c.if-b-ne31.true

pub returns : goal.returns
returns c =
    dtmf_counted c.args.s.now (λ i. (c.shared_slice_known-1.given i).fits) c.if-s-lt2.false c.if-b-ne31.false _ c.size.ensures.0
