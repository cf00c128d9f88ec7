-- `descriptor_canonical::segment::is_canonical_segmentation`, test by test.
use Rattle.descriptor_canonical.proofs.Tests.{head_short, head_spoilt, is_cancelled, is_activeed}
use Rattle.descriptor_canonical.proofs.segment.is_canonical_segmentation.Goals as goal

pub returns-then-s-lt5 : goal.returns-then-s-lt5
returns-then-s-lt5 c =
    head_short c.args.s.now (λ i. (c.type_inv.s i).fits) c.if-s-lt5.true

pub returns-then-b-ne127 : goal.returns-then-b-ne127
returns-then-b-ne127 c =
    head_spoilt c.args.s.now (λ i. (c.shared_slice_known-1.given i).fits) c.if-s-lt5.false c.if-b-ne127.true

pub returns-then-b-eq1 : goal.returns-then-b-eq1
returns-then-b-eq1 c =
    is_cancelled c.args.s.now (λ i. (c.shared_slice_known-1.given i).fits) c.if-s-lt5.false c.if-b-ne127.false c.if-b-eq1.true

pub returns : goal.returns
returns c =
    is_activeed c.args.s.now (λ i. (c.shared_slice_known-1.given i).fits) c.if-s-lt5.false c.if-b-ne127.false c.if-b-eq1.false _ c.is_canonical_active.ensures
