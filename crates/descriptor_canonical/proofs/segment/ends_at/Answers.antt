-- `descriptor_canonical::segment::ends_at`, test by test.
use borrow.Author.Tests.{eq-eqb, ne_eqb}
use Rattle.descriptor_canonical.specs.Private.{ends_at}
use Rattle.descriptor_canonical.proofs.segment.ends_at.Goals as goal

pub returns-then-len-at : goal.returns-then-len-at
unfolding ends_at
returns-then-len-at c = rw (eq-eqb _ _ c.if-len-at.true)

pub returns : goal.returns
unfolding ends_at
returns c = rw (ne_eqb _ _ c.if-len-at.false)
