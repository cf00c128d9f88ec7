-- `descriptor_canonical::segment::flags_ones`, by the flag.
use borrow.Author.Tests.{eq-eqb, ne_eqb}
use Rattle.descriptor_canonical.specs.Private.{flags_ones}
use Rattle.descriptor_canonical.proofs.segment.flags_ones.Goals as goal

pub returns-then-b-eq1 : goal.returns-then-b-eq1
unfolding flags_ones
returns-then-b-eq1 c = rw (eq-eqb _ _ c.if-b-eq1.true)

pub returns : goal.returns
unfolding flags_ones
returns c = rw (ne_eqb _ _ c.if-b-eq1.false)
