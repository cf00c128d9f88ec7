-- `descriptor::front::restrictions`, by the third flag.
use borrow.Author.Tests.{eq-eqb, ne_eqb}
use Rattle.descriptor.specs.Private.{restrictions_in}
use Rattle.descriptor.proofs.front.restrictions.Goals as goal

pub returns-then-flags-eq1 : goal.returns-then-flags-eq1
unfolding restrictions_in
returns-then-flags-eq1 c = rw (eq-eqb _ _ c.if-flags-eq1.true)

pub returns : goal.returns
unfolding restrictions_in
returns c = rw (ne_eqb _ _ c.if-flags-eq1.false, c.device.ensures)
