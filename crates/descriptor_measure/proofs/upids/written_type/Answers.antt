-- `descriptor_measure::upids::written_type`, by its two tests.
use borrow.Author.Tests.{eq-eqb, ne_eqb}
use Rattle.descriptor_measure.specs.Writing.{written_type}
use Rattle.descriptor_measure.proofs.upids.written_type.Goals as goal

pub returns-then-bytes-eq8 : goal.returns-then-bytes-eq8
unfolding written_type
returns-then-bytes-eq8 c = rw (eq-eqb _ _ c.if-u-eq6.true, eq-eqb _ _ c.if-bytes-eq8.true)

pub returns-else-bytes-eq8 : goal.returns-else-bytes-eq8
unfolding written_type
returns-else-bytes-eq8 c = rw (eq-eqb _ _ c.if-u-eq6.true, ne_eqb _ _ c.if-bytes-eq8.false)

pub returns-else-u-eq6 : goal.returns-else-u-eq6
unfolding written_type
returns-else-u-eq6 c = rw (ne_eqb _ _ c.if-u-eq6.false)
