-- `descriptor::is_cuei`, byte by byte.
use borrow.Author.Tests.{eq-eqb, ne_eqb}
use Rattle.descriptor.specs.Descriptor.{is_cuei}
use Rattle.descriptor.proofs.is_cuei.Goals as goal

pub returns-then-identifier-ne67 : goal.returns-then-identifier-ne67
unfolding is_cuei
returns-then-identifier-ne67 c = rw (ne_eqb _ _ c.if-identifier-ne67.true)

pub returns-then-identifier-ne85 : goal.returns-then-identifier-ne85
unfolding is_cuei
returns-then-identifier-ne85 c =
    rw (eq-eqb _ _ c.if-identifier-ne67.false, ne_eqb _ _ c.if-identifier-ne85.true)

pub returns-then-identifier-ne69 : goal.returns-then-identifier-ne69
unfolding is_cuei
returns-then-identifier-ne69 c =
    rw (eq-eqb _ _ c.if-identifier-ne67.false, eq-eqb _ _ c.if-identifier-ne85.false, ne_eqb _ _ c.if-identifier-ne69.true)

pub returns : goal.returns
unfolding is_cuei
returns c =
    rw (eq-eqb _ _ c.if-identifier-ne67.false, eq-eqb _ _ c.if-identifier-ne85.false, eq-eqb _ _ c.if-identifier-ne69.false)
