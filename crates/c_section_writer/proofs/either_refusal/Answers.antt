-- `c_section_writer::either_refusal`, case by case.
use borrow.Author.Tests.{lt-ltb, le-ltb, eq-eqb, ne_eqb}
use Rattle.c_section_writer.proofs.either_refusal.Goals as goal

pub returns-then-m-eq0 : goal.returns-then-m-eq0
returns-then-m-eq0 c = rw (eq-eqb _ _ c.if-m-eq0.true)

pub returns-then-n-eq0 : goal.returns-then-n-eq0
returns-then-n-eq0 c = rw (ne_eqb _ _ c.if-m-eq0.false, eq-eqb _ _ c.if-n-eq0.true)

pub returns-then-n-m : goal.returns-then-n-m
returns-then-n-m c = rw (ne_eqb _ _ c.if-m-eq0.false, ne_eqb _ _ c.if-n-eq0.false, lt-ltb _ _ c.if-n-m.true)

pub returns-else-n-m : goal.returns-else-n-m
returns-else-n-m c = rw (ne_eqb _ _ c.if-m-eq0.false, ne_eqb _ _ c.if-n-eq0.false, le-ltb _ _ c.if-n-m.false)
