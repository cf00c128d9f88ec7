-- `scte35::time_from` meets its contract: by cases on the kind and on the ticks.
use borrow.Author.Tests.{eq-eqb, ne_eqb, lt-ltb, le-ltb}
use Rattle.scte35.proofs.time_from.Goals as goal

pub returns-then-kind-eq3 : goal.returns-then-kind-eq3
returns-then-kind-eq3 c = rw (eq-eqb _ _ c.if-kind-eq3.true)

pub returns-then-ticks-lt8589934592 : goal.returns-then-ticks-lt8589934592
returns-then-ticks-lt8589934592 c = rw (ne_eqb _ _ c.if-kind-eq3.false, lt-ltb _ _ c.if-ticks-lt8589934592.true)

pub returns : goal.returns
returns c = rw (ne_eqb _ _ c.if-kind-eq3.false, le-ltb _ _ c.if-ticks-lt8589934592.false)
