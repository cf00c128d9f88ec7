-- `descriptor_canonical::segment::lasting_bytes`, by the flag.
use native.Mathlib.Omega.{arith}
use borrow.Author.Tests.{eq-eqb, ne_eqb}
use Rattle.descriptor_canonical.specs.Private.{lasting_bytes}
use Rattle.descriptor_canonical.proofs.segment.lasting_bytes.Goals as goal

pub returns-then-b-eq1 : goal.returns-then-b-eq1
unfolding lasting_bytes
returns-then-b-eq1 c = (rw (eq-eqb _ _ c.if-b-eq1.true), omega arith)

pub returns : goal.returns
unfolding lasting_bytes
returns c = (rw (ne_eqb _ _ c.if-b-eq1.false), omega arith)
