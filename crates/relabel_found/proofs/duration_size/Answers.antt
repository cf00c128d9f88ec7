-- `relabel_found::duration_size`, by the flag.
use native.Mathlib.Omega.{arith}
use borrow.Author.Tests.{eq-eqb, ne_eqb}
use Rattle.relabel_found.proofs.duration_size.Goals as goal

pub returns-then-flags-eq1 : goal.returns-then-flags-eq1
returns-then-flags-eq1 c = (rw (eq-eqb _ _ c.if-flags-eq1.true), omega arith)

pub returns : goal.returns
returns c = (rw (ne_eqb _ _ c.if-flags-eq1.false), omega arith)
