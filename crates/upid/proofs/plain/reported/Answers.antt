-- `upid::plain::reported` meets its contract.
use borrow.Author.Tests.{eq-eqb, ne_eqb}
use Rattle.upid.specs.Upid.{reported_of}
use Rattle.upid.proofs.plain.reported.Goals as goal

pub returns-then-upid_type-eq5 : goal.returns-then-upid_type-eq5
unfolding reported_of
returns-then-upid_type-eq5 c = simp (eq-eqb _ _ c.if-upid_type-eq5.true)

pub returns-else-upid_type-eq5 : goal.returns-else-upid_type-eq5
unfolding reported_of
returns-else-upid_type-eq5 c = simp (ne_eqb _ _ c.if-upid_type-eq5.false)
