-- `descriptor_measure::upids::upid_size`, by its kind.
use borrow.Author.Tests.{eq-eqb, ne_eqb}
use Rattle.descriptor_measure.specs.Writing.{written_upid}
use Rattle.descriptor_measure.proofs.upids.upid_size.Goals as goal

pub returns-then-u-eq-UPID_EIDR : goal.returns-then-u-eq-UPID_EIDR
unfolding written_upid
returns-then-u-eq-UPID_EIDR c = rw (eq-eqb _ _ c.if-u-eq-UPID_EIDR.true)

pub returns : goal.returns
unfolding written_upid
returns c = rw (ne_eqb _ _ c.if-u-eq-UPID_EIDR.false)
