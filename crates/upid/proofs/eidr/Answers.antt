-- `upid::eidr` meets its contract.
use Rattle.std.proofs.Common.{eq-eqb, ne_eqb}
use Rattle.upid.specs.Upid.{eidr_of}
use Rattle.upid.proofs.eidr.Goals as goal

pub returns-then-upid_type-ne-UPID_EIDR : goal.returns-then-upid_type-ne-UPID_EIDR
unfolding eidr_of
returns-then-upid_type-ne-UPID_EIDR c = rw (ne_eqb _ _ c.if-upid_type-ne-UPID_EIDR.true)

pub returns-then-upid-ne12 : goal.returns-then-upid-ne12
unfolding eidr_of
returns-then-upid-ne12 c = rw (eq-eqb _ _ c.if-upid_type-ne-UPID_EIDR.false, ne_eqb _ _ c.if-upid-ne12.true)

pub returns : goal.returns
unfolding eidr_of
returns c = rw (eq-eqb _ _ c.if-upid_type-ne-UPID_EIDR.false, eq-eqb _ _ c.if-upid-ne12.false) c.copy_from_slice.ensures.after
