-- `descriptor_loop::place::move_upid` meets its contract: a UPID moves by its reported type.
use Rattle.descriptor_loop.proofs.Places.{upid_first, upid_none, upid_eidr, upid_there}
use Rattle.descriptor_loop.proofs.place.move_upid.Goals as goal

pub returns-then-upid_type-eq0 : goal.returns-then-upid_type-eq0
returns-then-upid_type-eq0 c = upid_none _ _ c.if-upid_type-eq0.true

pub returns-then-upid_type-eq-UPID_EIDR : goal.returns-then-upid_type-eq-UPID_EIDR
returns-then-upid_type-eq-UPID_EIDR c = upid_eidr _ _ c.if-upid_type-eq0.false c.if-upid_type-eq-UPID_EIDR.true

pub move_view-requires : goal.move_view-requires
move_view-requires c = upid_first _ _ c.if-upid_type-eq0.false c.if-upid_type-eq-UPID_EIDR.false c.requires

pub returns : goal.returns
returns c = upid_there _ _ c.if-upid_type-eq0.false c.if-upid_type-eq-UPID_EIDR.false _ c.move_view.ensures
