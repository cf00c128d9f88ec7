-- `descriptor_loop::place::move_descriptor` meets its contract, kind by kind.
use Rattle.descriptor_loop.proofs.Places.{dtmf_first, active_all, private_first, cancel_stays, active_moves}
use Rattle.descriptor_loop.proofs.place.move_descriptor.Goals as goal

pub move_view-requires : goal.move_view-requires
move_view-requires c = dtmf_first _ _ _ c.in-Dtmf.is c.requires

pub move_active-requires : goal.move_active-requires
move_active-requires c = active_all _ _ _ _ c.in-Segmentation.is c.in-Active.is c.requires

pub move_view-requires-in-Reserved : goal.move_view-requires-in-Reserved
move_view-requires-in-Reserved c = private_first _ _ _ _ c.in-Reserved.is c.requires

pub returns-in-Dtmf : goal.returns-in-Dtmf
returns-in-Dtmf c = rw (c.in-Dtmf.is, c.move_view.ensures)

pub returns-in-Cancel : goal.returns-in-Cancel
returns-in-Cancel c = cancel_stays _ _ _ c.in-Segmentation.is c.in-Cancel.is

pub returns-in-Active : goal.returns-in-Active
returns-in-Active c = active_moves _ _ _ _ _ c.in-Segmentation.is c.in-Active.is c.move_active.ensures

pub returns-in-Reserved : goal.returns-in-Reserved
returns-in-Reserved c = rw (c.in-Reserved.is, c.move_view-in-Reserved.ensures)
