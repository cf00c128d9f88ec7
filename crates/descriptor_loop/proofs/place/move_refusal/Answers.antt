-- `descriptor_loop::place::move_refusal` meets its contract: only refusal 24 has a view.
use Rattle.descriptor_loop.proofs.Places.{text_first}
use Rattle.descriptor_loop.proofs.place.move_refusal.Goals as goal

pub move_view-requires : goal.move_view-requires
move_view-requires c = text_first _ _ _ _ c.in-InvalidUpidContent.is c.requires

pub returns-in-InvalidUpidContent : goal.returns-in-InvalidUpidContent
returns-in-InvalidUpidContent c = rw (c.in-InvalidUpidContent.is, c.move_view.ensures)
