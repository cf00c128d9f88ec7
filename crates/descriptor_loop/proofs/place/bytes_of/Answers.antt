-- `descriptor_loop::place::bytes_of` meets its contract: the view is the item's.
use Rattle.descriptor_loop.proofs.place.bytes_of.Goals as goal

pub returns : goal.returns
returns c = rw (← c.view_of-v.ensures) c.view.ensures
