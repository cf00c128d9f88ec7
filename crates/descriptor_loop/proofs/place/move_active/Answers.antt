-- `descriptor_loop::place::move_active` meets its contract: its UPID moves, and all else stays.
use Rattle.descriptor_loop.proofs.Places.{active_there}
use Rattle.descriptor_loop.proofs.place.move_active.Goals as goal

pub returns : goal.returns
returns c = active_there c.args.base c.args.active _ c.move_upid.ensures
