-- `c_items::upids::flat_upid` meets its contract.
use Rattle.c_items.specs.FlatUpid.{flat_upid, flat_upid_read}
use Rattle.c_items.proofs.upids.flat_upid.Goals as goal

pub returns-in-Ok : goal.returns-in-Ok
unfolding flat_upid flat_upid_read
returns-in-Ok c = rw (c.in-Ok.is, c.flat_eidr.ensures, c.flat_parts.ensures)

pub returns-in-Err : goal.returns-in-Err
unfolding flat_upid flat_upid_read
returns-in-Err c = rw (c.in-Err.is, c.number.ensures, c.values.ensures, c.no_parts.ensures)
