-- `c_adjust::flat_adjustment` meets its contract.
use Rattle.c_adjust.specs.FlatAdjust.{flat_adjustment}
use Rattle.c_adjust.proofs.flat_adjustment.Goals as goal

pub returns-in-Ok : goal.returns-in-Ok
unfolding flat_adjustment
returns-in-Ok c = rw c.in-Ok.is

pub returns-in-Err : goal.returns-in-Err
unfolding flat_adjustment
returns-in-Err c = rw c.in-Err.is
