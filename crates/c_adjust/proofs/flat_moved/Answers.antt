-- `c_adjust::flat_moved` meets its contract, by the kind of the time.
use Rattle.c_adjust.specs.FlatAdjust.{flat_moved}
use Rattle.c_adjust.proofs.flat_moved.Goals as goal

pub returns-in-Immediate : goal.returns-in-Immediate
unfolding flat_moved
returns-in-Immediate c = rw (c.in-Ok.is, c.in-Immediate.is)

pub returns-in-Unspecified : goal.returns-in-Unspecified
unfolding flat_moved
returns-in-Unspecified c = rw (c.in-Ok.is, c.in-Unspecified.is)

pub returns-in-At : goal.returns-in-At
unfolding flat_moved
returns-in-At c = rw (c.in-Ok.is, c.in-At.is)

pub returns-in-Err : goal.returns-in-Err
unfolding flat_moved
returns-in-Err c = rw c.in-Err.is
