-- `relabel_upid::is_fine`, by its two cases.
use Rattle.relabel_upid.specs.Relabel.{taken}
use Rattle.relabel_upid.proofs.is_fine.Goals as goal

pub returns-in-Ok : goal.returns-in-Ok
unfolding taken
returns-in-Ok c = rw c.in-Ok.is

pub returns-in-Err : goal.returns-in-Err
unfolding taken
returns-in-Err c = rw c.in-Err.is
