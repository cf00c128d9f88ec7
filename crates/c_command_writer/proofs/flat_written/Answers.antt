-- `c_command_writer::flat_written` meets its contract.
use Rattle.c_command_writer.specs.Words.{flat_written}
use Rattle.c_command_writer.proofs.flat_written.Goals as goal

pub returns-in-Ok : goal.returns-in-Ok
unfolding flat_written
returns-in-Ok c = rw c.in-Ok.is

pub returns-in-Err : goal.returns-in-Err
unfolding flat_written
returns-in-Err c = rw c.in-Err.is
