-- `command::read_command`, by the type.
use Rattle.command.proofs.Payloads.{of_null, of_signal}
use Rattle.command.proofs.read_command.Goals as goal

pub returns-in-0 : goal.returns-in-0
returns-in-0 c = let a = c.args in of_null a.command_type a.payload.now _ c.in-0.is c.read_empty.ensures

pub returns-in-6 : goal.returns-in-6
returns-in-6 c = let a = c.args in of_signal a.command_type a.payload.now _ c.in-6.is c.read_time_signal.ensures
