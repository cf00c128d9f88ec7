-- `command_canonical::is_canonical_command`, by the type.
use native.Mathlib.Omega.{arith}
use Rattle.command_canonical.proofs.Commands.{of_null, of_insert_lem, of_signal, of_reservation, of_private_lem, of_none}
use Rattle.command_canonical.proofs.is_canonical_command.Goals as goal

pub returns-in-0 : goal.returns-in-0
returns-in-0 c = let a = c.args in of_null a.command_type a.payload.now c.in-0.is

pub returns-in-5 : goal.returns-in-5
returns-in-5 c = let a = c.args in of_insert_lem a.command_type a.payload.now _ c.in-5.is c.is_canonical_insert.ensures

pub returns-in-6 : goal.returns-in-6
returns-in-6 c = let a = c.args in of_signal a.command_type a.payload.now _ c.in-6.is c.is_canonical_time.ensures

pub returns-in-7 : goal.returns-in-7
returns-in-7 c = let a = c.args in of_reservation a.command_type a.payload.now c.in-7.is

pub returns-in-255 : goal.returns-in-255
returns-in-255 c = let a = c.args in of_private_lem a.command_type a.payload.now c.in-255.is

pub returns-in_default : goal.returns-in_default
returns-in_default c = let a = c.args in of_none a.command_type a.payload.now (omega arith) (omega arith) (omega arith) (omega arith) (omega arith)
