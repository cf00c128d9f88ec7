-- `command::read_other`, by the type.
use Rattle.command.proofs.Payloads.{of_insert_lem, of_reservation, of_private_lem, of_none}
use Rattle.command.proofs.read_other.Goals as goal

pub returns-in-5 : goal.returns-in-5
returns-in-5 c = let a = c.args in of_insert_lem a.command_type a.payload.now _ c.in-5.is c.read_splice_insert.ensures

pub returns-in-7 : goal.returns-in-7
returns-in-7 c = let a = c.args in of_reservation a.command_type a.payload.now _ c.in-7.is c.read_empty.ensures

pub returns-in-255 : goal.returns-in-255
returns-in-255 c = let a = c.args in of_private_lem a.command_type a.payload.now _ c.in-255.is c.read_private.ensures

pub returns-in_default : goal.returns-in_default
returns-in_default c =
    let a = c.args in
    let not = c.in_default.in_default-own.rest in
    of_none a.command_type a.payload.now c.requires.0 not.0.0.1 c.requires.1 not.0.1 not.1
