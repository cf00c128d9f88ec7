-- `command_writer::store_without_components`, by the command.
use mathlib.Core.Path.{ap, sym, ◌∙◌}
use mathlib.Core.List.{[]}
use Rattle.table.specs.Lent.{stored}
use Rattle.table.specs.Writing.{contents}
use Rattle.table.proofs.Stores.{stored_nil}
use Rattle.table.proofs.Walks.{print_bits}
use Rattle.command.specs.Command.{array}
use Rattle.command.proofs.Filling.{blank_length}
use Rattle.command_measure.specs.Fields.{ink, time_fields, insert_fields, private_ink}
use Rattle.command_measure.specs.Made.{counted, command_made}
use Rattle.command.specs.declared.SpliceCommand.{SpliceCommand}
use Rattle.command_measure.proofs.Making.{countable}
use Rattle.command_writer.proofs.Payloads.{Payload, command_insert_payload, command_time_payload, command_private_payload, null_bytes, bandwidth_bytes, store_room, store_all, private_bits}
use Rattle.command_writer.proofs.store_without_components.Goals as goal

pub store_insert_without_components-requires : goal.store_insert_without_components-requires
store_insert_without_components-requires c =
    let inserted : let a = c.args in Payload (command_made a.command (array []) a.lent.now) (ink (insert_fields (counted c.in-SpliceInsert.i (array [])))) = let a = c.args in command_insert_payload a.command (array []) a.lent.now c.in-SpliceInsert.i c.in-SpliceInsert.is blank_length (countable (SpliceCommand.SpliceInsert c.in-SpliceInsert.i) a.command (sym c.in-SpliceInsert.is) c.requires.3) c.requires.1 in
    store_room c.args.out.now c.args.at _ _ inserted c.requires.2

pub store_time-requires : goal.store_time-requires
store_time-requires c =
    let timed : let a = c.args in Payload (command_made a.command (array []) a.lent.now) (ink (time_fields c.in-TimeSignal.t)) = let a = c.args in command_time_payload a.command (array []) a.lent.now c.in-TimeSignal.t c.in-TimeSignal.is c.requires.1 in
    store_room c.args.out.now c.args.at _ _ timed c.requires.2

pub store_private-requires : goal.store_private-requires
store_private-requires c =
    let own : let a = c.args in Payload (command_made a.command (array []) a.lent.now) (private_ink c.in-PrivateCommand.p a.lent.now) = let a = c.args in command_private_payload a.command (array []) a.lent.now c.in-PrivateCommand.p c.in-PrivateCommand.is c.requires.1 in
    store_room c.args.out.now c.args.at _ _ own c.requires.2

pub returns-in-SpliceNull : goal.returns-in-SpliceNull
returns-in-SpliceNull c = let a = c.args in sym (ap (stored a.out.now a.at) (null_bytes a.command (array []) a.lent.now c.in-SpliceNull.is) ∙ stored_nil a.out.now a.at)

pub returns-in-SpliceInsert : goal.returns-in-SpliceInsert
returns-in-SpliceInsert c =
    let inserted : let a = c.args in Payload (command_made a.command (array []) a.lent.now) (ink (insert_fields (counted c.in-SpliceInsert.i (array [])))) = let a = c.args in command_insert_payload a.command (array []) a.lent.now c.in-SpliceInsert.i c.in-SpliceInsert.is blank_length (countable (SpliceCommand.SpliceInsert c.in-SpliceInsert.i) a.command (sym c.in-SpliceInsert.is) c.requires.3) c.requires.1 in
    store_all c.args.out.now c.args.at _ _ inserted c.requires.2 c.requires.0 (print_bits (contents [] (insert_fields (counted c.in-SpliceInsert.i (array []))))) _ _ c.store_insert_without_components.ensures

pub returns-in-TimeSignal : goal.returns-in-TimeSignal
returns-in-TimeSignal c =
    let timed : let a = c.args in Payload (command_made a.command (array []) a.lent.now) (ink (time_fields c.in-TimeSignal.t)) = let a = c.args in command_time_payload a.command (array []) a.lent.now c.in-TimeSignal.t c.in-TimeSignal.is c.requires.1 in
    store_all c.args.out.now c.args.at _ _ timed c.requires.2 c.requires.0 (print_bits (contents [] (time_fields c.in-TimeSignal.t))) _ _ c.store_time.ensures

pub returns-in-BandwidthReservation : goal.returns-in-BandwidthReservation
returns-in-BandwidthReservation c = let a = c.args in sym (ap (stored a.out.now a.at) (bandwidth_bytes a.command (array []) a.lent.now c.in-BandwidthReservation.is) ∙ stored_nil a.out.now a.at)

pub returns-in-PrivateCommand : goal.returns-in-PrivateCommand
returns-in-PrivateCommand c =
    let own : let a = c.args in Payload (command_made a.command (array []) a.lent.now) (private_ink c.in-PrivateCommand.p a.lent.now) = let a = c.args in command_private_payload a.command (array []) a.lent.now c.in-PrivateCommand.p c.in-PrivateCommand.is c.requires.1 in
    store_all c.args.out.now c.args.at _ _ own c.requires.2 c.requires.0 (private_bits c.in-PrivateCommand.p c.args.lent.now) _ _ c.store_private.ensures
