-- `command_writer::insert::store_insert_without_components`: the event, the cancel bit and the reserved bits as one number, and what is not cancelled.
use Prim.Native.Nat.{◌+◌}
use mathlib.Core.Path.{ap, sym}
use native.Mathlib.Omega.{arith}
use mathlib.Core.List.{[], ◌∷◌}
use Rattle.command.specs.Command.{array}
use Rattle.bit_stores.proofs.Tables.{Goes, pens_same}
use Rattle.table.specs.Writing.{bits}
use Rattle.command_measure.specs.Fields.{ink, places_of, active_fields}
use Rattle.command_writer.proofs.Storing.{pens_all, cancel_fields, active_insert_lem, head_bits, after_event}
use Rattle.command_writer.proofs.insert.store_insert_without_components.Goals as goal

pub store_active-requires : goal.store_active-requires
store_active-requires c =
    let one : let a = c.args in let x = c.in-Insert.insert in let more = active_fields x (places_of x (array [])) in Goes a.out.now a.c (ink (bits 32 a.i.splice_event_id ∷ bits 1 0 ∷ bits 7 a.i.reserved ∷ more)) c.put_bits-c.new.out c.put_bits-c.result (ink more) = let a = c.args in after_event a.out.now a.c _ _ a.i _ (array []) _ c.in-Insert.is c.event_number-event.ensures.0 c.requires c.put_bits-c.ensures in
    one.room

pub returns-in-Cancel : goal.returns-in-Cancel
returns-in-Cancel c =
    let a = c.args in
    let y = c.event_number-event.result + 128 in
    let e = cancel_fields a.i (array []) c.in-Cancel.is in
    let k = head_bits a.i.splice_event_id 1 a.i.reserved y [] (omega arith) (omega (arith, c.event_number-event.ensures.0)) in
    pens_same a.out.now a.c _ _ _ _ (ap ink (sym e)) (pens_all a.out.now a.c _ _ (bits 32 a.i.splice_event_id ∷ bits 1 1 ∷ bits 7 a.i.reserved ∷ []) 40 y k c.put_bits.ensures)

pub returns-in-Insert : goal.returns-in-Insert
returns-in-Insert c =
    let one : let a = c.args in let x = c.in-Insert.insert in let more = active_fields x (places_of x (array [])) in Goes a.out.now a.c (ink (bits 32 a.i.splice_event_id ∷ bits 1 0 ∷ bits 7 a.i.reserved ∷ more)) c.put_bits-c.new.out c.put_bits-c.result (ink more) = let a = c.args in after_event a.out.now a.c _ _ a.i _ (array []) _ c.in-Insert.is c.event_number-event.ensures.0 c.requires c.put_bits-c.ensures in
    let a = c.args in
    pens_same a.out.now a.c _ _ _ _ (ap ink (sym (active_insert_lem a.i _ (array []) c.in-Insert.is))) (one.both _ _ c.store_active.ensures)
