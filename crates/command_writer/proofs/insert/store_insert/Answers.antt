-- `command_writer::insert::store_insert`: cancelled or by program as without components, or by its components.
use mathlib.Core.Path.{◌≡◌, ap, sym}
use mathlib.Core.List.{[], ◌∷◌}
use Rattle.command.specs.Command.{array}
use Rattle.command.specs.Insert.{WithComponents}
use Rattle.command.specs.declared.insert.SpliceInsert.{SpliceInsert}
use Rattle.bit_stores.proofs.Tables.{Goes, pens_same}
use Rattle.table.specs.Writing.{bits}
use Rattle.command_measure.specs.Fields.{ink, places_of, active_fields, insert_fields}
use Rattle.command_measure.specs.Made.{counted}
use Rattle.command_measure.proofs.Making.{none_counted, cancel_none, program_none}
use Rattle.command_writer.proofs.Storing.{fits_same, active_insert_lem, after_event}
use Rattle.command_writer.proofs.insert.store_insert.Goals as goal

pub store_insert_without_components-requires : goal.store_insert_without_components-requires
store_insert_without_components-requires c =
    let cancelled : let a = c.args in counted a.i (array []) ≡ counted a.i a.components = let a = c.args in none_counted a.i (array []) a.components (cancel_none a.i.splice_detail c.in-Cancel.is) in
    fits_same c.args.out.now c.args.c _ _ (ap insert_fields (sym cancelled)) c.requires

pub returns-in-Cancel : goal.returns-in-Cancel
returns-in-Cancel c =
    let cancelled : let a = c.args in counted a.i (array []) ≡ counted a.i a.components = let a = c.args in none_counted a.i (array []) a.components (cancel_none a.i.splice_detail c.in-Cancel.is) in
    let a = c.args in
    pens_same a.out.now a.c _ _ _ _ (ap (λ (x : WithComponents SpliceInsert). ink (insert_fields x)) cancelled) c.store_insert_without_components.ensures

pub store_insert_without_components-requires-in-Program : goal.store_insert_without_components-requires-in-Program
store_insert_without_components-requires-in-Program c =
    let by_program_lem : let a = c.args in counted a.i (array []) ≡ counted a.i a.components = let a = c.args in none_counted a.i (array []) a.components (program_none a.i.splice_detail _ _ c.in-Insert.is c.in-Program.is) in
    fits_same c.args.out.now c.args.c _ _ (ap insert_fields (sym by_program_lem)) c.requires

pub returns-in-Program : goal.returns-in-Program
returns-in-Program c =
    let by_program_lem : let a = c.args in counted a.i (array []) ≡ counted a.i a.components = let a = c.args in none_counted a.i (array []) a.components (program_none a.i.splice_detail _ _ c.in-Insert.is c.in-Program.is) in
    let a = c.args in
    pens_same a.out.now a.c _ _ _ _ (ap (λ (x : WithComponents SpliceInsert). ink (insert_fields x)) by_program_lem) c.store_insert_without_components-in-Program.ensures

pub store_listed-requires : goal.store_listed-requires
store_listed-requires c =
    let one : let a = c.args in let x = c.in-Insert.x in let more = active_fields x (places_of x a.components) in Goes a.out.now a.c (ink (bits 32 a.i.splice_event_id ∷ bits 1 0 ∷ bits 7 a.i.reserved ∷ more)) c.put_bits-c.new.out c.put_bits-c.result (ink more) = let a = c.args in after_event a.out.now a.c _ _ a.i _ a.components _ c.in-Insert.is c.event_number-event.ensures.0 c.requires c.put_bits-c.ensures in
    (c.in-Components.is, one.room)

pub returns : goal.returns
returns c =
    let one : let a = c.args in let x = c.in-Insert.x in let more = active_fields x (places_of x a.components) in Goes a.out.now a.c (ink (bits 32 a.i.splice_event_id ∷ bits 1 0 ∷ bits 7 a.i.reserved ∷ more)) c.put_bits-c.new.out c.put_bits-c.result (ink more) = let a = c.args in after_event a.out.now a.c _ _ a.i _ a.components _ c.in-Insert.is c.event_number-event.ensures.0 c.requires c.put_bits-c.ensures in
    let a = c.args in
    pens_same a.out.now a.c _ _ _ _ (ap ink (sym (active_insert_lem a.i _ a.components c.in-Insert.is))) (one.both _ _ c.store_listed.ensures)
