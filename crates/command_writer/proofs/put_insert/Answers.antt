-- `command_writer::put_insert`: where there is room.
use mathlib.Core.List.{[]}
use mathlib.Core.Path.{◌≡◌, sym, ◌∙◌}
use Prim.Native.Nat.{◌+◌, ◌≤◌}
use lib.ListN.{length}
use Rattle.bit_stores.specs.Written.{refusal_in, bytes_in}
use Rattle.table.specs.Writing.{contents}
use Rattle.table.proofs.Bits.{bytes_all}
use Rattle.table.proofs.Walks.{print_bits}
use Rattle.command_measure.specs.Fields.{ink, insert_fields}
use Rattle.command_measure.specs.Made.{counted, insert_made}
use Rattle.command_writer.proofs.Payloads.{Payload, counted_payload, store_room, store_all, room_there, room_none}
use borrow.Author.Rules.{rules}
use Rattle.command_writer.proofs.put_insert.Goals as goal

pub store_insert-requires : goal.store_insert-requires
store_insert-requires c =
    let full : length c.args.components ≡ 255 = search rules in
    let there : let a = c.args in let m = insert_made (counted a.i a.components) in (refusal_in m ≡ 0) × (a.at + length (bytes_in m) ≤ length a.out.now) = let a = c.args in room_there (insert_made (counted a.i a.components)) c.measure_insert.result c.measure_insert.ensures.0 a.at (length a.out.now) (sym c.has_room.ensures ∙ c.if-has_room.true) in
    let payload : let a = c.args in Payload (insert_made (counted a.i a.components)) (ink (insert_fields (counted a.i a.components))) = counted_payload c.args.i c.args.components full c.measure_insert.ensures.1 there.0 in
    let a = c.args in
    store_room a.out.now a.at _ _ payload there.1

pub returns-then-has_room : goal.returns-then-has_room
returns-then-has_room c =
    let full : length c.args.components ≡ 255 = search rules in
    let there : let a = c.args in let m = insert_made (counted a.i a.components) in (refusal_in m ≡ 0) × (a.at + length (bytes_in m) ≤ length a.out.now) = let a = c.args in room_there (insert_made (counted a.i a.components)) c.measure_insert.result c.measure_insert.ensures.0 a.at (length a.out.now) (sym c.has_room.ensures ∙ c.if-has_room.true) in
    let payload : let a = c.args in Payload (insert_made (counted a.i a.components)) (ink (insert_fields (counted a.i a.components))) = counted_payload c.args.i c.args.components full c.measure_insert.ensures.1 there.0 in
    let a = c.args in
    store_all a.out.now a.at _ _ payload there.1 (bytes_all a.out.now (λ j. (c.slice_known-1.given j).fits)) (print_bits (contents [] (insert_fields (counted a.i a.components)))) _ _ c.store_insert.ensures

pub returns-else-has_room : goal.returns-else-has_room
returns-else-has_room c =
    let a = c.args in
    room_none (insert_made (counted a.i a.components)) c.measure_insert.result c.measure_insert.ensures.0 a.out.now a.at (sym c.has_room.ensures ∙ c.if-has_room.false)
