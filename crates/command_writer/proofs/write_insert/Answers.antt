-- `command_writer::write_insert`: where the answer is that it is written.
use mathlib.Core.List.{[]}
use mathlib.Core.Path.{◌≡◌, sym, ◌∙◌}
use native.Mathlib.Omega.{arith}
use Prim.Native.Nat.{◌+◌, ◌≤◌}
use lib.ListN.{length}
use Rattle.bit_stores.specs.Written.{answer_of, later_of, refusal_in, bytes_in}
use Rattle.table.specs.Lent.{stored}
use Rattle.table.specs.Writing.{contents}
use Rattle.table.proofs.Bits.{bytes_all}
use Rattle.table.proofs.Walks.{print_bits}
use Rattle.command_measure.specs.Fields.{ink, insert_fields}
use Rattle.command_measure.specs.Made.{counted, insert_made}
use Rattle.command_writer.proofs.Payloads.{Payload, counted_payload, store_room, store_all, answered, wrote_there, refused_later}
use borrow.Author.Rules.{rules}
use Rattle.command_writer.proofs.write_insert.Goals as goal

pub store_insert-requires : goal.store_insert-requires
store_insert-requires c =
    let full : length c.args.components ≡ 255 = search rules in
    let is : let a = c.args in c.answer_measured-answer.result ≡ answer_of (insert_made (counted a.i a.components)) a.target.now = let a = c.args in c.answer_measured-answer.ensures ∙ answered (insert_made (counted a.i a.components)) a.target.now c.measure_insert.result c.measure_insert.ensures.0 (λ z. (counted_payload a.i a.components full c.measure_insert.ensures.1 z).is) in
    let there : let a = c.args in let m = insert_made (counted a.i a.components) in (refusal_in m ≡ 0) × (length (bytes_in m) ≤ length a.target.now) × (stored a.target.now 0 (bytes_in m) ≡ later_of m a.target.now) = let a = c.args in wrote_there (insert_made (counted a.i a.components)) a.target.now _ (sym is ∙ c.in-Ok.is) in
    let payload : let a = c.args in Payload (insert_made (counted a.i a.components)) (ink (insert_fields (counted a.i a.components))) = counted_payload c.args.i c.args.components full c.measure_insert.ensures.1 there.0 in
    let room : let a = c.args in 0 + length (bytes_in (insert_made (counted a.i a.components))) ≤ length a.target.now = omega (arith, there.1) in
    let a = c.args in
    store_room a.target.now 0 _ _ payload room

pub returns-in-Ok : goal.returns-in-Ok
returns-in-Ok c =
    let full : length c.args.components ≡ 255 = search rules in
    let is : let a = c.args in c.answer_measured-answer.result ≡ answer_of (insert_made (counted a.i a.components)) a.target.now = let a = c.args in c.answer_measured-answer.ensures ∙ answered (insert_made (counted a.i a.components)) a.target.now c.measure_insert.result c.measure_insert.ensures.0 (λ z. (counted_payload a.i a.components full c.measure_insert.ensures.1 z).is) in
    let there : let a = c.args in let m = insert_made (counted a.i a.components) in (refusal_in m ≡ 0) × (length (bytes_in m) ≤ length a.target.now) × (stored a.target.now 0 (bytes_in m) ≡ later_of m a.target.now) = let a = c.args in wrote_there (insert_made (counted a.i a.components)) a.target.now _ (sym is ∙ c.in-Ok.is) in
    let payload : let a = c.args in Payload (insert_made (counted a.i a.components)) (ink (insert_fields (counted a.i a.components))) = counted_payload c.args.i c.args.components full c.measure_insert.ensures.1 there.0 in
    let room : let a = c.args in 0 + length (bytes_in (insert_made (counted a.i a.components))) ≤ length a.target.now = omega (arith, there.1) in
    let a = c.args in
    let s = store_all a.target.now 0 _ _ payload room (bytes_all a.target.now (λ j. (c.slice_known-1.given j).fits)) (print_bits (contents [] (insert_fields (counted a.i a.components)))) _ _ c.store_insert.ensures in record { answer = is; bytes = s ∙ there.2 }

pub returns-in-Err : goal.returns-in-Err
returns-in-Err c =
    let full : length c.args.components ≡ 255 = search rules in
    let is : let a = c.args in c.answer_measured-answer.result ≡ answer_of (insert_made (counted a.i a.components)) a.target.now = let a = c.args in c.answer_measured-answer.ensures ∙ answered (insert_made (counted a.i a.components)) a.target.now c.measure_insert.result c.measure_insert.ensures.0 (λ z. (counted_payload a.i a.components full c.measure_insert.ensures.1 z).is) in
    let a = c.args in record { answer = is; bytes = refused_later (insert_made (counted a.i a.components)) a.target.now _ (sym is ∙ c.in-Err.is) }
