-- `command_writer::write_command_without_components`: where the answer is that it is written.
use mathlib.Core.List.{[]}
use mathlib.Core.Path.{◌≡◌, sym, ◌∙◌}
use native.Mathlib.Omega.{arith}
use Prim.Native.Nat.{◌+◌, ◌≤◌}
use lib.ListN.{length}
use Rattle.command.specs.Command.{array}
use Rattle.command.proofs.Filling.{blank_length}
use Rattle.bit_stores.specs.Written.{answer_of, bytes_in}
use Rattle.table.proofs.Bits.{bytes_all}
use Rattle.command_measure.specs.Made.{command_made}
use Rattle.command_writer.proofs.Payloads.{command_made_lem, answered, wrote_there, refused_later}
use Rattle.command_writer.proofs.write_command_without_components.Goals as goal

pub store_without_components-requires : goal.store_without_components-requires
store_without_components-requires c =
    let is : let a = c.args in c.answer_measured-answer.result ≡ answer_of (command_made a.command (array []) a.lent.now) a.target.now = let a = c.args in c.answer_measured-answer.ensures ∙ answered (command_made a.command (array []) a.lent.now) a.target.now c.measure_without_components.result c.measure_without_components.ensures.0 (command_made_lem a.command (array []) a.lent.now blank_length c.measure_without_components.ensures.1) in
    let a = c.args in
    let p = wrote_there (command_made a.command (array []) a.lent.now) a.target.now _ (sym is ∙ c.in-Ok.is) in
    let r : 0 + length (bytes_in (command_made a.command (array []) a.lent.now)) ≤ length a.target.now = omega (arith, p.1) in
    (bytes_all a.target.now (λ j. (c.slice_known-1.given j).fits), p.0, r, c.measure_without_components.ensures.1)

pub returns-in-Ok : goal.returns-in-Ok
returns-in-Ok c =
    let is : let a = c.args in c.answer_measured-answer.result ≡ answer_of (command_made a.command (array []) a.lent.now) a.target.now = let a = c.args in c.answer_measured-answer.ensures ∙ answered (command_made a.command (array []) a.lent.now) a.target.now c.measure_without_components.result c.measure_without_components.ensures.0 (command_made_lem a.command (array []) a.lent.now blank_length c.measure_without_components.ensures.1) in
    let a = c.args in record { answer = is; bytes = c.store_without_components.ensures ∙ (wrote_there (command_made a.command (array []) a.lent.now) a.target.now _ (sym is ∙ c.in-Ok.is)).2 }

pub returns-in-Err : goal.returns-in-Err
returns-in-Err c =
    let is : let a = c.args in c.answer_measured-answer.result ≡ answer_of (command_made a.command (array []) a.lent.now) a.target.now = let a = c.args in c.answer_measured-answer.ensures ∙ answered (command_made a.command (array []) a.lent.now) a.target.now c.measure_without_components.result c.measure_without_components.ensures.0 (command_made_lem a.command (array []) a.lent.now blank_length c.measure_without_components.ensures.1) in
    let a = c.args in record { answer = is; bytes = refused_later (command_made a.command (array []) a.lent.now) a.target.now _ (sym is ∙ c.in-Err.is) }
