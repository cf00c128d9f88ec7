-- `section_writer::write_section_without_components`: where the answer is that it is written.
use mathlib.Core.List.{[]}
use Rattle.command.specs.Command.{array}
use mathlib.Core.Path.{◌≡◌, sym, ◌∙◌}
use native.Mathlib.Omega.{arith}
use Rattle.command_measure.specs.Made.{command_made}
use Rattle.command_writer.proofs.Payloads.{refused_later}
use Rattle.bit_stores.specs.Written.{answer_of}
use Rattle.section_writer.specs.Writing.{type_of, section_made}
use Rattle.section_writer.proofs.Answers.{section_answer, allowed, wrote_section, kept_length}
use Rattle.section_writer.proofs.write_section_without_components.Goals as goal

pub put_head-requires : goal.put_head-requires
put_head-requires c =
    let a = c.args in
    let g = allowed a.header a.command (array []) a.lent.now a.descriptors.now c.measure_without_components-measured.result c.measure_without_components-measured.ensures.0 a.target.now _ _ c.answer_section-outcome.ensures c.in-Ok.is in
    (g.0, g.1, g.2, omega (arith, g.3))

pub overflow_add-size : goal.overflow_add-size
overflow_add-size c =
    let a = c.args in
    let g = allowed a.header a.command (array []) a.lent.now a.descriptors.now c.measure_without_components-measured.result c.measure_without_components-measured.ensures.0 a.target.now _ _ c.answer_section-outcome.ensures c.in-Ok.is in
    omega (arith, g.2)

pub put_tail-requires : goal.put_tail-requires
put_tail-requires c =
    let a = c.args in
    let g = allowed a.header a.command (array []) a.lent.now a.descriptors.now c.measure_without_components-measured.result c.measure_without_components-measured.ensures.0 a.target.now _ _ c.answer_section-outcome.ensures c.in-Ok.is in
    let n = kept_length a.target.now _ _ _ _ _ _ c.put_head.ensures c.put_without_components.ensures in
    (omega (arith, g.2), omega (arith, g.3, n))

pub returns-in-Ok : goal.returns-in-Ok
returns-in-Ok c =
    let is : let a = c.args in c.answer_section-outcome.result ≡ answer_of (section_made a.header (command_made a.command (array []) a.lent.now) (type_of a.command) a.descriptors.now) a.target.now = let a = c.args in c.answer_section-outcome.ensures ∙ section_answer a.header a.command (array []) a.lent.now a.descriptors.now c.measure_without_components-measured.result c.measure_without_components-measured.ensures.0 a.target.now in
    let a = c.args in record { answer = is; bytes = wrote_section a.header a.command (array []) a.lent.now a.descriptors.now c.measure_without_components-measured.result c.measure_without_components-measured.ensures.0 a.target.now _ _ c.answer_section-outcome.ensures c.in-Ok.is _ _ _ _ c.type_of.ensures c.put_head.ensures c.put_without_components.ensures c.put_tail.ensures }

pub returns-in-Err : goal.returns-in-Err
returns-in-Err c =
    let is : let a = c.args in c.answer_section-outcome.result ≡ answer_of (section_made a.header (command_made a.command (array []) a.lent.now) (type_of a.command) a.descriptors.now) a.target.now = let a = c.args in c.answer_section-outcome.ensures ∙ section_answer a.header a.command (array []) a.lent.now a.descriptors.now c.measure_without_components-measured.result c.measure_without_components-measured.ensures.0 a.target.now in
    let a = c.args in record { answer = is; bytes = refused_later (section_made a.header (command_made a.command (array []) a.lent.now) (type_of a.command) a.descriptors.now) a.target.now _ (sym is ∙ c.in-Err.is) }
