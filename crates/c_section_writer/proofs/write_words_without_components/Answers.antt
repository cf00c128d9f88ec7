-- `c_section_writer::write_words_without_components`: where the words are refused, the values are tried on no byte.
use Prim.Native.Nat.{ℕ}
use mathlib.Core.List.{List, [], ◌++◌}
use mathlib.Core.Path.{refl, ap, ◌∙◌}
use native.Mathlib.Omega.{arith}
use Rattle.command.specs.Command.{array}
use Rattle.command_measure.specs.Made.{command_made}
use Rattle.section_writer.specs.Writing.{section_made, type_of}
use Rattle.c_command_writer.proofs.Words.{words_refused, words_taken, later_nil}
use Rattle.c_section_writer.proofs.write_words_without_components.Goals as goal

pub returns-then-refusal-eq0 : goal.returns-then-refusal-eq0
returns-then-refusal-eq0 c =
    let a = c.args in
    let w = words_taken _ (section_made a.header (command_made a.command (array []) a.lent.now) (type_of a.command) a.descriptors.now) a.refusal a.target.now c.write_section_without_components.result refl _ (omega arith) c.write_section_without_components.ensures.answer c.write_section_without_components.ensures.bytes in record { answer = c.flat_written.ensures ∙ w.0; bytes = w.1 }

pub returns : goal.returns
returns c =
    let a = c.args in
    let m = section_made a.header (command_made a.command (array []) a.lent.now) (type_of a.command) a.descriptors.now in
    let w = words_refused _ m a.refusal a.target.now c.write_section_without_components-2.result refl (omega arith) c.requires c.write_section_without_components-2.ensures.answer in record { answer = c.lower_refusal.ensures ∙ w.0; bytes = ap (λ (l : List ℕ). l ++ a.target.now) (c.write_section_without_components-2.ensures.bytes ∙ later_nil m) ∙ w.1 }
