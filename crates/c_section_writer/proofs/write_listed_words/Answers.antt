-- `c_section_writer::write_listed_words`: where the words are refused, the values are tried on no byte.
use Prim.Native.Nat.{ℕ}
use mathlib.Core.List.{List, ◌++◌}
use mathlib.Core.Path.{◌≡◌, ap, ◌∙◌}
use Rattle.command.specs.declared.components.InsertComponent.{InsertComponent}
use Rattle.command_measure.specs.Made.{command_made}
use Rattle.section_writer.specs.Writing.{section_made, type_of}
use Rattle.c_command_writer.specs.Words.{no_less}
use Rattle.command.specs.Command.{count_in}
use Rattle.c_command_writer.specs.CommandGiven.{components_from}
use Rattle.c_command_writer.proofs.Words.{words_refused, words_taken, later_nil}
use Rattle.c_section_writer.proofs.write_listed_words.Goals as goal

pub returns-then-refusal-gt0 : goal.returns-then-refusal-gt0
returns-then-refusal-gt0 c =
    let made : let a = c.args in no_less a.refusal (section_made a.header (command_made a.command c.components_given-places.result a.lent.now) (type_of a.command) a.descriptors.now) ≡ no_less a.refusal (section_made a.header (command_made a.command (components_from (count_in a.command) a.components.now) a.lent.now) (type_of a.command) a.descriptors.now) = let a = c.args in ap (λ (p : List InsertComponent). no_less a.refusal (section_made a.header (command_made a.command p a.lent.now) (type_of a.command) a.descriptors.now)) c.components_given-places.ensures in
    let a = c.args in
    let w = words_refused _ _ a.refusal a.target.now c.write_section.result made c.if-refusal-gt0.true c.requires c.write_section.ensures.answer in record { answer = c.lower_refusal.ensures ∙ w.0; bytes = ap (λ (l : List ℕ). l ++ a.target.now) (c.write_section.ensures.bytes ∙ later_nil (section_made a.header (command_made a.command c.components_given-places.result a.lent.now) (type_of a.command) a.descriptors.now)) ∙ w.1 }

pub returns : goal.returns
returns c =
    let made : let a = c.args in no_less a.refusal (section_made a.header (command_made a.command c.components_given-places.result a.lent.now) (type_of a.command) a.descriptors.now) ≡ no_less a.refusal (section_made a.header (command_made a.command (components_from (count_in a.command) a.components.now) a.lent.now) (type_of a.command) a.descriptors.now) = let a = c.args in ap (λ (p : List InsertComponent). no_less a.refusal (section_made a.header (command_made a.command p a.lent.now) (type_of a.command) a.descriptors.now)) c.components_given-places.ensures in
    let a = c.args in
    let w = words_taken _ _ a.refusal a.target.now c.write_section-2.result made _ c.if-refusal-gt0.false c.write_section-2.ensures.answer c.write_section-2.ensures.bytes in record { answer = c.flat_written.ensures ∙ w.0; bytes = w.1 }
