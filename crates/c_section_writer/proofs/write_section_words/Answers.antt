-- `c_section_writer::write_section_words`: with an array of components only where there are some.
use Prim.Native.Nat.{ℕ, ◌≤◌}
use mathlib.Core.List.{List, []}
use mathlib.Core.Path.{◌≡◌, refl, ap, sym, ◌∙◌}
use native.Mathlib.Omega.{arith}
use Rattle.command.specs.Command.{array, count_in}
use Rattle.command.specs.declared.SpliceCommand.{SpliceCommand}
use Rattle.command.specs.declared.components.InsertComponent.{InsertComponent}
use Rattle.command_measure.specs.Made.{command_made}
use Rattle.header.specs.declared.header.SpliceInfoHeader.{SpliceInfoHeader}
use Rattle.bit_stores.specs.Written.{answer_of, later_of}
use Rattle.section_writer.specs.Writing.{section_made, type_of}
use Rattle.table.specs.Writing.{Made}
use Rattle.c_command_writer.specs.Words.{no_less, flat_written}
use Rattle.c_command_writer.specs.CommandGiven.{command_given, components_from, command_refusal}
use Rattle.c_section_writer.specs.SectionGiven.{header_from, header_refusal, either, section_words_made}
use Rattle.c_command_writer.proofs.Components.{no_places}
use Rattle.c_command_writer.proofs.Refusals.{command_small}
use Rattle.c_section_writer.proofs.Refusals.{header_small, either_small}
use Rattle.c_section_writer.proofs.write_section_words.Goals as goal

parts : (header command components lent loop : List ℕ) (h : SpliceInfoHeader) (g : SpliceCommand) (p : List InsertComponent) (m n r : ℕ)
    → h ≡ header_from header → g ≡ command_given command → p ≡ components_from (count_in g) components → m ≡ header_refusal header → n ≡ command_refusal g command components lent → r ≡ either m n
    → no_less r (section_made h (command_made g p lent) (type_of g) loop) ≡ section_words_made header command components lent loop
unfolding section_words_made
parts header command components lent loop h g p m n r e f i j l o = rw (o, l, j, i, f, e)

pub write_words_without_components-requires : goal.write_words_without_components-requires
write_words_without_components-requires c =
    let small : c.either_refusal-refusal.result ≤ 36 = let a = c.args in let m : c.header_refusal.result ≤ 33 = omega (arith, c.header_refusal.ensures, header_small a.header.now) in let n : c.command_refusal.result ≤ 33 = omega (arith, c.command_refusal.ensures, command_small c.command_given-c.result a.command.now a.components.now a.lent.now) in omega (arith, c.either_refusal-refusal.ensures, either_small c.header_refusal.result c.command_refusal.result m n) in
    small

pub returns-then-count_in_command-eq0 : goal.returns-then-count_in_command-eq0
returns-then-count_in_command-eq0 c =
    let made : (p : List InsertComponent) → let g = c.command_given-c.result in let h = c.header_from-h.result in let a = c.args in p ≡ components_from (count_in g) a.components.now → no_less c.either_refusal-refusal.result (section_made h (command_made g p a.lent.now) (type_of g) a.descriptors.now) ≡ section_words_made a.header.now a.command.now a.components.now a.lent.now a.descriptors.now = λ p e. let a = c.args in parts a.header.now a.command.now a.components.now a.lent.now a.descriptors.now _ _ p _ _ _ c.header_from-h.ensures c.command_given-c.ensures e c.header_refusal.ensures c.command_refusal.ensures c.either_refusal-refusal.ensures in
    let a = c.args in
    let e = made (array []) (no_places (count_in c.command_given-c.result) a.components.now (sym c.count_in_command.ensures ∙ c.if-count_in_command-eq0.true)) in record { answer = c.write_words_without_components.ensures.answer ∙ ap (λ (m : Made). flat_written (answer_of m a.target.now)) e; bytes = c.write_words_without_components.ensures.bytes ∙ ap (λ (m : Made). later_of m a.target.now) e }

pub write_listed_words-requires : goal.write_listed_words-requires
write_listed_words-requires c =
    let small : c.either_refusal-refusal.result ≤ 36 = let a = c.args in let m : c.header_refusal.result ≤ 33 = omega (arith, c.header_refusal.ensures, header_small a.header.now) in let n : c.command_refusal.result ≤ 33 = omega (arith, c.command_refusal.ensures, command_small c.command_given-c.result a.command.now a.components.now a.lent.now) in omega (arith, c.either_refusal-refusal.ensures, either_small c.header_refusal.result c.command_refusal.result m n) in
    small

pub returns : goal.returns
returns c =
    let made : (p : List InsertComponent) → let g = c.command_given-c.result in let h = c.header_from-h.result in let a = c.args in p ≡ components_from (count_in g) a.components.now → no_less c.either_refusal-refusal.result (section_made h (command_made g p a.lent.now) (type_of g) a.descriptors.now) ≡ section_words_made a.header.now a.command.now a.components.now a.lent.now a.descriptors.now = λ p e. let a = c.args in parts a.header.now a.command.now a.components.now a.lent.now a.descriptors.now _ _ p _ _ _ c.header_from-h.ensures c.command_given-c.ensures e c.header_refusal.ensures c.command_refusal.ensures c.either_refusal-refusal.ensures in
    let a = c.args in
    let e = made _ refl in record { answer = c.write_listed_words.ensures.answer ∙ ap (λ (m : Made). flat_written (answer_of m a.target.now)) e; bytes = c.write_listed_words.ensures.bytes ∙ ap (λ (m : Made). later_of m a.target.now) e }
