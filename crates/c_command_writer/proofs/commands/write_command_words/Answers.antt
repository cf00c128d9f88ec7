-- `c_command_writer::commands::write_command_words`: with an array of components only where there are some.
use Prim.Native.Nat.{ℕ, ◌≤◌}
use mathlib.Core.List.{List, []}
use mathlib.Core.Path.{◌≡◌, refl, ap, sym, ◌∙◌}
use native.Mathlib.Omega.{arith}
use Rattle.command.specs.Command.{array, count_in}
use Rattle.command.specs.declared.SpliceCommand.{SpliceCommand}
use Rattle.command.specs.declared.components.InsertComponent.{InsertComponent}
use Rattle.command_measure.specs.Made.{command_made}
use Rattle.bit_stores.specs.Written.{answer_of, later_of}
use Rattle.table.specs.Writing.{Made}
use Rattle.c_command_writer.specs.Words.{no_less, flat_written}
use Rattle.c_command_writer.specs.CommandGiven.{command_given, components_from, command_refusal, command_words_made}
use Rattle.c_command_writer.proofs.Components.{no_places}
use Rattle.c_command_writer.proofs.Refusals.{command_small}
use Rattle.c_command_writer.proofs.commands.write_command_words.Goals as goal

parts : (words components lent : List ℕ) (g : SpliceCommand) (p : List InsertComponent) (r : ℕ)
    → g ≡ command_given words → p ≡ components_from (count_in g) components → r ≡ command_refusal g words components lent
    → no_less r (command_made g p lent) ≡ command_words_made words components lent
unfolding command_words_made
parts words components lent g p r e h i = rw (i, h, e)

pub write_words_without_components-requires : goal.write_words_without_components-requires
write_words_without_components-requires c =
    let small : c.command_refusal-refusal.result ≤ 36 = let a = c.args in omega (arith, c.command_refusal-refusal.ensures, command_small c.command_given-command.result a.words.now a.components.now a.lent.now) in
    small

pub returns-then-count_in_command-eq0 : goal.returns-then-count_in_command-eq0
returns-then-count_in_command-eq0 c =
    let made : (p : List InsertComponent) → let g = c.command_given-command.result in let a = c.args in p ≡ components_from (count_in g) a.components.now → no_less c.command_refusal-refusal.result (command_made g p a.lent.now) ≡ command_words_made a.words.now a.components.now a.lent.now = λ p e. let a = c.args in parts a.words.now a.components.now a.lent.now _ p _ c.command_given-command.ensures e c.command_refusal-refusal.ensures in
    let a = c.args in
    let e = made (array []) (no_places (count_in c.command_given-command.result) a.components.now (sym c.count_in_command.ensures ∙ c.if-count_in_command-eq0.true)) in record { answer = c.write_words_without_components.ensures.answer ∙ ap (λ (m : Made). flat_written (answer_of m a.target.now)) e; bytes = c.write_words_without_components.ensures.bytes ∙ ap (λ (m : Made). later_of m a.target.now) e }

pub write_listed_words-requires : goal.write_listed_words-requires
write_listed_words-requires c =
    let small : c.command_refusal-refusal.result ≤ 36 = let a = c.args in omega (arith, c.command_refusal-refusal.ensures, command_small c.command_given-command.result a.words.now a.components.now a.lent.now) in
    small

pub returns : goal.returns
returns c =
    let made : (p : List InsertComponent) → let g = c.command_given-command.result in let a = c.args in p ≡ components_from (count_in g) a.components.now → no_less c.command_refusal-refusal.result (command_made g p a.lent.now) ≡ command_words_made a.words.now a.components.now a.lent.now = λ p e. let a = c.args in parts a.words.now a.components.now a.lent.now _ p _ c.command_given-command.ensures e c.command_refusal-refusal.ensures in
    let a = c.args in
    let e = made _ refl in record { answer = c.write_listed_words.ensures.answer ∙ ap (λ (m : Made). flat_written (answer_of m a.target.now)) e; bytes = c.write_listed_words.ensures.bytes ∙ ap (λ (m : Made). later_of m a.target.now) e }
