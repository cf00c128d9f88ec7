-- `c_command_writer::commands::words_refusal`, test by test.
use Prim.Native.Nat.{ℕ}
use mathlib.Core.Bool.{true, ◌&&◌}
use mathlib.Core.Path.{◌≡◌, ap, sym, ◌∙◌}
use borrow.Author.Tests.{not-true, not-false}
use Rattle.c_section.specs.FlatCommand.{flat_command, flat_command_read}
use Rattle.c_section.specs.declared.commands.FlatCommand.{FlatCommand}
use Rattle.c_command_writer.specs.Words.{within, same}
use Rattle.command.specs.Command.{count_in}
use Rattle.c_command_writer.specs.CommandGiven.{insert_components_within, own_insert_components, words_refusal}
use Rattle.c_command_writer.specs.CommandWords.{command_words, command_widths}
use Rattle.c_command_writer.proofs.Words.{first_wide, second_wide, first_other, second_other, no_refusal}
use Rattle.c_command_writer.proofs.commands.words_refusal.Goals as goal

pub returns-then-not-is_command_within : goal.returns-then-not-is_command_within
unfolding words_refusal
returns-then-not-is_command_within c =
    let a = c.args in
    first_wide (within command_widths a.words.now) (insert_components_within (count_in a.c) a.components.now) (same (command_words (flat_command a.c)) a.words.now && own_insert_components (count_in a.c) a.components.now) (sym c.is_command_within.ensures ∙ not-true _ c.if-not-is_command_within.true-raw)

pub returns-then-not-insert_components_within : goal.returns-then-not-insert_components_within
unfolding words_refusal
returns-then-not-insert_components_within c =
    let fits : let a = c.args in within command_widths a.words.now ≡ true = sym c.is_command_within.ensures ∙ not-false _ c.if-not-is_command_within.false-raw in
    let count : c.count_in_command-count.result ≡ count_in c.args.c = c.count_in_command-count.ensures in
    let all_fit : let a = c.args in c.insert_components_within.result ≡ insert_components_within (count_in a.c) a.components.now = c.insert_components_within.ensures ∙ ap (λ (n : ℕ). insert_components_within n c.args.components.now) count in
    let a = c.args in
    second_wide (within command_widths a.words.now) (insert_components_within (count_in a.c) a.components.now) (same (command_words (flat_command a.c)) a.words.now && own_insert_components (count_in a.c) a.components.now) fits (sym all_fit ∙ not-true _ c.if-not-insert_components_within.true-raw)

pub returns-then-not-is_flat_command : goal.returns-then-not-is_flat_command
unfolding words_refusal flat_command_read
returns-then-not-is_flat_command c =
    let fits : let a = c.args in within command_widths a.words.now ≡ true = sym c.is_command_within.ensures ∙ not-false _ c.if-not-is_command_within.false-raw in
    let count : c.count_in_command-count.result ≡ count_in c.args.c = c.count_in_command-count.ensures in
    let all_fit : let a = c.args in c.insert_components_within.result ≡ insert_components_within (count_in a.c) a.components.now = c.insert_components_within.ensures ∙ ap (λ (n : ℕ). insert_components_within n c.args.components.now) count in
    let own : let a = c.args in c.is_flat_command.result ≡ same (command_words (flat_command a.c)) a.words.now = c.is_flat_command.ensures ∙ ap (λ (f : FlatCommand). same (command_words f) c.args.words.now) c.flat_command_read.ensures in
    let a = c.args in
    first_other (within command_widths a.words.now) (insert_components_within (count_in a.c) a.components.now) (same (command_words (flat_command a.c)) a.words.now) (own_insert_components (count_in a.c) a.components.now) fits (sym all_fit ∙ not-false _ c.if-not-insert_components_within.false-raw) (sym own ∙ not-true _ c.if-not-is_flat_command.true-raw)

pub returns-then-not-own_insert_components : goal.returns-then-not-own_insert_components
unfolding words_refusal flat_command_read
returns-then-not-own_insert_components c =
    let fits : let a = c.args in within command_widths a.words.now ≡ true = sym c.is_command_within.ensures ∙ not-false _ c.if-not-is_command_within.false-raw in
    let count : c.count_in_command-count.result ≡ count_in c.args.c = c.count_in_command-count.ensures in
    let all_fit : let a = c.args in c.insert_components_within.result ≡ insert_components_within (count_in a.c) a.components.now = c.insert_components_within.ensures ∙ ap (λ (n : ℕ). insert_components_within n c.args.components.now) count in
    let own : let a = c.args in c.is_flat_command.result ≡ same (command_words (flat_command a.c)) a.words.now = c.is_flat_command.ensures ∙ ap (λ (f : FlatCommand). same (command_words f) c.args.words.now) c.flat_command_read.ensures in
    let all_own : let a = c.args in c.own_insert_components.result ≡ own_insert_components (count_in a.c) a.components.now = c.own_insert_components.ensures ∙ ap (λ (n : ℕ). own_insert_components n c.args.components.now) count in
    let a = c.args in
    second_other (within command_widths a.words.now) (insert_components_within (count_in a.c) a.components.now) (same (command_words (flat_command a.c)) a.words.now) (own_insert_components (count_in a.c) a.components.now) fits (sym all_fit ∙ not-false _ c.if-not-insert_components_within.false-raw) (sym own ∙ not-false _ c.if-not-is_flat_command.false-raw) (sym all_own ∙ not-true _ c.if-not-own_insert_components.true-raw)

pub returns : goal.returns
unfolding words_refusal flat_command_read
returns c =
    let fits : let a = c.args in within command_widths a.words.now ≡ true = sym c.is_command_within.ensures ∙ not-false _ c.if-not-is_command_within.false-raw in
    let count : c.count_in_command-count.result ≡ count_in c.args.c = c.count_in_command-count.ensures in
    let all_fit : let a = c.args in c.insert_components_within.result ≡ insert_components_within (count_in a.c) a.components.now = c.insert_components_within.ensures ∙ ap (λ (n : ℕ). insert_components_within n c.args.components.now) count in
    let own : let a = c.args in c.is_flat_command.result ≡ same (command_words (flat_command a.c)) a.words.now = c.is_flat_command.ensures ∙ ap (λ (f : FlatCommand). same (command_words f) c.args.words.now) c.flat_command_read.ensures in
    let all_own : let a = c.args in c.own_insert_components.result ≡ own_insert_components (count_in a.c) a.components.now = c.own_insert_components.ensures ∙ ap (λ (n : ℕ). own_insert_components n c.args.components.now) count in
    let a = c.args in
    no_refusal (within command_widths a.words.now) (insert_components_within (count_in a.c) a.components.now) (same (command_words (flat_command a.c)) a.words.now) (own_insert_components (count_in a.c) a.components.now) fits (sym all_fit ∙ not-false _ c.if-not-insert_components_within.false-raw) (sym own ∙ not-false _ c.if-not-is_flat_command.false-raw) (sym all_own ∙ not-false _ c.if-not-own_insert_components.false-raw)
