-- `c_descriptor_writer::words_refusal`, test by test.
use Prim.Native.Nat.{ℕ}
use mathlib.Core.Bool.{Bool, true, ◌&&◌}
use mathlib.Core.List.{List}
use mathlib.Core.Path.{◌≡◌, ap, sym, ◌∙◌}
use lib.ListN.{drop}
use borrow.Author.Tests.{not-true, not-false}
use Rattle.c_command_writer.specs.Words.{within}
use Rattle.descriptor_measure.specs.Writing.{count_beside}
use Rattle.c_descriptor_writer.specs.ItemGiven.{own_item, words_refusal}
use Rattle.c_descriptor_writer.specs.ItemWords.{item_widths, beside_within, beside_there}
use Rattle.c_command_writer.proofs.Words.{first_wide, second_wide, first_other, second_other, no_refusal}
use Rattle.c_descriptor_writer.proofs.words_refusal.Goals as goal

abbrev wide : List ℕ → Bool
wide words = within item_widths (drop 5 words)

pub returns-then-not-is_item_within : goal.returns-then-not-is_item_within
unfolding words_refusal
returns-then-not-is_item_within c =
    let a = c.args in
    first_wide (wide a.words.now) (beside_within (count_beside a.d) a.beside.now) (own_item a.d a.words.now && beside_there (count_beside a.d) a.words.now a.beside.now) (sym c.is_item_within.ensures ∙ not-true _ c.if-not-is_item_within.true-raw)

pub returns-then-not-beside_within : goal.returns-then-not-beside_within
unfolding words_refusal
returns-then-not-beside_within c =
    let fits : let a = c.args in wide a.words.now ≡ true = sym c.is_item_within.ensures ∙ not-false _ c.if-not-is_item_within.false-raw in
    let all_fit : let a = c.args in c.beside_within.result ≡ beside_within (count_beside a.d) a.beside.now = c.beside_within.ensures ∙ ap (λ (n : ℕ). beside_within n c.args.beside.now) c.count_in_descriptor-count.ensures in
    let a = c.args in
    second_wide (wide a.words.now) (beside_within (count_beside a.d) a.beside.now) (own_item a.d a.words.now && beside_there (count_beside a.d) a.words.now a.beside.now) fits (sym all_fit ∙ not-true _ c.if-not-beside_within.true-raw)

pub returns-then-not-is_own_item : goal.returns-then-not-is_own_item
unfolding words_refusal
returns-then-not-is_own_item c =
    let fits : let a = c.args in wide a.words.now ≡ true = sym c.is_item_within.ensures ∙ not-false _ c.if-not-is_item_within.false-raw in
    let all_fit : let a = c.args in c.beside_within.result ≡ beside_within (count_beside a.d) a.beside.now = c.beside_within.ensures ∙ ap (λ (n : ℕ). beside_within n c.args.beside.now) c.count_in_descriptor-count.ensures in
    let a = c.args in
    first_other (wide a.words.now) (beside_within (count_beside a.d) a.beside.now) (own_item a.d a.words.now) (beside_there (count_beside a.d) a.words.now a.beside.now) fits (sym all_fit ∙ not-false _ c.if-not-beside_within.false-raw) (sym c.is_own_item.ensures ∙ not-true _ c.if-not-is_own_item.true-raw)

pub returns-then-not-is_beside_there : goal.returns-then-not-is_beside_there
unfolding words_refusal
returns-then-not-is_beside_there c =
    let fits : let a = c.args in wide a.words.now ≡ true = sym c.is_item_within.ensures ∙ not-false _ c.if-not-is_item_within.false-raw in
    let all_fit : let a = c.args in c.beside_within.result ≡ beside_within (count_beside a.d) a.beside.now = c.beside_within.ensures ∙ ap (λ (n : ℕ). beside_within n c.args.beside.now) c.count_in_descriptor-count.ensures in
    let all_there : let a = c.args in c.is_beside_there.result ≡ beside_there (count_beside a.d) a.words.now a.beside.now = let a = c.args in c.is_beside_there.ensures ∙ ap (λ (n : ℕ). beside_there n a.words.now a.beside.now) c.count_in_descriptor-count.ensures in
    let a = c.args in
    second_other (wide a.words.now) (beside_within (count_beside a.d) a.beside.now) (own_item a.d a.words.now) (beside_there (count_beside a.d) a.words.now a.beside.now) fits (sym all_fit ∙ not-false _ c.if-not-beside_within.false-raw) (sym c.is_own_item.ensures ∙ not-false _ c.if-not-is_own_item.false-raw) (sym all_there ∙ not-true _ c.if-not-is_beside_there.true-raw)

pub returns : goal.returns
unfolding words_refusal
returns c =
    let fits : let a = c.args in wide a.words.now ≡ true = sym c.is_item_within.ensures ∙ not-false _ c.if-not-is_item_within.false-raw in
    let all_fit : let a = c.args in c.beside_within.result ≡ beside_within (count_beside a.d) a.beside.now = c.beside_within.ensures ∙ ap (λ (n : ℕ). beside_within n c.args.beside.now) c.count_in_descriptor-count.ensures in
    let all_there : let a = c.args in c.is_beside_there.result ≡ beside_there (count_beside a.d) a.words.now a.beside.now = let a = c.args in c.is_beside_there.ensures ∙ ap (λ (n : ℕ). beside_there n a.words.now a.beside.now) c.count_in_descriptor-count.ensures in
    let a = c.args in
    no_refusal (wide a.words.now) (beside_within (count_beside a.d) a.beside.now) (own_item a.d a.words.now) (beside_there (count_beside a.d) a.words.now a.beside.now) fits (sym all_fit ∙ not-false _ c.if-not-beside_within.false-raw) (sym c.is_own_item.ensures ∙ not-false _ c.if-not-is_own_item.false-raw) (sym all_there ∙ not-false _ c.if-not-is_beside_there.false-raw)
