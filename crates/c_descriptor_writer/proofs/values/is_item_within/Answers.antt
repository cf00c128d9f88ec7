-- `c_descriptor_writer::values::is_item_within`, four words at a time.
use Prim.Native.Nat.{ℕ}
use mathlib.Core.Bool.{Bool, true, ◌&&◌}
use mathlib.Core.List.{List, [], ◌∷◌}
use mathlib.Core.Path.{◌≡◌, ap, sym, ◌∙◌}
use lib.ListN.{drop}
use borrow.Author.Tests.{not-true, not-false}
use Rattle.c_command_writer.specs.Words.{within}
use Rattle.c_descriptor_writer.specs.ItemWords.{item_widths}
use Rattle.c_command_writer.proofs.Words.{within_next}
use Rattle.c_descriptor_writer.proofs.values.is_item_within.Goals as goal

by_fours : (words : List ℕ) → within item_widths (drop 5 words) ≡ within (32 ∷ 64 ∷ 32 ∷ 8 ∷ []) (drop 5 words) && (within (32 ∷ 1 ∷ 1 ∷ 1 ∷ []) (drop 9 words) && (within (1 ∷ 1 ∷ 1 ∷ 1 ∷ []) (drop 13 words) && (within (2 ∷ 8 ∷ 40 ∷ 8 ∷ []) (drop 17 words) && (within (8 ∷ 8 ∷ 8 ∷ 1 ∷ []) (drop 21 words) && (within (8 ∷ 8 ∷ 48 ∷ 32 ∷ []) (drop 25 words) && within (16 ∷ 8 ∷ 64 ∷ 64 ∷ []) (drop 29 words))))))
unfolding item_widths
by_fours words =
    within_next 32 64 32 8 _ words 5 ∙ ap (λ (b : Bool). within (32 ∷ 64 ∷ 32 ∷ 8 ∷ []) (drop 5 words) && b) (within_next 32 1 1 1 _ words 9 ∙ ap (λ (b : Bool). within (32 ∷ 1 ∷ 1 ∷ 1 ∷ []) (drop 9 words) && b) (within_next 1 1 1 1 _ words 13 ∙ ap (λ (b : Bool). within (1 ∷ 1 ∷ 1 ∷ 1 ∷ []) (drop 13 words) && b) (within_next 2 8 40 8 _ words 17 ∙ ap (λ (b : Bool). within (2 ∷ 8 ∷ 40 ∷ 8 ∷ []) (drop 17 words) && b) (within_next 8 8 8 1 _ words 21 ∙ ap (λ (b : Bool). within (8 ∷ 8 ∷ 8 ∷ 1 ∷ []) (drop 21 words) && b) (within_next 8 8 48 32 _ words 25)))))

pub returns-then-not-are_four_within : goal.returns-then-not-are_four_within
returns-then-not-are_four_within c =
    let a = c.args in
    rw (by_fours a.words.now, sym (c.are_four_within.ensures ∙ ap (within (32 ∷ 64 ∷ 32 ∷ 8 ∷ [])) c.words_from.ensures) ∙ not-true _ c.if-not-are_four_within.true-raw)

pub returns-then-not-are_four_within-2 : goal.returns-then-not-are_four_within-2
returns-then-not-are_four_within-2 c =
    let passed_1 : let a = c.args in within (32 ∷ 64 ∷ 32 ∷ 8 ∷ []) (drop 5 a.words.now) ≡ true = sym (c.are_four_within.ensures ∙ ap (within (32 ∷ 64 ∷ 32 ∷ 8 ∷ [])) c.words_from.ensures) ∙ not-false _ c.if-not-are_four_within.false-raw in
    let a = c.args in
    rw (by_fours a.words.now, passed_1, sym (c.are_four_within-2.ensures ∙ ap (within (32 ∷ 1 ∷ 1 ∷ 1 ∷ [])) c.words_from-2.ensures) ∙ not-true _ c.if-not-are_four_within-2.true-raw)

pub returns-then-not-are_four_within-3 : goal.returns-then-not-are_four_within-3
returns-then-not-are_four_within-3 c =
    let passed_1 : let a = c.args in within (32 ∷ 64 ∷ 32 ∷ 8 ∷ []) (drop 5 a.words.now) ≡ true = sym (c.are_four_within.ensures ∙ ap (within (32 ∷ 64 ∷ 32 ∷ 8 ∷ [])) c.words_from.ensures) ∙ not-false _ c.if-not-are_four_within.false-raw in
    let passed_2 : let a = c.args in within (32 ∷ 1 ∷ 1 ∷ 1 ∷ []) (drop 9 a.words.now) ≡ true = sym (c.are_four_within-2.ensures ∙ ap (within (32 ∷ 1 ∷ 1 ∷ 1 ∷ [])) c.words_from-2.ensures) ∙ not-false _ c.if-not-are_four_within-2.false-raw in
    let a = c.args in
    rw (by_fours a.words.now, passed_1, passed_2, sym (c.are_four_within-3.ensures ∙ ap (within (1 ∷ 1 ∷ 1 ∷ 1 ∷ [])) c.words_from-3.ensures) ∙ not-true _ c.if-not-are_four_within-3.true-raw)

pub returns-then-not-are_four_within-4 : goal.returns-then-not-are_four_within-4
returns-then-not-are_four_within-4 c =
    let passed_1 : let a = c.args in within (32 ∷ 64 ∷ 32 ∷ 8 ∷ []) (drop 5 a.words.now) ≡ true = sym (c.are_four_within.ensures ∙ ap (within (32 ∷ 64 ∷ 32 ∷ 8 ∷ [])) c.words_from.ensures) ∙ not-false _ c.if-not-are_four_within.false-raw in
    let passed_2 : let a = c.args in within (32 ∷ 1 ∷ 1 ∷ 1 ∷ []) (drop 9 a.words.now) ≡ true = sym (c.are_four_within-2.ensures ∙ ap (within (32 ∷ 1 ∷ 1 ∷ 1 ∷ [])) c.words_from-2.ensures) ∙ not-false _ c.if-not-are_four_within-2.false-raw in
    let passed_3 : let a = c.args in within (1 ∷ 1 ∷ 1 ∷ 1 ∷ []) (drop 13 a.words.now) ≡ true = sym (c.are_four_within-3.ensures ∙ ap (within (1 ∷ 1 ∷ 1 ∷ 1 ∷ [])) c.words_from-3.ensures) ∙ not-false _ c.if-not-are_four_within-3.false-raw in
    let a = c.args in
    rw (by_fours a.words.now, passed_1, passed_2, passed_3, sym (c.are_four_within-4.ensures ∙ ap (within (2 ∷ 8 ∷ 40 ∷ 8 ∷ [])) c.words_from-4.ensures) ∙ not-true _ c.if-not-are_four_within-4.true-raw)

pub returns-then-not-are_four_within-5 : goal.returns-then-not-are_four_within-5
returns-then-not-are_four_within-5 c =
    let passed_1 : let a = c.args in within (32 ∷ 64 ∷ 32 ∷ 8 ∷ []) (drop 5 a.words.now) ≡ true = sym (c.are_four_within.ensures ∙ ap (within (32 ∷ 64 ∷ 32 ∷ 8 ∷ [])) c.words_from.ensures) ∙ not-false _ c.if-not-are_four_within.false-raw in
    let passed_2 : let a = c.args in within (32 ∷ 1 ∷ 1 ∷ 1 ∷ []) (drop 9 a.words.now) ≡ true = sym (c.are_four_within-2.ensures ∙ ap (within (32 ∷ 1 ∷ 1 ∷ 1 ∷ [])) c.words_from-2.ensures) ∙ not-false _ c.if-not-are_four_within-2.false-raw in
    let passed_3 : let a = c.args in within (1 ∷ 1 ∷ 1 ∷ 1 ∷ []) (drop 13 a.words.now) ≡ true = sym (c.are_four_within-3.ensures ∙ ap (within (1 ∷ 1 ∷ 1 ∷ 1 ∷ [])) c.words_from-3.ensures) ∙ not-false _ c.if-not-are_four_within-3.false-raw in
    let passed_4 : let a = c.args in within (2 ∷ 8 ∷ 40 ∷ 8 ∷ []) (drop 17 a.words.now) ≡ true = sym (c.are_four_within-4.ensures ∙ ap (within (2 ∷ 8 ∷ 40 ∷ 8 ∷ [])) c.words_from-4.ensures) ∙ not-false _ c.if-not-are_four_within-4.false-raw in
    let a = c.args in
    rw (by_fours a.words.now, passed_1, passed_2, passed_3, passed_4, sym (c.are_four_within-5.ensures ∙ ap (within (8 ∷ 8 ∷ 8 ∷ 1 ∷ [])) c.words_from-5.ensures) ∙ not-true _ c.if-not-are_four_within-5.true-raw)

pub returns-then-not-are_four_within-6 : goal.returns-then-not-are_four_within-6
returns-then-not-are_four_within-6 c =
    let passed_1 : let a = c.args in within (32 ∷ 64 ∷ 32 ∷ 8 ∷ []) (drop 5 a.words.now) ≡ true = sym (c.are_four_within.ensures ∙ ap (within (32 ∷ 64 ∷ 32 ∷ 8 ∷ [])) c.words_from.ensures) ∙ not-false _ c.if-not-are_four_within.false-raw in
    let passed_2 : let a = c.args in within (32 ∷ 1 ∷ 1 ∷ 1 ∷ []) (drop 9 a.words.now) ≡ true = sym (c.are_four_within-2.ensures ∙ ap (within (32 ∷ 1 ∷ 1 ∷ 1 ∷ [])) c.words_from-2.ensures) ∙ not-false _ c.if-not-are_four_within-2.false-raw in
    let passed_3 : let a = c.args in within (1 ∷ 1 ∷ 1 ∷ 1 ∷ []) (drop 13 a.words.now) ≡ true = sym (c.are_four_within-3.ensures ∙ ap (within (1 ∷ 1 ∷ 1 ∷ 1 ∷ [])) c.words_from-3.ensures) ∙ not-false _ c.if-not-are_four_within-3.false-raw in
    let passed_4 : let a = c.args in within (2 ∷ 8 ∷ 40 ∷ 8 ∷ []) (drop 17 a.words.now) ≡ true = sym (c.are_four_within-4.ensures ∙ ap (within (2 ∷ 8 ∷ 40 ∷ 8 ∷ [])) c.words_from-4.ensures) ∙ not-false _ c.if-not-are_four_within-4.false-raw in
    let passed_5 : let a = c.args in within (8 ∷ 8 ∷ 8 ∷ 1 ∷ []) (drop 21 a.words.now) ≡ true = sym (c.are_four_within-5.ensures ∙ ap (within (8 ∷ 8 ∷ 8 ∷ 1 ∷ [])) c.words_from-5.ensures) ∙ not-false _ c.if-not-are_four_within-5.false-raw in
    let a = c.args in
    rw (by_fours a.words.now, passed_1, passed_2, passed_3, passed_4, passed_5, sym (c.are_four_within-6.ensures ∙ ap (within (8 ∷ 8 ∷ 48 ∷ 32 ∷ [])) c.words_from-6.ensures) ∙ not-true _ c.if-not-are_four_within-6.true-raw)

pub returns : goal.returns
returns c =
    let passed_1 : let a = c.args in within (32 ∷ 64 ∷ 32 ∷ 8 ∷ []) (drop 5 a.words.now) ≡ true = sym (c.are_four_within.ensures ∙ ap (within (32 ∷ 64 ∷ 32 ∷ 8 ∷ [])) c.words_from.ensures) ∙ not-false _ c.if-not-are_four_within.false-raw in
    let passed_2 : let a = c.args in within (32 ∷ 1 ∷ 1 ∷ 1 ∷ []) (drop 9 a.words.now) ≡ true = sym (c.are_four_within-2.ensures ∙ ap (within (32 ∷ 1 ∷ 1 ∷ 1 ∷ [])) c.words_from-2.ensures) ∙ not-false _ c.if-not-are_four_within-2.false-raw in
    let passed_3 : let a = c.args in within (1 ∷ 1 ∷ 1 ∷ 1 ∷ []) (drop 13 a.words.now) ≡ true = sym (c.are_four_within-3.ensures ∙ ap (within (1 ∷ 1 ∷ 1 ∷ 1 ∷ [])) c.words_from-3.ensures) ∙ not-false _ c.if-not-are_four_within-3.false-raw in
    let passed_4 : let a = c.args in within (2 ∷ 8 ∷ 40 ∷ 8 ∷ []) (drop 17 a.words.now) ≡ true = sym (c.are_four_within-4.ensures ∙ ap (within (2 ∷ 8 ∷ 40 ∷ 8 ∷ [])) c.words_from-4.ensures) ∙ not-false _ c.if-not-are_four_within-4.false-raw in
    let passed_5 : let a = c.args in within (8 ∷ 8 ∷ 8 ∷ 1 ∷ []) (drop 21 a.words.now) ≡ true = sym (c.are_four_within-5.ensures ∙ ap (within (8 ∷ 8 ∷ 8 ∷ 1 ∷ [])) c.words_from-5.ensures) ∙ not-false _ c.if-not-are_four_within-5.false-raw in
    let passed_6 : let a = c.args in within (8 ∷ 8 ∷ 48 ∷ 32 ∷ []) (drop 25 a.words.now) ≡ true = sym (c.are_four_within-6.ensures ∙ ap (within (8 ∷ 8 ∷ 48 ∷ 32 ∷ [])) c.words_from-6.ensures) ∙ not-false _ c.if-not-are_four_within-6.false-raw in
    let a = c.args in
    rw (by_fours a.words.now, passed_1, passed_2, passed_3, passed_4, passed_5, passed_6) (c.are_four_within-7.ensures ∙ ap (within (16 ∷ 8 ∷ 64 ∷ 64 ∷ [])) c.words_from-7.ensures)
