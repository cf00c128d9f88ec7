-- `c_command_writer::commands::is_command_within`, four words at a time.
use Prim.Native.Nat.{ℕ, ◌^◌}
use mathlib.Core.Bool.{Bool, true, ◌&&◌}
use mathlib.Core.List.{List, [], ◌∷◌}
use mathlib.Core.Path.{◌≡◌, ap, sym, ◌∙◌}
use lib.Dec.{ltb}
use lib.ListN.{drop}
use borrow.Author.Tests.{not-true, not-false}
use Rattle.c_command_writer.specs.CommandWords.{command_widths}
use Rattle.c_command_writer.specs.Words.{within}
use Rattle.c_command_writer.proofs.Words.{within_next, within_last}
use Rattle.c_command_writer.proofs.commands.is_command_within.Goals as goal

by_fours : (words : List ℕ) → within command_widths words ≡ within (64 ∷ 8 ∷ 32 ∷ 1 ∷ []) words && (within (7 ∷ 1 ∷ 1 ∷ 2 ∷ []) (drop 4 words) && (within (33 ∷ 8 ∷ 1 ∷ 1 ∷ []) (drop 8 words) && (within (33 ∷ 16 ∷ 8 ∷ 8 ∷ []) (drop 12 words) && (within (2 ∷ 33 ∷ 32 ∷ 64 ∷ []) (drop 16 words) && within (64 ∷ []) (drop 20 words)))))
unfolding command_widths
by_fours words = within_next 64 8 32 1 _ words 0 ∙ ap (λ (b : Bool). within (64 ∷ 8 ∷ 32 ∷ 1 ∷ []) words && b) (within_next 7 1 1 2 _ words 4 ∙ ap (λ (b : Bool). within (7 ∷ 1 ∷ 1 ∷ 2 ∷ []) (drop 4 words) && b) (within_next 33 8 1 1 _ words 8 ∙ ap (λ (b : Bool). within (33 ∷ 8 ∷ 1 ∷ 1 ∷ []) (drop 8 words) && b) (within_next 33 16 8 8 _ words 12 ∙ ap (λ (b : Bool). within (33 ∷ 16 ∷ 8 ∷ 8 ∷ []) (drop 12 words) && b) (within_next 2 33 32 64 _ words 16))))

pub returns-then-not-are_four_within : goal.returns-then-not-are_four_within
returns-then-not-are_four_within c =
    let a = c.args in
    rw (by_fours a.words.now, sym c.are_four_within.ensures ∙ not-true _ c.if-not-are_four_within.true-raw)

pub returns-then-not-are_four_within-2 : goal.returns-then-not-are_four_within-2
returns-then-not-are_four_within-2 c =
    let fits_1 : let a = c.args in within (64 ∷ 8 ∷ 32 ∷ 1 ∷ []) a.words.now ≡ true = sym c.are_four_within.ensures ∙ not-false _ c.if-not-are_four_within.false-raw in
    let a = c.args in
    rw (by_fours a.words.now, fits_1, sym (c.are_four_within-2.ensures ∙ ap (within (7 ∷ 1 ∷ 1 ∷ 2 ∷ [])) c.words_from.ensures) ∙ not-true _ c.if-not-are_four_within-2.true-raw)

pub returns-then-not-are_four_within-3 : goal.returns-then-not-are_four_within-3
returns-then-not-are_four_within-3 c =
    let fits_1 : let a = c.args in within (64 ∷ 8 ∷ 32 ∷ 1 ∷ []) a.words.now ≡ true = sym c.are_four_within.ensures ∙ not-false _ c.if-not-are_four_within.false-raw in
    let fits_2 : let a = c.args in within (7 ∷ 1 ∷ 1 ∷ 2 ∷ []) (drop 4 a.words.now) ≡ true = sym (c.are_four_within-2.ensures ∙ ap (within (7 ∷ 1 ∷ 1 ∷ 2 ∷ [])) c.words_from.ensures) ∙ not-false _ c.if-not-are_four_within-2.false-raw in
    let a = c.args in
    rw (by_fours a.words.now, fits_1, fits_2, sym (c.are_four_within-3.ensures ∙ ap (within (33 ∷ 8 ∷ 1 ∷ 1 ∷ [])) c.words_from-2.ensures) ∙ not-true _ c.if-not-are_four_within-3.true-raw)

pub returns-then-not-are_four_within-4 : goal.returns-then-not-are_four_within-4
returns-then-not-are_four_within-4 c =
    let fits_1 : let a = c.args in within (64 ∷ 8 ∷ 32 ∷ 1 ∷ []) a.words.now ≡ true = sym c.are_four_within.ensures ∙ not-false _ c.if-not-are_four_within.false-raw in
    let fits_2 : let a = c.args in within (7 ∷ 1 ∷ 1 ∷ 2 ∷ []) (drop 4 a.words.now) ≡ true = sym (c.are_four_within-2.ensures ∙ ap (within (7 ∷ 1 ∷ 1 ∷ 2 ∷ [])) c.words_from.ensures) ∙ not-false _ c.if-not-are_four_within-2.false-raw in
    let fits_3 : let a = c.args in within (33 ∷ 8 ∷ 1 ∷ 1 ∷ []) (drop 8 a.words.now) ≡ true = sym (c.are_four_within-3.ensures ∙ ap (within (33 ∷ 8 ∷ 1 ∷ 1 ∷ [])) c.words_from-2.ensures) ∙ not-false _ c.if-not-are_four_within-3.false-raw in
    let a = c.args in
    rw (by_fours a.words.now, fits_1, fits_2, fits_3, sym (c.are_four_within-4.ensures ∙ ap (within (33 ∷ 16 ∷ 8 ∷ 8 ∷ [])) c.words_from-3.ensures) ∙ not-true _ c.if-not-are_four_within-4.true-raw)

pub returns-then-not-are_four_within-5 : goal.returns-then-not-are_four_within-5
returns-then-not-are_four_within-5 c =
    let fits_1 : let a = c.args in within (64 ∷ 8 ∷ 32 ∷ 1 ∷ []) a.words.now ≡ true = sym c.are_four_within.ensures ∙ not-false _ c.if-not-are_four_within.false-raw in
    let fits_2 : let a = c.args in within (7 ∷ 1 ∷ 1 ∷ 2 ∷ []) (drop 4 a.words.now) ≡ true = sym (c.are_four_within-2.ensures ∙ ap (within (7 ∷ 1 ∷ 1 ∷ 2 ∷ [])) c.words_from.ensures) ∙ not-false _ c.if-not-are_four_within-2.false-raw in
    let fits_3 : let a = c.args in within (33 ∷ 8 ∷ 1 ∷ 1 ∷ []) (drop 8 a.words.now) ≡ true = sym (c.are_four_within-3.ensures ∙ ap (within (33 ∷ 8 ∷ 1 ∷ 1 ∷ [])) c.words_from-2.ensures) ∙ not-false _ c.if-not-are_four_within-3.false-raw in
    let fits_4 : let a = c.args in within (33 ∷ 16 ∷ 8 ∷ 8 ∷ []) (drop 12 a.words.now) ≡ true = sym (c.are_four_within-4.ensures ∙ ap (within (33 ∷ 16 ∷ 8 ∷ 8 ∷ [])) c.words_from-3.ensures) ∙ not-false _ c.if-not-are_four_within-4.false-raw in
    let a = c.args in
    rw (by_fours a.words.now, fits_1, fits_2, fits_3, fits_4, sym (c.are_four_within-5.ensures ∙ ap (within (2 ∷ 33 ∷ 32 ∷ 64 ∷ [])) c.words_from-4.ensures) ∙ not-true _ c.if-not-are_four_within-5.true-raw)

pub returns : goal.returns
returns c =
    let fits_1 : let a = c.args in within (64 ∷ 8 ∷ 32 ∷ 1 ∷ []) a.words.now ≡ true = sym c.are_four_within.ensures ∙ not-false _ c.if-not-are_four_within.false-raw in
    let fits_2 : let a = c.args in within (7 ∷ 1 ∷ 1 ∷ 2 ∷ []) (drop 4 a.words.now) ≡ true = sym (c.are_four_within-2.ensures ∙ ap (within (7 ∷ 1 ∷ 1 ∷ 2 ∷ [])) c.words_from.ensures) ∙ not-false _ c.if-not-are_four_within-2.false-raw in
    let fits_3 : let a = c.args in within (33 ∷ 8 ∷ 1 ∷ 1 ∷ []) (drop 8 a.words.now) ≡ true = sym (c.are_four_within-3.ensures ∙ ap (within (33 ∷ 8 ∷ 1 ∷ 1 ∷ [])) c.words_from-2.ensures) ∙ not-false _ c.if-not-are_four_within-3.false-raw in
    let fits_4 : let a = c.args in within (33 ∷ 16 ∷ 8 ∷ 8 ∷ []) (drop 12 a.words.now) ≡ true = sym (c.are_four_within-4.ensures ∙ ap (within (33 ∷ 16 ∷ 8 ∷ 8 ∷ [])) c.words_from-3.ensures) ∙ not-false _ c.if-not-are_four_within-4.false-raw in
    let fits_5 : let a = c.args in within (2 ∷ 33 ∷ 32 ∷ 64 ∷ []) (drop 16 a.words.now) ≡ true = sym (c.are_four_within-5.ensures ∙ ap (within (2 ∷ 33 ∷ 32 ∷ 64 ∷ [])) c.words_from-4.ensures) ∙ not-false _ c.if-not-are_four_within-5.false-raw in
    let a = c.args in
    rw (by_fours a.words.now, fits_1, fits_2, fits_3, fits_4, fits_5) (c.is_within.ensures ∙ ap (λ (x : ℕ). ltb x (2 ^ 64)) c.word_at.ensures ∙ within_last 64 a.words.now 20)
