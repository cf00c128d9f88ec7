-- `c_descriptor_writer::beside::beside_within`, four words at a time.
use Prim.Native.Nat.{ℕ}
use mathlib.Core.Bool.{Bool, true, ◌&&◌}
use mathlib.Core.List.{List, [], ◌∷◌}
use mathlib.Core.Path.{◌≡◌, ap, sym, ◌∙◌}
use lib.ListN.{drop, replicate}
use borrow.Author.Tests.{not-true, not-false}
use Rattle.c_command_writer.specs.Words.{within}
use Rattle.c_descriptor_writer.specs.ItemWords.{places_within, beside_within}
use Rattle.c_command_writer.proofs.Words.{within_next}
use Rattle.c_descriptor_writer.proofs.beside.beside_within.Goals as goal

by_fours : (words : List ℕ) → within (replicate 12 8) (drop 515 words) ≡ within (8 ∷ 8 ∷ 8 ∷ 8 ∷ []) (drop 515 words) && (within (8 ∷ 8 ∷ 8 ∷ 8 ∷ []) (drop 519 words) && within (8 ∷ 8 ∷ 8 ∷ 8 ∷ []) (drop 523 words))
by_fours words = within_next 8 8 8 8 _ words 515 ∙ ap (λ (b : Bool). within (8 ∷ 8 ∷ 8 ∷ 8 ∷ []) (drop 515 words) && b) (within_next 8 8 8 8 _ words 519)

pub returns-then-not-places_within : goal.returns-then-not-places_within
unfolding beside_within
returns-then-not-places_within c = rw (sym c.places_within.ensures ∙ not-true _ c.if-not-places_within.true-raw)

pub returns-then-not-are_four_within : goal.returns-then-not-are_four_within
unfolding beside_within
returns-then-not-are_four_within c =
    let placed : let a = c.args in places_within a.count a.words.now ≡ true = sym c.places_within.ensures ∙ not-false _ c.if-not-places_within.false-raw in
    let a = c.args in
    rw (placed, by_fours a.words.now, sym (c.are_four_within.ensures ∙ ap (within (8 ∷ 8 ∷ 8 ∷ 8 ∷ [])) c.words_from.ensures) ∙ not-true _ c.if-not-are_four_within.true-raw)

pub returns-then-not-are_four_within-2 : goal.returns-then-not-are_four_within-2
unfolding beside_within
returns-then-not-are_four_within-2 c =
    let placed : let a = c.args in places_within a.count a.words.now ≡ true = sym c.places_within.ensures ∙ not-false _ c.if-not-places_within.false-raw in
    let passed_1 : let a = c.args in within (8 ∷ 8 ∷ 8 ∷ 8 ∷ []) (drop 515 a.words.now) ≡ true = sym (c.are_four_within.ensures ∙ ap (within (8 ∷ 8 ∷ 8 ∷ 8 ∷ [])) c.words_from.ensures) ∙ not-false _ c.if-not-are_four_within.false-raw in
    let a = c.args in
    rw (placed, by_fours a.words.now, passed_1, sym (c.are_four_within-2.ensures ∙ ap (within (8 ∷ 8 ∷ 8 ∷ 8 ∷ [])) c.words_from-2.ensures) ∙ not-true _ c.if-not-are_four_within-2.true-raw)

pub returns : goal.returns
unfolding beside_within
returns c =
    let placed : let a = c.args in places_within a.count a.words.now ≡ true = sym c.places_within.ensures ∙ not-false _ c.if-not-places_within.false-raw in
    let passed_1 : let a = c.args in within (8 ∷ 8 ∷ 8 ∷ 8 ∷ []) (drop 515 a.words.now) ≡ true = sym (c.are_four_within.ensures ∙ ap (within (8 ∷ 8 ∷ 8 ∷ 8 ∷ [])) c.words_from.ensures) ∙ not-false _ c.if-not-are_four_within.false-raw in
    let passed_2 : let a = c.args in within (8 ∷ 8 ∷ 8 ∷ 8 ∷ []) (drop 519 a.words.now) ≡ true = sym (c.are_four_within-2.ensures ∙ ap (within (8 ∷ 8 ∷ 8 ∷ 8 ∷ [])) c.words_from-2.ensures) ∙ not-false _ c.if-not-are_four_within-2.false-raw in
    let a = c.args in
    rw (placed, by_fours a.words.now, passed_1, passed_2) (c.are_four_within-3.ensures ∙ ap (within (8 ∷ 8 ∷ 8 ∷ 8 ∷ [])) c.words_from-3.ensures)
