-- `c_descriptor_writer::values::is_flat_item`, four words at a time.
use Prim.Native.Nat.{ℕ}
use mathlib.Core.Bool.{Bool, true, ◌&&◌}
use mathlib.Core.List.{List, [], ◌∷◌}
use mathlib.Core.Path.{◌≡◌, ap, sym, ◌∙◌}
use lib.ListN.{drop}
use borrow.Author.Tests.{not-true, not-false}
use Rattle.c_items.specs.declared.descriptors.FlatItem.{FlatItem}
use Rattle.c_command_writer.specs.Words.{same}
use Rattle.c_descriptor_writer.specs.ItemWords.{item_words}
use Rattle.c_command_writer.proofs.Words.{same_next}
use Rattle.c_descriptor_writer.proofs.values.is_flat_item.Goals as goal

abbrev part_1 : FlatItem → List ℕ
part_1 i = i.kind ∷ i.provider_avail_id ∷ i.preroll ∷ i.segmentation.segmentation_event_id ∷ []

abbrev part_2 : FlatItem → List ℕ
part_2 i = i.segmentation.segmentation_event_cancel_indicator ∷ i.segmentation.program_segmentation_flag ∷ i.segmentation.segmentation_duration_flag ∷ i.segmentation.delivery_not_restricted_flag ∷ []

abbrev part_3 : FlatItem → List ℕ
part_3 i = i.segmentation.delivery_restrictions.web_delivery_allowed_flag ∷ i.segmentation.delivery_restrictions.no_regional_blackout_flag ∷ i.segmentation.delivery_restrictions.archive_allowed_flag ∷ i.segmentation.delivery_restrictions.device_restrictions ∷ []

by_fours : (i : FlatItem) (words : List ℕ) → same (item_words i) (drop 6 words) ≡ same (part_1 i) (drop 6 words) && (same (part_2 i) (drop 10 words) && (same (part_3 i) (drop 14 words) && same (drop 12 (item_words i)) (drop 18 words)))
unfolding item_words
by_fours i words =
    same_next i.kind i.provider_avail_id i.preroll i.segmentation.segmentation_event_id _ words 6 ∙ ap (λ (b : Bool). same (part_1 i) (drop 6 words) && b) (same_next i.segmentation.segmentation_event_cancel_indicator i.segmentation.program_segmentation_flag i.segmentation.segmentation_duration_flag i.segmentation.delivery_not_restricted_flag _ words 10 ∙ ap (λ (b : Bool). same (part_2 i) (drop 10 words) && b) (same_next i.segmentation.delivery_restrictions.web_delivery_allowed_flag i.segmentation.delivery_restrictions.no_regional_blackout_flag i.segmentation.delivery_restrictions.archive_allowed_flag i.segmentation.delivery_restrictions.device_restrictions _ words 14))

pub returns-then-not-are_four_same : goal.returns-then-not-are_four_same
returns-then-not-are_four_same c =
    let a = c.args in
    rw (by_fours a.i a.words.now, sym (c.are_four_same.ensures ∙ ap (same (part_1 a.i)) c.words_from.ensures) ∙ not-true _ c.if-not-are_four_same.true-raw)

pub returns-then-not-are_four_same-2 : goal.returns-then-not-are_four_same-2
returns-then-not-are_four_same-2 c =
    let passed_1 : let a = c.args in same (part_1 a.i) (drop 6 a.words.now) ≡ true = sym (c.are_four_same.ensures ∙ ap (same (part_1 c.args.i)) c.words_from.ensures) ∙ not-false _ c.if-not-are_four_same.false-raw in
    let a = c.args in
    rw (by_fours a.i a.words.now, passed_1, sym (c.are_four_same-2.ensures ∙ ap (same (part_2 a.i)) c.words_from-2.ensures) ∙ not-true _ c.if-not-are_four_same-2.true-raw)

pub returns-then-not-are_four_same-3 : goal.returns-then-not-are_four_same-3
returns-then-not-are_four_same-3 c =
    let passed_1 : let a = c.args in same (part_1 a.i) (drop 6 a.words.now) ≡ true = sym (c.are_four_same.ensures ∙ ap (same (part_1 c.args.i)) c.words_from.ensures) ∙ not-false _ c.if-not-are_four_same.false-raw in
    let passed_2 : let a = c.args in same (part_2 a.i) (drop 10 a.words.now) ≡ true = sym (c.are_four_same-2.ensures ∙ ap (same (part_2 c.args.i)) c.words_from-2.ensures) ∙ not-false _ c.if-not-are_four_same-2.false-raw in
    let a = c.args in
    rw (by_fours a.i a.words.now, passed_1, passed_2, sym (c.are_four_same-3.ensures ∙ ap (same (part_3 a.i)) c.words_from-3.ensures) ∙ not-true _ c.if-not-are_four_same-3.true-raw)

pub returns : goal.returns
returns c =
    let passed_1 : let a = c.args in same (part_1 a.i) (drop 6 a.words.now) ≡ true = sym (c.are_four_same.ensures ∙ ap (same (part_1 c.args.i)) c.words_from.ensures) ∙ not-false _ c.if-not-are_four_same.false-raw in
    let passed_2 : let a = c.args in same (part_2 a.i) (drop 10 a.words.now) ≡ true = sym (c.are_four_same-2.ensures ∙ ap (same (part_2 c.args.i)) c.words_from-2.ensures) ∙ not-false _ c.if-not-are_four_same-2.false-raw in
    let passed_3 : let a = c.args in same (part_3 a.i) (drop 14 a.words.now) ≡ true = sym (c.are_four_same-3.ensures ∙ ap (same (part_3 c.args.i)) c.words_from-3.ensures) ∙ not-false _ c.if-not-are_four_same-3.false-raw in
    let a = c.args in
    rw (by_fours a.i a.words.now, passed_1, passed_2, passed_3) c.is_flat_behind.ensures
