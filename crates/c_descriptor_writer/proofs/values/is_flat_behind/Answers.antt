-- `c_descriptor_writer::values::is_flat_behind`, four words at a time.
use Prim.Native.Nat.{ℕ}
use mathlib.Core.Bool.{Bool, true, ◌&&◌}
use mathlib.Core.List.{List, [], ◌∷◌}
use mathlib.Core.Path.{◌≡◌, ap, sym, ◌∙◌}
use lib.ListN.{drop}
use borrow.Author.Tests.{not-true, not-false}
use Rattle.c_items.specs.declared.descriptors.FlatItem.{FlatItem}
use Rattle.c_command_writer.specs.Words.{same}
use Rattle.c_descriptor_writer.specs.ItemWords.{item_words}
use Rattle.c_command_writer.proofs.Words.{same_next}
use Rattle.c_descriptor_writer.proofs.values.is_flat_behind.Goals as goal

abbrev part_1 : FlatItem → List ℕ
part_1 i = i.segmentation.component_count ∷ i.segmentation.segmentation_duration ∷ i.segmentation.segmentation_upid_type ∷ i.segmentation.segmentation_type_id ∷ []

abbrev part_2 : FlatItem → List ℕ
part_2 i = i.segmentation.segment_num ∷ i.segmentation.segments_expected ∷ i.segmentation.sub_segments.present ∷ i.segmentation.sub_segments.sub_segment_num ∷ []

by_fours : (i : FlatItem) (words : List ℕ) → same (drop 12 (item_words i)) (drop 18 words) ≡ same (part_1 i) (drop 18 words) && (same (part_2 i) (drop 22 words) && same (drop 20 (item_words i)) (drop 26 words))
unfolding item_words
by_fours i words =
    same_next i.segmentation.component_count i.segmentation.segmentation_duration i.segmentation.segmentation_upid_type i.segmentation.segmentation_type_id _ words 18 ∙ ap (λ (b : Bool). same (part_1 i) (drop 18 words) && b) (same_next i.segmentation.segment_num i.segmentation.segments_expected i.segmentation.sub_segments.present i.segmentation.sub_segments.sub_segment_num _ words 22)

pub returns-then-not-are_four_same : goal.returns-then-not-are_four_same
returns-then-not-are_four_same c =
    let a = c.args in
    rw (by_fours a.i a.words.now, sym (c.are_four_same.ensures ∙ ap (same (part_1 a.i)) c.words_from.ensures) ∙ not-true _ c.if-not-are_four_same.true-raw)

pub returns-then-not-are_four_same-2 : goal.returns-then-not-are_four_same-2
returns-then-not-are_four_same-2 c =
    let passed_1 : let a = c.args in same (part_1 a.i) (drop 18 a.words.now) ≡ true = sym (c.are_four_same.ensures ∙ ap (same (part_1 c.args.i)) c.words_from.ensures) ∙ not-false _ c.if-not-are_four_same.false-raw in
    let a = c.args in
    rw (by_fours a.i a.words.now, passed_1, sym (c.are_four_same-2.ensures ∙ ap (same (part_2 a.i)) c.words_from-2.ensures) ∙ not-true _ c.if-not-are_four_same-2.true-raw)

pub returns : goal.returns
returns c =
    let passed_1 : let a = c.args in same (part_1 a.i) (drop 18 a.words.now) ≡ true = sym (c.are_four_same.ensures ∙ ap (same (part_1 c.args.i)) c.words_from.ensures) ∙ not-false _ c.if-not-are_four_same.false-raw in
    let passed_2 : let a = c.args in same (part_2 a.i) (drop 22 a.words.now) ≡ true = sym (c.are_four_same-2.ensures ∙ ap (same (part_2 c.args.i)) c.words_from-2.ensures) ∙ not-false _ c.if-not-are_four_same-2.false-raw in
    let a = c.args in
    rw (by_fours a.i a.words.now, passed_1, passed_2) c.is_flat_end.ensures
