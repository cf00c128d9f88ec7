-- `c_descriptor_writer::values::is_flat_end`, four words at a time.
use Prim.Native.Nat.{ℕ}
use mathlib.Core.Bool.{true, ◌&&◌}
use mathlib.Core.List.{List, [], ◌∷◌}
use mathlib.Core.Path.{◌≡◌, ap, sym, ◌∙◌}
use lib.ListN.{drop}
use borrow.Author.Tests.{not-true, not-false}
use Rattle.c_items.specs.declared.descriptors.FlatItem.{FlatItem}
use Rattle.c_command_writer.specs.Words.{same}
use Rattle.c_descriptor_writer.specs.ItemWords.{item_words}
use Rattle.c_command_writer.proofs.Words.{same_next}
use Rattle.c_descriptor_writer.proofs.values.is_flat_end.Goals as goal

abbrev part_1 : FlatItem → List ℕ
part_1 i = i.segmentation.sub_segments.sub_segments_expected ∷ i.time.tai_seconds ∷ i.time.tai_nanoseconds ∷ i.time.utc_offset ∷ []

by_fours : (i : FlatItem) (words : List ℕ) → same (drop 20 (item_words i)) (drop 26 words) ≡ same (part_1 i) (drop 26 words) && same (i.splice_descriptor_tag ∷ i.bytes.at ∷ i.bytes.len ∷ []) (drop 30 words)
unfolding item_words
by_fours i words =
    same_next i.segmentation.sub_segments.sub_segments_expected i.time.tai_seconds i.time.tai_nanoseconds i.time.utc_offset _ words 26

pub returns-then-not-are_four_same : goal.returns-then-not-are_four_same
returns-then-not-are_four_same c =
    let a = c.args in
    rw (by_fours a.i a.words.now, sym (c.are_four_same.ensures ∙ ap (same (part_1 a.i)) c.words_from.ensures) ∙ not-true _ c.if-not-are_four_same.true-raw)

pub returns : goal.returns
returns c =
    let passed_1 : let a = c.args in same (part_1 a.i) (drop 26 a.words.now) ≡ true = sym (c.are_four_same.ensures ∙ ap (same (part_1 c.args.i)) c.words_from.ensures) ∙ not-false _ c.if-not-are_four_same.false-raw in
    let a = c.args in
    rw (by_fours a.i a.words.now, passed_1) (c.are_same.ensures ∙ ap (same (a.i.splice_descriptor_tag ∷ a.i.bytes.at ∷ a.i.bytes.len ∷ [])) c.words_from-2.ensures)
