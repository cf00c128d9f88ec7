-- The words of a descriptor, within their widths, make it again, and so do those of what stands beside it.
use Prim.Native.Nat.{ℕ, zero, suc, ◌+◌, ◌-◌, ◌%◌, ◌^◌, ◌<◌, ◌≤◌}
use mathlib.Core.Bool.{Bool, true, false}
use mathlib.Core.List.{List, [], ◌∷◌}
use mathlib.Core.Path.{◌≡◌, refl, ap, sym, ◌∙◌}
use native.Mathlib.Nat.{mod-eq_of_lt, mod-lt}
use native.Mathlib.Omega.{arith}
use lib.Dec.{eqb, ltb, lit<}
use lib.ListN.{length, get_or, drop, replicate, length-append, length-replicate}
use lib.Seq.{get_or-drop, drop-drop}
use borrow.Author.Tests.{eqb-true, eq-eqb, ltb-true, lt-ltb}
use Rattle.descriptor.specs.Segmentation.{agrees, blank_component, by_program, count_of, lasting, writable_detail, writable_front, front_of}
use Rattle.descriptor.specs.Full.{filled, of_segmentation}
use Rattle.descriptor.specs.declared.Descriptor.{Descriptor}
use Rattle.descriptor.specs.declared.segmentation.SegmentationComponent.{SegmentationComponent}
use Rattle.descriptor.specs.declared.segmentation.DescriptorDetail.{DescriptorDetail}
use Rattle.descriptor.specs.declared.segmentation.SegmentationDetail.{SegmentationDetail}
use Rattle.descriptor.specs.declared.segmentation.SegmentationMode.{SegmentationMode}
use Rattle.descriptor_measure.specs.Private.{components_fields}
use Rattle.c_items.specs.FlatItem.{flat_sub_segments, active_segmentation, segmentation_head, segmentation_item, flat_descriptor}
use Rattle.c_items.specs.declared.descriptors.FlatItem.{FlatItem}
use Rattle.c_command_writer.specs.Words.{within, same, places_of, each_place}
use Rattle.table.proofs.Lists.{and_true, zero_one}
use Rattle.table.specs.Writing as writing
use Rattle.c_descriptor_writer.specs.ItemGiven.{item_in, descriptor_from, descriptor_given, place_from, byte_from}
use Rattle.c_descriptor_writer.specs.ItemWords.{item_words, item_widths, place_widths, tags_and_offsets}
use Rattle.c_descriptor_writer.proofs.Typed.{TypedMode, TypedSubs, TypedActive, TypedDetail, Typed}
use Rattle.c_descriptor_writer.proofs.Back.{words_back, item_agree, from_back}
use Rattle.std.proofs.Common.{Some, None, Option}
use Rattle.descriptor.specs.declared.segmentation.SubSegment.{SubSegment}

-- ---- word by word
word_next : (words : List ℕ) (i : ℕ) → get_or (drop 1 words) i 0 ≡ get_or words (suc i) 0
word_next [] i = refl
word_next (w ∷ words) i = refl

own_word : (own words : List ℕ) → same own words ≡ true → (i : ℕ) → i < length own → get_or words i 0 ≡ get_or own i 0
unfolding same
own_word [] words h i l = absurd (omega arith)
own_word (x ∷ own) words h zero l = eqb-true (get_or words 0 0) x (and_true (eqb (get_or words 0 0) x) _ h).0
own_word (x ∷ own) words h (suc i) l = sym (word_next words i) ∙ own_word own (drop 1 words) (and_true (eqb (get_or words 0 0) x) _ h).1 i (omega arith)

small_word : (widths words : List ℕ) → within widths words ≡ true → (i : ℕ) → i < length widths → get_or words i 0 < 2 ^ get_or widths i 0
unfolding within
small_word [] words h i l = absurd (omega arith)
small_word (w ∷ widths) words h zero l = ltb-true (get_or words 0 0) (2 ^ w) (and_true (ltb (get_or words 0 0) (2 ^ w)) _ h).0
small_word (w ∷ widths) words h (suc i) l =
    rw (← word_next words i) (small_word widths (drop 1 words) (and_true (ltb (get_or words 0 0) (2 ^ w)) _ h).1 i (omega arith))

pub step_small : (words : List ℕ) → within item_widths (drop 5 words) ≡ true → (i : ℕ) → i < 28 → get_or words (5 + i) 0 < 2 ^ get_or item_widths i 0
unfolding item_widths
step_small words w i h = rw (← get_or-drop 5 words i 0) (small_word item_widths (drop 5 words) w i h)

module _ (words : List ℕ) (f : FlatItem) (is : same (item_words f) (drop 6 words) ≡ true) where
  item_word : (i : ℕ) → i < 27 → get_or words (6 + i) 0 ≡ get_or (item_words f) i 0
  unfolding item_words
  item_word i h = sym (get_or-drop 6 words i 0) ∙ own_word (item_words f) (drop 6 words) is i h

  item_is : item_in words ≡ f
  item_is =
      let own : List ℕ = 0 ∷ 0 ∷ 0 ∷ 0 ∷ 0 ∷ 0 ∷ item_words f in
      item_agree words own (λ i h. item_word i h ∙ get_or-drop 6 own i 0) ∙ words_back 0 0 0 0 0 0 f

  item_small : within item_widths (drop 5 words) ≡ true → (i : ℕ) → i < 27 → get_or (item_words f) i 0 < 2 ^ get_or item_widths (1 + i) 0
  item_small w i h =
      let e : 6 + i ≡ 5 + (1 + i) = omega arith in
      rw (← item_word i h, e) (step_small words w (1 + i) (omega arith))

-- ---- a descriptor whose words are within their widths is of its types
pub agree : (a b : Bool) → agrees a b ≡ true → a ≡ b
agree true true e = refl
agree true false e = zero_one cc
agree false true e = zero_one cc
agree false false e = refl

abbrev Small : FlatItem → Type 0
Small f = (i : ℕ) → i < 27 → get_or (item_words f) i 0 < 2 ^ get_or item_widths (1 + i) 0

mode_typed : (m : SegmentationMode) → count_of m < 256 → TypedMode m
mode_typed SegmentationMode.Program h = tt
mode_typed (SegmentationMode.Component n) h = h

subs_typed : (s : Option SubSegment) → (flat_sub_segments s).sub_segment_num < 256 → (flat_sub_segments s).sub_segments_expected < 256 → TypedSubs s
unfolding flat_sub_segments
subs_typed None h g = tt
subs_typed (Some x) h g = (h, g)

active_typed : (event : ℕ) (i : SegmentationDetail) → writable_detail (DescriptorDetail.Active i) ≡ true → Small (segmentation_item event (DescriptorDetail.Active i)) → (event < 2 ^ 32) × TypedActive i
unfolding item_words item_widths segmentation_item active_segmentation writable_detail writable_front
active_typed event i f s =
    let g = and_true (writable_front (front_of (DescriptorDetail.Active i))) _ f in
    let p = and_true (agrees i.program_segmentation_flag (by_program i.segmentation_mode)) _ g.0 in
    let q = and_true (agrees i.segmentation_duration_flag (lasting i.segmentation_duration)) _ p.1 in (
      s 3 (lit< tt),
      record {
        mode = mode_typed i.segmentation_mode (s 12 (lit< tt));
        subs = subs_typed i.sub_segments (s 19 (lit< tt)) (s 20 (lit< tt));
        upid = s 14 (lit< tt);
        type_number = s 15 (lit< tt);
        num = s 16 (lit< tt);
        expected = s 17 (lit< tt);
        program_flag = agree _ _ p.0;
        duration_flag = agree _ _ q.0;
        free_flag = agree _ _ q.1;
        type_writable = g.1;
      },
    )

detail_typed : (event : ℕ) (d : DescriptorDetail) → writable_detail d ≡ true → Small (segmentation_item event d) → (event < 2 ^ 32) × TypedDetail d
unfolding item_words item_widths segmentation_item segmentation_head
detail_typed event DescriptorDetail.Cancel f s = (s 3 (lit< tt), tt)
detail_typed event (DescriptorDetail.Active i) f s = active_typed event i f s

typed : (d : Descriptor) → of_segmentation (λ x. writable_detail x.descriptor_detail) true d ≡ true → Small (flat_descriptor d) → Typed d
unfolding item_words item_widths flat_descriptor
typed (Descriptor.Avail x) f s = s 1 (lit< tt)
typed (Descriptor.Dtmf x) f s = s 2 (lit< tt)
typed (Descriptor.Segmentation x) f s = detail_typed x.segmentation_event_id x.descriptor_detail f s
typed (Descriptor.Time x) f s = (s 22 (lit< tt), s 23 (lit< tt))
typed (Descriptor.Reserved tag bytes) f s = s 24 (lit< tt)

pub given_is : (words : List ℕ) (d : Descriptor) → within item_widths (drop 5 words) ≡ true → same (item_words (flat_descriptor d)) (drop 6 words) ≡ true
    → of_segmentation (λ x. writable_detail x.descriptor_detail) true d ≡ true → descriptor_given words ≡ d
given_is words d w is f = ap descriptor_from (item_is words (flat_descriptor d) is) ∙ from_back d (typed d f (item_small words (flat_descriptor d) is w))

-- ---- what stands beside it
pub places_are : (cs : List SegmentationComponent) (words : List ℕ) → same (tags_and_offsets cs) words ≡ true → each_place (within place_widths) 2 (length cs) words ≡ true → places_of place_from 2 (length cs) words ≡ cs
unfolding same within place_widths each_place places_of place_from
places_are [] words s w = refl
places_are (c ∷ cs) words s w =
    let a = and_true (eqb (get_or words 0 0) c.component_tag) _ s in
    let b = and_true (eqb (get_or (drop 1 words) 0 0) c.pts_offset) _ a.1 in
    let v = and_true (within place_widths words) _ w in
    let t : get_or words 0 0 < 256 = ltb-true (get_or words 0 0) 256 (and_true (ltb (get_or words 0 0) 256) _ v.0).0 in
    let e : get_or words 0 0 % 256 ≡ c.component_tag = mod-eq_of_lt t ∙ eqb-true (get_or words 0 0) c.component_tag a.0 in
    let f : get_or words 1 0 ≡ c.pts_offset = sym (word_next words 0) ∙ eqb-true (get_or (drop 1 words) 0 0) c.pts_offset b.0 in
    rw (e, f, places_are cs (drop 2 words) (rw drop-drop at b.1) v.1)

pub places_own : (n : ℕ) (words : List ℕ) → each_place (within place_widths) 2 n words ≡ true → same (tags_and_offsets (places_of place_from 2 n words)) words ≡ true
unfolding same within place_widths each_place places_of place_from
places_own zero words w = refl
places_own (suc n) words w =
    let v = and_true (within place_widths words) _ w in
    let t : get_or words 0 0 < 256 = ltb-true (get_or words 0 0) 256 (and_true (ltb (get_or words 0 0) 256) _ v.0).0 in
    rw (mod-eq_of_lt t, word_next words 0, eq-eqb (get_or words 0 0) (get_or words 0 0) refl, eq-eqb (get_or words 1 0) (get_or words 1 0) refl, drop-drop 1 1 words) (places_own n (drop 2 words) v.1)

pub bytes_are : (n : ℕ) (s words : List ℕ) → length s ≡ n → same s words ≡ true → within (replicate n 8) words ≡ true → places_of byte_from 1 n words ≡ s
unfolding same within places_of
bytes_are zero [] words l e w = refl
bytes_are zero (b ∷ s) words l e w = absurd (omega arith)
bytes_are (suc n) [] words l e w = absurd (omega arith)
bytes_are (suc n) (b ∷ s) words l e w =
    let a = and_true (eqb (get_or words 0 0) b) _ e in
    let v = and_true (ltb (get_or words 0 0) 256) _ w in
    rw (mod-eq_of_lt (ltb-true (get_or words 0 0) 256 v.0), eqb-true (get_or words 0 0) b a.0, bytes_are n s (drop 1 words) (omega arith) a.1 v.1)

pub bytes_own : (n : ℕ) (words : List ℕ) → within (replicate n 8) words ≡ true → same (places_of byte_from 1 n words) words ≡ true
unfolding same within places_of
bytes_own zero words w = refl
bytes_own (suc n) words w =
    let v = and_true (ltb (get_or words 0 0) 256) _ w in
    rw (mod-eq_of_lt (ltb-true (get_or words 0 0) 256 v.0), eq-eqb (get_or words 0 0) (get_or words 0 0) refl) (bytes_own n (drop 1 words) v.1)

-- the components of these words are within their fields
pub places_fit : (n : ℕ) (words : List ℕ) → each_place (within place_widths) 2 n words ≡ true → writing.within (components_fields (places_of place_from 2 n words)) ≡ true
unfolding within place_widths each_place places_of place_from
places_fit zero words w = refl
places_fit (suc n) words w =
    let v = and_true (within place_widths words) _ w in
    let t = and_true (ltb (get_or (drop 1 words) 0 0) (2 ^ 33)) _ (and_true (ltb (get_or words 0 0) 256) _ v.0).1 in
    rw (lt-ltb (get_or words 0 0 % 256) 256 (mod-lt (get_or words 0 0) (lit< tt)), ← word_next words 0, t.0) (places_fit n (drop 2 words) v.1)

-- ---- an array of components
pub filled_length : (cs : List SegmentationComponent) → length cs ≤ 255 → length (filled cs) ≡ 255
unfolding filled
filled_length cs h = omega (arith, length-append cs (replicate (255 - length cs) blank_component), length-replicate (255 - length cs) blank_component)
