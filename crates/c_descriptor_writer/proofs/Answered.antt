-- What is made of words is what they say, and nothing else is.
use Prim.Native.Nat.{ℕ, ◌+◌, ◌-◌, ◌%◌, ◌^◌, ◌<◌, ◌≤◌}
use mathlib.Core.Bool.{Bool, true, false, ◌&&◌, ◌||◌}
use mathlib.Core.List.{List}
use mathlib.Core.Path.{◌≡◌, refl, ap, ap₂, sym, ◌∙◌}
use native.Mathlib.Nat.{mod-eq_of_lt, mod-lt}
use native.Mathlib.Omega.{arith}
use lib.Dec.{eqb, ltb, leb, lit<, lit≤}
use lib.ListN.{length, get_or, take, drop, replicate}
use lib.Seq.{take_at, get_or-drop}
use borrow.Author.Tests.{eqb-true, eqb-false, lt-ltb, le-leb}
use Rattle.descriptor.specs.Plain as plain
use Rattle.descriptor.specs.Plain.{private_table}
use Rattle.descriptor.specs.Segmentation.{blank_component, by_program, count_of, lasting, unrestricted, writable_detail, ticks}
use Rattle.descriptor.specs.Full.{filled, of_segmentation}
use Rattle.descriptor.specs.declared.Descriptor.{Descriptor}
use Rattle.descriptor.specs.declared.plain.TimeDescriptor.{TimeDescriptor}
use Rattle.descriptor.specs.declared.segmentation.SegmentationComponent.{SegmentationComponent}
use Rattle.descriptor.specs.declared.segmentation.DescriptorDetail.{DescriptorDetail}
use Rattle.descriptor.specs.declared.segmentation.SegmentationDetail.{SegmentationDetail}
use Rattle.descriptor.specs.declared.segmentation.SegmentationMode.{SegmentationMode}
use Rattle.descriptor.specs.declared.full.Beside.{Beside}
use Rattle.descriptor_measure.specs.Writing.{count_beside, alone, writable_reserved, payload_made, tag_of, identifier_of, descriptor_made}
use Rattle.descriptor_measure.specs.Private.{components_fields, numbers_fit}
use Rattle.c_items.specs.FlatItem.{flat_descriptor, segmentation_item}
use Rattle.c_items.specs.declared.segmentations.FlatSegmentation.{FlatSegmentation}
use Rattle.c_command_writer.proofs.Words.{and_unit, places_length}
use Rattle.c_command_writer.proofs.Given.{same_at}
use Rattle.c_command_writer.specs.Words.{within, places_of, each_place, refusal_of, seen_first, no_less}
use Rattle.names.proofs.Segmentations.{segmentation_laws}
use Rattle.table.proofs.Lists.{and_true, zero_one}
use Rattle.table.specs.Bits.{pick}
use Rattle.table.specs.Table as tables
use Rattle.table.specs.Table.{reserved, part, remaining}
use Rattle.table.specs.Writing as writing
use Rattle.table.specs.Writing.{Made, refused, walk}
use Rattle.table.specs.declared.View.{View}
use Rattle.c_descriptor_writer.specs.ItemGiven.{segmentation_in, item_in, restrictions_from, detail_from, descriptor_from, descriptor_given, identifier_from, place_from, byte_from, places_from, eidr_from, beside_from, own_item, words_refusal, descriptor_refusal, descriptor_words_made}
use Rattle.c_descriptor_writer.specs.ItemWords.{item_words, item_widths, places_in, eidr_in, place_widths, places_within, beside_within, item_seen, view_fits, places_given, item_fits, beside_there, DescriptorIs, DescriptorAnswer, outside, over, nobodys, its}
use Rattle.c_descriptor_writer.proofs.Typed.{TypedMode, TypedSubs, TypedActive}
use Rattle.c_descriptor_writer.proofs.Own.{step_small, given_is, places_are, places_own, places_fit, bytes_are, bytes_own, filled_length}
use Rattle.c_descriptor_writer.proofs.Told.{Told, make_told, enveloped_told, enveloped_31, enveloped_unseen, told_as, mode_count, writable_active, active_fit, active_told, cancel_told}
use Rattle.std.proofs.Common.{Some, None}

-- ---- the descriptor that words make, by its kind
data Kind (k : ℕ) : Type 0 where
  dtmf : k ≡ 2 → Kind k
  cancel : k ≡ 3 → Kind k
  uncancelled : k ≡ 4 → Kind k
  time : k ≡ 5 → Kind k
  private : k ≡ 6 → Kind k
  other : eqb k 2 ≡ false → eqb k 3 ≡ false → eqb k 4 ≡ false → eqb k 5 ≡ false → eqb k 6 ≡ false → Kind k

either : {A : Type 0} (k n : ℕ) → (k ≡ n → A) → (eqb k n ≡ false → A) → A
either {A} k n f g = go (eqb k n) refl
  where
    go : (b : Bool) → eqb k n ≡ b → A
    go true e = f (eqb-true k n e)
    go false e = g e

kind_of_lem : (k : ℕ) → Kind k
kind_of_lem k = either k 2 dtmf (λ a. either k 3 cancel (λ b. either k 4 uncancelled (λ c. either k 5 time (λ d. either k 6 private (λ e. other a b c d e)))))

-- an active segmentation from words is of its types, whatever they are
from_typed : (s : FlatSegmentation) (v : View) → TypedActive (detail_from s v)
unfolding detail_from
from_typed s v =
    record {
      mode = modes (eqb s.program_segmentation_flag 1);
      subs = subs (eqb s.sub_segments.present 1);
      upid = mod-lt s.segmentation_upid_type (lit< tt);
      type_number = rw (segmentation_laws.there (s.segmentation_type_id % 256)) (mod-lt s.segmentation_type_id (lit< tt));
      num = mod-lt s.segment_num (lit< tt);
      expected = mod-lt s.segments_expected (lit< tt);
      program_flag = program (eqb s.program_segmentation_flag 1);
      duration_flag = lasts (eqb s.segmentation_duration_flag 1);
      free_flag = free (eqb s.delivery_not_restricted_flag 1);
      type_writable = segmentation_laws.is_writable (s.segmentation_type_id % 256);
    }
  where
    modes : (b : Bool) → TypedMode (pick b SegmentationMode.Program (SegmentationMode.Component (s.component_count % 256)))
    modes true = tt
    modes false = mod-lt s.component_count (lit< tt)

    subs : (b : Bool) → TypedSubs (pick b (Some (record { sub_segment_num = s.sub_segments.sub_segment_num % 256; sub_segments_expected = s.sub_segments.sub_segments_expected % 256 })) None)
    subs true = (mod-lt s.sub_segments.sub_segment_num (lit< tt), mod-lt s.sub_segments.sub_segments_expected (lit< tt))
    subs false = tt

    program : (b : Bool) → b ≡ by_program (pick b SegmentationMode.Program (SegmentationMode.Component (s.component_count % 256)))
    program true = refl
    program false = refl

    lasts : (b : Bool) → b ≡ lasting (pick b (Some s.segmentation_duration) None)
    lasts true = refl
    lasts false = refl

    free : (b : Bool) → b ≡ unrestricted (pick b None (Some (restrictions_from s.delivery_restrictions)))
    free true = refl
    free false = refl

-- is the view of a kind that has one seen? Of the others nothing is asked
abbrev kind_seen : List ℕ → List ℕ → Bool
kind_seen words lent =
    pick (eqb (get_or words 6 0) 2 || (eqb (get_or words 6 0) 4 || eqb (get_or words 6 0) 6)) (leb (get_or words 31 0 + get_or words 32 0) (length lent)) true

-- how many components it has, that its flags are writable, and what its writer says of its view and its numbers
record Facts (words id : List ℕ) (b : Beside) (lent : List ℕ) (d : Descriptor) : Type 0 where
  count : within item_widths (drop 5 words) ≡ true → count_beside d ≡ places_given words
  writable : of_segmentation (λ x. writable_detail x.descriptor_detail) true d ≡ true
  fit : Bool
  told : Told (kind_seen words lent) fit (payload_made d id b lent)
  tight : within item_widths (drop 5 words) ≡ true → writing.within (components_fields (take (count_beside d) b.components)) ≡ true → fit ≡ view_fits words

module _ (words : List ℕ) where
  abbrev view_given : View
  view_given = record { at = get_or words 31 0; len = get_or words 32 0 }

  abbrev detail_given : SegmentationDetail
  detail_given = detail_from (segmentation_in words) view_given

  abbrev event_given : ℕ
  event_given = get_or words 9 0 % 2 ^ 32

  module _ (e : get_or words 6 0 ≡ 2) where
    is_dtmf : descriptor_given words ≡ Descriptor.Dtmf (record { preroll = get_or words 8 0 % 256; dtmf_chars = view_given })
    unfolding descriptor_from item_in
    is_dtmf = rw e

    dtmf_facts : (id : List ℕ) (b : Beside) (lent : List ℕ) → Facts words id b lent (Descriptor.Dtmf (record { preroll = get_or words 8 0 % 256; dtmf_chars = view_given }))
    unfolding payload_made plain.dtmf tables.number reserved part
    dtmf_facts id b lent =
        record {
          count = λ w. rw e;
          writable = refl;
          fit = ltb (get_or words 32 0) 8;
          told =
              told_as (make_told (alone id b.eidr) lent (walk plain.dtmf (record { preroll = get_or words 8 0 % 256; dtmf_chars = view_given }) 0).fields)
              (rw e (sym (and_unit (leb (get_or words 31 0 + get_or words 32 0) (length lent)))))
              (rw (lt-ltb (get_or words 8 0 % 256) 256 (mod-lt (get_or words 8 0) (lit< tt))) (sym (and_unit (ltb (get_or words 32 0) 8))));
          tight = λ w p. rw e;
        }

  module _ (e : get_or words 6 0 ≡ 3) where
    is_cancel : descriptor_given words ≡ Descriptor.Segmentation (record { segmentation_event_id = event_given; descriptor_detail = DescriptorDetail.Cancel })
    unfolding descriptor_from item_in segmentation_in
    is_cancel = rw e

    cancel_facts : (id : List ℕ) (b : Beside) (lent : List ℕ) → Facts words id b lent (Descriptor.Segmentation (record { segmentation_event_id = event_given; descriptor_detail = DescriptorDetail.Cancel }))
    unfolding payload_made writable_detail item_widths
    cancel_facts id b lent =
        record {
          count = λ w. rw e;
          writable = refl;
          fit = true;
          told = rw e (cancel_told event_given id b lent (mod-lt (get_or words 9 0) (lit< tt)));
          tight = λ w p. rw e (sym (lt-ltb (get_or words 32 0) (2 ^ 64) (step_small words w 27 (lit< tt))));
        }

  module _ (e : get_or words 6 0 ≡ 4) where
    is_active_lem : descriptor_given words ≡ Descriptor.Segmentation (record { segmentation_event_id = event_given; descriptor_detail = DescriptorDetail.Active detail_given })
    unfolding descriptor_from item_in segmentation_in
    is_active_lem = rw e

    active_count : within item_widths (drop 5 words) ≡ true → count_of detail_given.segmentation_mode ≡ places_given words
    unfolding detail_from segmentation_in item_widths
    active_count w = go (eqb (get_or words 11 0) 1) refl
      where
        go : (c : Bool) → eqb (get_or words 11 0) 1 ≡ c → count_of (pick c SegmentationMode.Program (SegmentationMode.Component (get_or words 18 0 % 256))) ≡ places_given words
        go true f = let z : get_or words 11 0 ≡ 1 = eqb-true (get_or words 11 0) 1 f in rw (e, z)
        go false f =
            let z : get_or words 11 0 ≡ 0 = omega (arith, step_small words w 6 (lit< tt), eqb-false (get_or words 11 0) 1 f) in
            rw (e, z, mod-eq_of_lt (step_small words w 13 (lit< tt)))

    active_ticks : within item_widths (drop 5 words) ≡ true → ticks detail_given.segmentation_duration < 2 ^ 40
    unfolding detail_from segmentation_in item_widths
    active_ticks w = go (eqb (get_or words 12 0) 1)
      where
        go : (c : Bool) → ticks (pick c (Some (get_or words 19 0)) None) < 2 ^ 40
        go true = step_small words w 14 (lit< tt)
        go false = lit< tt

    active_facts : (id : List ℕ) (b : Beside) (lent : List ℕ) → length b.components ≡ 255 → length b.eidr ≡ 12
        → Facts words id b lent (Descriptor.Segmentation (record { segmentation_event_id = event_given; descriptor_detail = DescriptorDetail.Active detail_given }))
    unfolding payload_made detail_from
    active_facts id b lent many twelve =
        let i = detail_given in
        let t = from_typed (segmentation_in words) view_given in
        let ev : event_given < 2 ^ 32 = mod-lt (get_or words 9 0) (lit< tt) in
        record {
          count = active_count;
          writable = writable_active i t;
          fit = ltb (get_or words 32 0) 256 && numbers_fit i (take (count_of i.segmentation_mode) b.components);
          told = rw e (active_told event_given i id b lent many twelve ev t);
          tight = λ w p. rw (e, active_fit event_given i id b lent many twelve ev t (active_ticks w) p) (sym (and_unit (ltb (get_or words 32 0) 256)));
        }

  module _ (e : get_or words 6 0 ≡ 5) where
    abbrev time_given : TimeDescriptor
    time_given = record { tai_seconds = get_or words 27 0; tai_nanoseconds = get_or words 28 0 % 2 ^ 32; utc_offset = get_or words 29 0 % 65536 }

    is_time : descriptor_given words ≡ Descriptor.Time time_given
    unfolding descriptor_from item_in
    is_time = rw e

    time_facts : (id : List ℕ) (b : Beside) (lent : List ℕ) → Facts words id b lent (Descriptor.Time time_given)
    unfolding payload_made plain.time tables.number item_widths
    time_facts id b lent =
        record {
          count = λ w. rw e;
          writable = refl;
          fit = ltb (get_or words 27 0) (2 ^ 48);
          told =
              told_as (make_told (alone id b.eidr) lent (walk plain.time time_given 0).fields) (rw e)
              (rw (lt-ltb (get_or words 28 0 % 2 ^ 32) (2 ^ 32) (mod-lt (get_or words 28 0) (lit< tt)), lt-ltb (get_or words 29 0 % 65536) 65536 (mod-lt (get_or words 29 0) (lit< tt))) (sym (and_unit (ltb (get_or words 27 0) (2 ^ 48)))));
          tight = λ w p. rw (e, lt-ltb (get_or words 27 0) (2 ^ 48) (step_small words w 22 (lit< tt))) (sym (lt-ltb (get_or words 32 0) (2 ^ 64) (step_small words w 27 (lit< tt))));
        }

  module _ (e : get_or words 6 0 ≡ 6) where
    is_private : descriptor_given words ≡ Descriptor.Reserved (get_or words 30 0 % 256) view_given
    unfolding descriptor_from item_in
    is_private = rw e

    private_facts : (id : List ℕ) (b : Beside) (lent : List ℕ) → Facts words id b lent (Descriptor.Reserved (get_or words 30 0 % 256) view_given)
    unfolding payload_made private_table remaining part item_widths
    private_facts id b lent =
        record {
          count = λ w. rw e;
          writable = refl;
          fit = true;
          told =
              told_as (make_told (writable_reserved (get_or words 30 0 % 256) id b.eidr) lent (walk private_table view_given 0).fields)
              (rw e (sym (and_unit (leb (get_or words 31 0 + get_or words 32 0) (length lent))))) refl;
          tight = λ w p. rw e (sym (lt-ltb (get_or words 32 0) (2 ^ 64) (step_small words w 27 (lit< tt))));
        }

  module _ (h₂ : eqb (get_or words 6 0) 2 ≡ false) (h₃ : eqb (get_or words 6 0) 3 ≡ false) (h₄ : eqb (get_or words 6 0) 4 ≡ false) (h₅ : eqb (get_or words 6 0) 5 ≡ false) (h₆ : eqb (get_or words 6 0) 6 ≡ false) where
    is_avail : descriptor_given words ≡ Descriptor.Avail (record { provider_avail_id = get_or words 7 0 % 2 ^ 32 })
    unfolding descriptor_from item_in
    is_avail = rw (h₂, h₃, h₄, h₅, h₆)

    avail_facts : (id : List ℕ) (b : Beside) (lent : List ℕ) → Facts words id b lent (Descriptor.Avail (record { provider_avail_id = get_or words 7 0 % 2 ^ 32 }))
    unfolding payload_made plain.avail tables.number item_widths
    avail_facts id b lent =
        record {
          count = λ w. rw h₄;
          writable = refl;
          fit = true;
          told =
              told_as (make_told (alone id b.eidr) lent (walk plain.avail (record { provider_avail_id = get_or words 7 0 % 2 ^ 32 }) 0).fields) (rw (h₂, h₄, h₆))
              (rw (lt-ltb (get_or words 7 0 % 2 ^ 32) (2 ^ 32) (mod-lt (get_or words 7 0) (lit< tt))));
          tight = λ w p. rw (h₂, h₄) (sym (lt-ltb (get_or words 32 0) (2 ^ 64) (step_small words w 27 (lit< tt))));
        }

  few_given : Kind (get_or words 6 0) → count_beside (descriptor_given words) ≤ 255
  few_given (dtmf e) = rw (is_dtmf e) (lit≤ tt)
  few_given (cancel e) = rw (is_cancel e) (lit≤ tt)
  few_given (uncancelled e) = rw (is_active_lem e) (omega (arith, mode_count detail_given.segmentation_mode (from_typed (segmentation_in words) view_given).mode))
  few_given (time e) = rw (is_time e) (lit≤ tt)
  few_given (private e) = rw (is_private e) (lit≤ tt)
  few_given (other h₂ h₃ h₄ h₅ h₆) = rw (is_avail h₂ h₃ h₄ h₅ h₆) (lit≤ tt)

  facts_given : (id : List ℕ) (b : Beside) (lent : List ℕ) → length b.components ≡ 255 → length b.eidr ≡ 12 → Kind (get_or words 6 0) → Facts words id b lent (descriptor_given words)
  facts_given id b lent many twelve (dtmf e) = rw (is_dtmf e) (dtmf_facts e id b lent)
  facts_given id b lent many twelve (cancel e) = rw (is_cancel e) (cancel_facts e id b lent)
  facts_given id b lent many twelve (uncancelled e) = rw (is_active_lem e) (active_facts e id b lent many twelve)
  facts_given id b lent many twelve (time e) = rw (is_time e) (time_facts e id b lent)
  facts_given id b lent many twelve (private e) = rw (is_private e) (private_facts e id b lent)
  facts_given id b lent many twelve (other h₂ h₃ h₄ h₅ h₆) = rw (is_avail h₂ h₃ h₄ h₅ h₆) (avail_facts h₂ h₃ h₄ h₅ h₆ id b lent)

-- ---- of words that are a descriptor's own, those of a view that its kind has not are blank
seen_kind : (words lent : List ℕ) → item_seen words lent ≡ true → kind_seen words lent ≡ true
unfolding item_seen
seen_kind words lent s = rw s (go (eqb (get_or words 6 0) 2 || (eqb (get_or words 6 0) 4 || eqb (get_or words 6 0) 6)))
  where
    go : (b : Bool) → pick b true true ≡ true
    go true = refl
    go false = refl

module _ (words lent : List ℕ) where
  blank_seen : (d : Descriptor) → own_item d words ≡ true → get_or (item_words (flat_descriptor d)) 25 0 ≡ 0 → get_or (item_words (flat_descriptor d)) 26 0 ≡ 0 → item_seen words lent ≡ true
  unfolding own_item item_seen item_words
  blank_seen d o a l =
      let s : (i : ℕ) → i < 27 → get_or (drop 6 words) i 0 ≡ get_or (item_words (flat_descriptor d)) i 0 = same_at (item_words (flat_descriptor d)) (drop 6 words) o in
      let at : get_or words 31 0 ≡ 0 = sym (get_or-drop 6 words 25 0) ∙ s 25 (lit< tt) ∙ a in
      let len : get_or words 32 0 ≡ 0 = sym (get_or-drop 6 words 26 0) ∙ s 26 (lit< tt) ∙ l in
      rw (at, len) (le-leb (0 + 0) (length lent) (omega arith))

  as_own : (d : Descriptor) → descriptor_given words ≡ d → own_item (descriptor_given words) words ≡ true → own_item d words ≡ true
  as_own d e o = sym (ap (λ (x : Descriptor). own_item x words) e) ∙ o

  own_seen : Kind (get_or words 6 0) → own_item (descriptor_given words) words ≡ true → item_seen words lent ≡ kind_seen words lent
  unfolding item_seen item_words flat_descriptor segmentation_item
  own_seen (dtmf e) o = rw e
  own_seen (cancel e) o = blank_seen _ (as_own _ (is_cancel words e) o) refl refl ∙ rw e
  own_seen (uncancelled e) o = rw e
  own_seen (time e) o = blank_seen _ (as_own _ (is_time words e) o) refl refl ∙ rw e
  own_seen (private e) o = rw e
  own_seen (other h₂ h₃ h₄ h₅ h₆) o = blank_seen _ (as_own _ (is_avail words h₂ h₃ h₄ h₅ h₆) o) refl refl ∙ rw (h₂, h₄, h₆)

-- ---- what is made of words
and_swap : (a b : Bool) → a && b ≡ b && a
and_swap true true = refl
and_swap true false = refl
and_swap false true = refl
and_swap false false = refl

module _ (words beside lent : List ℕ) where
  abbrev D : Descriptor
  D = descriptor_given words

  abbrev I : List ℕ
  I = identifier_from words

  abbrev B : Beside
  B = beside_from (count_beside D) beside

  abbrev places_given_lem : List SegmentationComponent
  places_given_lem = places_of place_from 2 (count_beside D) (places_in beside)

  facts : Facts words I B lent D
  unfolding beside_from places_from eidr_from
  facts =
      let k = kind_of_lem (get_or words 6 0) in
      let many = filled_length places_given_lem (omega (arith, few_given words k, places_length place_from 2 (count_beside D) (places_in beside))) in
      facts_given words I B lent many (places_length byte_from 1 12 (eidr_in beside)) k

  listed_fit : beside_within (count_beside D) beside ≡ true → writing.within (components_fields (take (count_beside D) B.components)) ≡ true
  unfolding beside_from places_from filled beside_within places_within
  listed_fit h =
      rw (take_at places_given_lem (replicate (255 - length places_given_lem) blank_component) (count_beside D) (places_length place_from 2 (count_beside D) (places_in beside)))
      (places_fit (count_beside D) (places_in beside) (and_true (each_place (within place_widths) 2 (count_beside D) (places_in beside)) _ h).0)

  abbrev all_within : Bool
  all_within = within item_widths (drop 5 words) && beside_within (count_beside D) beside

  fits_so : all_within && view_fits words ≡ item_fits words beside
  unfolding item_fits
  fits_so = go (within item_widths (drop 5 words)) refl
    where
      go : (w : Bool) → within item_widths (drop 5 words) ≡ w → (w && beside_within (count_beside D) beside) && view_fits words ≡ w && (view_fits words && beside_within (places_given words) beside)
      go false w = refl
      go true w = rw (facts.count w) (and_swap (beside_within (places_given words) beside) (view_fits words))

  abbrev own : Bool
  own = own_item D words && beside_there (count_beside D) words beside

  made_is : descriptor_words_made words beside lent
      ≡ pick (item_seen words lent) (pick (item_fits words beside) (pick own (descriptor_made D I B lent) (refused 33)) (refused 32)) (refused 31)
  unfolding descriptor_words_made descriptor_refusal words_refusal descriptor_made
  made_is = go (item_seen words lent) refl
    where
      go : (s : Bool) → item_seen words lent ≡ s
          → no_less (seen_first s (refusal_of all_within own)) (descriptor_made D I B lent) ≡ pick s (pick (item_fits words beside) (pick own (descriptor_made D I B lent) (refused 33)) (refused 32)) (refused 31)
      go false s = enveloped_31 (tag_of D) (identifier_of D I) facts.told
      go true s =
          enveloped_told (tag_of D) (identifier_of D I) (kind_seen words lent) facts.fit (payload_made D I B lent) facts.told all_within own (view_fits words)
          (λ w. let p = and_true (within item_widths (drop 5 words)) _ w in facts.tight p.0 (listed_fit p.1))
          ∙ ap₂ (λ (c k : Bool). pick k (pick c (pick own (descriptor_made D I B lent) (refused 33)) (refused 32)) (refused 31)) fits_so (seen_kind words lent s)

  pub unseen_made : own_item D words ≡ true → item_seen words lent ≡ false → descriptor_made D I B lent ≡ refused 31
  unfolding descriptor_made
  unseen_made o s = enveloped_unseen (tag_of D) (identifier_of D I) facts.told (sym (own_seen words lent (kind_of_lem (get_or words 6 0)) o) ∙ s)

  -- what fits, part by part
  parts_fit : item_fits words beside ≡ true
      → (within item_widths (drop 5 words) ≡ true) × (each_place (within place_widths) 2 (count_beside D) (places_in beside) ≡ true) × (within (replicate 12 8) (eidr_in beside) ≡ true)
  unfolding beside_within places_within
  parts_fit f =
      let a = and_true all_within _ (fits_so ∙ f) in
      let c = and_true (within item_widths (drop 5 words)) _ a.0 in
      let d = and_true (each_place (within place_widths) 2 (count_beside D) (places_in beside)) _ c.1 in
      (c.0, d.0, d.1)

  given : item_fits words beside ≡ true → own ≡ true → DescriptorIs words beside D I B
  unfolding own_item identifier_from beside_from places_from eidr_from
  given f o =
      let p = parts_fit f in
      let a = and_true (own_item D words) (beside_there (count_beside D) words beside) o in
      record {
        item = a.0;
        writable = facts.writable;
        identifies = refl;
        there = a.1;
        listed = places_given_lem;
        count = places_length place_from 2 (count_beside D) (places_in beside);
        places = places_own (count_beside D) (places_in beside) p.1;
        components = refl;
        twelve = places_length byte_from 1 12 (eidr_in beside);
        eidr = bytes_own 12 (eidr_in beside) p.2;
      }

  only : (d : Descriptor) (id : List ℕ) (b : Beside) → item_fits words beside ≡ true → DescriptorIs words beside d id b → (D ≡ d) × (I ≡ id) × (B ≡ b)
  unfolding identifier_from beside_from places_from eidr_from
  only d id b f is =
      let p = parts_fit f in
      let e : D ≡ d = given_is words d p.0 is.item is.writable in
      let n : count_beside D ≡ length is.listed = ap count_beside e ∙ sym is.count in
      let cs : places_given_lem ≡ is.listed = rw n (places_are is.listed (places_in beside) is.places (rw n at p.1)) in
      let eidr : places_of byte_from 1 12 (eidr_in beside) ≡ b.eidr = bytes_are 12 b.eidr (eidr_in beside) is.twelve is.eidr p.2 in
      (e, sym is.identifies, ap₂ (λ (l : List SegmentationComponent) (s : List ℕ). record { components = l; eidr = s }) (ap filled cs ∙ sym is.components) eidr)

  own_given : (d : Descriptor) (id : List ℕ) (b : Beside) → item_fits words beside ≡ true → DescriptorIs words beside d id b → own ≡ true
  unfolding own_item
  own_given d id b f is = ap (λ (x : Descriptor). own_item x words && beside_there (count_beside x) words beside) (only d id b f is).0 ∙ rw (is.item, is.there)

  answer_is : {m : Made} → DescriptorAnswer words beside lent m → m ≡ descriptor_words_made words beside lent
  answer_is (outside s) = sym (made_is ∙ rw s)
  answer_is (over s f) = sym (made_is ∙ rw (s, f))
  answer_is (nobodys s f none) = go own refl
    where
      go : (o : Bool) → own ≡ o → refused 33 ≡ descriptor_words_made words beside lent
      go true o = absurd (none D I B (given f o))
      go false o = sym (made_is ∙ rw (s, f, o))
  answer_is (its d id b f is) =
      let e = only d id b f is in
      let given_made_lem : descriptor_made D I B lent ≡ descriptor_made d id b lent =
      ap (λ (x : Descriptor). descriptor_made x I B lent) e.0 ∙ ap (λ (l : List ℕ). descriptor_made d l B lent) e.1 ∙ ap (λ (x : Beside). descriptor_made d id x lent) e.2 in
      let o = own_given d id b f is in
      sym (made_is ∙ rw (f, o) (go (and_true (own_item D words) _ o).0 (item_seen words lent) refl) ∙ given_made_lem)
    where
      go : own_item D words ≡ true → (s : Bool) → item_seen words lent ≡ s → pick s (descriptor_made D I B lent) (refused 31) ≡ descriptor_made D I B lent
      go o true s = refl
      go o false s = sym (unseen_made o s)

  pub descriptor_words_are_answered : DescriptorAnswer words beside lent (descriptor_words_made words beside lent)
  descriptor_words_are_answered = rw made_is (go (item_seen words lent) refl (item_fits words beside) refl own refl)
    where
      go : (s : Bool) → item_seen words lent ≡ s → (f : Bool) → item_fits words beside ≡ f → (o : Bool) → own ≡ o
          → DescriptorAnswer words beside lent (pick s (pick f (pick o (descriptor_made D I B lent) (refused 33)) (refused 32)) (refused 31))
      go false s f g o h = outside s
      go true s false f o h = over s f
      go true s true f false o = nobodys s f (λ d id b is. let t = own_given d id b f is in zero_one cc)
      go true s true f true o = its D I B f (given f o)

  pub descriptor_answers_are_one : {m n : Made} → DescriptorAnswer words beside lent m → DescriptorAnswer words beside lent n → m ≡ n
  descriptor_answers_are_one x y = answer_is x ∙ sym (answer_is y)
