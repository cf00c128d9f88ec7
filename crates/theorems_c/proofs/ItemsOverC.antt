-- What is written of the words of a step over a descriptor is what is written of the descriptor.
use Prim.Native.Nat.{ℕ, zero, suc, ◌+◌, ◌-◌, ◌*◌, ◌^◌, ◌<◌, ◌≤◌}
use mathlib.Core.Bool.{Bool, true, false, ◌&&◌}
use mathlib.Core.List.{List, [], ◌∷◌, ◌++◌, map}
use mathlib.Core.Logic.{◌⊎◌, inl, inr, ⊎_elim}
use mathlib.Core.Path.{◌≡◌, refl, ap, ap₂, sym, ◌∙◌}
use native.Mathlib.Nat.{mod-eq_of_lt}
use native.Mathlib.Omega.{arith}
use lib.Dec.{eqb, ltb, leb}
use lib.ListN.{length, take, drop, replicate}
use lib.Seq.{take_all, take_at}
use borrow.Author.Tests.{lt-ltb, ltb-true, ltb-false, leb-true, le-leb}
use Rattle.descriptor.specs.Plain.{dtmf, time, private_table}
use Rattle.descriptor.specs.Segmentation.{blank_component, count_of, front_of, segmentation, ticks}
use Rattle.descriptor.specs.Full.{filled}
use Rattle.descriptor.specs.declared.Descriptor.{Descriptor}
use Rattle.descriptor.specs.declared.plain.AvailDescriptor.{AvailDescriptor}
use Rattle.descriptor.specs.declared.plain.DTMFDescriptor.{DTMFDescriptor}
use Rattle.descriptor.specs.declared.plain.TimeDescriptor.{TimeDescriptor}
use Rattle.descriptor.specs.declared.segmentation.SegmentationComponent.{SegmentationComponent}
use Rattle.descriptor.specs.declared.segmentation.SegmentationDescriptor.{SegmentationDescriptor}
use Rattle.descriptor.specs.declared.segmentation.DescriptorDetail.{DescriptorDetail}
use Rattle.descriptor.specs.declared.segmentation.SegmentationDetail.{SegmentationDetail}
use Rattle.descriptor.specs.declared.segmentation.SegmentationMode.{SegmentationMode}
use Rattle.descriptor.specs.declared.full.Beside.{Beside}
use Rattle.descriptor_measure.proofs.Refusals.{view_out, upid_long, numbers_over}
use Rattle.descriptor_measure.specs.Private.{components_fields, mode_fields, duration_fields, numbers_fit}
use Rattle.descriptor_measure.specs.Writing.{enveloped_made, segmentation_made, payload_made, descriptor_made, tag_of, identifier_of, upid_in, upid_source, writable_segment, written_detail, count_beside}
use Rattle.c_descriptor_writer.proofs.Answered.{unseen_made}
use Rattle.c_descriptor_writer.proofs.Back.{descriptor_back}
use Rattle.c_descriptor_writer.proofs.Told.{mode_count}
use Rattle.c_descriptor_writer.specs.ItemGiven.{descriptor_given, identifier_from, place_from, byte_from, places_from, eidr_from, beside_from, own_item, words_refusal, descriptor_refusal, descriptor_words_made}
use Rattle.c_descriptor_writer.specs.ItemWords.{item_words, item_widths, places_in, eidr_in, place_widths, places_within, beside_within, item_seen, has_eidr, beside_there}
use Rattle.c_descriptor_writer.proofs.Typed.{TypedSubs, TypedActive, TypedDetail, Typed}
use Rattle.c_items.specs.FlatItem.{flat_restrictions, flat_sub_segments, active_segmentation, segmentation_head, segmentation_item, flat_descriptor, flat_item, refusal_in, values_in, flat_step, flat_component, flat_beside}
use Rattle.c_command_writer.proofs.Words.{and_unit, places_length}
use Rattle.c_command_writer.specs.Words.{within, same, places_of, each_place, refusal_of, seen_first, no_less}
use Rattle.descriptor_loop.specs.declared.Step.{Step}
use Rattle.names.specs.Flags.{restrictions_bits}
use Rattle.names.specs.Segmentation.{segmentation_number}
use Rattle.names.specs.declared.flags.DeviceRestrictions.{DeviceRestrictions}
use Rattle.section_writer.proofs.Numbers.{number_bytes}
use Rattle.table.proofs.Lists.{zero_one, and_true}
use Rattle.table.proofs.Reading.{field_lt}
use Rattle.table.specs.Bits.{pick, bits_of, field, big_endian, AllBytes}
use Rattle.table.specs.Table as tables
use Rattle.table.specs.Table.{reserved, part, remaining}
use Rattle.table.specs.Writing as writing
use Rattle.table.specs.Writing.{Made, made, refused, Field, make, make_of, seen, refusal_in as number_in}
use Rattle.table.specs.declared.View.{View}
use Rattle.theorems_c.specs.OverC.{step_words, pairs_words, beside_words}
use Rattle.theorems_c.proofs.OverC.{same_self, Wide, taken, flag_within}
use Rattle.std.proofs.Common.{Ok, Some, None, Option}
use Rattle.descriptor.specs.declared.segmentation.DeliveryRestrictions.{DeliveryRestrictions}
use Rattle.descriptor.specs.declared.segmentation.SubSegment.{SubSegment}

-- ---- what the types say of what stands beside an item

-- each tag is a byte
abbrev pub ModeTags : List SegmentationComponent → Type 0
ModeTags [] = Unit {0}
ModeTags (c ∷ cs) = (c.component_tag < 256) × ModeTags cs

-- what the types say of the identifier, the array and the EIDR that stand beside an item
pub record TypedBeside (identifier : List ℕ) (beside : Beside) : Type 0 where
  pub four : length identifier ≡ 4
  pub identifier_bytes : AllBytes identifier
  pub places : length beside.components ≡ 255
  pub tags : ModeTags beside.components
  pub twelve : length beside.eidr ≡ 12
  pub eidr_bytes : AllBytes beside.eidr

-- ---- what is beside the item, from its words
place_back : (c : SegmentationComponent) (words : List ℕ) → c.component_tag < 256 → place_from (c.component_tag ∷ c.pts_offset ∷ words) ≡ c
unfolding place_from
place_back c words h = rw (mod-eq_of_lt h)

pairs_back : (n : ℕ) (cs : List SegmentationComponent) (words : List ℕ) → ModeTags cs → n ≤ length cs → places_of place_from 2 n (pairs_words (map flat_component cs) ++ words) ≡ take n cs
unfolding places_of flat_component
pairs_back zero cs words t h = refl
pairs_back (suc n) [] words t h = absurd (omega arith)
pairs_back (suc n) (c ∷ cs) words t h = rw (place_back c (pairs_words (map flat_component cs) ++ words) t.0, pairs_back n cs words t.1 (omega arith))

and_middle : (a b : Bool) → (a && true) && b ≡ a && b
and_middle true b = refl
and_middle false b = refl

pairs_within : (n : ℕ) (cs : List SegmentationComponent) (words : List ℕ) → ModeTags cs → n ≤ length cs
    → each_place (within place_widths) 2 n (pairs_words (map flat_component cs) ++ words) ≡ writing.within (components_fields (take n cs))
unfolding each_place within place_widths flat_component
pairs_within zero cs words t h = refl
pairs_within (suc n) [] words t h = absurd (omega arith)
pairs_within (suc n) (c ∷ cs) words t h =
    rw (lt-ltb c.component_tag 256 t.0, pairs_within n cs words t.1 (omega arith)) (and_middle (ltb c.pts_offset (2 ^ 33)) (writing.within (components_fields (take n cs))))

pairs_past : (cs : List SegmentationComponent) (words : List ℕ) (n : ℕ) → n ≡ length cs * 2 → drop n (pairs_words (map flat_component cs) ++ words) ≡ words
unfolding flat_component
pairs_past [] words zero e = refl
pairs_past [] words (suc n) e = absurd (omega arith)
pairs_past (c ∷ cs) words zero e = absurd (omega arith)
pairs_past (c ∷ cs) words (suc zero) e = absurd (omega arith)
pairs_past (c ∷ cs) words (suc (suc n)) e = pairs_past cs words n (omega arith)

pairs_length : (cs : List SegmentationComponent) (words : List ℕ) → length (pairs_words (map flat_component cs) ++ words) ≡ length cs * 2 + length words
unfolding flat_component
pairs_length [] words = omega arith
pairs_length (c ∷ cs) words = omega (arith, pairs_length cs words)

bytes_back : (n : ℕ) (s : List ℕ) → AllBytes s → length s ≡ n → places_of byte_from 1 n s ≡ s
unfolding places_of
bytes_back zero [] a e = refl
bytes_back zero (b ∷ s) a e = absurd (omega arith)
bytes_back (suc n) [] a e = absurd (omega arith)
bytes_back (suc n) (b ∷ s) a e = rw (mod-eq_of_lt a.0, bytes_back n s a.1 (omega arith))

bytes_within : (n : ℕ) (s : List ℕ) → AllBytes s → length s ≡ n → within (replicate n 8) s ≡ true
unfolding within
bytes_within zero [] a e = refl
bytes_within zero (b ∷ s) a e = absurd (omega arith)
bytes_within (suc n) [] a e = absurd (omega arith)
bytes_within (suc n) (b ∷ s) a e = rw (lt-ltb b 256 a.0, bytes_within n s a.1 (omega arith))

-- ---- refused with 31 or 32
wide_numbered : (m : Made) (n : ℕ) → n ≡ number_in m → 31 ≤ n → n ≤ 32 → Wide m
wide_numbered (made b) n e h g = absurd (omega arith)
wide_numbered (refused k) n e h g = (omega arith, omega arith)

enveloped_wide : (tag : ℕ) (identifier : List ℕ) (m : Made) → Wide m → Wide (enveloped_made tag identifier m)
unfolding enveloped_made
enveloped_wide tag identifier (made b) w = absurd w
enveloped_wide tag identifier (refused n) w = w

unseen_wide : (writable : Bool) (lent : List ℕ) (fs : List Field) → seen lent fs ≡ false → Wide (make_of writable lent fs)
unseen_wide writable lent fs e = rw e (omega arith, omega arith)

over_wide : (writable : Bool) (lent : List ℕ) (fs : List Field) → writing.within fs ≡ false → Wide (make_of writable lent fs)
over_wide writable lent fs e = go (seen lent fs) refl
  where
    go : (b : Bool) → seen lent fs ≡ b → Wide (make_of writable lent fs)
    go true f = rw (f, e) (omega arith, omega arith)
    go false f = rw f (omega arith, omega arith)

-- a view that lies in lent bytes
view_small : (v : View) (lent : List ℕ) → length lent < 2 ^ 64 → leb (v.at + v.len) (length lent) ≡ true → (ltb v.at (2 ^ 64) ≡ true) × (ltb v.len (2 ^ 64) ≡ true)
view_small v lent s e =
    let h = leb-true (v.at + v.len) (length lent) e in
    (lt-ltb v.at (2 ^ 64) (omega (arith, h, s)), lt-ltb v.len (2 ^ 64) (omega (arith, h, s)))

-- ---- the parts of a segmentation descriptor
restrictions_within : (d : Option DeliveryRestrictions)
    → (ltb (flat_restrictions d).web_delivery_allowed_flag 2 ≡ true)
    × (ltb (flat_restrictions d).no_regional_blackout_flag 2 ≡ true)
    × (ltb (flat_restrictions d).archive_allowed_flag 2 ≡ true)
    × (ltb (flat_restrictions d).device_restrictions 4 ≡ true)
unfolding flat_restrictions
restrictions_within None = (refl, refl, refl, refl)
restrictions_within (Some d) =
    (flag_within d.web_delivery_allowed_flag, flag_within d.no_regional_blackout_flag, flag_within d.archive_allowed_flag, device d.device_restrictions)
  where
    device : (d : DeviceRestrictions) → ltb (restrictions_bits d) 4 ≡ true
    device DeviceRestrictions.RestrictGroup0 = refl
    device DeviceRestrictions.RestrictGroup1 = refl
    device DeviceRestrictions.RestrictGroup2 = refl
    device DeviceRestrictions.None = refl

subs_within : (s : Option SubSegment) → TypedSubs s
    → (ltb (flat_sub_segments s).present 2 ≡ true) × (ltb (flat_sub_segments s).sub_segment_num 256 ≡ true) × (ltb (flat_sub_segments s).sub_segments_expected 256 ≡ true)
unfolding flat_sub_segments
subs_within None h = (refl, refl, refl)
subs_within (Some x) h = (refl, lt-ltb x.sub_segment_num 256 h.0, lt-ltb x.sub_segments_expected 256 h.1)

duration_fits : (d : Option ℕ) → writing.within (duration_fields d) ≡ true → ltb (ticks d) (2 ^ 40) ≡ true
duration_fits None e = refl
duration_fits (Some n) e = (and_true (ltb n (2 ^ 40)) true e).0

components_fit : (m : SegmentationMode) (cs : List SegmentationComponent) → writing.within (mode_fields m (take (count_of m) cs)) ≡ true → writing.within (components_fields (take (count_of m) cs)) ≡ true
components_fit SegmentationMode.Program cs e = refl
components_fit (SegmentationMode.Component n) cs e = (and_true (ltb n (2 ^ 8)) (writing.within (components_fields (take n cs))) e).1

-- ---- an item's words are within their widths, or its writer refuses it with 31 or 32
module _ (number : ℕ) (id : List ℕ) (beside : Beside) (lent : List ℕ) (small : number < 2 ^ 32) (t : TypedBeside id beside) (short : length lent < 2 ^ 64) where
  abbrev Within : Descriptor → Type 0
  Within d = within item_widths (number ∷ item_words (flat_descriptor d)) ≡ true

  abbrev Refuses : Descriptor → Type 0
  Refuses d = within item_widths (number ∷ item_words (flat_descriptor d)) ≡ false → Wide (payload_made d id beside lent)

  avail_within : (x : AvailDescriptor) → x.provider_avail_id < 2 ^ 32 → Within (Descriptor.Avail x)
  unfolding within item_widths item_words flat_descriptor segmentation_head flat_restrictions flat_sub_segments
  avail_within x h = rw (lt-ltb number (2 ^ 32) small, lt-ltb x.provider_avail_id (2 ^ 32) h)

  dtmf_within : (x : DTMFDescriptor) → x.preroll < 256 → leb (x.dtmf_chars.at + x.dtmf_chars.len) (length lent) ≡ true → Within (Descriptor.Dtmf x)
  unfolding within item_widths item_words flat_descriptor segmentation_head flat_restrictions flat_sub_segments
  dtmf_within x h e =
      let v = view_small x.dtmf_chars lent short e in
      rw (lt-ltb number (2 ^ 32) small, lt-ltb x.preroll 256 h, v.0, v.1)

  dtmf_unseen : (x : DTMFDescriptor) → leb (x.dtmf_chars.at + x.dtmf_chars.len) (length lent) ≡ false → Wide (payload_made (Descriptor.Dtmf x) id beside lent)
  unfolding payload_made dtmf tables.number reserved part
  dtmf_unseen x e = rw e (omega arith, omega arith)

  dtmf_wide : (x : DTMFDescriptor) → x.preroll < 256 → Refuses (Descriptor.Dtmf x)
  dtmf_wide x h e = go (leb (x.dtmf_chars.at + x.dtmf_chars.len) (length lent)) refl
    where
      go : (b : Bool) → leb (x.dtmf_chars.at + x.dtmf_chars.len) (length lent) ≡ b → Wide (payload_made (Descriptor.Dtmf x) id beside lent)
      go true f = let w = dtmf_within x h f in zero_one cc
      go false f = dtmf_unseen x f

  time_within : (x : TimeDescriptor) → Typed (Descriptor.Time x) → ltb x.tai_seconds (2 ^ 48) ≡ true → Within (Descriptor.Time x)
  unfolding within item_widths item_words flat_descriptor segmentation_head flat_restrictions flat_sub_segments
  time_within x h e = rw (lt-ltb number (2 ^ 32) small, e, lt-ltb x.tai_nanoseconds (2 ^ 32) h.0, lt-ltb x.utc_offset 65536 h.1)

  time_over : (x : TimeDescriptor) → ltb x.tai_seconds (2 ^ 48) ≡ false → Wide (payload_made (Descriptor.Time x) id beside lent)
  unfolding payload_made time tables.number
  time_over x e = rw e (omega arith, omega arith)

  time_wide : (x : TimeDescriptor) → Typed (Descriptor.Time x) → Refuses (Descriptor.Time x)
  time_wide x h e = go (ltb x.tai_seconds (2 ^ 48)) refl
    where
      go : (b : Bool) → ltb x.tai_seconds (2 ^ 48) ≡ b → Wide (payload_made (Descriptor.Time x) id beside lent)
      go true f = let w = time_within x h f in zero_one cc
      go false f = time_over x f

  reserved_within : (tag : ℕ) (v : View) → tag < 256 → leb (v.at + v.len) (length lent) ≡ true → Within (Descriptor.Reserved tag v)
  unfolding within item_widths item_words flat_descriptor segmentation_head flat_restrictions flat_sub_segments
  reserved_within tag v h e =
      let s = view_small v lent short e in
      rw (lt-ltb number (2 ^ 32) small, lt-ltb tag 256 h, s.0, s.1)

  reserved_unseen : (tag : ℕ) (v : View) → leb (v.at + v.len) (length lent) ≡ false → Wide (payload_made (Descriptor.Reserved tag v) id beside lent)
  unfolding payload_made private_table remaining part
  reserved_unseen tag v e = rw e (omega arith, omega arith)

  reserved_wide : (tag : ℕ) (v : View) → tag < 256 → Refuses (Descriptor.Reserved tag v)
  reserved_wide tag v h e = go (leb (v.at + v.len) (length lent)) refl
    where
      go : (b : Bool) → leb (v.at + v.len) (length lent) ≡ b → Wide (payload_made (Descriptor.Reserved tag v) id beside lent)
      go true f = let w = reserved_within tag v h f in zero_one cc
      go false f = reserved_unseen tag v f

  cancel_within : (event : ℕ) → event < 2 ^ 32 → Within (Descriptor.Segmentation (record { segmentation_event_id = event; descriptor_detail = DescriptorDetail.Cancel }))
  unfolding within item_widths item_words flat_descriptor segmentation_item segmentation_head flat_restrictions flat_sub_segments
  cancel_within event h = rw (lt-ltb number (2 ^ 32) small, lt-ltb event (2 ^ 32) h)

  module _ (event : ℕ) (i : SegmentationDetail) (ev : event < 2 ^ 32) (ty : TypedActive i) where
    abbrev x : SegmentationDescriptor
    x = record { segmentation_event_id = event; descriptor_detail = DescriptorDetail.Active i }

    abbrev view : View
    view = i.segmentation_upid.bytes

    abbrev listed : List SegmentationComponent
    listed = take (count_of i.segmentation_mode) beside.components

    abbrev overall : Made
    overall = segmentation_made x id beside lent

    active_within : leb (view.at + view.len) (length lent) ≡ true → ltb (ticks i.segmentation_duration) (2 ^ 40) ≡ true → Within (Descriptor.Segmentation x)
    unfolding within item_widths item_words flat_descriptor segmentation_item active_segmentation
    active_within e d =
        let v = view_small view lent short e in
        let r = restrictions_within i.delivery_restrictions in
        let s = subs_within i.sub_segments ty.subs in
        rw (
          lt-ltb number (2 ^ 32) small,
          lt-ltb event (2 ^ 32) ev,
          flag_within i.program_segmentation_flag,
          flag_within i.segmentation_duration_flag,
          flag_within i.delivery_not_restricted_flag,
          r.0,
          r.1,
          r.2,
          r.3,
          lt-ltb (count_of i.segmentation_mode) 256 (mode_count i.segmentation_mode ty.mode),
          d,
          lt-ltb i.segmentation_upid.upid_type 256 ty.upid,
          lt-ltb (segmentation_number i.segmentation_type_id) 256 ty.type_number,
          lt-ltb i.segment_num 256 ty.num,
          lt-ltb i.segments_expected 256 ty.expected,
          s.0,
          s.1,
          s.2,
          v.0,
          v.1,
        )

    -- its writer's tests in their order: the view, the UPID's length, the numbers
    insert_tests : Wide overall ⊎ ((leb (view.at + view.len) (length lent) ≡ true) × (numbers_fit i listed ≡ true))
    insert_tests = go (leb (view.at + view.len) (length lent)) refl
      where
        numbers : leb (view.at + view.len) (length lent) ≡ true → view.len ≤ 255 → (n : Bool) → numbers_fit i listed ≡ n
            → Wide overall ⊎ ((leb (view.at + view.len) (length lent) ≡ true) × (numbers_fit i listed ≡ true))
        numbers e l true f = inr (e, f)
        numbers e l false f =
            inl (wide_numbered overall 32
            (numbers_over event i id beside.components beside.eidr lent true (sym e) refl l t.places t.twelve ev ty.upid false (sym f, mode_count i.segmentation_mode ty.mode) refl)
            (omega arith) (omega arith))

        long : leb (view.at + view.len) (length lent) ≡ true → (b : Bool) → ltb 255 view.len ≡ b
            → Wide overall ⊎ ((leb (view.at + view.len) (length lent) ≡ true) × (numbers_fit i listed ≡ true))
        long e true f = inl (wide_numbered overall 32 (upid_long event i id beside.components beside.eidr lent true (sym e) refl (ltb-true 255 view.len f)) (omega arith) (omega arith))
        long e false f = numbers e (ltb-false 255 view.len f) (numbers_fit i listed) refl

        go : (b : Bool) → leb (view.at + view.len) (length lent) ≡ b → Wide overall ⊎ ((leb (view.at + view.len) (length lent) ≡ true) × (numbers_fit i listed ≡ true))
        go true e = long e (ltb 255 view.len) refl
        go false e = inl (wide_numbered overall 31 (view_out event i id beside.components beside.eidr lent false (sym e) refl) (omega arith) (omega arith))

    parts_fit : numbers_fit i listed ≡ true → (writing.within (components_fields listed) ≡ true) × (ltb (ticks i.segmentation_duration) (2 ^ 40) ≡ true)
    unfolding numbers_fit
    parts_fit e =
        let a = and_true (writing.within (mode_fields i.segmentation_mode listed)) _ e in
        let b = and_true (writing.within (duration_fields i.segmentation_duration)) _ a.1 in
        (components_fit i.segmentation_mode beside.components a.0, duration_fits i.segmentation_duration b.0)

    active_wide : Refuses (Descriptor.Segmentation x)
    unfolding payload_made
    active_wide e = ⊎_elim (λ w. w) (λ f. let w = active_within f.0 (parts_fit f.1).1 in zero_one cc) insert_tests

    offsets_wide : writing.within (components_fields listed) ≡ false → Wide overall
    offsets_wide e = ⊎_elim (λ w. w) (λ f. let w = (parts_fit f.1).0 in zero_one cc) insert_tests

  item_wide : (d : Descriptor) → Typed d → Refuses d
  item_wide (Descriptor.Avail x) h e = let w = avail_within x h in zero_one cc
  item_wide (Descriptor.Dtmf x) h e = dtmf_wide x h e
  item_wide (Descriptor.Segmentation x) h e = go x.segmentation_event_id x.descriptor_detail h.0 h.1 e
    where
      go : (event : ℕ) (d : DescriptorDetail) → event < 2 ^ 32 → TypedDetail d → Refuses (Descriptor.Segmentation (record { segmentation_event_id = event; descriptor_detail = d }))
      go event DescriptorDetail.Cancel v h e = let w = cancel_within event v in zero_one cc
      go event (DescriptorDetail.Active i) v h e = active_wide event i v h e
  item_wide (Descriptor.Time x) h e = time_wide x h e
  item_wide (Descriptor.Reserved tag v) h e = reserved_wide tag v h e

  -- where a component's offset is over its field
  places_wide : (d : Descriptor) → Typed d → writing.within (components_fields (take (count_beside d) beside.components)) ≡ false → Wide (payload_made d id beside lent)
  unfolding payload_made
  places_wide (Descriptor.Avail x) h e = zero_one cc
  places_wide (Descriptor.Dtmf x) h e = zero_one cc
  places_wide (Descriptor.Segmentation x) h e = go x.segmentation_event_id x.descriptor_detail h.0 h.1 e
    where
      go : (event : ℕ) (d : DescriptorDetail) → event < 2 ^ 32 → TypedDetail d → writing.within (components_fields (take (count_of (front_of d).segmentation_mode) beside.components)) ≡ false
          → Wide (segmentation_made (record { segmentation_event_id = event; descriptor_detail = d }) id beside lent)
      go event DescriptorDetail.Cancel v h e = zero_one cc
      go event (DescriptorDetail.Active i) v h e = offsets_wide event i v h e
  places_wide (Descriptor.Time x) h e = zero_one cc
  places_wide (Descriptor.Reserved tag v) h e = zero_one cc

  -- the components that a descriptor counts are all that is looked at
  same_payload : (d : Descriptor) (others : List SegmentationComponent) → take (count_beside d) others ≡ take (count_beside d) beside.components
      → payload_made d id (record { components = others; eidr = beside.eidr }) lent ≡ payload_made d id beside lent
  unfolding payload_made segmentation_made
  same_payload (Descriptor.Avail x) others e = refl
  same_payload (Descriptor.Dtmf x) others e = refl
  same_payload (Descriptor.Segmentation x) others e =
      ap (λ (cs : List SegmentationComponent).
      pick (leb ((upid_in x).bytes.at + (upid_in x).bytes.len) (length lent))
      (pick (leb (upid_in x).bytes.len 255)
      (make segmentation (writable_segment x id beside.eidr lent) (upid_source (upid_in x) beside.eidr lent)
      (record { descriptor = record { segmentation_event_id = x.segmentation_event_id; descriptor_detail = written_detail x.descriptor_detail }; components = cs }))
      (refused 32))
      (refused 31)) e
  same_payload (Descriptor.Time x) others e = refl
  same_payload (Descriptor.Reserved tag v) others e = refl

  count_there : (d : Descriptor) → Typed d → count_beside d ≤ 255
  count_there (Descriptor.Avail x) h = omega arith
  count_there (Descriptor.Dtmf x) h = omega arith
  count_there (Descriptor.Segmentation x) h = go x.descriptor_detail h.1
    where
      go : (d : DescriptorDetail) → TypedDetail d → count_of (front_of d).segmentation_mode ≤ 255
      go DescriptorDetail.Cancel h = omega arith
      go (DescriptorDetail.Active i) h = omega (arith, mode_count i.segmentation_mode h.mode)
  count_there (Descriptor.Time x) h = omega arith
  count_there (Descriptor.Reserved tag v) h = omega arith

  -- ---- the words, with what a step says before its item
  module _ (next count : ℕ) (d : Descriptor) (typed : Typed d) (identifies : big_endian 4 number ≡ id) where
    abbrev words : List ℕ
    words = 0 ∷ 0 ∷ 0 ∷ 0 ∷ next ∷ number ∷ item_words (flat_descriptor d)

    abbrev side : List ℕ
    side = 0 ∷ 0 ∷ 0 ∷ 0 ∷ count ∷ pairs_words (map flat_component beside.components) ++ beside.eidr

    there : count_beside d ≤ length beside.components
    there = omega (arith, count_there d typed, t.places)

    eidr_is : eidr_in side ≡ beside.eidr
    eidr_is = pairs_past beside.components beside.eidr 510 (omega (arith, t.places))

    abbrev fits : Bool
    fits = within item_widths (number ∷ item_words (flat_descriptor d)) && beside_within (count_beside d) side

    abbrev own : Bool
    own = same (item_words (flat_descriptor d)) (item_words (flat_descriptor d)) && beside_there (count_beside d) words side

    refusal_is : descriptor_refusal (descriptor_given words) words side lent ≡ seen_first (item_seen words lent) (refusal_of fits own)
    unfolding descriptor_refusal words_refusal own_item
    refusal_is = ap (λ (e : Descriptor). descriptor_refusal e words side lent) (descriptor_back 0 0 0 0 next number d typed)

    -- all words of the struct are there
    side_there : beside_there (count_beside d) words side ≡ true
    unfolding beside_there
    side_there = le-leb _ (length side) (go (has_eidr words) (eqb (count_beside d) 0))
      where
        all : length side ≡ 527
        all = omega (arith, pairs_length beside.components beside.eidr, t.places, t.twelve)

        go : (e z : Bool) → pick e 527 (pick z 0 (5 + count_beside d * 2)) ≤ length side
        go true z = omega (arith, all)
        go false true = omega arith
        go false false = omega (arith, all, count_there d typed)

    are_own : own ≡ true
    are_own = rw (same_self (item_words (flat_descriptor d)), side_there)

    given_own : own_item (descriptor_given words) words ≡ true
    unfolding own_item
    given_own = ap (λ (e : Descriptor). own_item e words) (descriptor_back 0 0 0 0 next number d typed) ∙ same_self (item_words (flat_descriptor d))

    beside_fits : beside_within (count_beside d) side ≡ writing.within (components_fields (take (count_beside d) beside.components))
    unfolding beside_within places_within
    beside_fits =
        ap₂ ◌&&◌ (pairs_within (count_beside d) beside.components beside.eidr t.tags there)
        (ap (within (replicate 12 8)) eidr_is ∙ bytes_within 12 beside.eidr t.eidr_bytes t.twelve)
        ∙ sym (and_unit (writing.within (components_fields (take (count_beside d) beside.components))))

    payload_wide : fits ≡ false → Wide (payload_made d id beside lent)
    payload_wide e = go (within item_widths (number ∷ item_words (flat_descriptor d))) refl (sym (ap (λ (b : Bool). within item_widths (number ∷ item_words (flat_descriptor d)) && b) beside_fits) ∙ e)
      where
        go : (b : Bool) → within item_widths (number ∷ item_words (flat_descriptor d)) ≡ b → b && writing.within (components_fields (take (count_beside d) beside.components)) ≡ false → Wide (payload_made d id beside lent)
        go true f e = places_wide d typed e
        go false f e = item_wide d typed f

    beside_is : payload_made d id (beside_from (count_beside d) side) lent ≡ payload_made d id beside lent
    unfolding beside_from places_from eidr_from filled
    beside_is =
        let n = count_beside d in
        let cs = places_of place_from 2 n (places_in side) in
        ap (λ (e : List ℕ). payload_made d id (record { components = places_from n side; eidr = e }) lent) (ap (places_of byte_from 1 12) eidr_is ∙ bytes_back 12 beside.eidr t.eidr_bytes t.twelve)
        ∙ same_payload d (places_from n side)
        (take_at cs (replicate (255 - length cs) blank_component) n (places_length place_from 2 n (places_in side)) ∙ pairs_back n beside.components beside.eidr t.tags there)

    given_made_lem : descriptor_made (descriptor_given words) (identifier_from words) (beside_from (count_beside (descriptor_given words)) side) lent ≡ descriptor_made d id beside lent
    unfolding descriptor_made identifier_from
    given_made_lem =
        ap (λ (e : Descriptor). descriptor_made e (identifier_from words) (beside_from (count_beside e) side) lent) (descriptor_back 0 0 0 0 next number d typed)
        ∙ ap (λ (l : List ℕ). descriptor_made d l (beside_from (count_beside d) side) lent) identifies ∙ ap (enveloped_made (tag_of d) (identifier_of d id)) beside_is

    words_taken : descriptor_words_made words side lent ≡ descriptor_made d id beside lent
    unfolding descriptor_words_made descriptor_made no_less
    words_taken = ap₂ no_less refusal_is given_made_lem ∙ go (item_seen words lent) refl
      where
        -- a view outside: both are refused with 31
        outside : item_seen words lent ≡ false → descriptor_made d id beside lent ≡ refused 31
        outside s = sym given_made_lem ∙ unseen_made words side lent given_own s

        go : (s : Bool) → item_seen words lent ≡ s → no_less (seen_first s (refusal_of fits own)) (descriptor_made d id beside lent) ≡ descriptor_made d id beside lent
        go true s = taken fits own (descriptor_made d id beside lent) are_own (λ e. enveloped_wide (tag_of d) (identifier_of d id) (payload_made d id beside lent) (payload_wide e))
        go false s = rw (outside s)

-- ---- the step
pub descriptor_taken : (d : Descriptor) (next : ℕ) (id : List ℕ) (beside : Beside) (lent : List ℕ) → Typed d → TypedBeside id beside → length lent < 2 ^ 64
    → (let step : Step = record { item = Some (Ok d); identifier = id; next = next } in
    descriptor_words_made (step_words (flat_step step)) (beside_words (flat_beside (record { step = step; beside = beside }))) lent ≡ descriptor_made d id beside lent)
unfolding flat_step flat_beside refusal_in values_in flat_item
descriptor_taken d next id beside lent typed t short =
    let number = field (bits_of id) 0 32 in
    let is : big_endian 4 number ≡ id = number_bytes id 0 4 t.identifier_bytes (omega (arith, t.four)) ∙ take_all 4 id (omega (arith, t.four)) in
    words_taken number id beside lent (field_lt id 0 32) t short next _ d typed is
