-- What a reader of C answers is what a writer of C takes: the words of a step over a descriptor make the descriptor again, if its numbers are of their types, its
-- flags say what their parts say, and its type number is not one that has a name.
use Prim.Native.Nat.{ℕ, ◌+◌, ◌%◌, ◌^◌, ◌<◌}
use mathlib.Core.Bool.{Bool, true, false}
use mathlib.Core.List.{List, ◌∷◌}
use mathlib.Core.Path.{◌≡◌, refl, ap, ◌∙◌}
use native.Mathlib.Nat.{mod-eq_of_lt}
use lib.Dec.{eqb, lit<}
use lib.ListN.{get_or}
use Rattle.descriptor.specs.Segmentation.{device_of}
use Rattle.descriptor.specs.declared.Descriptor.{Descriptor}
use Rattle.descriptor.specs.declared.segmentation.DescriptorDetail.{DescriptorDetail}
use Rattle.descriptor.specs.declared.segmentation.SegmentationDetail.{SegmentationDetail}
use Rattle.descriptor.specs.declared.segmentation.SegmentationMode.{SegmentationMode}
use Rattle.c_items.specs.FlatItem.{flat_restrictions, flat_sub_segments, active_segmentation, segmentation_head, segmentation_item, flat_descriptor}
use Rattle.c_items.specs.declared.descriptors.FlatItem.{FlatItem}
use Rattle.names.specs.Flags.{restrictions_bits, restrictions_of}
use Rattle.names.specs.declared.flags.DeviceRestrictions.{DeviceRestrictions}
use Rattle.names.proofs.Segmentations.{segmentation_laws}
use Rattle.table.specs.Table.{flag_number}
use Rattle.table.specs.declared.View.{View}
use Rattle.c_descriptor_writer.specs.ItemGiven.{restrictions_in, sub_segments_in, segmentation_in, item_in, restrictions_from, delivery_from, mode_from, duration_from, sub_segments_from, detail_from, descriptor_from, descriptor_given}
use Rattle.c_descriptor_writer.specs.ItemWords.{item_words}
use Rattle.c_descriptor_writer.proofs.Typed.{TypedMode, TypedSubs, TypedActive, TypedDetail, Typed}
use Rattle.std.proofs.Common.{Some, None, Option}
use Rattle.descriptor.specs.declared.segmentation.DeliveryRestrictions.{DeliveryRestrictions}
use Rattle.descriptor.specs.declared.segmentation.SubSegment.{SubSegment}

-- ---- the struct that the words of a step are, whatever stands before its item
pub words_back : (refusal a b c next identifier : ℕ) (f : FlatItem) → item_in (refusal ∷ a ∷ b ∷ c ∷ next ∷ identifier ∷ item_words f) ≡ f
unfolding item_in segmentation_in restrictions_in sub_segments_in item_words
words_back refusal a b c next identifier f = refl

-- the words that are looked at
pub item_agree : (u v : List ℕ) → ((i : ℕ) → i < 27 → get_or u (6 + i) 0 ≡ get_or v (6 + i) 0) → item_in u ≡ item_in v
unfolding item_in segmentation_in restrictions_in sub_segments_in
item_agree u v h =
    rw (h 0 (lit< tt), h 1 (lit< tt), h 2 (lit< tt), h 3 (lit< tt), h 4 (lit< tt), h 5 (lit< tt), h 6 (lit< tt), h 7 (lit< tt), h 8 (lit< tt), h 9 (lit< tt), h 10 (lit< tt), h 11 (lit< tt), h 12 (lit< tt), h 13 (lit< tt), h 14 (lit< tt), h 15 (lit< tt), h 16 (lit< tt), h 17 (lit< tt), h 18 (lit< tt), h 19 (lit< tt), h 20 (lit< tt), h 21 (lit< tt), h 22 (lit< tt), h 23 (lit< tt), h 24 (lit< tt), h 25 (lit< tt), h 26 (lit< tt))

-- ---- part by part
flag_back : (b : Bool) → eqb (flag_number b) 1 ≡ b
flag_back true = refl
flag_back false = refl

device_back : (d : DeviceRestrictions) → device_of (restrictions_bits d) ≡ d
unfolding device_of restrictions_of
device_back DeviceRestrictions.RestrictGroup0 = refl
device_back DeviceRestrictions.RestrictGroup1 = refl
device_back DeviceRestrictions.RestrictGroup2 = refl
device_back DeviceRestrictions.None = refl

module _ (event : ℕ) (i : SegmentationDetail) (t : TypedActive i) where
  delivery_back : (d : Option DeliveryRestrictions) → i.delivery_restrictions ≡ d → delivery_from (active_segmentation event i) ≡ d
  unfolding active_segmentation flat_restrictions restrictions_from
  delivery_back None e = rw (t.free_flag, e)
  delivery_back (Some d) e =
      rw (t.free_flag, e, flag_back d.web_delivery_allowed_flag, flag_back d.no_regional_blackout_flag, flag_back d.archive_allowed_flag, device_back d.device_restrictions)

  mode_back : (m : SegmentationMode) → i.segmentation_mode ≡ m → TypedMode m → mode_from (active_segmentation event i) ≡ m
  unfolding active_segmentation
  mode_back SegmentationMode.Program e h = rw (t.program_flag, e)
  mode_back (SegmentationMode.Component n) e h = rw (t.program_flag, e, mod-eq_of_lt h)

  duration_back : (d : Option ℕ) → i.segmentation_duration ≡ d → duration_from (active_segmentation event i) ≡ d
  unfolding active_segmentation
  duration_back None e = rw (t.duration_flag, e)
  duration_back (Some n) e = rw (t.duration_flag, e)

subs_back : (s : Option SubSegment) → TypedSubs s → sub_segments_from (flat_sub_segments s) ≡ s
unfolding flat_sub_segments
subs_back None h = refl
subs_back (Some x) h = rw (mod-eq_of_lt h.0, mod-eq_of_lt h.1)

uncancelled : (event : ℕ) (i : SegmentationDetail) (bytes : View) (restrictions : Option DeliveryRestrictions) (mode : SegmentationMode) (duration : Option ℕ)
    → delivery_from (active_segmentation event i) ≡ restrictions → mode_from (active_segmentation event i) ≡ mode → duration_from (active_segmentation event i) ≡ duration
    → detail_from (active_segmentation event i) bytes
    ≡ record {
      program_segmentation_flag = eqb (active_segmentation event i).program_segmentation_flag 1;
      segmentation_duration_flag = eqb (active_segmentation event i).segmentation_duration_flag 1;
      delivery_not_restricted_flag = eqb (active_segmentation event i).delivery_not_restricted_flag 1;
      delivery_restrictions = restrictions;
      segmentation_mode = mode;
      segmentation_duration = duration;
      segmentation_upid = (detail_from (active_segmentation event i) bytes).segmentation_upid;
      segmentation_type_id = (detail_from (active_segmentation event i) bytes).segmentation_type_id;
      segment_num = (detail_from (active_segmentation event i) bytes).segment_num;
      segments_expected = (detail_from (active_segmentation event i) bytes).segments_expected;
      sub_segments = (detail_from (active_segmentation event i) bytes).sub_segments;
    }
unfolding detail_from
uncancelled event i bytes restrictions mode duration e f g = rw (e, f, g)

active_back : (event : ℕ) (i : SegmentationDetail) → TypedActive i → detail_from (active_segmentation event i) i.segmentation_upid.bytes ≡ i
unfolding detail_from active_segmentation
active_back event i t =
    uncancelled event i i.segmentation_upid.bytes _ _ _ (delivery_back event i t i.delivery_restrictions refl) (mode_back event i t i.segmentation_mode refl t.mode)
    (duration_back event i t i.segmentation_duration refl)
    ∙ rw (
      flag_back i.program_segmentation_flag,
      flag_back i.segmentation_duration_flag,
      flag_back i.delivery_not_restricted_flag,
      mod-eq_of_lt t.upid,
      mod-eq_of_lt t.type_number,
      segmentation_laws.back i.segmentation_type_id t.type_writable,
      mod-eq_of_lt t.num,
      mod-eq_of_lt t.expected,
      subs_back i.sub_segments t.subs,
    )

event_back : (event : ℕ) (i : SegmentationDetail) → event < 2 ^ 32
    → Descriptor.Segmentation (record { segmentation_event_id = (active_segmentation event i).segmentation_event_id % 2 ^ 32; descriptor_detail = DescriptorDetail.Active i })
    ≡ Descriptor.Segmentation (record { segmentation_event_id = event; descriptor_detail = DescriptorDetail.Active i })
unfolding active_segmentation
event_back event i h = rw (mod-eq_of_lt h)

detail_back : (event : ℕ) (d : DescriptorDetail) → event < 2 ^ 32 → TypedDetail d
    → descriptor_from (segmentation_item event d) ≡ Descriptor.Segmentation (record { segmentation_event_id = event; descriptor_detail = d })
unfolding descriptor_from segmentation_item segmentation_head
detail_back event DescriptorDetail.Cancel h t = rw (mod-eq_of_lt h)
detail_back event (DescriptorDetail.Active i) h t = rw (active_back event i t) (event_back event i h)

pub from_back : (d : Descriptor) → Typed d → descriptor_from (flat_descriptor d) ≡ d
unfolding descriptor_from flat_descriptor
from_back (Descriptor.Avail x) h = rw (mod-eq_of_lt h)
from_back (Descriptor.Dtmf x) h = rw (mod-eq_of_lt h)
from_back (Descriptor.Segmentation x) h = detail_back x.segmentation_event_id x.descriptor_detail h.0 h.1
from_back (Descriptor.Time x) h = rw (mod-eq_of_lt h.0, mod-eq_of_lt h.1)
from_back (Descriptor.Reserved tag bytes) h = rw (mod-eq_of_lt h)

-- ---- the descriptor
pub descriptor_back : (refusal a b c next identifier : ℕ) (d : Descriptor) → Typed d → descriptor_given (refusal ∷ a ∷ b ∷ c ∷ next ∷ identifier ∷ item_words (flat_descriptor d)) ≡ d
descriptor_back refusal a b c next identifier d h = ap descriptor_from (words_back refusal a b c next identifier (flat_descriptor d)) ∙ from_back d h
