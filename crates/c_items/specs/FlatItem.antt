-- The flat form of a step over a loop, and of what stands beside an item. What belongs to another kind of item is 0.
use Rattle.std.specs.Prelude.{ℕ, List, [], map, Ok, Err, Some, None, Option, Result}
use Rattle.table.specs.Bits.{bits_of, field}
use Rattle.names.specs.Flags.{restrictions_bits}
use Rattle.names.specs.Segmentation.{segmentation_number}
use Rattle.descriptor.specs.Segmentation.{count_of, ticks}
use Rattle.descriptor.specs.declared.Descriptor.{Descriptor}
use Rattle.descriptor.specs.declared.Descriptor.TheVariants.{Avail, Dtmf, Segmentation, Time, Reserved}
use Rattle.descriptor.specs.declared.plain.TimeDescriptor.{TimeDescriptor}
use Rattle.descriptor.specs.declared.segmentation.SegmentationComponent.{SegmentationComponent}
use Rattle.descriptor.specs.declared.segmentation.DescriptorDetail.{DescriptorDetail}
use Rattle.descriptor.specs.declared.segmentation.DescriptorDetail.TheVariants.{Cancel, Active}
use Rattle.descriptor.specs.declared.segmentation.SegmentationDetail.{SegmentationDetail}
use Rattle.c_section.specs.Flat.{flat_view}
use Rattle.c_section.specs.declared.FlatView.{FlatView}
use Rattle.descriptor_loop.specs.Items.{number_of, values_of}
use Rattle.descriptor_loop.specs.declared.Step.{Step}
use Rattle.descriptor_loop.specs.declared.reading.Reading.{Reading}
use Rattle.table.specs.Lent.{no_view}
use Rattle.table.specs.Table.{flag_number}
use Rattle.c_items.specs.FlatUpid.{three}
use Rattle.c_items.specs.declared.beside.FlatBeside.{FlatBeside}
use Rattle.c_items.specs.declared.beside.FlatSegmentationComponent.{FlatSegmentationComponent}
use Rattle.c_items.specs.declared.descriptors.FlatItem.{FlatItem}
use Rattle.c_items.specs.declared.descriptors.FlatTimeDescriptor.{FlatTimeDescriptor}
use Rattle.c_items.specs.declared.segmentations.FlatRestrictions.{FlatRestrictions}
use Rattle.c_items.specs.declared.segmentations.FlatSegmentation.{FlatSegmentation}
use Rattle.c_items.specs.declared.segmentations.FlatSubSegments.{FlatSubSegments}
use Rattle.c_items.specs.declared.steps.FlatStep.{FlatStep}
use Rattle.descriptor.specs.declared.segmentation.DeliveryRestrictions.{DeliveryRestrictions}
use Rattle.descriptor.specs.declared.segmentation.SubSegment.{SubSegment}
use Rattle.descriptor_loop.specs.declared.ItemRefusal.{ItemRefusal}

-- ---- a segmentation descriptor
unfoldable pub flat_restrictions : Option DeliveryRestrictions → FlatRestrictions
flat_restrictions None =
    record { web_delivery_allowed_flag = 0; no_regional_blackout_flag = 0; archive_allowed_flag = 0; device_restrictions = 0 }
flat_restrictions (Some d) =
    record {
      web_delivery_allowed_flag = flag_number d.web_delivery_allowed_flag;
      no_regional_blackout_flag = flag_number d.no_regional_blackout_flag;
      archive_allowed_flag = flag_number d.archive_allowed_flag;
      device_restrictions = restrictions_bits d.device_restrictions;
    }

unfoldable pub flat_sub_segments : Option SubSegment → FlatSubSegments
flat_sub_segments None = record { present = 0; sub_segment_num = 0; sub_segments_expected = 0 }
flat_sub_segments (Some x) =
    record { present = 1; sub_segment_num = x.sub_segment_num; sub_segments_expected = x.sub_segments_expected }

unfoldable pub active_segmentation : ℕ → SegmentationDetail → FlatSegmentation
active_segmentation event i =
    record {
      segmentation_event_id = event;
      segmentation_event_cancel_indicator = 0;
      program_segmentation_flag = flag_number i.program_segmentation_flag;
      segmentation_duration_flag = flag_number i.segmentation_duration_flag;
      delivery_not_restricted_flag = flag_number i.delivery_not_restricted_flag;
      delivery_restrictions = flat_restrictions i.delivery_restrictions;
      component_count = count_of i.segmentation_mode;
      segmentation_duration = ticks i.segmentation_duration;
      segmentation_upid_type = i.segmentation_upid.upid_type;
      segmentation_type_id = segmentation_number i.segmentation_type_id;
      segment_num = i.segment_num;
      segments_expected = i.segments_expected;
      sub_segments = flat_sub_segments i.sub_segments;
    }

-- without what follows the cancel indicator
unfoldable pub segmentation_head : ℕ → ℕ → FlatSegmentation
segmentation_head event cancel =
    record {
      segmentation_event_id = event;
      segmentation_event_cancel_indicator = cancel;
      program_segmentation_flag = 0;
      segmentation_duration_flag = 0;
      delivery_not_restricted_flag = 0;
      delivery_restrictions = flat_restrictions None;
      component_count = 0;
      segmentation_duration = 0;
      segmentation_upid_type = 0;
      segmentation_type_id = 0;
      segment_num = 0;
      segments_expected = 0;
      sub_segments = flat_sub_segments None;
    }

-- ---- an item: 0 the end, 1 avail, 2 DTMF, 3 cancelled segmentation, 4 segmentation, 5 time, 6 reserved, 7 refused
abbrev pub flat_time_descriptor : TimeDescriptor → FlatTimeDescriptor
flat_time_descriptor t = record { tai_seconds = t.tai_seconds; tai_nanoseconds = t.tai_nanoseconds; utc_offset = t.utc_offset }

abbrev pub no_times : FlatTimeDescriptor
no_times = record { tai_seconds = 0; tai_nanoseconds = 0; utc_offset = 0 }

abbrev pub item_with : ℕ → ℕ → ℕ → FlatSegmentation → FlatTimeDescriptor → ℕ → FlatView → FlatItem
item_with kind avail preroll segmentation times tag bytes =
    record {
      kind = kind;
      provider_avail_id = avail;
      preroll = preroll;
      segmentation = segmentation;
      time = times;
      splice_descriptor_tag = tag;
      bytes = bytes;
    }

unfoldable pub segmentation_item : ℕ → DescriptorDetail → FlatItem
segmentation_item event Cancel = item_with 3 0 0 (segmentation_head event 1) no_times 0 (flat_view no_view)
segmentation_item event (Active i) = item_with 4 0 0 (active_segmentation event i) no_times 0 (flat_view i.segmentation_upid.bytes)

unfoldable pub flat_descriptor : Descriptor → FlatItem
flat_descriptor (Avail x) = item_with 1 x.provider_avail_id 0 (segmentation_head 0 0) no_times 0 (flat_view no_view)
flat_descriptor (Dtmf x) = item_with 2 0 x.preroll (segmentation_head 0 0) no_times 0 (flat_view x.dtmf_chars)
flat_descriptor (Segmentation x) = segmentation_item x.segmentation_event_id x.descriptor_detail
flat_descriptor (Time x) = item_with 5 0 0 (segmentation_head 0 0) (flat_time_descriptor x) 0 (flat_view no_view)
flat_descriptor (Reserved tag bytes) = item_with 6 0 0 (segmentation_head 0 0) no_times tag (flat_view bytes)

unfoldable pub blank_item : ℕ → FlatItem
blank_item kind = item_with kind 0 0 (segmentation_head 0 0) no_times 0 (flat_view no_view)

unfoldable pub flat_item : Option (Result Descriptor ItemRefusal) → FlatItem
flat_item None = blank_item 0
flat_item (Some (Err r)) = blank_item 7
flat_item (Some (Ok d)) = flat_descriptor d

-- ---- a step
unfoldable pub refusal_in : Option (Result Descriptor ItemRefusal) → ℕ
refusal_in None = 0
refusal_in (Some (Err r)) = number_of r
refusal_in (Some (Ok d)) = 0

unfoldable pub values_in : Option (Result Descriptor ItemRefusal) → List ℕ
values_in None = three []
values_in (Some (Err r)) = three (values_of r)
values_in (Some (Ok d)) = three []

-- the identifier's four bytes as a number
unfoldable pub flat_step : Step → FlatStep
flat_step s =
    record {
      refusal = refusal_in s.item;
      values = values_in s.item;
      next = s.next;
      identifier = field (bits_of s.identifier) 0 32;
      item = flat_item s.item;
    }

-- ---- what stands beside an item
unfoldable pub flat_component : SegmentationComponent → FlatSegmentationComponent
flat_component c = record { component_tag = c.component_tag; pts_offset = c.pts_offset }

unfoldable pub flat_beside : Reading → FlatBeside
flat_beside r =
    record {
      refusal = refusal_in r.step.item;
      values = values_in r.step.item;
      count = (flat_item r.step.item).segmentation.component_count;
      components = map flat_component r.beside.components;
      eidr = r.beside.eidr;
    }
