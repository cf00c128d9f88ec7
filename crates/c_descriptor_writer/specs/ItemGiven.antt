-- The descriptor that the words of a step make, with what stands beside it, as functions: these are what the contracts say. They are fixed by the theorems
-- `descriptor_words_are_answered` and `descriptor_answers_are_one`: what is made of words is what `DescriptorAnswer` says, and nothing else.
use Rattle.std.specs.Prelude.{ℕ, ◌^◌, ◌%◌, Bool, ◌&&◌, List, eqb, drop, Some, None, Option}
use Rattle.descriptor.specs.Segmentation.{device_of}
use Rattle.descriptor.specs.Full.{filled}
use Rattle.descriptor.specs.declared.Descriptor.{Descriptor}
use Rattle.descriptor.specs.declared.Descriptor.TheVariants.{Avail, Dtmf, Segmentation, Time, Reserved}
use Rattle.descriptor.specs.declared.segmentation.DeliveryRestrictions.{DeliveryRestrictions}
use Rattle.descriptor.specs.declared.segmentation.SegmentationComponent.{SegmentationComponent}
use Rattle.descriptor.specs.declared.segmentation.DescriptorDetail.{DescriptorDetail}
use Rattle.descriptor.specs.declared.segmentation.SegmentationDetail.{SegmentationDetail}
use Rattle.descriptor.specs.declared.segmentation.SegmentationMode.{SegmentationMode}
use Rattle.descriptor.specs.declared.full.Beside.{Beside}
use Rattle.descriptor_measure.specs.Writing.{count_beside, descriptor_made}
use Rattle.c_items.specs.FlatItem.{flat_descriptor}
use Rattle.c_items.specs.declared.descriptors.FlatItem.{FlatItem}
use Rattle.c_items.specs.declared.segmentations.FlatRestrictions.{FlatRestrictions}
use Rattle.c_items.specs.declared.segmentations.FlatSegmentation.{FlatSegmentation}
use Rattle.c_items.specs.declared.segmentations.FlatSubSegments.{FlatSubSegments}
use Rattle.c_command_writer.specs.CommandGiven.{view_from}
use Rattle.c_command_writer.specs.Words.{word, within, same, places_of, refusal_of, seen_first, no_less}
use Rattle.names.specs.Segmentation.{segmentation_type_of}
use Rattle.table.specs.Bits.{pick, big_endian}
use Rattle.table.specs.Writing.{Made}
use Rattle.table.specs.declared.View.{View}
use Rattle.c_descriptor_writer.specs.ItemWords.{item_words, item_widths, places_in, eidr_in, beside_within, item_seen, beside_there}
use Rattle.descriptor.specs.declared.segmentation.SubSegment.{SubSegment}

-- ---- struct scte35_step: of 33 words, with 0 for those past the end of the slice
abbrev pub first_word : List ℕ → ℕ
first_word words = word words 0

unfoldable pub padded_words : List ℕ → List ℕ
padded_words words = places_of first_word 1 33 words

-- ---- the struct
unfoldable pub restrictions_in : List ℕ → FlatRestrictions
restrictions_in words =
    record {
      web_delivery_allowed_flag = word words 14;
      no_regional_blackout_flag = word words 15;
      archive_allowed_flag = word words 16;
      device_restrictions = word words 17;
    }

unfoldable pub sub_segments_in : List ℕ → FlatSubSegments
sub_segments_in words = record { present = word words 24; sub_segment_num = word words 25; sub_segments_expected = word words 26 }

unfoldable pub segmentation_in : List ℕ → FlatSegmentation
segmentation_in words =
    record {
      segmentation_event_id = word words 9;
      segmentation_event_cancel_indicator = word words 10;
      program_segmentation_flag = word words 11;
      segmentation_duration_flag = word words 12;
      delivery_not_restricted_flag = word words 13;
      delivery_restrictions = restrictions_in words;
      component_count = word words 18;
      segmentation_duration = word words 19;
      segmentation_upid_type = word words 20;
      segmentation_type_id = word words 21;
      segment_num = word words 22;
      segments_expected = word words 23;
      sub_segments = sub_segments_in words;
    }

unfoldable pub item_in : List ℕ → FlatItem
item_in words =
    record {
      kind = word words 6;
      provider_avail_id = word words 7;
      preroll = word words 8;
      segmentation = segmentation_in words;
      time = record { tai_seconds = word words 27; tai_nanoseconds = word words 28; utc_offset = word words 29 };
      splice_descriptor_tag = word words 30;
      bytes = record { at = word words 31; len = word words 32 };
    }

-- ---- the value: each number is reduced to its type's width, and a kind that has no value makes some other kind's, so that 33 applies
unfoldable pub restrictions_from : FlatRestrictions → DeliveryRestrictions
restrictions_from r =
    record {
      web_delivery_allowed_flag = eqb r.web_delivery_allowed_flag 1;
      no_regional_blackout_flag = eqb r.no_regional_blackout_flag 1;
      archive_allowed_flag = eqb r.archive_allowed_flag 1;
      device_restrictions = device_of r.device_restrictions;
    }

abbrev pub delivery_from : FlatSegmentation → Option DeliveryRestrictions
delivery_from s =
    pick (eqb s.delivery_not_restricted_flag 1) None (Some (restrictions_from s.delivery_restrictions))

abbrev pub mode_from : FlatSegmentation → SegmentationMode
mode_from s = pick (eqb s.program_segmentation_flag 1) SegmentationMode.Program (SegmentationMode.Component (s.component_count % 256))

abbrev pub duration_from : FlatSegmentation → Option ℕ
duration_from s = pick (eqb s.segmentation_duration_flag 1) (Some s.segmentation_duration) None

abbrev pub sub_segments_from : FlatSubSegments → Option SubSegment
sub_segments_from s =
    pick (eqb s.present 1)
    (Some (record { sub_segment_num = s.sub_segment_num % 256; sub_segments_expected = s.sub_segments_expected % 256 }))
    None

-- a view, which is that of the item, is the UPID's
unfoldable pub detail_from : FlatSegmentation → View → SegmentationDetail
detail_from s bytes =
    record {
      program_segmentation_flag = eqb s.program_segmentation_flag 1;
      segmentation_duration_flag = eqb s.segmentation_duration_flag 1;
      delivery_not_restricted_flag = eqb s.delivery_not_restricted_flag 1;
      delivery_restrictions = delivery_from s;
      segmentation_mode = mode_from s;
      segmentation_duration = duration_from s;
      segmentation_upid = record { upid_type = s.segmentation_upid_type % 256; bytes = bytes };
      segmentation_type_id = segmentation_type_of (s.segmentation_type_id % 256);
      segment_num = s.segment_num % 256;
      segments_expected = s.segments_expected % 256;
      sub_segments = sub_segments_from s.sub_segments;
    }

abbrev pub segmentation_with : ℕ → DescriptorDetail → Descriptor
segmentation_with event detail = Segmentation (record { segmentation_event_id = event % 2 ^ 32; descriptor_detail = detail })

unfoldable pub descriptor_from : FlatItem → Descriptor
descriptor_from i =
    pick (eqb i.kind 2) (Dtmf (record { preroll = i.preroll % 256; dtmf_chars = view_from i.bytes }))
    (pick (eqb i.kind 3) (segmentation_with i.segmentation.segmentation_event_id DescriptorDetail.Cancel)
    (pick (eqb i.kind 4)
    (segmentation_with i.segmentation.segmentation_event_id (DescriptorDetail.Active (detail_from i.segmentation (view_from i.bytes))))
    (pick (eqb i.kind 5)
    (Time (record {
      tai_seconds = i.time.tai_seconds;
      tai_nanoseconds = i.time.tai_nanoseconds % 2 ^ 32;
      utc_offset = i.time.utc_offset % 65536;
    }))
    (pick (eqb i.kind 6) (Reserved (i.splice_descriptor_tag % 256) (view_from i.bytes))
    (Avail (record { provider_avail_id = i.provider_avail_id % 2 ^ 32 }))))))

abbrev pub descriptor_given : List ℕ → Descriptor
descriptor_given words = descriptor_from (item_in words)

unfoldable pub identifier_from : List ℕ → List ℕ
identifier_from words = big_endian 4 (word words 5)

-- ---- what stands beside it
unfoldable pub place_from : List ℕ → SegmentationComponent
place_from words = record { component_tag = word words 0 % 256; pts_offset = word words 1 }

abbrev pub byte_from : List ℕ → ℕ
byte_from words = word words 0 % 256

-- places past the count are not looked at: they are blank
unfoldable pub places_from : ℕ → List ℕ → List SegmentationComponent
places_from n words = filled (places_of place_from 2 n (places_in words))

unfoldable pub eidr_from : List ℕ → List ℕ
eidr_from words = places_of byte_from 1 12 (eidr_in words)

unfoldable pub beside_from : ℕ → List ℕ → Beside
beside_from n words = record { components = places_from n words; eidr = eidr_from words }

-- ---- what is asked of the words
unfoldable pub own_item : Descriptor → List ℕ → Bool
own_item d words = same (item_words (flat_descriptor d)) (drop 6 words)

-- the number of the words' own refusal, of a descriptor that they make: 32 or 33
unfoldable pub words_refusal : Descriptor → List ℕ → List ℕ → ℕ
words_refusal d words beside =
    refusal_of (within item_widths (drop 5 words) && beside_within (count_beside d) beside) (own_item d words && beside_there (count_beside d) words beside)

-- the number of a refusal that comes before the descriptor's own: 31, then 32 or 33 of the words
unfoldable pub descriptor_refusal : Descriptor → List ℕ → List ℕ → List ℕ → ℕ
descriptor_refusal d words beside lent = seen_first (item_seen words lent) (words_refusal d words beside)

-- ---- the descriptor, or the number of a refusal: 31 to 34
unfoldable pub descriptor_words_made : List ℕ → List ℕ → List ℕ → Made
descriptor_words_made words beside lent =
    no_less (descriptor_refusal (descriptor_given words) words beside lent) (descriptor_made (descriptor_given words) (identifier_from words) (beside_from (count_beside (descriptor_given words)) beside) lent)
