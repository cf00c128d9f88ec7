-- The definitions on 01's rows g and n, and on values that are refused.
use Prim.Native.Nat.{ℕ}
use mathlib.Core.Bool.{true, false}
use mathlib.Core.List.{List, [], ◌∷◌}
use mathlib.Core.Path.{◌≡◌, refl}
use lib.ListN.{replicate}
use Rattle.names.specs.Segmentation.{segmentation_type_of, writable_segmentation}
use Rattle.table.specs.Lent.{viewed}
use Rattle.table.specs.Table.{number, bit, reserved, part, remaining}
use Rattle.table.specs.Writing.{made, refused}
use Rattle.upid.specs.Upid.{check_of, read_of, plain_of, length_of, is_text, reported_of}
use Rattle.descriptor.specs.Plain.{dtmf}
use Rattle.descriptor.specs.Segmentation.{delivery_restrictions, mode, duration, written_upid, parts, front, sub_segments, back, head, segmentation, writable_front, writable_detail}
use Rattle.descriptor.specs.Full.{blank_beside}
use Rattle.descriptor.specs.declared.Descriptor.{Descriptor}
use Rattle.descriptor.specs.declared.Descriptor.TheVariants.{Dtmf, Segmentation}
use Rattle.descriptor.specs.declared.segmentation.DescriptorDetail.TheVariants.{Active}
use Rattle.descriptor.specs.declared.segmentation.SegmentationMode.{SegmentationMode}
use Rattle.descriptor.specs.declared.segmentation.SegmentationUpid.{SegmentationUpid}
use Rattle.descriptor_measure.specs.Writing as w
use Rattle.descriptor_measure.specs.Writing.{descriptor_made, payload_made, enveloped_made, enveloped, alone, all_zero, segmentation_made, writable_segment, writable_upid, written_type, upid_source}
use Rattle.std.proofs.Common.{None}

abbrev none : List ℕ
none = replicate 4 0

-- row g, written
abbrev chars : Descriptor
chars = Dtmf (record { preroll = 177; dtmf_chars = record { at = 2; len = 1 } })

pub row_g : descriptor_made chars none blank_beside (0xb1 ∷ 0x3f ∷ 0x34 ∷ []) ≡ made (0x01 ∷ 0x07 ∷ 0x43 ∷ 0x55 ∷ 0x45 ∷ 0x49 ∷ 0xb1 ∷ 0x3f ∷ 0x34 ∷ [])
unfolding descriptor_made payload_made enveloped_made enveloped alone all_zero blank_beside dtmf number reserved part
row_g = refl

-- a view one byte too long; an identifier beside it
pub row_31 : descriptor_made chars none blank_beside (0xb1 ∷ 0x3f ∷ []) ≡ refused 31
unfolding descriptor_made payload_made enveloped_made enveloped alone all_zero blank_beside dtmf number reserved part
row_31 = refl

pub row_33 : descriptor_made chars (1 ∷ 0 ∷ 0 ∷ 0 ∷ []) blank_beside (0xb1 ∷ 0x3f ∷ 0x34 ∷ []) ≡ refused 33
unfolding descriptor_made payload_made enveloped_made enveloped alone all_zero blank_beside dtmf number reserved part
row_33 = refl

-- row n, and the same with a UPID
abbrev start : SegmentationUpid → Descriptor
start upid = Segmentation (record {
  segmentation_event_id = 42;
  descriptor_detail = Active (record {
    program_segmentation_flag = true;
    segmentation_duration_flag = false;
    delivery_not_restricted_flag = true;
    delivery_restrictions = None;
    segmentation_mode = SegmentationMode.Program;
    segmentation_duration = None;
    segmentation_upid = upid;
    segmentation_type_id = segmentation_type_of 0x10;
    segment_num = 1;
    segments_expected = 1;
    sub_segments = None;
  });
})

pub row_n : descriptor_made (start (record { upid_type = 0; bytes = record { at = 0; len = 0 } })) none blank_beside []
    ≡ made (0x02 ∷ 0x0f ∷ 0x43 ∷ 0x55 ∷ 0x45 ∷ 0x49 ∷ 0 ∷ 0 ∷ 0 ∷ 0x2a ∷ 0x7f ∷ 0xbf ∷ 0 ∷ 0 ∷ 0x10 ∷ 1 ∷ 1 ∷ [])
unfolding descriptor_made payload_made enveloped_made enveloped segmentation_made writable_segment writable_upid written_type w.written_upid upid_source all_zero blank_beside segmentation head front parts delivery_restrictions mode duration written_upid back sub_segments number bit reserved part remaining viewed check_of writable_detail writable_front writable_segmentation segmentation_type_of
row_n = refl

-- an eight-byte ISAN is of kind 6, and written as type 5
pub row_isan : descriptor_made (start (record { upid_type = 6; bytes = record { at = 0; len = 8 } })) none blank_beside (1 ∷ 2 ∷ 3 ∷ 4 ∷ 5 ∷ 6 ∷ 7 ∷ 8 ∷ [])
    ≡ made (0x02 ∷ 0x17 ∷ 0x43 ∷ 0x55 ∷ 0x45 ∷ 0x49 ∷ 0 ∷ 0 ∷ 0 ∷ 0x2a ∷ 0x7f ∷ 0xbf ∷ 5 ∷ 8 ∷ 1 ∷ 2 ∷ 3 ∷ 4 ∷ 5 ∷ 6 ∷ 7 ∷ 8 ∷ 0x10 ∷ 1 ∷ 1 ∷ [])
unfolding descriptor_made payload_made enveloped_made enveloped segmentation_made writable_segment writable_upid written_type w.written_upid upid_source all_zero blank_beside segmentation head front parts delivery_restrictions mode duration written_upid back sub_segments number bit reserved part remaining viewed check_of read_of plain_of length_of is_text reported_of writable_detail writable_front writable_segmentation segmentation_type_of
row_isan = refl

-- type 5 is none that a reading has; nor is an empty UPID other than None
pub row_5 : descriptor_made (start (record { upid_type = 5; bytes = record { at = 0; len = 8 } })) none blank_beside (1 ∷ 2 ∷ 3 ∷ 4 ∷ 5 ∷ 6 ∷ 7 ∷ 8 ∷ []) ≡ refused 33
unfolding descriptor_made payload_made enveloped_made enveloped segmentation_made writable_segment writable_upid written_type w.written_upid upid_source all_zero blank_beside segmentation head front parts delivery_restrictions mode duration written_upid back sub_segments number bit reserved part remaining viewed check_of read_of plain_of length_of is_text reported_of writable_detail writable_front writable_segmentation segmentation_type_of
row_5 = refl

pub row_empty : descriptor_made (start (record { upid_type = 7; bytes = record { at = 0; len = 0 } })) none blank_beside [] ≡ refused 33
unfolding descriptor_made payload_made enveloped_made enveloped segmentation_made writable_segment writable_upid written_type w.written_upid upid_source all_zero blank_beside segmentation head front parts delivery_restrictions mode duration written_upid back sub_segments number bit reserved part remaining viewed check_of read_of plain_of length_of is_text reported_of writable_detail writable_front writable_segmentation segmentation_type_of
row_empty = refl
