-- 01's rows b, g and n, from the payload on.
use Prim.Native.Nat.{ℕ}
use mathlib.Core.Bool.{true, false}
use mathlib.Core.List.{List, [], ◌∷◌}
use mathlib.Core.Path.{◌≡◌, refl}
use Rattle.names.specs.Segmentation.{segmentation_type_of}
use Rattle.table.specs.Lent.{viewed}
use Rattle.table.specs.Table.{number, bit, reserved, part, remaining}
use Rattle.upid.specs.Upid.{check_of}
use Rattle.upid.specs.declared.Refusal.{Refusal}
use Rattle.descriptor.specs.Descriptor as d
use Rattle.descriptor.specs.Descriptor.{avail_of, dtmf_of, active_with, active_of, descriptor_of, is_cuei}
use Rattle.descriptor.specs.Plain.{dtmf}
use Rattle.descriptor.specs.Segmentation.{blank_upid, delivery_restrictions, mode, duration, written_upid, parts, front, sub_segments, back, head}
use Rattle.descriptor.specs.declared.Descriptor.TheVariants.{Dtmf, Segmentation}
use Rattle.descriptor.specs.declared.segmentation.DescriptorDetail.TheVariants.{Active}
use Rattle.descriptor.specs.declared.segmentation.SegmentationMode.{SegmentationMode}
use Rattle.std.proofs.Common.{Ok, Err, Some, None, Option, Result}
use Rattle.descriptor.specs.declared.Descriptor.{Descriptor}
use Rattle.descriptor.specs.declared.segmentation.SubSegment.{SubSegment}

-- "CUEI"
abbrev cuei : List ℕ
cuei = 0x43 ∷ 0x55 ∷ 0x45 ∷ 0x49 ∷ []

pub row_b : descriptor_of 0 cuei [] ≡ Err (Refusal.NotEnoughData 4 0)
unfolding descriptor_of is_cuei avail_of
row_b = refl

pub row_g : descriptor_of 1 cuei (0xb1 ∷ 0x3f ∷ 0x34 ∷ []) ≡ Ok (Dtmf (record { preroll = 177; dtmf_chars = record { at = 2; len = 1 } }))
unfolding descriptor_of is_cuei dtmf_of dtmf number reserved part
row_g = refl

-- a program start without restrictions, with these sub-segments
abbrev start : Option SubSegment → Result Descriptor Refusal
start sub = Ok (Segmentation (record {
  segmentation_event_id = 42;
  descriptor_detail = Active (record {
    program_segmentation_flag = true;
    segmentation_duration_flag = false;
    delivery_not_restricted_flag = true;
    delivery_restrictions = None;
    segmentation_mode = SegmentationMode.Program;
    segmentation_duration = None;
    segmentation_upid = blank_upid;
    segmentation_type_id = segmentation_type_of 0x10;
    segment_num = 1;
    segments_expected = 1;
    sub_segments = sub;
  });
}))

pub row_n : descriptor_of 2 cuei (0 ∷ 0 ∷ 0 ∷ 0x2a ∷ 0x7f ∷ 0xbf ∷ 0 ∷ 0 ∷ 0x10 ∷ 1 ∷ 1 ∷ []) ≡ start None
unfolding descriptor_of is_cuei d.segmentation_of active_of active_with head front parts delivery_restrictions mode duration written_upid back sub_segments number bit reserved part remaining viewed check_of
row_n = refl

pub row_n_1 : descriptor_of 2 cuei (0 ∷ 0 ∷ 0 ∷ 0x2a ∷ 0x7f ∷ 0xbf ∷ 0 ∷ 0 ∷ 0x10 ∷ 1 ∷ 1 ∷ 1 ∷ []) ≡ Err (Refusal.NotEnoughData 1 0)
unfolding descriptor_of is_cuei d.segmentation_of active_of active_with head front parts delivery_restrictions mode duration written_upid back sub_segments number bit reserved part remaining viewed check_of
row_n_1 = refl

pub row_n_2 : descriptor_of 2 cuei (0 ∷ 0 ∷ 0 ∷ 0x2a ∷ 0x7f ∷ 0xbf ∷ 0 ∷ 0 ∷ 0x10 ∷ 1 ∷ 1 ∷ 1 ∷ 2 ∷ [])
    ≡ start (Some (record { sub_segment_num = 1; sub_segments_expected = 2 }))
unfolding descriptor_of is_cuei d.segmentation_of active_of active_with head front parts delivery_restrictions mode duration written_upid back sub_segments number bit reserved part remaining viewed check_of
row_n_2 = refl
