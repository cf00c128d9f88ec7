-- What the types say of the numbers of a descriptor; and what words cannot say otherwise: a flag against its part, a reserved number that has a name. These are
-- definitions for proofs.
use Prim.Native.Nat.{◌^◌, ◌<◌}
use mathlib.Core.Bool.{true}
use mathlib.Core.Path.{◌≡◌}
use Rattle.descriptor.specs.Segmentation.{by_program, lasting, unrestricted}
use Rattle.descriptor.specs.declared.Descriptor.{Descriptor}
use Rattle.descriptor.specs.declared.segmentation.DescriptorDetail.{DescriptorDetail}
use Rattle.descriptor.specs.declared.segmentation.SegmentationDetail.{SegmentationDetail}
use Rattle.descriptor.specs.declared.segmentation.SegmentationMode.{SegmentationMode}
use Rattle.names.specs.Segmentation.{segmentation_number, writable_segmentation}
use Rattle.std.proofs.Common.{Some, None, Option}
use Rattle.descriptor.specs.declared.segmentation.SubSegment.{SubSegment}

abbrev pub TypedMode : SegmentationMode → Type 0
TypedMode SegmentationMode.Program = Unit {0}
TypedMode (SegmentationMode.Component n) = n < 256

abbrev pub TypedSubs : Option SubSegment → Type 0
TypedSubs None = Unit {0}
TypedSubs (Some x) = (x.sub_segment_num < 256) × (x.sub_segments_expected < 256)

pub record TypedActive (i : SegmentationDetail) : Type 0 where
  pub mode : TypedMode i.segmentation_mode
  pub subs : TypedSubs i.sub_segments
  pub upid : i.segmentation_upid.upid_type < 256
  pub type_number : segmentation_number i.segmentation_type_id < 256
  pub num : i.segment_num < 256
  pub expected : i.segments_expected < 256
  pub program_flag : i.program_segmentation_flag ≡ by_program i.segmentation_mode
  pub duration_flag : i.segmentation_duration_flag ≡ lasting i.segmentation_duration
  pub free_flag : i.delivery_not_restricted_flag ≡ unrestricted i.delivery_restrictions
  pub type_writable : writable_segmentation i.segmentation_type_id ≡ true

abbrev pub TypedDetail : DescriptorDetail → Type 0
TypedDetail DescriptorDetail.Cancel = Unit {0}
TypedDetail (DescriptorDetail.Active i) = TypedActive i

abbrev pub Typed : Descriptor → Type 0
Typed (Descriptor.Avail x) = x.provider_avail_id < 2 ^ 32
Typed (Descriptor.Dtmf x) = x.preroll < 256
Typed (Descriptor.Segmentation x) = (x.segmentation_event_id < 2 ^ 32) × TypedDetail x.descriptor_detail
Typed (Descriptor.Time x) = (x.tai_nanoseconds < 2 ^ 32) × (x.utc_offset < 65536)
Typed (Descriptor.Reserved tag bytes) = tag < 256
