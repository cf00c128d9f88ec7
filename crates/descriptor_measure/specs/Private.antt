-- What a segmentation descriptor's table has in its fields, part by part (`fields_are` in proofs/Fields.antt), how many bytes they take, and what refuses them. The
-- contracts of the functions that test and store the parts say these; no public contract does.
use Rattle.std.specs.Prelude.{ℕ, ◌+◌, Bool, true, false, ◌&&◌, List, [], ◌∷◌, ◌++◌, ◌≡◌, length, take, Some, None, Option}
use Rattle.names.specs.Flags.{restrictions_bits}
use Rattle.names.specs.Segmentation.{segmentation_number}
use Rattle.table.specs.Table.{flag_number}
use Rattle.table.specs.Writing.{Field, bits, run, rest, within, refusal_in}
use Rattle.descriptor.specs.Segmentation.{component_count, by_program, lasting, unrestricted, sub_bytes, front_of, mode_size, duration_size}
use Rattle.descriptor.specs.Full.{filled}
use Rattle.descriptor.specs.declared.segmentation.SegmentationComponent.{SegmentationComponent}
use Rattle.descriptor.specs.declared.segmentation.SegmentationDescriptor.{SegmentationDescriptor}
use Rattle.descriptor.specs.declared.segmentation.DescriptorDetail.{DescriptorDetail}
use Rattle.descriptor.specs.declared.segmentation.DescriptorDetail.TheVariants.{Cancel, Active}
use Rattle.descriptor.specs.declared.segmentation.SegmentationDetail.{SegmentationDetail}
use Rattle.descriptor.specs.declared.segmentation.SegmentationMode.{SegmentationMode}
use Rattle.descriptor.specs.declared.segmentation.SegmentationUpid.{SegmentationUpid}
use Rattle.descriptor_measure.specs.Writing.{written_upid, segmentation_made}
use Rattle.descriptor.specs.declared.segmentation.DeliveryRestrictions.{DeliveryRestrictions}
use Rattle.descriptor.specs.declared.segmentation.SubSegment.{SubSegment}

abbrev pub head_fields : ℕ → Bool → List Field
head_fields event cancel = bits 32 event ∷ (bits 1 (flag_number cancel) ∷ (bits 7 127 ∷ []))

abbrev pub flag_fields : Bool → Bool → Bool → List Field
flag_fields program lasts free = bits 1 (flag_number program) ∷ (bits 1 (flag_number lasts) ∷ (bits 1 (flag_number free) ∷ []))

abbrev pub delivery_fields : Option DeliveryRestrictions → List Field
delivery_fields None = bits 5 31 ∷ []
delivery_fields (Some r) =
    bits 1 (flag_number r.web_delivery_allowed_flag)
    ∷ (bits 1 (flag_number r.no_regional_blackout_flag)
    ∷ (bits 1 (flag_number r.archive_allowed_flag)
    ∷ (bits 2 (restrictions_bits r.device_restrictions)
    ∷ [])))

abbrev pub component_fields : SegmentationComponent → List Field
component_fields c = bits 8 c.component_tag ∷ (bits 7 127 ∷ (bits 33 c.pts_offset ∷ []))

abbrev pub components_fields : List SegmentationComponent → List Field
components_fields [] = []
components_fields (c ∷ cs) = component_fields c ++ components_fields cs

abbrev pub mode_fields : SegmentationMode → List SegmentationComponent → List Field
mode_fields SegmentationMode.Program cs = []
mode_fields (SegmentationMode.Component n) cs = bits 8 n ∷ components_fields cs

abbrev pub duration_fields : Option ℕ → List Field
duration_fields None = []
duration_fields (Some t) = bits 40 t ∷ []

abbrev pub upid_fields : SegmentationUpid → List Field
upid_fields u = bits 8 u.upid_type ∷ (bits 8 u.bytes.len ∷ (run u.bytes.len u.bytes.at ∷ []))

abbrev pub sub_fields : Option SubSegment → List Field
sub_fields None = rest 0 ∷ []
sub_fields (Some x) = rest 2 ∷ (bits 8 x.sub_segment_num ∷ (bits 8 x.sub_segments_expected ∷ []))

abbrev pub back_fields : SegmentationDetail → List Field
back_fields i =
    bits 8 (segmentation_number i.segmentation_type_id) ∷ (bits 8 i.segment_num ∷ (bits 8 i.segments_expected ∷ sub_fields i.sub_segments))

-- the fields after the head, of the components cs
abbrev pub active_fields : SegmentationDetail → List SegmentationComponent → List Field
active_fields i cs =
    flag_fields (by_program i.segmentation_mode) (lasting i.segmentation_duration) (unrestricted i.delivery_restrictions)
    ++ (delivery_fields i.delivery_restrictions
    ++ (mode_fields i.segmentation_mode cs
    ++ (duration_fields i.segmentation_duration
    ++ (upid_fields (written_upid i.segmentation_upid)
    ++ back_fields i))))

unfoldable pub segment_fields : ℕ → DescriptorDetail → List SegmentationComponent → List Field
segment_fields event Cancel cs = head_fields event true
segment_fields event (Active i) cs = head_fields event false ++ active_fields i cs

-- refusal 32: the numbers of an active segmentation but its UPID's, of the components cs
unfoldable pub numbers_fit : SegmentationDetail → List SegmentationComponent → Bool
numbers_fit i cs = within (mode_fields i.segmentation_mode cs) && (within (duration_fields i.segmentation_duration) && within (back_fields i))

-- ---- the bytes of a payload

unfoldable pub payload_size : DescriptorDetail → ℕ
payload_size Cancel = 5
payload_size (Active i) =
    8 + mode_size i.segmentation_mode + duration_size i.segmentation_duration + (written_upid i.segmentation_upid).bytes.len
    + (3 + sub_bytes i.sub_segments)

-- ---- refusals

-- the count of a segmentation descriptor and that many components within their fields
abbrev pub ModeFits : SegmentationDescriptor → List SegmentationComponent → Type 0
ModeFits x components =
    within (mode_fields (front_of x.descriptor_detail).segmentation_mode (take (component_count x) components)) ≡ true

-- n is the number of the first refusal, or 0: of blank components, and of any others that fit
pub record RefusedSo (x : SegmentationDescriptor) (identifier eidr lent : List ℕ) (n : ℕ) : Type 0 where
  pub no_components_lem : n ≡ refusal_in (segmentation_made x identifier (record { components = filled []; eidr = eidr }) lent)
  pub others : (components : List SegmentationComponent) → length components ≡ 255 → ModeFits x components
      → n ≡ refusal_in (segmentation_made x identifier (record { components = components; eidr = eidr }) lent)
