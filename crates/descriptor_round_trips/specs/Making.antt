-- What is made of a descriptor that is handed in, by what is read and by the widths of its fields. `descriptor_made` is this and nothing else is (proofs/Theorems.antt):
-- so 01's list of refusal 33 is what its row says, "a value that no canonical reading has", and need not be believed.
use Rattle.std.specs.Prelude.{ℕ, ◌+◌, ◌^◌, ◌<◌, ◌≤◌, Bool, true, false, ◌&&◌, List, [], ◌∷◌, ◌≡◌, ltb, length, take, Ok}
use Rattle.names.specs.Segmentation.{segmentation_number}
use Rattle.table.specs.Bits.{AllBytes}
use Rattle.table.specs.Lent.{no_view, lies_in}
use Rattle.table.specs.Writing.{Made, made, refused}
use Rattle.table.specs.declared.View.{View}
use Rattle.descriptor.specs.Segmentation.{count_of, detail_upid, sub_segment, ticks}
use Rattle.descriptor.specs.Views.{by_descriptor}
use Rattle.descriptor.specs.Full.{full_of}
use Rattle.descriptor.specs.declared.Descriptor.{Descriptor}
use Rattle.descriptor.specs.declared.Descriptor.TheVariants.{Avail, Dtmf, Segmentation, Time, Reserved}
use Rattle.descriptor.specs.declared.segmentation.SegmentationComponent.{SegmentationComponent}
use Rattle.descriptor.specs.declared.segmentation.DescriptorDetail.{DescriptorDetail}
use Rattle.descriptor.specs.declared.segmentation.DescriptorDetail.TheVariants.{Cancel, Active}
use Rattle.descriptor.specs.declared.full.Beside.{Beside}
use Rattle.canonical_form.specs.Descriptor.{canonical_payload}
use Rattle.canonical_form.specs.Same.{SameReading}
use Rattle.descriptor_measure.specs.Writing.{enveloped}

-- ---- 31: the view that is handed in, also where it should be blank

-- the blank where there is none
abbrev pub view_in : Descriptor → View
view_in d = by_descriptor (λ x. no_view) (λ x. x.dtmf_chars) (λ x. (detail_upid x.descriptor_detail).bytes) (λ x. no_view) (λ tag own. own) d

-- ---- 32: the numbers that are handed in, each with the bits of its field before it. 01, "Loop items"

-- each number is within its field
abbrev pub fit : List (ℕ × ℕ) → Bool
fit [] = true
fit (x ∷ xs) = ltb x.1 (2 ^ x.0) && fit xs

abbrev pub component_numbers : List SegmentationComponent → List (ℕ × ℕ)
component_numbers [] = []
component_numbers (c ∷ cs) = (8, c.component_tag) ∷ (33, c.pts_offset) ∷ component_numbers cs

-- what is absent counts as 0; of the places the components up to the count
abbrev pub detail_numbers : DescriptorDetail → List SegmentationComponent → List (ℕ × ℕ)
detail_numbers Cancel places = []
detail_numbers (Active i) places =
    (8, count_of i.segmentation_mode) ∷ (40, ticks i.segmentation_duration)
    ∷ (8, i.segmentation_upid.upid_type) ∷ (8, i.segmentation_upid.bytes.len)
    ∷ (8, segmentation_number i.segmentation_type_id) ∷ (8, i.segment_num) ∷ (8, i.segments_expected)
    ∷ (8, (sub_segment i.sub_segments).sub_segment_num) ∷ (8, (sub_segment i.sub_segments).sub_segments_expected)
    ∷ component_numbers (take (count_of i.segmentation_mode) places)

abbrev pub numbers_of : Descriptor → List SegmentationComponent → List (ℕ × ℕ)
numbers_of (Avail x) places = (32, x.provider_avail_id) ∷ []
numbers_of (Dtmf x) places = (8, x.preroll) ∷ (3, x.dtmf_chars.len) ∷ []
numbers_of (Segmentation x) places = (32, x.segmentation_event_id) ∷ detail_numbers x.descriptor_detail places
numbers_of (Time x) places = (48, x.tai_seconds) ∷ (32, x.tai_nanoseconds) ∷ (16, x.utc_offset) ∷ []
numbers_of (Reserved tag own) places = []

-- ---- 33 and on: what is read

-- p is a canonical payload, under a tag and an identifier, whose reading is equal to what is handed in
pub record Payload (d : Descriptor) (identifier : List ℕ) (beside : Beside) (lent : List ℕ) (tag : ℕ) (id p : List ℕ) : Type 0 where
  pub four : length id ≡ 4
  pub are : AllBytes p
  pub form : canonical_payload tag id p ≡ true
  pub again : Descriptor
  pub reading : (full_of tag id p).read ≡ Ok again
  pub same : SameReading p again (full_of tag id p).identifier (full_of tag id p).beside lent d identifier beside

-- "31 to 36 are checked in order of number". (Where there is a payload, each number was read of its field, so that 32 does not apply.)
pub data DescriptorMakes (d : Descriptor) (identifier : List ℕ) (beside : Beside) (lent : List ℕ) : Made → Type 0 where
  -- 31: "a view reaches outside the lent bytes"
  outside : lies_in lent (view_in d) ≡ false → DescriptorMakes d identifier beside lent (refused 31)
  -- 32: "a number or count handed in exceeds its field; so do over 7 DTMF or 255 UPID bytes"
  over : lies_in lent (view_in d) ≡ true → fit (numbers_of d beside.components) ≡ false → DescriptorMakes d identifier beside lent (refused 32)
  -- 33: "a value that no canonical reading has"
  nobodys : lies_in lent (view_in d) ≡ true → fit (numbers_of d beside.components) ≡ true
      → ((tag : ℕ) (id p : List ℕ) → Payload d identifier beside lent tag id p → ⊥) → DescriptorMakes d identifier beside lent (refused 33)
  -- 34: "descriptor length over 254"
  long : lies_in lent (view_in d) ≡ true → (tag : ℕ) (id p : List ℕ) → Payload d identifier beside lent tag id p → 254 < length p + 4
      → DescriptorMakes d identifier beside lent (refused 34)
  -- the bytes that read as what is handed in
  its : lies_in lent (view_in d) ≡ true → (tag : ℕ) (id p : List ℕ) → Payload d identifier beside lent tag id p → length p + 4 ≤ 254
      → DescriptorMakes d identifier beside lent (made (enveloped tag id p))
