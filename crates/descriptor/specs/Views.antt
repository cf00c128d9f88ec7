-- The views in a descriptor, and in a refusal of one.
use Rattle.std.specs.Prelude.{ℕ, Bool, ◌||◌, List, [], ◌∷◌, eqb}
use Rattle.table.specs.Bits.{pick}
use Rattle.table.specs.declared.View.{View}
use Rattle.upid.specs.declared.Refusal.{Refusal}
use Rattle.upid.specs.declared.Refusal.TheVariants.{InputTooLong, NotEnoughData, UpidLengthTypeMismatch, InvalidUpidContent, InvalidUpidLength}
use Rattle.descriptor.specs.Segmentation.{with_upid}
use Rattle.descriptor.specs.declared.Descriptor.{Descriptor}
use Rattle.descriptor.specs.declared.Descriptor.TheVariants.{Avail, Dtmf, Segmentation, Time, Reserved}
use Rattle.descriptor.specs.declared.plain.AvailDescriptor.{AvailDescriptor}
use Rattle.descriptor.specs.declared.plain.DTMFDescriptor.{DTMFDescriptor}
use Rattle.descriptor.specs.declared.plain.TimeDescriptor.{TimeDescriptor}
use Rattle.descriptor.specs.declared.segmentation.SegmentationDescriptor.{SegmentationDescriptor}
use Rattle.descriptor.specs.declared.segmentation.DescriptorDetail.{DescriptorDetail}
use Rattle.descriptor.specs.declared.segmentation.DescriptorDetail.TheVariants.{Cancel, Active}
use Rattle.descriptor.specs.declared.segmentation.SegmentationUpid.{SegmentationUpid}

-- the types of a UPID that have no view: None (type 0) has no bytes, and of EIDR (type 10) "The EIDR identifier of 12 bytes is held by value"
abbrev pub without_view : ℕ → Bool
without_view upid_type_number = eqb upid_type_number 0 || eqb upid_type_number 10

abbrev pub upid_views : SegmentationUpid → List View
upid_views u = pick (without_view u.upid_type) [] (u.bytes ∷ [])

abbrev pub detail_views : DescriptorDetail → List View
detail_views Cancel = []
detail_views (Active i) = upid_views i.segmentation_upid

-- by a descriptor: what is made of each kind
abbrev pub by_descriptor : {A : Type 0} → (AvailDescriptor → A) → (DTMFDescriptor → A) → (SegmentationDescriptor → A) → (TimeDescriptor → A) → (ℕ → View → A) → Descriptor → A
by_descriptor avail dtmf segmentation time reserved (Avail x) = avail x
by_descriptor avail dtmf segmentation time reserved (Dtmf x) = dtmf x
by_descriptor avail dtmf segmentation time reserved (Segmentation x) = segmentation x
by_descriptor avail dtmf segmentation time reserved (Time x) = time x
by_descriptor avail dtmf segmentation time reserved (Reserved tag bytes) = reserved tag bytes

-- DTMF characters, a UPID, private bytes
abbrev pub descriptor_views : Descriptor → List View
descriptor_views d = by_descriptor (λ x. []) (λ x. x.dtmf_chars ∷ []) (λ x. detail_views x.descriptor_detail) (λ x. []) (λ tag bytes. bytes ∷ []) d

-- the text of refusal 24
abbrev pub refusal_views : Refusal → List View
refusal_views InputTooLong = []
refusal_views (NotEnoughData expected actual) = []
refusal_views UpidLengthTypeMismatch = []
refusal_views (InvalidUpidContent upid_type_number bytes) = bytes ∷ []
refusal_views (InvalidUpidLength upid_type_number expected actual) = []

-- ---- the same descriptor with another UPID, or, of a DTMF or reserved one, with another view
abbrev pub with_upids : (SegmentationUpid → SegmentationUpid) → DescriptorDetail → DescriptorDetail
with_upids f Cancel = Cancel
with_upids f (Active i) = Active (with_upid i (f i.segmentation_upid))

abbrev pub with_views : (SegmentationUpid → SegmentationUpid) → (View → View) → Descriptor → Descriptor
with_views f g (Avail x) = Avail x
with_views f g (Dtmf x) = Dtmf (record { preroll = x.preroll; dtmf_chars = g x.dtmf_chars })
with_views f g (Segmentation x) =
    Segmentation (record { segmentation_event_id = x.segmentation_event_id; descriptor_detail = with_upids f x.descriptor_detail })
with_views f g (Time x) = Time x
with_views f g (Reserved tag bytes) = Reserved tag (g bytes)
