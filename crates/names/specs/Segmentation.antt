-- segmentation_type_id, what a segmentation descriptor marks. 000: `SegmentationTypeId`.
use Rattle.std.specs.Prelude.{◌≡◌, ℕ, Bool, [], ◌∷◌}
use Rattle.names.specs.declared.segmentation.SegmentationTypeId.{SegmentationTypeId}
use Rattle.names.specs.declared.segmentation.SegmentationTypeId.TheVariants.{
  NotIndicated,
  ContentIdentification,
  ProgramStart,
  ProgramEnd,
  ProgramEarlyTermination,
  ProgramBreakaway,
  ProgramResumption,
  ProgramRunoverPlanned,
  ProgramRunoverUnplanned,
  ProgramOverlapStart,
  ProgramBlackoutOverride,
  ProgramStartInProgress,
  ChapterStart,
  ChapterEnd,
  BreakStart,
  BreakEnd,
  ProviderAdvertisementStart,
  ProviderAdvertisementEnd,
  DistributorAdvertisementStart,
  DistributorAdvertisementEnd,
  ProviderPlacementOpportunityStart,
  ProviderPlacementOpportunityEnd,
  DistributorPlacementOpportunityStart,
  DistributorPlacementOpportunityEnd,
  UnscheduledEventStart,
  UnscheduledEventEnd,
  NetworkStart,
  NetworkEnd,
  Reserved,
}
use Rattle.names.specs.Numbering.{Entry, named, reserved, Numbering, value_of, writable}

-- The table: the number and the class of each value, the names in the order of their numbers. 28 numbers have a name; all others are reserved.
abbrev pub segmentation_entry : SegmentationTypeId → Entry
segmentation_entry NotIndicated = (0x00, named)
segmentation_entry ContentIdentification = (0x01, named)
segmentation_entry ProgramStart = (0x10, named)
segmentation_entry ProgramEnd = (0x11, named)
segmentation_entry ProgramEarlyTermination = (0x12, named)
segmentation_entry ProgramBreakaway = (0x13, named)
segmentation_entry ProgramResumption = (0x14, named)
segmentation_entry ProgramRunoverPlanned = (0x15, named)
segmentation_entry ProgramRunoverUnplanned = (0x16, named)
segmentation_entry ProgramOverlapStart = (0x17, named)
segmentation_entry ProgramBlackoutOverride = (0x18, named)
segmentation_entry ProgramStartInProgress = (0x19, named)
segmentation_entry ChapterStart = (0x20, named)
segmentation_entry ChapterEnd = (0x21, named)
segmentation_entry BreakStart = (0x22, named)
segmentation_entry BreakEnd = (0x23, named)
segmentation_entry ProviderAdvertisementStart = (0x30, named)
segmentation_entry ProviderAdvertisementEnd = (0x31, named)
segmentation_entry DistributorAdvertisementStart = (0x32, named)
segmentation_entry DistributorAdvertisementEnd = (0x33, named)
segmentation_entry ProviderPlacementOpportunityStart = (0x34, named)
segmentation_entry ProviderPlacementOpportunityEnd = (0x35, named)
segmentation_entry DistributorPlacementOpportunityStart = (0x36, named)
segmentation_entry DistributorPlacementOpportunityEnd = (0x37, named)
segmentation_entry UnscheduledEventStart = (0x40, named)
segmentation_entry UnscheduledEventEnd = (0x41, named)
segmentation_entry NetworkStart = (0x50, named)
segmentation_entry NetworkEnd = (0x51, named)
segmentation_entry (Reserved n) = (n, reserved)

abbrev pub segmentation_number : SegmentationTypeId → ℕ
segmentation_number x = (segmentation_entry x).0

abbrev pub segmentations : Numbering SegmentationTypeId
segmentations = record {
  entry = segmentation_entry;
  names = NotIndicated ∷ ContentIdentification ∷ ProgramStart ∷ ProgramEnd ∷ ProgramEarlyTermination ∷ ProgramBreakaway
      ∷ ProgramResumption ∷ ProgramRunoverPlanned ∷ ProgramRunoverUnplanned ∷ ProgramOverlapStart ∷ ProgramBlackoutOverride
      ∷ ProgramStartInProgress ∷ ChapterStart ∷ ChapterEnd ∷ BreakStart ∷ BreakEnd ∷ ProviderAdvertisementStart
      ∷ ProviderAdvertisementEnd ∷ DistributorAdvertisementStart ∷ DistributorAdvertisementEnd ∷ ProviderPlacementOpportunityStart
      ∷ ProviderPlacementOpportunityEnd ∷ DistributorPlacementOpportunityStart ∷ DistributorPlacementOpportunityEnd
      ∷ UnscheduledEventStart ∷ UnscheduledEventEnd ∷ NetworkStart ∷ NetworkEnd ∷ [];
  others = Reserved;
}

-- the value that a number stands for
unfoldable pub segmentation_type_of : ℕ → SegmentationTypeId
segmentation_type_of n = value_of segmentations n

pub segmentation_is : (n : ℕ) (x : SegmentationTypeId) → x ≡ segmentation_type_of n → x ≡ value_of segmentations n
unfolding segmentation_type_of
segmentation_is n x e = e

-- whether a value is what its own number stands for
unfoldable pub writable_segmentation : SegmentationTypeId → Bool
writable_segmentation x = writable segmentations x
