-- The table of `SegmentationTypeId` is sound, so its numbers and its writable values are one to one.
use Prim.Native.Nat.{◌≤◌}
use mathlib.Core.Logic.{◌⊎◌, inl, inr}
use mathlib.Core.Path.{refl}
use native.Mathlib.Omega.{arith}
use lib.Dec.{lit≤}
use lib.ListN.{length}
use denote.Enum.Declared.{tag_of}
use Rattle.names.specs.declared.segmentation.SegmentationTypeId.{SegmentationTypeId}
use Rattle.names.specs.declared.segmentation.SegmentationTypeId.TheVariants.{
  NotIndicated,
  ContentIdentification,
  ProgramStart,
  ProgramEnd,
  ProgramEarlyTermination,
  ProgramBreakaway,
  ProgramResumption,
  ProgramRunoverPlanned,
  ProgramRunoverUnplanned,
  ProgramOverlapStart,
  ProgramBlackoutOverride,
  ProgramStartInProgress,
  ChapterStart,
  ChapterEnd,
  BreakStart,
  BreakEnd,
  ProviderAdvertisementStart,
  ProviderAdvertisementEnd,
  DistributorAdvertisementStart,
  DistributorAdvertisementEnd,
  ProviderPlacementOpportunityStart,
  ProviderPlacementOpportunityEnd,
  DistributorPlacementOpportunityStart,
  DistributorPlacementOpportunityEnd,
  UnscheduledEventStart,
  UnscheduledEventEnd,
  NetworkStart,
  NetworkEnd,
  Reserved,
}
use Rattle.names.specs.Segmentation.{segmentation_number, segmentations, segmentation_type_of, writable_segmentation}
use Rattle.names.specs.contracts.segmentation.SegmentationTypeId.{the_type}
use Rattle.names.proofs.Laws.{Name, Carried, Sound, Inverse, inverse}

split : (x : SegmentationTypeId) → Name segmentations x ⊎ (Carried segmentations x × (length segmentations.names ≤ tag_of the_type x))
split NotIndicated = inl (refl, refl)
split ContentIdentification = inl (refl, refl)
split ProgramStart = inl (refl, refl)
split ProgramEnd = inl (refl, refl)
split ProgramEarlyTermination = inl (refl, refl)
split ProgramBreakaway = inl (refl, refl)
split ProgramResumption = inl (refl, refl)
split ProgramRunoverPlanned = inl (refl, refl)
split ProgramRunoverUnplanned = inl (refl, refl)
split ProgramOverlapStart = inl (refl, refl)
split ProgramBlackoutOverride = inl (refl, refl)
split ProgramStartInProgress = inl (refl, refl)
split ChapterStart = inl (refl, refl)
split ChapterEnd = inl (refl, refl)
split BreakStart = inl (refl, refl)
split BreakEnd = inl (refl, refl)
split ProviderAdvertisementStart = inl (refl, refl)
split ProviderAdvertisementEnd = inl (refl, refl)
split DistributorAdvertisementStart = inl (refl, refl)
split DistributorAdvertisementEnd = inl (refl, refl)
split ProviderPlacementOpportunityStart = inl (refl, refl)
split ProviderPlacementOpportunityEnd = inl (refl, refl)
split DistributorPlacementOpportunityStart = inl (refl, refl)
split DistributorPlacementOpportunityEnd = inl (refl, refl)
split UnscheduledEventStart = inl (refl, refl)
split UnscheduledEventEnd = inl (refl, refl)
split NetworkStart = inl (refl, refl)
split NetworkEnd = inl (refl, refl)
split (Reserved n) = inr ((λ e. omega arith, λ e. refl), lit≤ tt)

pub sound : Sound segmentations (tag_of the_type)
sound = record { carries = λ n. refl; listed = refl; split = split }

pub segmentation_laws : Inverse segmentation_number segmentation_type_of writable_segmentation
unfolding segmentation_type_of writable_segmentation
segmentation_laws = inverse segmentations (tag_of the_type) sound
