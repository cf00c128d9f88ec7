-- What is proved of a segmentation payload whose UPID is replaced, in the words of specs/Payload.antt. The proofs stand in Fronts.antt and Payloads.antt, over Swaps.antt of `table`.
use Prim.Native.Nat.{ℕ, ◌<◌}
use mathlib.Core.List.{List}
use mathlib.Core.Path.{◌≡◌}
use lib.ListN.{get_or}
use Rattle.descriptor.specs.Descriptor.{segmentation_of}
use Rattle.descriptor.specs.declared.Descriptor.TheVariants.{Segmentation}
use Rattle.descriptor.specs.declared.segmentation.SegmentationDescriptor.{SegmentationDescriptor}
use Rattle.descriptor.specs.declared.segmentation.DescriptorDetail.TheVariants.{Active}
use Rattle.descriptor.specs.declared.segmentation.SegmentationDetail.{SegmentationDetail}
use Rattle.relabel_payload.specs.Payload.{Holed}
use Rattle.relabel_payload.proofs.Payloads as payloads
use Rattle.std.proofs.Common.{Ok}

-- A payload that reads as a segmentation descriptor, not cancelled, is what stands before its UPID, the UPID, and what stands after it; with any other UPID that is
-- accepted in its place, and its length in its head, it reads the same but for the UPID. Reserved bits and spare bytes may be any.
pub of_the_payload_only_the_upid_differs : (s : List ℕ) (x : SegmentationDescriptor) (i : SegmentationDetail) → ((k : ℕ) → get_or s k 0 < 256)
    → segmentation_of s ≡ Ok (Segmentation x) → x.descriptor_detail ≡ Active i → Holed s x.segmentation_event_id i
of_the_payload_only_the_upid_differs = payloads.holed
