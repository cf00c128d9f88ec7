-- What the contracts of private functions and the laws of this crate say. No public contract cites this.
use Rattle.std.specs.Prelude.{ℕ, ◌+◌, ◌^◌, ◌<◌, ◌≤◌, List, ◌≡◌, take, drop}
use Rattle.table.specs.Lent.{viewed}
use Rattle.table.specs.declared.View.{View}
use Rattle.upid.specs.Cover.{All}
use Rattle.descriptor.specs.Segmentation.{with_upid}
use Rattle.descriptor.specs.Views.{with_upids}
use Rattle.descriptor.specs.declared.segmentation.DescriptorDetail.{DescriptorDetail}
use Rattle.descriptor.specs.declared.segmentation.SegmentationDetail.{SegmentationDetail}
use Rattle.descriptor_loop.specs.Items.{Listed}
use Rattle.descriptor_loop.specs.Place.{moved_upid}

-- no place of these views grows too large
abbrev pub Movable : ℕ → List View → Type 0
Movable base vs = All (λ (v : View). base + v.at < 2 ^ 64) vs

-- an active segmentation, and a detail, with the UPID moved
abbrev pub moved_active : ℕ → SegmentationDetail → SegmentationDetail
moved_active base i = with_upid i (moved_upid base i.segmentation_upid)

abbrev pub moved_detail : ℕ → DescriptorDetail → DescriptorDetail
moved_detail base d = with_upids (moved_upid base) d

-- a view lies in the bytes of its item, behind their head and identifier, and what it hands back is that run of the loop
pub record Run (loop : List ℕ) (x : Listed) (v : View) : Type 0 where
  pub behind : x.offset + 6 ≤ v.at
  pub before : v.at + v.len ≤ x.offset + x.used
  pub bytes : viewed loop v ≡ take v.len (drop v.at loop)
