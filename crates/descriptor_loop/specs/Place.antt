-- Where the views of an item lie (document 01, "Identifiers": "an item's UPID is its reported type and one view of its bytes").
use Rattle.std.specs.Prelude.{ℕ, List, [], ◌∷◌, Ok, Err, Some, None, Option, Result}
use Rattle.table.specs.Bits.{pick}
use Rattle.table.specs.Lent.{no_view, shifted}
use Rattle.table.specs.declared.View.{View}
use Rattle.descriptor.specs.Views.{without_view, descriptor_views, refusal_views, with_views}
use Rattle.descriptor.specs.declared.Descriptor.{Descriptor}
use Rattle.descriptor.specs.declared.segmentation.SegmentationUpid.{SegmentationUpid}
use Rattle.descriptor_loop.specs.declared.ItemRefusal.TheVariants.{InvalidDescriptorLength, Other}
use Rattle.descriptor_loop.specs.declared.ItemRefusal.{ItemRefusal}

-- ---- the view that an item has: that of its descriptor or of its refusal

abbrev pub views_of : Option (Result Descriptor ItemRefusal) → List View
views_of None = []
views_of (Some (Err InvalidDescriptorLength)) = []
views_of (Some (Err (Other r))) = refusal_views r
views_of (Some (Ok d)) = descriptor_views d

-- an item has at most one; the blank view stands where it has none
abbrev pub first_view : List View → View
first_view [] = no_view
first_view (v ∷ vs) = v

abbrev pub view_of : Option (Result Descriptor ItemRefusal) → View
view_of item = first_view (views_of item)

-- ---- views that count from a payload's start, counted from the start of the loop, where the payload lies at `base`

-- blank views stay blank
abbrev pub moved_upid : ℕ → SegmentationUpid → SegmentationUpid
moved_upid base u = pick (without_view u.upid_type) u (record { upid_type = u.upid_type; bytes = shifted base u.bytes })

abbrev pub moved_descriptor : ℕ → Descriptor → Descriptor
moved_descriptor base d = with_views (moved_upid base) (shifted base) d
