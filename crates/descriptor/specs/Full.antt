-- What stands beside a descriptor. 01, "What must change shape": "arrays stand beside enums, not in them".
use Rattle.std.specs.Prelude.{ℕ, List, [], replicate, Ok, Err, Result}
use Rattle.table.specs.Bits.{bits_of}
use Rattle.table.specs.Lent.{filled_to, viewed}
use Rattle.table.specs.Table.{Answer, got, short, parse}
use Rattle.upid.specs.Upid.{eidr_of}
use Rattle.descriptor.specs.Descriptor.{descriptor_of}
use Rattle.descriptor.specs.Segmentation as table
use Rattle.descriptor.specs.Views.{by_descriptor}
use Rattle.descriptor.specs.Segmentation.{blank_component, detail_upid, segmentation}
use Rattle.descriptor.specs.declared.Descriptor.{Descriptor}
use Rattle.descriptor.specs.declared.segmentation.SegmentationComponent.{SegmentationComponent}
use Rattle.descriptor.specs.declared.segmentation.SegmentationDescriptor.{SegmentationDescriptor}
use Rattle.descriptor.specs.declared.full.Beside.{Beside}
use Rattle.descriptor.specs.declared.full.FullDescriptor.{FullDescriptor}
use Rattle.upid.specs.declared.Refusal.{Refusal}

-- ---- f of one kind of descriptor, and `none` of any other
abbrev pub of_segmentation : {A : Type 0} → (SegmentationDescriptor → A) → A → Descriptor → A
of_segmentation f none d = by_descriptor (λ x. none) (λ x. none) f (λ x. none) (λ tag v. none) d

abbrev pub of_reserved : {A : Type 0} → A → A → Descriptor → A
of_reserved its none d = by_descriptor (λ x. none) (λ x. none) (λ x. none) (λ x. none) (λ tag v. its) d

-- ---- the array of a segmentation descriptor, and its EIDR
-- "arrays with a count, 255 components, blank (all zero ..) past it"
unfoldable pub filled : List SegmentationComponent → List SegmentationComponent
filled cs = filled_to 255 blank_component cs

unfoldable pub blank_beside : Beside
blank_beside = record { components = filled []; eidr = replicate 12 0 }

-- beside a segmentation descriptor, which has a UPID as written; "The EIDR identifier of 12 bytes is held by value"
unfoldable pub beside_in : List ℕ → Answer table.Segmentation → Beside
beside_in s (got x at) =
    let upid = detail_upid x.descriptor.descriptor_detail in
    record { components = filled x.components; eidr = eidr_of upid.upid_type (viewed s upid.bytes) }
beside_in s (short expected actual) = blank_beside

unfoldable pub beside_of : List ℕ → Beside
beside_of s = beside_in s (parse segmentation (bits_of s) 0)

-- ---- beside any descriptor
abbrev pub beside_read : Result Descriptor Refusal → List ℕ → Beside
beside_read (Ok d) s = of_segmentation (λ x. beside_of s) blank_beside d
beside_read (Err r) s = blank_beside

-- the identifier of a reserved one; the others are "CUEI"
abbrev pub identifier_read : Result Descriptor Refusal → List ℕ → List ℕ
identifier_read (Ok d) id = of_reserved id (replicate 4 0) d
identifier_read (Err r) id = replicate 4 0

unfoldable pub full_of : ℕ → List ℕ → List ℕ → FullDescriptor
full_of tag id s =
    record {
      read = descriptor_of tag id s;
      identifier = identifier_read (descriptor_of tag id s) id;
      beside = beside_read (descriptor_of tag id s) s;
    }
