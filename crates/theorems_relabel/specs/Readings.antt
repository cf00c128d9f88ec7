-- The list of identifiers that relabelling speaks of (`identifiers_in`, relabel_laws) finds each UPID by the section's bytes; the readers hand out the UPIDs and parts that
-- `identifiers_of` (theorems_reader/specs/Identifiers.antt) lists. What ties the two, of one item: `pay` is its payload, u the UPID that is read of it, and `eidr` what stands
-- beside it in the reading.
use Rattle.std.specs.Prelude.{ℕ, List, [], ◌∷◌, ◌≡◌, eqb, length, Ok, Err, Some, None, Option, Result}
use Rattle.descriptor.specs.declared.Descriptor.{Descriptor}
use Rattle.descriptor.specs.declared.segmentation.DescriptorDetail.{DescriptorDetail}
use Rattle.descriptor.specs.declared.segmentation.SegmentationUpid.{SegmentationUpid}
use Rattle.descriptor_loop.specs.Items.{Listed, reading_of}
use Rattle.relabel_found.specs.Found.{type_in, upid_in, payload_at}
use Rattle.relabel_laws.specs.Identifiers.{of_payload, of_item}
use Rattle.relabel_upid.specs.Kept.{Identifier, identifiers_in}
use Rattle.table.specs.Bits.{pick}
use Rattle.table.specs.Lent.{viewed}
use Rattle.theorems_reader.specs.Identifiers.{parts_read}
use Rattle.descriptor_loop.specs.declared.ItemRefusal.{ItemRefusal}

pub record ReadAs (pay loop eidr : List ℕ) (u : SegmentationUpid) : Type 0 where
  -- its type is the one that is written there: 5 is told as 6, and an empty one is None
  pub upid_type : u.upid_type ≡ pick (eqb (length (upid_in pay)) 0) 0 (pick (eqb (type_in pay) 5) 6 (type_in pay))
  -- its bytes are the ones that are handed out, an EIDR's by value
  pub bytes : (u.upid_type ≡ 0 → ⊥) → (u.upid_type ≡ 10 → ⊥) → viewed loop u.bytes ≡ upid_in pay
  pub held : u.upid_type ≡ 10 → eidr ≡ upid_in pay
  -- so of an empty one nothing is listed, of a MID the parts that are read of the bytes handed out, and of any other itself
  pub none : length (upid_in pay) ≡ 0 → of_payload pay ≡ []
  pub parts : u.upid_type ≡ 13 → of_payload pay ≡ identifiers_in (viewed loop u.bytes) (parts_read 13 (viewed loop u.bytes))
  pub one : (length (upid_in pay) ≡ 0 → ⊥) → (u.upid_type ≡ 13 → ⊥) → of_payload pay ≡ record { level = 0; upid_type = type_in pay; bytes = upid_in pay } ∷ []

-- ids is what is listed of an item: nothing, unless it is a segmentation descriptor that is not cancelled
abbrev pub DetailAs : List ℕ → List ℕ → List ℕ → List Identifier → DescriptorDetail → Type 0
DetailAs pay loop eidr ids DescriptorDetail.Cancel = ids ≡ []
DetailAs pay loop eidr ids (DescriptorDetail.Active i) = (ids ≡ of_payload pay) × ReadAs pay loop eidr i.segmentation_upid

abbrev pub ItemAs : List ℕ → List ℕ → List ℕ → List Identifier → Option (Result Descriptor ItemRefusal) → Type 0
ItemAs pay loop eidr ids None = ids ≡ []
ItemAs pay loop eidr ids (Some (Err r)) = ids ≡ []
ItemAs pay loop eidr ids (Some (Ok (Descriptor.Avail x))) = ids ≡ []
ItemAs pay loop eidr ids (Some (Ok (Descriptor.Dtmf x))) = ids ≡ []
ItemAs pay loop eidr ids (Some (Ok (Descriptor.Segmentation d))) = DetailAs pay loop eidr ids d.descriptor_detail
ItemAs pay loop eidr ids (Some (Ok (Descriptor.Time x))) = ids ≡ []
ItemAs pay loop eidr ids (Some (Ok (Descriptor.Reserved tag v))) = ids ≡ []

abbrev pub ListedAs : List ℕ → Listed → Type 0
ListedAs loop y = ItemAs (payload_at loop y.offset) loop (reading_of loop y.offset).beside.eidr (of_item loop y) y.step.item
