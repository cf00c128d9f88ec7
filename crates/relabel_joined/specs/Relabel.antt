-- One identifier of a section replaced: the UPID of a segmentation descriptor, or one part of its MID.
use Rattle.std.specs.Prelude.{ℕ, zero, suc, ◌+◌, List, ◌≡◌, length, Ok, Some}
use Rattle.descriptor.specs.Descriptor.{reported_upid}
use Rattle.descriptor.specs.Segmentation.{with_upid}
use Rattle.descriptor.specs.declared.Descriptor.TheVariants.{Segmentation}
use Rattle.descriptor.specs.declared.segmentation.DescriptorDetail.TheVariants.{Active}
use Rattle.descriptor.specs.declared.segmentation.SegmentationDetail.{SegmentationDetail}
use Rattle.descriptor_loop.specs.Items.{step_of, Listed}
use Rattle.descriptor_loop.specs.Place.{moved_descriptor}
use Rattle.relabel_loop.specs.Item.{segmentation_item}
use Rattle.relabel_loop.specs.Loop.{with_item, OthersStay}
use Rattle.relabel_payload.specs.Payload.{payload}
use Rattle.relabel_section.specs.Frame.{section_with}
use Rattle.section.specs.Section.{command_length, loop_bytes, section_of}
use Rattle.section.specs.declared.Section.{Section}

-- the type of the UPID then: with part 0 the new one, with a part of a MID the MID's own
abbrev pub type_then : ℕ → ℕ → ℕ → ℕ
type_then zero upid_type_number new_type = new_type
type_then (suc i) upid_type_number new_type = upid_type_number

-- the item then, whose payload is what stands before the UPID's head, the UPID u of type `upid_type_number`, and what stands after it
abbrev pub item_then : List ℕ → List ℕ → ℕ → List ℕ → List ℕ
item_then fore post upid_type_number u = segmentation_item (payload fore post upid_type_number u)

-- the section s then, whose loop has the item x: each length on the way out is that of what it now counts, and the CRC is that of what it now follows
abbrev pub relabelled : List ℕ → Listed → List ℕ → List ℕ → ℕ → List ℕ → List ℕ
relabelled s x fore post upid_type_number u = section_with s (with_item (loop_bytes s) x (item_then fore post upid_type_number u))

-- What is claimed of it, where s reads as `old`, its loop's items are `lead`, x and `tail`, and x is the active segmentation i of this event.
pub record Kept (s : List ℕ) (old : Section) (lead : List Listed) (x : Listed) (tail : List Listed) (event : ℕ) (i : SegmentationDetail) (fore post : List ℕ) (upid_type_number : ℕ) (u : List ℕ) : Type 0 where
  -- it is accepted, with the same header and command
  pub section : section_of (relabelled s x fore post upid_type_number u)
      ≡ Ok (record { header = old.header; command = old.command; descriptors = record { at = 16 + command_length s; len = length (with_item (loop_bytes s) x (item_then fore post upid_type_number u)) }; payload = old.payload })
  -- its loop has the new item in x's place, and every other item as it was, its views moved
  pub loop : loop_bytes (relabelled s x fore post upid_type_number u) ≡ with_item (loop_bytes s) x (item_then fore post upid_type_number u)
  pub others : OthersStay (loop_bytes s) lead x tail (item_then fore post upid_type_number u)
  -- of the item itself only the UPID differs
  pub reported : ℕ
  pub own : (step_of (item_then fore post upid_type_number u) 0).item
      ≡ Some (Ok (moved_descriptor 6 (Segmentation (record { segmentation_event_id = event; descriptor_detail = Active (with_upid i (reported_upid reported (record { at = length fore + 2; len = length u }))) }))))
