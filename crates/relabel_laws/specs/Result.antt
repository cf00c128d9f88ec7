-- What is claimed of a section in which one identifier was replaced.
use Rattle.std.specs.Prelude.{ℕ, ◌+◌, ◌≤◌, true, List, ◌∷◌, ◌++◌, ◌≡◌, length, Ok}
use Rattle.descriptor.specs.declared.segmentation.SegmentationDetail.{SegmentationDetail}
use Rattle.descriptor_loop.specs.Items.{Listed, listed, items_of}
use Rattle.relabel.specs.Relabel.{payload_in, payload_then, section_then}
use Rattle.relabel_found.specs.Found.{found, fore_in, type_in, size_in, upid_in, post_in}
use Rattle.relabel_joined.specs.Relabel.{type_then, Kept}
use Rattle.relabel_payload.specs.Payload.{payload, upid_head}
use Rattle.relabel_upid.specs.Relabel.{upid_made}
use Rattle.section.specs.Section.{loop_bytes, section_of}
use Rattle.section.specs.declared.Section.{Section}
use Rattle.table.specs.Writing.{made}

-- r is the section s in which part number `part` of the item at `offset` became an identifier of type `upid_type_number` with the bytes `new`
pub record Result (s : List ℕ) (offset part upid_type_number : ℕ) (new r : List ℕ) : Type 0 where
  -- s is accepted, and an item of its loop begins at the offset: a segmentation descriptor that is not cancelled, with the active segmentation i of this event
  pub old : Section
  pub accepted : section_of s ≡ Ok old
  pub lead : List Listed
  pub tail : List Listed
  pub items : items_of (loop_bytes s) ≡ lead ++ (listed (loop_bytes s) offset ∷ tail)
  pub there : found (loop_bytes s) offset ≡ true
  pub event : ℕ
  pub active : SegmentationDetail
  -- its payload is what stands before the UPID's head, the UPID, and what stands after it
  pub cut : payload_in s offset ≡ payload (fore_in (payload_in s offset)) (post_in (payload_in s offset)) (type_in (payload_in s offset)) (upid_in (payload_in s offset))
  pub complete : upid_head (payload_in s offset) + 2 + size_in (payload_in s offset) ≤ length (payload_in s offset)
  -- what becomes of the UPID is said by `every_other_identifier_stays` and `the_upid_itself` (relabel_upid)
  pub upid : List ℕ
  pub made_of : upid_made (type_in (payload_in s offset)) (upid_in (payload_in s offset)) part upid_type_number new ≡ made upid
  pub is : r ≡ section_then s offset part upid_type_number upid
  pub short : length (payload_then s offset part upid_type_number upid) ≤ 250
  -- r is accepted, its header, its command and every other item read the same, and of the item itself only the UPID differs
  pub kept : Kept s old lead (listed (loop_bytes s) offset) tail event active (fore_in (payload_in s offset)) (post_in (payload_in s offset)) (type_then part (type_in (payload_in s offset)) upid_type_number) upid
