-- What it means that the list of a section's identifiers (Identifiers.antt) is complete: what a reader is handed of each item is in it.
use Rattle.std.specs.Prelude.{ℕ, ◌+◌, ◌≡◌, Ok, Err, Some, None}
use mathlib.Core.List.{List, Memᴰ}
use Rattle.command.specs.declared.Private.{Private}
use Rattle.command.specs.declared.SpliceCommand.{SpliceCommand}
use Rattle.descriptor.specs.declared.Descriptor.{Descriptor}
use Rattle.descriptor.specs.declared.plain.DTMFDescriptor.{DTMFDescriptor}
use Rattle.descriptor.specs.declared.segmentation.DescriptorDetail.{DescriptorDetail}
use Rattle.descriptor.specs.declared.segmentation.SegmentationDescriptor.{SegmentationDescriptor}
use Rattle.descriptor.specs.declared.segmentation.SegmentationDetail.{SegmentationDetail}
use Rattle.descriptor.specs.declared.segmentation.SegmentationUpid.{SegmentationUpid}
use Rattle.descriptor_loop.specs.Items.{Listed}
use Rattle.descriptor_loop.specs.declared.ItemRefusal.{ItemRefusal}
use Rattle.table.specs.Lent.{viewed}
use Rattle.table.specs.declared.View.{View}
use Rattle.upid.specs.Cover.{All}
use Rattle.upid.specs.Upid.{part_view}
use Rattle.upid.specs.declared.Part.{Part}
use Rattle.upid.specs.declared.Refusal.{Refusal}
use Rattle.theorems_reader.specs.Identifiers.{Identifier, in_section, in_lent, eidr_of, parts_read}

-- a UPID: its bytes unless it is None or an EIDR, an EIDR by value, and every part of a MID
pub record ListsUpid (ids : List Identifier) (base : ℕ) (loop : List ℕ) (y : Listed) (u : SegmentationUpid) : Type 0 where
  pub view : (u.upid_type ≡ 0 → ⊥) → (u.upid_type ≡ 10 → ⊥) → Memᴰ (in_lent base loop u.bytes) ids
  pub eidr : u.upid_type ≡ 10 → Memᴰ (eidr_of base loop y) ids
  pub parts : All (λ (p : Part). Memᴰ (in_lent (base + u.bytes.at) (viewed loop u.bytes) (part_view p)) ids) (parts_read u.upid_type (viewed loop u.bytes))

-- an item that is read: DTMF characters, a UPID, a reserved descriptor's bytes and identifier, the text of refusal 24
pub record ListsItem (ids : List Identifier) (base : ℕ) (loop : List ℕ) (y : Listed) : Type 0 where
  pub dtmf : (d : DTMFDescriptor) → y.step.item ≡ Some (Ok (Descriptor.Dtmf d)) → Memᴰ (in_lent base loop d.dtmf_chars) ids
  pub upid : (d : SegmentationDescriptor) (i : SegmentationDetail) → y.step.item ≡ Some (Ok (Descriptor.Segmentation d)) → d.descriptor_detail ≡ DescriptorDetail.Active i
      → ListsUpid ids base loop y i.segmentation_upid
  pub reserved : (tag : ℕ) (v : View) → y.step.item ≡ Some (Ok (Descriptor.Reserved tag v))
      → Memᴰ (in_lent base loop v) ids × Memᴰ (record { start = base + (y.offset + 2); len = 4; bytes = y.step.identifier }) ids
  pub text : (k : ℕ) (v : View) → y.step.item ≡ Some (Err (ItemRefusal.Other (Refusal.InvalidUpidContent k v))) → Memᴰ (in_lent base loop v) ids

-- the private bytes of a command
abbrev pub ListsCommand : List Identifier → List ℕ → SpliceCommand → Type 0
ListsCommand ids s c = (p : Private) → c ≡ SpliceCommand.PrivateCommand p → Memᴰ (in_section s p.private_bytes) ids
