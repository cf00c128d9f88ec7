-- What it means that an identifier of a section is whole: it is the very run that the section's own bytes announce, at the place where 01's layout puts it.
-- `OneRun` says less: that it is some run.
use Rattle.std.specs.Prelude.{ℕ, ◌+◌, ◌-◌, ◌/◌, ◌%◌, ◌≤◌, List, ◌≡◌, eqb, length, take, drop, get_or, Ok, Err, Some, None}
use Rattle.command.specs.declared.Private.{Private}
use Rattle.command.specs.declared.SpliceCommand.{SpliceCommand}
use Rattle.descriptor.specs.Segmentation.{fields_before}
use Rattle.descriptor.specs.declared.Descriptor.{Descriptor}
use Rattle.descriptor.specs.declared.plain.DTMFDescriptor.{DTMFDescriptor}
use Rattle.descriptor.specs.declared.segmentation.DescriptorDetail.{DescriptorDetail}
use Rattle.descriptor.specs.declared.segmentation.SegmentationDescriptor.{SegmentationDescriptor}
use Rattle.descriptor.specs.declared.segmentation.SegmentationDetail.{SegmentationDetail}
use Rattle.descriptor.specs.declared.segmentation.SegmentationUpid.{SegmentationUpid}
use Rattle.descriptor_loop.specs.declared.ItemRefusal.{ItemRefusal}
use Rattle.descriptor_loop.specs.declared.reading.Reading.{Reading}
use Rattle.section.specs.Section.{command_length, loop_in}
use Rattle.section.specs.declared.Section.{Section}
use Rattle.table.specs.Bits.{pick}
use Rattle.table.specs.declared.View.{View}
use Rattle.upid.specs.declared.Refusal.{Refusal}
use Rattle.theorems_reader.specs.Identifiers.{Identifier, in_section, in_lent, Unsplit}

-- the identifier is exactly the n bytes of the section from `at` on, which are there
pub record Exactly (s : List ℕ) (at n : ℕ) (i : Identifier) : Type 0 where
  pub there : at + n ≤ length s
  pub is : i ≡ record { start = at; len = n; bytes = take n (drop at s) }

-- ---- a UPID: "UPID type 8, length 8, bytes", from byte h of the section on. `base` is where the lent loop starts, `beside` the EIDR that stands beside it.
pub record WholeUpid (s : List ℕ) (h base : ℕ) (loop beside : List ℕ) (u : SegmentationUpid) : Type 0 where
  -- "Length 0 at top level is None and reports type 0, whichever type was written"; else it reports the type that is written, but 5 as 6
  pub upid_type : u.upid_type ≡ pick (eqb (get_or s (h + 1) 0) 0) 0 (pick (eqb (get_or s h 0) 5) 6 (get_or s h 0))
  -- unless it is None or an EIDR it has a view, of as many bytes as are announced, no fewer and no more. (The types are named here: a reader's own list of
  -- those without a view could be longer.)
  pub bytes : (u.upid_type ≡ 0 → ⊥) → (u.upid_type ≡ 10 → ⊥) → Exactly s (h + 2) (get_or s (h + 1) 0) (in_lent base loop u.bytes)
  -- "The EIDR identifier of 12 bytes is held by value": written as type 10 with length 12
  pub eidr : u.upid_type ≡ 10 → (get_or s h 0 ≡ 10) × (get_or s (h + 1) 0 ≡ 12) × Exactly s (h + 2) 12 (record { start = h + 2; len = 12; bytes = beside })
  -- a MID is read as its parts
  pub mid : u.upid_type ≡ 13 → Unsplit s (in_lent base loop u.bytes)

-- where it stands in a payload that starts at byte p of the section, by the section's own bytes: behind "event id 32, cancel 1, reserved 7" and the byte of flags;
-- "if not program: count 8, each tag 8, reserved 7, offset 33"; "duration 40 if flagged"
abbrev pub upid_at : List ℕ → ℕ → ℕ
upid_at s p = p + (6 + fields_before (get_or s (p + 5) 0) (get_or s (p + 6) 0))

-- ---- the text of refusal 24, of a UPID or of a part of a MID: the two bytes before it are its type and its length
pub record WholeText (s : List ℕ) (p k : ℕ) (i : Identifier) : Type 0 where
  pub behind : p + 2 ≤ i.start
  pub upid_type : k ≡ get_or s (i.start - 2) 0
  pub whole : Exactly s i.start (get_or s (i.start - 1) 0) i

-- ---- an item that is read at `offset` of a loop which starts at `base` of the section, with what stands beside it; its payload starts 6 bytes behind its head
pub record WholeItem (s : List ℕ) (base : ℕ) (loop : List ℕ) (offset : ℕ) (r : Reading) : Type 0 where
  -- "1 DTMF: preroll 8, count 3, reserved 5, count bytes"
  pub dtmf : (d : DTMFDescriptor) → r.step.item ≡ Some (Ok (Descriptor.Dtmf d))
      → Exactly s (base + offset + 6 + 2) (get_or s (base + offset + 6 + 1) 0 / 32) (in_lent base loop d.dtmf_chars)
  pub upid : (d : SegmentationDescriptor) (i : SegmentationDetail) → r.step.item ≡ Some (Ok (Descriptor.Segmentation d)) → d.descriptor_detail ≡ DescriptorDetail.Active i
      → WholeUpid s (upid_at s (base + offset + 6)) base loop r.beside.eidr i.segmentation_upid
  -- (a cancelled one has no UPID, and its cancel bit is set: none is left out)
  pub cancelled : (d : SegmentationDescriptor) → r.step.item ≡ Some (Ok (Descriptor.Segmentation d)) → d.descriptor_detail ≡ DescriptorDetail.Cancel → get_or s (base + offset + 6 + 4) 0 / 128 % 2 ≡ 1
  -- "reserved, with tag, identifier and bytes": the length that is written counts the identifier's four bytes and these
  pub reserved : (tag : ℕ) (v : View) → r.step.item ≡ Some (Ok (Descriptor.Reserved tag v)) → Exactly s (base + offset + 6) (get_or s (base + offset + 1) 0 - 4) (in_lent base loop v)
      × Exactly s (base + offset + 2) 4 (record { start = base + offset + 2; len = 4; bytes = r.step.identifier })
  pub text : (k : ℕ) (v : View) → r.step.item ≡ Some (Err (ItemRefusal.Other (Refusal.InvalidUpidContent k v))) → WholeText s (base + offset + 6) k (in_lent base loop v)

-- the item that is read at an offset of a section's loop
abbrev pub WholeAt : List ℕ → Section → ℕ → Reading → Type 0
WholeAt s x offset r = WholeItem s x.descriptors.at (loop_in s x) offset r

-- ---- the private bytes of a command: from 18 to its end
pub record WholePrivate (s : List ℕ) (i : Identifier) : Type 0 where
  pub end : 18 + i.len ≡ 14 + command_length s
  pub whole : Exactly s 18 (command_length s - 4) i

abbrev pub WholeCommand : List ℕ → SpliceCommand → Type 0
WholeCommand s c = (p : Private) → c ≡ SpliceCommand.PrivateCommand p → WholePrivate s (in_section s p.private_bytes)
