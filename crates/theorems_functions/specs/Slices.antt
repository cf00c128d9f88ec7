-- What it means that the slice which a function hands back is the whole identifier that the section's own bytes announce (`Whole`, theorems_reader/specs/Whole.antt,
-- says it of a reading's views).
use Rattle.std.specs.Prelude.{ℕ, ◌+◌, ◌-◌, ◌/◌, ◌%◌, ◌≤◌, List, [], ◌∷◌, ◌≡◌, eqb, get_or, Ok, Err, Some, None, Option, Result}
use Rattle.command.specs.declared.SpliceCommand.{SpliceCommand}
use Rattle.descriptor.specs.declared.Descriptor.{Descriptor}
use Rattle.descriptor.specs.declared.segmentation.DescriptorDetail.{DescriptorDetail}
use Rattle.descriptor_loop.specs.declared.ItemRefusal.{ItemRefusal}
use Rattle.descriptor_loop.specs.declared.reading.Reading.{Reading}
use Rattle.section.specs.Section.{command_length}
use Rattle.table.specs.Bits.{pick}
use Rattle.theorems_reader.specs.Whole.{Exactly, upid_at}
use Rattle.upid.specs.Cover.{All, Covered, Ascending, Owned, top_part}
use Rattle.upid.specs.declared.Part.{Part}
use Rattle.upid.specs.declared.Refusal.{Refusal}

-- b is the n bytes of the section from `at` on, which are there
abbrev pub Slice : List ℕ → ℕ → ℕ → List ℕ → Type 0
Slice s at n b = Exactly s at n (record { start = at; len = n; bytes = b })

-- the type that is reported of one that is written: 5 as 6
abbrev pub reported_as : ℕ → ℕ
reported_as written = pick (eqb written 5) 6 written

-- ---- a UPID whose head stands at byte h of the section, of which type k is reported and b is handed back; `eidr` stands beside it
pub record UpidSlice (s : List ℕ) (h : ℕ) (eidr b : List ℕ) (k : ℕ) : Type 0 where
  pub upid_type : k ≡ pick (eqb (get_or s (h + 1) 0) 0) 0 (reported_as (get_or s h 0))
  pub bytes : (k ≡ 0 → ⊥) → (k ≡ 10 → ⊥) → Slice s (h + 2) (get_or s (h + 1) 0) b
  pub held : k ≡ 10 → (get_or s h 0 ≡ 10) × (get_or s (h + 1) 0 ≡ 12) × Slice s (h + 2) 12 eidr

-- (a cancelled one has its cancel bit set)
abbrev pub DetailSlice : List ℕ → ℕ → List ℕ → List ℕ → DescriptorDetail → Type 0
DetailSlice s p eidr b DescriptorDetail.Cancel = get_or s (p + 4) 0 / 128 % 2 ≡ 1
DetailSlice s p eidr b (DescriptorDetail.Active i) = UpidSlice s (upid_at s p) eidr b i.segmentation_upid.upid_type

-- the text of refusal 24 in a payload that starts at byte p: the two bytes before it are its type and its length
pub record TextSlice (s : List ℕ) (p k : ℕ) (b : List ℕ) : Type 0 where
  pub start : ℕ
  pub behind : p + 2 ≤ start
  pub upid_type : k ≡ get_or s (start - 2) 0
  pub whole : Slice s start (get_or s (start - 1) 0) b

abbrev pub RefusalSlice : List ℕ → ℕ → List ℕ → ItemRefusal → Type 0
RefusalSlice s p b ItemRefusal.InvalidDescriptorLength = b ≡ []
RefusalSlice s p b (ItemRefusal.Other Refusal.InputTooLong) = b ≡ []
RefusalSlice s p b (ItemRefusal.Other (Refusal.NotEnoughData expected actual)) = b ≡ []
RefusalSlice s p b (ItemRefusal.Other Refusal.UpidLengthTypeMismatch) = b ≡ []
RefusalSlice s p b (ItemRefusal.Other (Refusal.InvalidUpidContent upid_type v)) = TextSlice s p upid_type b
RefusalSlice s p b (ItemRefusal.Other (Refusal.InvalidUpidLength upid_type expected actual)) = b ≡ []

-- ---- an item that starts at byte q of the section, read as r, of which b is handed back: DTMF characters, a UPID, a reserved descriptor's bytes with its identifier
abbrev pub ItemSlice : List ℕ → ℕ → Reading → List ℕ → Option (Result Descriptor ItemRefusal) → Type 0
ItemSlice s q r b None = b ≡ []
ItemSlice s q r b (Some (Err x)) = RefusalSlice s (q + 6) b x
ItemSlice s q r b (Some (Ok (Descriptor.Avail x))) = b ≡ []
ItemSlice s q r b (Some (Ok (Descriptor.Dtmf x))) = Slice s (q + 6 + 2) (get_or s (q + 6 + 1) 0 / 32) b
ItemSlice s q r b (Some (Ok (Descriptor.Segmentation x))) = DetailSlice s (q + 6) r.beside.eidr b x.descriptor_detail
ItemSlice s q r b (Some (Ok (Descriptor.Time x))) = b ≡ []
ItemSlice s q r b (Some (Ok (Descriptor.Reserved tag v))) = Slice s (q + 6) (get_or s (q + 1) 0 - 4) b × Slice s (q + 2) 4 r.step.identifier

-- ---- a part of a MID whose bytes start at `start` of the section: it lies behind its own head, whose two bytes are its type and its length
pub record PartSlice (s : List ℕ) (start : ℕ) (p : Part) (b : List ℕ) : Type 0 where
  pub behind : 2 ≤ start + p.start
  pub upid_type : p.upid_type ≡ reported_as (get_or s (start + p.start - 2) 0)
  pub whole : Slice s (start + p.start) (get_or s (start + p.start - 1) 0) b

-- The parts of a MID with the bytes b: they cover it once, and each MID in it, and can be cut in no other way; there are no others, and they go by the bytes
pub record Parted (b : List ℕ) (ps : List Part) : Type 0 where
  pub covered : All (λ (m : Part). m.upid_type ≡ 13 → Covered b ps m) (top_part b ∷ ps)
  pub owned : All (Owned (top_part b ∷ ps)) ps
  pub ordered : Ascending ps

-- ---- the private bytes of a command: from 18 to its end
abbrev pub PrivateSlice : List ℕ → List ℕ → SpliceCommand → Type 0
PrivateSlice s b SpliceCommand.SpliceNull = b ≡ []
PrivateSlice s b (SpliceCommand.SpliceInsert i) = b ≡ []
PrivateSlice s b (SpliceCommand.TimeSignal t) = b ≡ []
PrivateSlice s b SpliceCommand.BandwidthReservation = b ≡ []
PrivateSlice s b (SpliceCommand.PrivateCommand p) = Slice s 18 (command_length s - 4) b
