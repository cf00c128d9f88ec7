-- Demands over C: what the words of an answer say of the section.
use Rattle.std.specs.Prelude.{ℕ, ◌+◌, ◌-◌, ◌/◌, ◌%◌, ◌≤◌, ◌<◌, true, ◌&&◌, List, [], ◌∷◌, ◌++◌, ◌≡◌, eqb, leb, length, take, drop, get_or, replicate, Ok, Err, Some, None, Option, Result}
use Rattle.c_command_writer.specs.CommandWords.{command_words, CommandIs}
use Rattle.c_command_writer.specs.Words.{same}
use Rattle.c_section.specs.declared.FlatView.{FlatView}
use Rattle.c_section.specs.declared.sections.FlatSection.{FlatSection}
use Rattle.c_section_writer.specs.SectionWords.{header_words, HeaderIs}
use Rattle.command.specs.Command.{array}
use Rattle.command.specs.declared.SpliceCommand.{SpliceCommand}
use Rattle.command.specs.declared.components.InsertComponent.{InsertComponent}
use Rattle.header.specs.declared.header.SpliceInfoHeader.{SpliceInfoHeader}
use Rattle.c_items.specs.declared.descriptors.FlatItem.{FlatItem}
use Rattle.c_items.specs.declared.steps.FlatStep.{FlatStep}
use Rattle.c_items.specs.declared.upids.FlatPart.{FlatPart}
use Rattle.c_items.specs.declared.upids.FlatUpid.{FlatUpid}
use Rattle.c_command_writer.specs.declared.FlatWritten.{FlatWritten}
use Rattle.descriptor.specs.Descriptor.{by_kind}
use Rattle.descriptor_loop.specs.Items as items
use Rattle.descriptor_loop.specs.Items.{Listed}
use Rattle.section.specs.Section.{command_length, command_bytes, loop_length}
use Rattle.table.specs.Bits.{pick, bits_of, field}
use Rattle.theorems_reader.specs.Whole.{upid_at}
use Rattle.theorems_writer.specs.Making.{SectionBytes}
use Rattle.upid.specs.Upid.{number_of}
use Rattle.upid.specs.declared.Part.{Part}
use Rattle.theorems_functions.specs.Slices.{reported_as}
use Rattle.descriptor.specs.declared.Descriptor.{Descriptor}
use Rattle.descriptor_loop.specs.declared.ItemRefusal.{ItemRefusal}
use Rattle.upid.specs.declared.Refusal.{Refusal}

-- a view of lent bytes that start at `base` of the section is the n bytes from `at` on, which are there
pub record Lies (s : List ℕ) (base at n : ℕ) (v : FlatView) : Type 0 where
  pub there : at + n ≤ length s
  pub starts : base + v.at ≡ at
  pub long : v.len ≡ n

-- the bytes of a view, as a caller takes them
abbrev pub taken : List ℕ → FlatView → List ℕ
taken lent v = take v.len (drop v.at lent)

-- ---- the two parts of a section: the command's payload begins at byte 14, and the loop behind it and the two bytes of its length
pub record SectionLies (s : List ℕ) (f : FlatSection) : Type 0 where
  pub payload : Lies s 0 14 (command_length s) f.payload
  pub command : taken s f.payload ≡ command_bytes s
  pub descriptors : Lies s 0 (16 + command_length s) (loop_length s) f.descriptors

-- ---- an item

-- a UPID whose head stands at byte h
pub record UpidLies (s : List ℕ) (h base : ℕ) (i : FlatItem) : Type 0 where
  pub upid_type : i.segmentation.segmentation_upid_type ≡ pick (eqb (get_or s (h + 1) 0) 0) 0 (reported_as (get_or s h 0))
  pub bytes : (i.segmentation.segmentation_upid_type ≡ 0 → ⊥) → (i.segmentation.segmentation_upid_type ≡ 10 → ⊥) → Lies s base (h + 2) (get_or s (h + 1) 0) i.bytes

-- the text of refusal 24 in a payload that starts at byte p, by the refusal's values: its type, and where it lies in the lent bytes; the two bytes before it are its type and its length
pub record TextLies (s : List ℕ) (p base : ℕ) (values : List ℕ) : Type 0 where
  pub upid_type : ℕ
  pub at : ℕ
  pub len : ℕ
  pub are : values ≡ upid_type ∷ at ∷ len ∷ []
  pub behind : p + 2 ≤ base + at
  pub there : base + at + len ≤ length s
  pub type : upid_type ≡ get_or s (base + at - 2) 0
  pub long : len ≡ get_or s (base + at - 1) 0

-- An item that starts at byte q of the section, by its number: 2 DTMF, 4 segmentation, 6 reserved, 7 refused. (0 is the end, 1 an avail, 3 a cancelled segmentation, 5 a time.)
pub record ItemLies (s : List ℕ) (q base : ℕ) (f : FlatStep) : Type 0 where
  pub dtmf : f.item.kind ≡ 2 → Lies s base (q + 6 + 2) (get_or s (q + 6 + 1) 0 / 32) f.item.bytes
  pub segmentation : f.item.kind ≡ 4 → UpidLies s (upid_at s (q + 6)) base f.item
  -- the identifier's four bytes as a number
  pub reserved : f.item.kind ≡ 6 → Lies s base (q + 6) (get_or s (q + 1) 0 - 4) f.item.bytes × (f.identifier ≡ field (bits_of (take 4 (drop (q + 2) s))) 0 32)
  -- a refusal has its number, and what is read has none
  pub refused : f.item.kind ≡ 7 → 1 ≤ f.refusal
  pub text : f.refusal ≡ 24 → TextLies s (q + 6) base f.values
  pub read : (f.item.kind ≡ 7 → ⊥) → f.refusal ≡ 0

-- ---- the number of an item and where it ends, by the section's bytes: it starts at byte q of a loop that ends before byte `end`

-- the number of one that is read: of "CUEI" by tag 1 avail, 2 DTMF, 3 or 4 segmentation, 5 time, and else 6 reserved. (The first bit behind the event id cancels.)
abbrev pub kind_at : List ℕ → ℕ → ℕ
kind_at s q = by_kind (get_or s q 0) (take 4 (drop (q + 2) s)) 1 2 (pick (eqb (get_or s (q + 6 + 4) 0 / 128 % 2) 1) 3 4) 5 6

-- A tag, a length L of at most 254 and L bytes, which are there, where at least 6 are left; what is none of this ends with the loop.
abbrev pub next_at : List ℕ → ℕ → ℕ → ℕ
next_at s q end =
    let behind : ℕ = q + 2 + get_or s (q + 1) 0 in
    pick (leb (q + 6) end && (leb behind end && leb (get_or s (q + 1) 0) 254)) behind end

pub record ItemStands (s : List ℕ) (q end base : ℕ) (f : FlatStep) : Type 0 where
  -- 7 is a refused one, and 0 the end
  pub kind : (f.item.kind ≡ 7 → ⊥) → f.item.kind ≡ pick (leb end q) 0 (kind_at s q)
  pub next : base + f.next ≡ next_at s q end

-- ---- a loop stepped through, as a caller does it

-- an item with its offset
pub record FlatListed : Type 0 where
  pub offset : ℕ
  pub step : FlatStep

-- from an offset on, while it is less than `end`, each step from where the one before said. `Steps offset step` is what a step there may answer.
pub data SteppedC (Steps : ℕ → FlatStep → Type 0) (end : ℕ) : ℕ → List FlatListed → Type 0 where
  ended : {offset : ℕ} → end ≤ offset → SteppedC Steps end offset []
  then : {offset : ℕ} (step : FlatStep) {xs : List FlatListed} → offset < end → Steps offset step → SteppedC Steps end step.next xs
      → SteppedC Steps end offset (record { offset = offset; step = step } ∷ xs)

-- the number of an item's refusal, 0 where it has none
abbrev pub item_refusal : Option (Result Descriptor ItemRefusal) → ℕ
item_refusal None = 0
item_refusal (Some (Err r)) = items.number_of r
item_refusal (Some (Ok d)) = 0

-- and its values
abbrev pub item_values : Option (Result Descriptor ItemRefusal) → List ℕ
item_values None = []
item_values (Some (Err r)) = items.values_of r
item_values (Some (Ok d)) = []

-- the item of the loop that it is: where it starts and ends, and its refusal
pub record SameItem (x : FlatListed) (y : Listed) : Type 0 where
  pub starts : x.offset ≡ y.offset
  pub ends : x.step.next ≡ y.offset + y.used
  pub refusal : x.step.refusal ≡ item_refusal y.step.item

-- ---- a UPID: the number of what it is read as, 0 where it is read
abbrev pub upid_refusal : Result ℕ Refusal → ℕ
upid_refusal (Ok k) = 0
upid_refusal (Err r) = number_of r

-- the type of one that is read, which is reported, and an EIDR, which is held by value; 0 stands where there is nothing
pub record UpidSays (upid_type : ℕ) (bytes : List ℕ) (u : FlatUpid) : Type 0 where
  pub read : u.refusal ≡ 0 → u.upid_type ≡ pick (eqb (length bytes) 0) 0 (reported_as upid_type)
  pub refused : (u.refusal ≡ 0 → ⊥) → u.upid_type ≡ 0
  pub held : u.upid_type ≡ 10 → u.eidr ≡ bytes
  pub plain : (u.upid_type ≡ 10 → ⊥) → u.eidr ≡ replicate 12 0

-- ---- a part of a MID, field by field
pub record SamePart (q : FlatPart) (p : Part) : Type 0 where
  pub kinds : q.upid_type ≡ p.upid_type
  pub levels : q.level ≡ p.level
  pub starts : q.start ≡ p.start
  pub lens : q.len ≡ p.len

-- in the section, where the MID's bytes start at `start`
pub record PartLies (s : List ℕ) (start : ℕ) (q : FlatPart) : Type 0 where
  pub behind : 2 ≤ start + q.start
  pub there : start + q.start + q.len ≤ length s
  pub upid_type : q.upid_type ≡ reported_as (get_or s (start + q.start - 2) 0)
  pub long : q.len ≡ get_or s (start + q.start - 1) 0

-- ---- a write of the bytes b, answered in words
pub record PutsFlat (b target : List ℕ) (answer : FlatWritten) (later : List ℕ) : Type 0 where
  pub fits : length b ≤ length target → (answer.refusal ≡ 0) × (answer.«length» ≡ length b) × (later ≡ b ++ drop (length b) target)
  pub short : length target < length b → (answer.refusal ≡ 36) × (later ≡ target)

-- ---- what was written of words: they are those of a header, of a command and of its components (`HeaderIs`, `CommandIs`), and b is a canonical section with these and the loop
pub record WrittenOf (header command components lent loop b : List ℕ) : Type 0 where
  pub own_header : SpliceInfoHeader
  pub own_command : SpliceCommand
  pub own_components : List InsertComponent
  pub header_is : HeaderIs header own_header
  pub command_is_lem : CommandIs command components own_command own_components
  pub section : SectionBytes own_header own_command (array own_components) lent loop b

-- and the words that are read of it: accepted, the header's and the command's words as they were handed in, but for where its private bytes lie, and the loop
pub record ReadsAgain (header command loop b : List ℕ) (f : FlatSection) : Type 0 where
  pub accepted : f.refusal ≡ 0
  pub words : same (header_words f.header) header ≡ true
  pub command_words_lem : same (take 19 (command_words f.command)) command ≡ true
  pub loops : taken b f.descriptors ≡ loop
