-- What a writer makes of a command and of a section, in terms of what the readers answer and of the fields' widths: nothing here says how bytes are put together, and
-- nothing lists what 33 refuses. 01: refusals 31 to 35 "are checked in order of number"; 33 is "a value that no canonical reading has".
use Rattle.std.specs.Prelude.{ℕ, ◌≤◌, ◌<◌, true, false, ◌&&◌, List, [], ◌∷◌, ◌≡◌, length, take, Ok}
use Rattle.canonical_form.specs.Command.{canonical_command}
use Rattle.command.specs.Command.{count_in, type_of, command_of, components_of}
use Rattle.command.specs.Insert.{program_time, count}
use Rattle.splice_time.specs.Break.{break_ticks}
use Rattle.command.specs.declared.SpliceCommand.{SpliceCommand}
use Rattle.command.specs.declared.components.InsertComponent.{InsertComponent}
use Rattle.command.specs.declared.insert.SpliceDetail.{SpliceDetail}
use Rattle.canonical_form.specs.Descriptor.{canonical_loop}
use Rattle.descriptor_round_trips.specs.Making.{fit}
use Rattle.splice_time.specs.Time.{ticks}
use Rattle.header.specs.declared.header.SpliceInfoHeader.{SpliceInfoHeader}
use Rattle.names.specs.Algorithm.{algorithm_number}
use Rattle.section.specs.Section.{private_view, command_type, command_bytes, loop_bytes, section_of, section_length}
use Rattle.section.specs.declared.Section.{Section}
use Rattle.canonical_form.specs.Section.{canonical_section}
use Rattle.table.specs.Bits.{AllBytes}
use Rattle.table.specs.Lent.{lies_in, viewed}
use Rattle.table.specs.Writing.{Made, made, refused}
use Rattle.canonical_form.specs.Same.{without_place, SameHeader}

-- ---- 32: the numbers that are handed in, each with the bits of its field before it

-- 01, "Section"; the command's length and type are worked out
abbrev pub header_numbers : SpliceInfoHeader → List (ℕ × ℕ)
header_numbers h =
    (8, h.protocol_version) ∷ (6, algorithm_number h.encryption_algorithm) ∷ (33, h.pts_adjustment) ∷ (8, h.cw_index) ∷ (12, h.tier) ∷ []

-- 01, "Commands". A component's time counts also beside an immediate one
abbrev pub component_numbers : List InsertComponent → List (ℕ × ℕ)
component_numbers [] = []
component_numbers (c ∷ cs) = (8, c.component_tag) ∷ (33, ticks c.splice_time) ∷ component_numbers cs

-- what is absent counts as 0; of the places the components up to the count
abbrev pub insert_numbers : SpliceDetail → List InsertComponent → List (ℕ × ℕ)
insert_numbers SpliceDetail.Cancel places = []
insert_numbers (SpliceDetail.Insert i) places =
    (33, ticks (program_time i.splice_mode)) ∷ (8, count i.splice_mode) ∷ (33, break_ticks i.duration)
    ∷ (16, i.unique_program_id) ∷ (8, i.avail_num) ∷ (8, i.avails_expected)
    ∷ component_numbers (take (count i.splice_mode) places)

abbrev pub command_numbers : SpliceCommand → List InsertComponent → List (ℕ × ℕ)
command_numbers SpliceCommand.SpliceNull places = []
command_numbers (SpliceCommand.SpliceInsert i) places = (32, i.splice_event_id) ∷ (7, i.reserved) ∷ insert_numbers i.splice_detail places
command_numbers (SpliceCommand.TimeSignal t) places = (33, ticks t) ∷ []
command_numbers SpliceCommand.BandwidthReservation places = []
command_numbers (SpliceCommand.PrivateCommand p) places = (32, p.identifier) ∷ []

-- ---- a command c, its components in the first of the places, its view of the lent bytes

-- p is a canonical payload that reads as the command: "equal values and equal bytes in the views; .. the views' places and array places past a count are left out"
pub record CommandPayload (c : SpliceCommand) (places : List InsertComponent) (lent p : List ℕ) : Type 0 where
  pub bytes : AllBytes p
  pub form : canonical_command (type_of c) p ≡ true
  pub again : SpliceCommand
  pub reading : command_of (type_of c) p ≡ Ok again
  pub values : without_place again ≡ without_place c
  pub components : take (count_in again) (components_of p) ≡ take (count_in c) places
  pub view : viewed p (private_view again) ≡ viewed lent (private_view c)

-- (Where there is a payload, each number was read of its field, so that 32 does not apply.)
pub data CommandMakes (c : SpliceCommand) (places : List InsertComponent) (lent : List ℕ) : Made → Type 0 where
  -- "a view reaches outside the lent bytes"
  outside : lies_in lent (private_view c) ≡ false → CommandMakes c places lent (refused 31)
  -- "a number or count handed in exceeds its field"
  over : lies_in lent (private_view c) ≡ true → fit (command_numbers c places) ≡ false → CommandMakes c places lent (refused 32)
  -- "a value that no canonical reading has"
  nobodys : lies_in lent (private_view c) ≡ true → fit (command_numbers c places) ≡ true → ((p : List ℕ) → CommandPayload c places lent p → ⊥) → CommandMakes c places lent (refused 33)
  -- else the payload that has it
  its : lies_in lent (private_view c) ≡ true → (p : List ℕ) → CommandPayload c places lent p → CommandMakes c places lent (made p)

-- ---- a section: a header h, such a command, and a lent loop

-- b is a canonical section with this header: "the header's command length and type .. are left out"
pub record HasHeader (h : SpliceInfoHeader) (b : List ℕ) : Type 0 where
  pub bytes : AllBytes b
  pub form : canonical_section b ≡ true
  pub reading : Section
  pub reads : section_of b ≡ Ok reading
  pub same : SameHeader reading.header h

-- and with this command and this loop. (The reading's command is this payload's, its view moved: `what_an_accepted_section_says`.)
pub record SectionBytes (h : SpliceInfoHeader) (c : SpliceCommand) (places : List InsertComponent) (lent loop b : List ℕ) : Type 0 where
  pub header : HasHeader h b
  -- a null and a bandwidth reservation have the same payload
  pub type : command_type b ≡ type_of c
  pub command : CommandPayload c places lent (command_bytes b)
  pub loops : loop_bytes b ≡ loop

pub data SectionMakes (h : SpliceInfoHeader) (c : SpliceCommand) (places : List InsertComponent) (lent loop : List ℕ) : Made → Type 0 where
  outside : lies_in lent (private_view c) ≡ false → SectionMakes h c places lent loop (refused 31)
  over : lies_in lent (private_view c) ≡ true → fit (header_numbers h) && fit (command_numbers c places) ≡ false → SectionMakes h c places lent loop (refused 32)
  -- no canonical section has the header, or no canonical payload the command
  nobodys : lies_in lent (private_view c) ≡ true → fit (header_numbers h) && fit (command_numbers c places) ≡ true → ((b p : List ℕ) → HasHeader h b → CommandPayload c places lent p → ⊥)
      → SectionMakes h c places lent loop (refused 33)
  -- "section over 4,096"
  long : lies_in lent (private_view c) ≡ true → (b p : List ℕ) → HasHeader h b → CommandPayload c places lent p → 4096 < section_length (length p) (length loop)
      → SectionMakes h c places lent loop (refused 34)
  -- "lent loop not canonical"
  other : lies_in lent (private_view c) ≡ true → (b p : List ℕ) → HasHeader h b → CommandPayload c places lent p → section_length (length p) (length loop) ≤ 4096 → canonical_loop loop ≡ false
      → SectionMakes h c places lent loop (refused 35)
  -- else the section that has them all
  its : lies_in lent (private_view c) ≡ true → (b : List ℕ) → SectionBytes h c places lent loop b → SectionMakes h c places lent loop (made b)
