-- What each function may do, by its contract as the checker makes it: a relation of what is handed in and what comes back. `..-so` is what the contract then says of it.
use Prim.Native.Nat.{ℕ}
use mathlib.Core.Bool.{Bool}
use mathlib.Core.List.{List}
use mathlib.Core.Path.{◌≡◌, sym, ◌∙◌, ap}
use Rattle.command.specs.declared.SpliceCommand.{SpliceCommand}
use Rattle.command.specs.declared.components.InsertComponent.{InsertComponent}
use Rattle.command_measure.specs.Made.{command_made}
use Rattle.descriptor_writer.specs.Stores.{Writes}
use Rattle.descriptor_loop.specs.Items.{step_of, reading_of}
use Rattle.descriptor_loop.specs.Place.{view_of}
use Rattle.descriptor_loop.specs.declared.Step.{Step}
use Rattle.descriptor_loop.specs.declared.reading.Reading.{Reading}
use Rattle.canonical_form.specs.Same.{Given}
use Rattle.loop_round_trips.specs.Loops.{given_made}
use Rattle.bit_stores.specs.Written.{answer_of, later_of}
use Rattle.section.specs.Section.{section_of, private_view}
use Rattle.section.specs.Full.{full_section_of}
use Rattle.section.specs.declared.Section.{Section}
use Rattle.section.specs.declared.full.FullSection.{FullSection}
use Rattle.canonical_form.specs.Section.{canonical_section}
use Rattle.section_writer.specs.Writing.{type_of, section_made}
use Rattle.table.specs.Lent.{viewed}
use Rattle.table.specs.Writing.{Made}
use Rattle.theorems_c.specs.Boards.{May}
use Rattle.upid.specs.Upid.{upid_of, part_view}
use Rattle.upid.specs.declared.Part.{Part}
use Rattle.upid.specs.declared.Upid.{Upid}
use Rattle.command_writer.proofs.write_command.Reads as write_command
use Rattle.descriptor_writer.proofs.write_descriptor.Reads as write_descriptor
use Rattle.descriptor_loop.proofs.iteration.step.Reads as step
use Rattle.descriptor_loop.proofs.place.bytes_of.Reads as bytes_of
use Rattle.descriptor_loop.proofs.reading.read_item.Reads as read_item
use Rattle.section.proofs.loop_of.Reads as loop_of
use Rattle.section.proofs.private_bytes_of.Reads as private_bytes_of
use Rattle.section.proofs.read_section.Reads as read_section
use Rattle.section.proofs.full.read_full_section.Reads as read_full_section
use Rattle.section_writer.proofs.is_canonical_section.Reads as is_canonical_section
use Rattle.section_writer.proofs.write_section.Reads as write_section
use Rattle.upid.proofs.part_bytes.Reads as part_bytes
use Rattle.upid.proofs.read_upid.Reads as read_upid
use Rattle.theorems_functions.specs.Calls.{SectionGiven}
use Rattle.std.proofs.Common.{Option, Result}
use Rattle.descriptor.specs.declared.Descriptor.{Descriptor}
use Rattle.descriptor_loop.specs.declared.ItemRefusal.{ItemRefusal}
use Rattle.section.specs.declared.Refusal.{Refusal}

-- ---- the readers

-- `read_section` of the bytes s may answer r
abbrev pub ReadsSection : List ℕ → Result Section Refusal → Type 0
ReadsSection s r = May read_section.Learnt {S = List ℕ} {T = Result Section Refusal} (λ κ a. a.0.now) (λ κ r e. r) s r

pub reads_section_so : {s : List ℕ} {r : Result Section Refusal} → ReadsSection s r → r ≡ section_of s
reads_section_so d = sym d.left ∙ d.learnt_so ∙ ap section_of d.taken

abbrev pub ReadsFullSection : List ℕ → FullSection → Type 0
ReadsFullSection s r = May read_full_section.Learnt {S = List ℕ} {T = FullSection} (λ κ a. a.0.now) (λ κ r e. r) s r

pub reads_full_section_so : {s : List ℕ} {r : FullSection} → ReadsFullSection s r → r ≡ full_section_of s
reads_full_section_so d = sym d.left ∙ d.learnt_so ∙ ap full_section_of d.taken

-- `step` of a loop and an offset
abbrev pub Steps : List ℕ → ℕ → Step → Type 0
Steps loop offset r = May step.Learnt {S = List ℕ × ℕ} {T = Step} (λ κ a. (a.0.now, a.1.0)) (λ κ r e. r) (loop, offset) r

pub steps_so : {loop : List ℕ} {offset : ℕ} {r : Step} → Steps loop offset r → r ≡ step_of loop offset
steps_so d = sym d.left ∙ d.learnt_so ∙ ap (λ (v : List ℕ × ℕ). step_of v.0 v.1) d.taken

abbrev pub ReadsItem : List ℕ → ℕ → Reading → Type 0
ReadsItem loop offset r = May read_item.Learnt {S = List ℕ × ℕ} {T = Reading} (λ κ a. (a.0.now, a.1.0)) (λ κ r e. r) (loop, offset) r

pub reads_item_so : {loop : List ℕ} {offset : ℕ} {r : Reading} → ReadsItem loop offset r → r ≡ reading_of loop offset
reads_item_so d = sym d.left ∙ d.learnt_so ∙ ap (λ (v : List ℕ × ℕ). reading_of v.0 v.1) d.taken

abbrev pub ReadsUpid : ℕ → List ℕ → Upid → Type 0
ReadsUpid upid_type_number bytes r = May read_upid.Learnt {S = ℕ × List ℕ} {T = Upid} (λ κ a. (a.0, a.1.0.now)) (λ κ r e. r) (upid_type_number, bytes) r

pub reads_upid_so : {upid_type_number : ℕ} {bytes : List ℕ} {r : Upid} → ReadsUpid upid_type_number bytes r → r ≡ upid_of upid_type_number bytes
reads_upid_so d = sym d.left ∙ d.learnt_so ∙ ap (λ (v : ℕ × List ℕ). upid_of v.0 v.1) d.taken

-- ---- the slices that are handed back

abbrev pub GivesLoop : List ℕ → Section → List ℕ → Type 0
GivesLoop s x b = May loop_of.Learnt {S = List ℕ × Section} {T = List ℕ} (λ κ a. (a.0.now, a.1.0)) (λ κ r e. r.now) (s, x) b

pub gives_loop_so : {s : List ℕ} {x : Section} {b : List ℕ} → GivesLoop s x b → b ≡ viewed s x.descriptors
gives_loop_so d = sym d.left ∙ d.learnt_so ∙ ap (λ (v : List ℕ × Section). viewed v.0 v.1.descriptors) d.taken

abbrev pub GivesPrivate : List ℕ → SpliceCommand → List ℕ → Type 0
GivesPrivate s c b = May private_bytes_of.Learnt {S = List ℕ × SpliceCommand} {T = List ℕ} (λ κ a. (a.0.now, a.1.0)) (λ κ r e. r.now) (s, c) b

pub gives_private_so : {s : List ℕ} {c : SpliceCommand} {b : List ℕ} → GivesPrivate s c b → b ≡ viewed s (private_view c)
gives_private_so d = sym d.left ∙ d.learnt_so ∙ ap (λ (v : List ℕ × SpliceCommand). viewed v.0 (private_view v.1)) d.taken

abbrev pub GivesBytes : List ℕ → Option (Result Descriptor ItemRefusal) → List ℕ → Type 0
GivesBytes loop item b = May bytes_of.Learnt {S = List ℕ × Option (Result Descriptor ItemRefusal)} {T = List ℕ} (λ κ a. (a.0.now, a.1.0)) (λ κ r e. r.now) (loop, item) b

pub gives_bytes_so : {loop : List ℕ} {item : Option (Result Descriptor ItemRefusal)} {b : List ℕ} → GivesBytes loop item b → b ≡ viewed loop (view_of item)
gives_bytes_so d = sym d.left ∙ d.learnt_so ∙ ap (λ (v : List ℕ × Option (Result Descriptor ItemRefusal)). viewed v.0 (view_of v.1)) d.taken

abbrev pub GivesPart : List ℕ → Part → List ℕ → Type 0
GivesPart top p b = May part_bytes.Learnt {S = List ℕ × Part} {T = List ℕ} (λ κ a. (a.0.now, a.1.0)) (λ κ r e. r.now) (top, p) b

pub gives_part_so : {top : List ℕ} {p : Part} {b : List ℕ} → GivesPart top p b → b ≡ viewed top (part_view p)
gives_part_so d = sym d.left ∙ d.learnt_so ∙ ap (λ (v : List ℕ × Part). viewed v.0 (part_view v.1)) d.taken

-- ---- the canonical form

abbrev pub TellsCanonical : List ℕ → Bool → Type 0
TellsCanonical s r = May is_canonical_section.Learnt {S = List ℕ} {T = Bool} (λ κ a. a.0.now) (λ κ r e. r) s r

pub tells_canonical_so : {s : List ℕ} {r : Bool} → TellsCanonical s r → r ≡ canonical_section s
tells_canonical_so d = sym d.left ∙ d.learnt_so ∙ ap canonical_section d.taken

-- ---- the writers: what is handed in, the target, the answer and the target's later bytes

abbrev pub section_from : SectionGiven → Made
section_from g = section_made g.header (command_made g.command g.components g.lent) (type_of g.command) g.loop

abbrev pub WritesSection : SectionGiven → List ℕ → Result ℕ ℕ → List ℕ → Type 0
WritesSection g target answer later =
    May write_section.Learnt {S = SectionGiven × List ℕ} {T = Result ℕ ℕ × List ℕ}
    (λ κ a. (record { header = a.0; command = a.1.0; components = a.1.1.0; lent = a.1.1.1.0.now; loop = a.1.1.1.1.0.now }, a.1.1.1.1.1.0.now))
    (λ κ r e. (r, e.1.1.1.1.1.0.now)) (g, target) (answer, later)

pub writes_section_so : {g : SectionGiven} {target : List ℕ} {answer : Result ℕ ℕ} {later : List ℕ} → WritesSection g target answer later → Writes (section_from g) target later answer
writes_section_so d = record {
  answer = sym (ap (λ (v : Result ℕ ℕ × List ℕ). v.0) d.left) ∙ d.learnt_so.0 ∙ ap (λ (v : SectionGiven × List ℕ). answer_of (section_from v.0) v.1) d.taken;
  target_later = sym (ap (λ (v : Result ℕ ℕ × List ℕ). v.1) d.left) ∙ d.learnt_so.1 ∙ ap (λ (v : SectionGiven × List ℕ). later_of (section_from v.0) v.1) d.taken;
}

abbrev pub WritesDescriptor : Given → List ℕ → Result ℕ ℕ → List ℕ → Type 0
WritesDescriptor g target answer later =
    May write_descriptor.Learnt {S = Given × List ℕ} {T = Result ℕ ℕ × List ℕ}
    (λ κ a. (record { descriptor = a.0; identifier = a.1.0; beside = a.1.1.0; lent = a.1.1.1.0.now }, a.1.1.1.1.0.now))
    (λ κ r e. (r, e.1.1.1.1.0.now)) (g, target) (answer, later)

pub writes_descriptor_so : {g : Given} {target : List ℕ} {answer : Result ℕ ℕ} {later : List ℕ} → WritesDescriptor g target answer later → Writes (given_made g) target later answer
writes_descriptor_so d = record {
  answer = sym (ap (λ (v : Result ℕ ℕ × List ℕ). v.0) d.left) ∙ d.learnt_so.answer ∙ ap (λ (v : Given × List ℕ). answer_of (given_made v.0) v.1) d.taken;
  target_later = sym (ap (λ (v : Result ℕ ℕ × List ℕ). v.1) d.left) ∙ d.learnt_so.target_later ∙ ap (λ (v : Given × List ℕ). later_of (given_made v.0) v.1) d.taken;
}

-- a command, its components and the bytes that its view refers to
abbrev pub WritesCommand : SpliceCommand → List InsertComponent → List ℕ → List ℕ → Result ℕ ℕ → List ℕ → Type 0
WritesCommand c places lent target answer later =
    May write_command.Learnt {S = SpliceCommand × (List InsertComponent × (List ℕ × List ℕ))} {T = Result ℕ ℕ × List ℕ}
    (λ κ a. (a.0, (a.1.0, (a.1.1.0.now, a.1.1.1.0.now)))) (λ κ r e. (r, e.1.1.1.0.now)) (c, (places, (lent, target))) (answer, later)

pub writes_command_so : {c : SpliceCommand} {places : List InsertComponent} {lent target : List ℕ} {answer : Result ℕ ℕ} {later : List ℕ} → WritesCommand c places lent target answer later
    → Writes (command_made c places lent) target later answer
writes_command_so d = record {
  answer = sym (ap (λ (v : Result ℕ ℕ × List ℕ). v.0) d.left) ∙ d.learnt_so.0
      ∙ ap (λ (v : SpliceCommand × (List InsertComponent × (List ℕ × List ℕ))). answer_of (command_made v.0 v.1.0 v.1.1.0) v.1.1.1) d.taken;
  target_later = sym (ap (λ (v : Result ℕ ℕ × List ℕ). v.1) d.left) ∙ d.learnt_so.1
      ∙ ap (λ (v : SpliceCommand × (List InsertComponent × (List ℕ × List ℕ))). later_of (command_made v.0 v.1.0 v.1.1.0) v.1.1.1) d.taken;
}
