-- What is proved of writing, over the definitions. A reader needs the specs of this crate beside this file, the room `canonical_form` (canonical form and equal readings), and the specs of
-- `bit_stores` (Written.antt), `loop_round_trips` (the loop by its items) and `descriptor_round_trips` (a descriptor). The proofs stand in the other files of this folder.
use Prim.Native.Nat.{ℕ, ◌≤◌}
use mathlib.Core.Bool.{true, false}
use mathlib.Core.List.{List, map}
use mathlib.Core.Path.{◌≡◌}
use lib.ListN.{length}
use Rattle.command.specs.Command.{components_of, count_in}
use Rattle.command.specs.declared.SpliceCommand.{SpliceCommand}
use Rattle.command.specs.declared.components.InsertComponent.{InsertComponent}
use Rattle.command.specs.declared.insert.SpliceInsert.{SpliceInsert}
use Rattle.command_measure.specs.Made.{command_made}
use Rattle.descriptor.specs.declared.Descriptor.{Descriptor}
use Rattle.descriptor.specs.declared.full.Beside.{Beside}
use Rattle.canonical_form.specs.Descriptor.{canonical_descriptor, canonical_loop}
use Rattle.descriptor_measure.specs.Writing.{descriptor_made}
use Rattle.descriptor_round_trips.proofs.Theorems as descriptors
use Rattle.descriptor_round_trips.specs.Making.{fit, DescriptorMakes}
use Rattle.descriptor_round_trips.specs.Trips.{Handed}
use Rattle.header.specs.declared.header.SpliceInfoHeader.{SpliceInfoHeader}
use Rattle.names.specs.Algorithm.{algorithm_number, algorithm_of}
use Rattle.descriptor_loop.specs.Cover.{joined, run_of}
use Rattle.descriptor_loop.specs.Items.{step_of, items_of}
use Rattle.loop_round_trips.proofs.Pieces as pieces
use Rattle.loop_round_trips.proofs.Theorems as loops
use Rattle.canonical_form.specs.Same.{Given, Pairs, ItemBack, SameSections}
use Rattle.loop_round_trips.specs.Loops.{given_made, WrittenAgain}
use Rattle.bit_stores.specs.Written.{answer_of, later_of}
use Rattle.section.specs.Section.{command_bytes, loop_bytes, section_of, section_length, loop_in}
use Rattle.section.specs.declared.Section.{Section}
use Rattle.canonical_form.specs.Section.{canonical_section}
use Rattle.section_writer.specs.Writing.{type_of, section_made}
use Rattle.table.specs.Bits.{AllBytes}
use Rattle.table.specs.Writing.{Made, made}
use Rattle.upid.specs.Cover.{All}
use Rattle.theorems_writer.specs.Making.{header_numbers, CommandPayload, CommandMakes, HasHeader, SectionBytes, SectionMakes}
use Rattle.theorems_writer.specs.Writable.{Writable}
use Rattle.theorems_writer.specs.Written.{KeepsUpid, ChangesOnlyResult}
use Rattle.theorems_writer.proofs.Answers as answers
use Rattle.theorems_writer.proofs.CommandsMade as commands_made
use Rattle.theorems_writer.proofs.ItemsWritten as items_written
use Rattle.theorems_writer.proofs.SectionsMade as sections_made
use Rattle.theorems_writer.proofs.Targets as targets
use Rattle.theorems_writer.proofs.Writable as writable
use Rattle.theorems_writer.proofs.WritableInserts as writable_inserts
use Rattle.theorems_writer.proofs.WritableSections as writable_sections
use Rattle.theorems_writer.proofs.WrittenBack as written_back
use Rattle.std.proofs.Common.{Ok, Err, Some}

-- ---- writing

-- "A refused write leaves the target's bytes". By each writer's contract `answer_of` is its answer and `later_of` are the target's later bytes, of what is made, m
-- (bit_stores/specs/Written.antt).
pub a_refused_write_changes_no_byte : (m : Made) (target : List ℕ) (n : ℕ) → answer_of m target ≡ Err n → later_of m target ≡ target
a_refused_write_changes_no_byte = targets.kept

-- "an accepted one changes only the bytes of its result, which start at 0, and gives their number."
pub an_accepted_write_changes_only_its_result : (m : Made) (target : List ℕ) (n : ℕ) → answer_of m target ≡ Ok n → ChangesOnlyResult m target n
an_accepted_write_changes_only_its_result = targets.changed

-- What is made of a command, by what the command reader answers and the widths of the fields: 31 and 32 by their rows, 33 exactly where the command is "a value that no
-- canonical reading has", and else the canonical payload that reads as it (`CommandMakes`, specs/Making.antt). So the cases of 33 in `command_made`, which are 01's list, are no more and no less than that.
-- (An array has 255 places, and a count is a byte.)
pub what_is_made_of_a_command : (c : SpliceCommand) (places : List InsertComponent) (lent : List ℕ) → length places ≡ 255 → count_in c ≤ 255 → AllBytes lent
    → CommandMakes c places lent (command_made c places lent)
what_is_made_of_a_command = commands_made.command_makes

-- and that leaves one answer
pub what_is_made_of_a_command_is_one : (c : SpliceCommand) (places : List InsertComponent) (lent : List ℕ) → length places ≡ 255 → count_in c ≤ 255 → AllBytes lent → (m n : Made)
    → CommandMakes c places lent m → CommandMakes c places lent n → m ≡ n
what_is_made_of_a_command_is_one = commands_made.one_command_made

-- What is made of a header, a command and a loop, by the same: 33 exactly where no canonical section has the header or no canonical payload the command, "a value that no
-- canonical reading has"; 34 and 35 by their rows; and else the canonical section that reads as the three (`SectionMakes`, specs/Making.antt)
pub what_is_made_of_a_section : (h : SpliceInfoHeader) (c : SpliceCommand) (places : List InsertComponent) (lent loop : List ℕ) → length places ≡ 255 → count_in c ≤ 255 → AllBytes lent → AllBytes loop
    → SectionMakes h c places lent loop (section_made h (command_made c places lent) (type_of c) loop)
what_is_made_of_a_section = sections_made.section_makes

-- and that leaves one answer
pub what_is_made_of_a_section_is_one : (h : SpliceInfoHeader) (c : SpliceCommand) (places : List InsertComponent) (lent loop : List ℕ) → length places ≡ 255 → count_in c ≤ 255 → AllBytes lent
    → AllBytes loop → (m n : Made) → SectionMakes h c places lent loop m → SectionMakes h c places lent loop n → m ≡ n
what_is_made_of_a_section_is_one = sections_made.one_section_made

-- (Which headers a canonical section has, so that 33 is of no other: those that are not encrypted, whose algorithm is that of its own number, and whose numbers fit)
pub a_canonical_section_has_each_such_header : (h : SpliceInfoHeader) → fit (header_numbers h) ≡ true → h.encrypted_packet ≡ false
    → algorithm_of (algorithm_number h.encryption_algorithm) ≡ h.encryption_algorithm → (b : List ℕ) × HasHeader h b
a_canonical_section_has_each_such_header = sections_made.header_had

pub a_canonical_section_has_no_other_header : (h : SpliceInfoHeader) (b : List ℕ) → HasHeader h b
    → (fit (header_numbers h) ≡ true) × (h.encrypted_packet ≡ false) × (algorithm_of (algorithm_number h.encryption_algorithm) ≡ h.encryption_algorithm)
a_canonical_section_has_no_other_header = sections_made.header_only

-- "33 .. a value that no canonical reading has (list below)". What is made of a descriptor that is handed in is told by what is read, and by the widths of the fields (`DescriptorMakes`,
-- descriptor_round_trips/specs/Making.antt): 33 where no canonical payload reads as it, and else that payload in its envelope. So the cases of 33 in `descriptor_made` need no belief for what is written; that they are 01's list is read there.
-- (What the types say of a descriptor that is handed in: `Handed`.)
pub what_is_made_of_a_descriptor_is_told_by_what_is_read : (d : Descriptor) (identifier : List ℕ) (beside : Beside) (lent : List ℕ) → Handed d identifier beside lent
    → DescriptorMakes d identifier beside lent (descriptor_made d identifier beside lent)
what_is_made_of_a_descriptor_is_told_by_what_is_read = descriptors.what_is_made_of_a_descriptor

-- and nothing else is made of it
pub nothing_else_is_made_of_a_descriptor : (d : Descriptor) (identifier : List ℕ) (beside : Beside) (lent : List ℕ) (m n : Made) → Handed d identifier beside lent
    → DescriptorMakes d identifier beside lent m → DescriptorMakes d identifier beside lent n → m ≡ n
nothing_else_is_made_of_a_descriptor = descriptors.a_descriptor_makes_one

-- A loop is canonical exactly if it is canonical descriptors, one after the other
pub a_canonical_loop_is_canonical_descriptors : (loop : List ℕ) → canonical_loop loop ≡ true → (ps : List (List ℕ)) × All (λ p. canonical_descriptor p ≡ true) ps × (joined ps ≡ loop)
a_canonical_loop_is_canonical_descriptors = loops.cut

pub canonical_descriptors_are_a_canonical_loop : (ps : List (List ℕ)) → All (λ p. canonical_descriptor p ≡ true) ps → canonical_loop (joined ps) ≡ true
canonical_descriptors_are_a_canonical_loop ps c = pieces.cut_canonical c

-- Demand 2: "Writing the reading of a canonical section gives its bytes": its header, its command with the components and bytes that it has, and its loop, as it stands
-- in the section
pub a_canonical_section_is_what_is_written_of_its_reading : (s : List ℕ) (x : Section) → AllBytes s → section_of s ≡ Ok x → canonical_section s ≡ true
    → section_made x.header (command_made x.command (components_of (command_bytes s)) s) (type_of x.command) (loop_in s x) ≡ made s
a_canonical_section_is_what_is_written_of_its_reading = written_back.section_back

-- and its loop is what is written of its items, each as its own bytes: "each item's descriptor, joined in order as the loop, then the section"
pub a_canonical_section_is_what_is_written_of_its_items : (s : List ℕ) (x : Section) → AllBytes s → section_of s ≡ Ok x → canonical_section s ≡ true
    → All (WrittenAgain (loop_in s x)) (items_of (loop_in s x)) × (joined (map (run_of (loop_in s x)) (items_of (loop_in s x))) ≡ loop_in s x)
a_canonical_section_is_what_is_written_of_its_items s x a e c = items_written.loop_written s x e a c

-- What is read can be written: of every item of an accepted section that is read as a descriptor, canonical or not, bytes are made, and these are a canonical descriptor that reads as
-- it. So 33 is of no value that a reader answers.
pub what_is_read_can_be_written : (s : List ℕ) (x : Section) → AllBytes s → section_of s ≡ Ok x → (offset : ℕ) (d : Descriptor) → (step_of (loop_in s x) offset).item ≡ Some (Ok d) → Writable (loop_in s x) offset d
what_is_read_can_be_written s x a e = writable.section_written s x a

-- So of its command with what stands beside it, but for "insert reserved other than 127": bytes are made, a canonical payload that reads as it
pub what_is_read_of_a_command_can_be_written : (s : List ℕ) (x : Section) → AllBytes s → section_of s ≡ Ok x → ((i : SpliceInsert) → x.command ≡ SpliceCommand.SpliceInsert i → i.reserved ≡ 127)
    → (p : List ℕ) × (command_made x.command (components_of (command_bytes s)) s ≡ made p) × CommandPayload x.command (components_of (command_bytes s)) s p
what_is_read_of_a_command_can_be_written = writable_inserts.every_command_written

-- So of a section: its header and its command, around any canonical loop with which it is no longer than a section can be (34), are made a canonical section that reads as these
pub what_is_read_of_a_section_can_be_written : (s : List ℕ) (x : Section) → AllBytes s → section_of s ≡ Ok x → ((i : SpliceInsert) → x.command ≡ SpliceCommand.SpliceInsert i → i.reserved ≡ 127)
    → (loop : List ℕ) → AllBytes loop → canonical_loop loop ≡ true → ((p : List ℕ) → command_made x.command (components_of (command_bytes s)) s ≡ made p → section_length (length p) (length loop) ≤ 4096)
    → (b : List ℕ) × (section_made x.header (command_made x.command (components_of (command_bytes s)) s) (type_of x.command) loop ≡ made b)
    × SectionBytes x.header x.command (components_of (command_bytes s)) s loop b
what_is_read_of_a_section_can_be_written = writable_sections.section_written

-- "reading what the writer wrote gives what it was handed": the header; the command, with its components and the bytes of its view; and the loop. And what is written is canonical.
pub what_is_written_reads_back : (h : SpliceInfoHeader) (c : SpliceCommand) (places : List InsertComponent) (lent loop : List ℕ) → length places ≡ 255 → count_in c ≤ 255 → AllBytes lent → AllBytes loop
    → (b : List ℕ) → section_made h (command_made c places lent) (type_of c) loop ≡ made b → SectionBytes h c places lent loop b
what_is_written_reads_back = sections_made.section_reads_as

-- A loop that is the join of what is written of descriptors: these are the items that are read, in order, with equal values and equal bytes in their views. (What
-- the types say of each: `Handed`.)
pub what_is_written_of_descriptors_reads_back : (gs : List Given) (bs : List (List ℕ)) → All (λ (g : Given). Handed g.descriptor g.identifier g.beside g.lent) gs → Pairs (λ (g : Given) (b : List ℕ). given_made g ≡ made b) gs bs
    → (b : List ℕ) (x : Section) → section_of b ≡ Ok x → loop_bytes b ≡ joined bs → Pairs (ItemBack (loop_bytes b)) (items_of (loop_bytes b)) gs
what_is_written_of_descriptors_reads_back gs bs types m b x e l = items_written.items_read gs bs b types m x e l

-- ---- two canonical sections

-- Demand 3: "Two different canonical sections never have the same reading", over what the readers answer: the readings x and y, the components beside them, the bytes in
-- their views, and the items. (By the tables' readings: `section_one` in section_writer/proofs/Theorems.antt, `one_of_items` in ItemsWritten.antt.)
pub canonical_sections_of_equal_answers_are_one : (s r : List ℕ) (x y : Section) → AllBytes s → AllBytes r → section_of s ≡ Ok x → section_of r ≡ Ok y
    → canonical_section s ≡ true → canonical_section r ≡ true → SameSections s x r y → s ≡ r
canonical_sections_of_equal_answers_are_one = answers.one_answer

-- and each has the answers of itself
pub a_canonical_section_has_its_own_answers : (s : List ℕ) (x : Section) → AllBytes s → section_of s ≡ Ok x → canonical_section s ≡ true → SameSections s x s x
a_canonical_section_has_its_own_answers = answers.own_answer

-- ---- what follows from these

-- The incident, when it is written back: each item of a canonical section is written again, and what is written, read alone, has the same UPID. So each MID
-- has the same bytes and the same parts, at every level.
pub writing_back_splits_no_mid : (s : List ℕ) (x : Section) → AllBytes s → section_of s ≡ Ok x → canonical_section s ≡ true → All (KeepsUpid (loop_in s x)) (items_of (loop_in s x))
writing_back_splits_no_mid = items_written.keeps_upids
