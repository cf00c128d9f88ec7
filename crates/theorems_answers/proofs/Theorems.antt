-- Statements of functions, over their contracts as the checker makes them, for those that theorems_functions does not name: each agrees with another function,
-- or with the bytes themselves. So a contract that is changed together with its body, and with the definition that it names, is refused here. What each may
-- answer: Contracts.antt. The same over C: OverC.antt.
use Prim.Native.Nat.{ℕ, ◌+◌, ◌-◌, ◌≤◌, ◌<◌}
use mathlib.Core.Bool.{Bool, true, not}
use mathlib.Core.List.{List, []}
use mathlib.Core.Path.{◌≡◌, ap, sym, ◌∙◌}
use native.Mathlib.Omega.{arith}
use lib.Dec.{eqb}
use lib.ListN.{length, take, drop, get_or}
use borrow.Author.Tests.{lt-ltb, le-ltb}
use Rattle.c_section.specs.Flat.{flat_header_read}
use Rattle.canonical_form.specs.Same.{Given, Pairs}
use Rattle.command.specs.Command as command
use Rattle.command.specs.Command.{array, components_of, count_in, listed_of, type_of}
use Rattle.command.specs.declared.SpliceCommand.{SpliceCommand}
use Rattle.command.specs.declared.components.InsertComponent.{InsertComponent}
use Rattle.command.specs.declared.components.ListedCommand.{ListedCommand}
use Rattle.command.specs.declared.insert.SpliceInsert.{SpliceInsert}
use Rattle.command_measure.specs.Made.{command_made}
use Rattle.descriptor.specs.Full.{filled, full_of}
use Rattle.descriptor.specs.declared.Descriptor.{Descriptor}
use Rattle.descriptor.specs.declared.full.FullDescriptor.{FullDescriptor}
use Rattle.descriptor_loop.proofs.Places.{all_into}
use Rattle.descriptor_loop.proofs.Readings.{placed, reading_full}
use Rattle.descriptor_loop.specs.Cover.{joined, run_of}
use Rattle.descriptor_loop.specs.Items.{Listed, item_at, items_of, count_of}
use Rattle.descriptor_loop.specs.declared.ItemRefusal.{ItemRefusal}
use Rattle.descriptor_loop.specs.declared.reading.Reading.{Reading}
use Rattle.descriptor_round_trips.specs.Trips.{Handed}
use Rattle.descriptor_writer.specs.Stores.{Writes}
use Rattle.header.specs.declared.header.SpliceInfoHeader.{SpliceInfoHeader}
use Rattle.loop_round_trips.proofs.Theorems.{loop_read_write}
use Rattle.names.proofs.Algorithms.{algorithm_laws}
use Rattle.names.proofs.Commands.{command_laws}
use Rattle.names.proofs.FlagLaws.{network_laws, return_laws, restrictions_laws}
use Rattle.names.proofs.Segmentations.{segmentation_laws}
use Rattle.names.proofs.Upids.{upid_type_laws}
use Rattle.section.specs.Section.{command_type, command_bytes, loop_bytes, moved_read, conditions, None, number_of}
use Rattle.section.specs.declared.Section.{Section}
use Rattle.section.specs.declared.full.FullSection.{FullSection}
use Rattle.section_writer.proofs.Theorems.{canonical_parts}
use Rattle.table.specs.Bits.{big_endian, AllBytes}
use Rattle.table.specs.Writing.{Made}
use Rattle.theorems_functions.proofs.Contracts.{ReadsSection, reads_section_so, ReadsFullSection, reads_full_section_so, Steps, steps_so, ReadsItem, reads_item_so, ReadsUpid, reads_upid_so, TellsCanonical, tells_canonical_so, WritesSection, writes_section_so, WritesDescriptor, writes_descriptor_so, WritesCommand, writes_command_so}
use Rattle.theorems_functions.proofs.Steps as steps
use Rattle.theorems_functions.proofs.Theorems as functions
use Rattle.theorems_functions.proofs.Writes as writes
use Rattle.theorems_functions.specs.Calls.{Stepped, Puts}
use Rattle.theorems_reader.proofs.Theorems as reading
use Rattle.theorems_writer.proofs.Theorems as writing
use Rattle.theorems_writer.proofs.WrittenBack.{command_back}
use Rattle.upid.specs.Cover.{All}
use Rattle.upid.specs.Upid.{upid_of}
use Rattle.upid.specs.declared.Refusal.{Refusal}
use Rattle.upid.specs.declared.Upid.{Upid}
use Rattle.theorems_answers.specs.Numbers.{Numbered, Flagged}
use Rattle.theorems_answers.specs.Words.{header_at}
use Rattle.theorems_answers.proofs.Canonical as canonical
use Rattle.theorems_answers.proofs.Commands as commands
use Rattle.theorems_answers.proofs.Contracts.{ReadsHeader, reads_header_so, ReadsCommand, reads_command_so, ReadsComponents, reads_components_so, CountsItems, counts_items_so, ReadsDescriptor, reads_descriptor_so, ReadsFullDescriptor, reads_full_descriptor_so, ChecksUpid, checks_upid_so, GivesCrc, gives_crc_so, TellsCommand, tells_command_so, TellsDescriptor, tells_descriptor_so, TellsLoop, tells_loop_so, WritesCommandAlone, writes_command_alone_so, WritesDescriptorAlone, writes_descriptor_alone_so, WritesSectionAlone, writes_section_alone_so}
use Rattle.theorems_answers.proofs.Crc.{by_crc, last_four}
use Rattle.theorems_answers.proofs.Headers.{flat_header_lem}
use Rattle.theorems_answers.proofs.Named as named
use Rattle.theorems_answers.proofs.Numbers.{numbered, flagged}
use Rattle.std.proofs.Common.{Ok, Err, Some, Option, Result}
use Rattle.command.specs.declared.CommandRefusal.{CommandRefusal}
use Rattle.section.specs.declared.Refusal as section_refusal

-- ---- the header

-- what `read_header` answers is, in words, each field of its eleven bytes, and 5 of fewer (`header_at`, specs/Words.antt)
pub a_header_is_that_of_its_bytes : (b : List ℕ) (r : Option SpliceInfoHeader) → ReadsHeader b r → flat_header_read r ≡ header_at b
a_header_is_that_of_its_bytes b r d = ap flat_header_read (reads_header_so d) ∙ flat_header_lem b

-- and of a section that is accepted it is the section's, which begins at byte 3
pub the_header_is_that_of_the_section : (s : List ℕ) (x : Section) (r : Option SpliceInfoHeader) → ReadsSection s (Ok x) → ReadsHeader (drop 3 s) r → r ≡ Some x.header
the_header_is_that_of_the_section s x r e d = reads_header_so d ∙ (reading.what_an_accepted_section_says s x (sym (reads_section_so e))).0

-- ---- the command

-- of an accepted section it is the section's, but that its private bytes are counted from the payload's first byte
pub the_command_is_that_of_the_section : (s : List ℕ) (x : Section) (r : Result SpliceCommand CommandRefusal) → ReadsSection s (Ok x) → ReadsCommand (command_type s) (command_bytes s) r
    → moved_read r ≡ Ok x.command
the_command_is_that_of_the_section s x r e d = ap moved_read (reads_command_so d) ∙ (reading.what_an_accepted_section_says s x (sym (reads_section_so e))).1

-- its refusal is the section's, where none of 1 to 9 applies
pub a_section_is_refused_as_its_command : (s : List ℕ) (q : Result Section section_refusal.Refusal) (r : Result SpliceCommand CommandRefusal) → ReadsSection s q → ReadsCommand (command_type s) (command_bytes s) r → None (take 9 (conditions s))
    → number_of q ≡ command.number_of r
a_section_is_refused_as_its_command s q r e d n =
    ap number_of (reads_section_so e) ∙ reading.refusals_1_to_11_in_order s ∙ commands.as_its_command s n ∙ sym (ap command.number_of (reads_command_so d))

-- the components of an insert are those that `read_full_section` has beside it
pub the_components_are_those_of_the_section : (s : List ℕ) (w : FullSection) (x : Section) (i : SpliceInsert) (l : ListedCommand) → ReadsFullSection s w → w.read ≡ Ok x
    → x.command ≡ SpliceCommand.SpliceInsert i → ReadsComponents (command_bytes s) l → l.components ≡ w.components
unfolding listed_of
the_components_are_those_of_the_section s w x i l d r e k =
    ap (λ (v : ListedCommand). v.components) (reads_components_so k)
    ∙ sym (writes.full_beside s w x (reads_full_section_so d) r ∙ ap (λ (c : SpliceCommand). command.of_insert (λ i. components_of (command_bytes s)) (array []) c) e)

-- and stand beside what `read_command` answers of an insert
pub the_components_are_read_with_their_command : (p : List ℕ) (l : ListedCommand) (r : Result SpliceCommand CommandRefusal) → ReadsComponents p l → ReadsCommand 0x05 p r → l.read ≡ r
unfolding listed_of
the_components_are_read_with_their_command p l r d e = ap (λ (v : ListedCommand). v.read) (reads_components_so d) ∙ sym (reads_command_so e)

-- ---- the count of a loop's items: as many as there are steps before one says that the loop has ended; a loop over 4,076 bytes is refused, as a step is

pub count_items_counts_the_steps : (loop : List ℕ) (xs : List Listed) (r : Result ℕ ItemRefusal) → length loop ≤ 4076 → Stepped (Steps loop) 0 xs → CountsItems loop r → r ≡ Ok (length xs)
unfolding count_of
count_items_counts_the_steps loop xs r fits w d =
    counts_items_so d ∙ rw (le-ltb 4076 (length loop) fits) (ap (λ (l : List Listed). Ok (length l)) (sym (steps.stepped_items loop fits (Steps loop) (λ offset st. steps_so) w)))

pub a_longer_loop_is_not_counted : (loop : List ℕ) (r : Result ℕ ItemRefusal) → 4076 < length loop → CountsItems loop r → r ≡ Err (ItemRefusal.Other Refusal.InputTooLong)
unfolding count_of
a_longer_loop_is_not_counted loop r over d = counts_items_so d ∙ rw (lt-ltb 4076 (length loop) over)

-- ---- a descriptor alone: of an item that is complete, of L bytes behind its length, the loop's item, its identifier and what stands beside it; its views are
-- counted from the payload's first byte

pub an_item_is_read_as_its_descriptor_alone : (loop : List ℕ) (offset L : ℕ) (r : Reading) (w : FullDescriptor) → length loop ≤ 4076 → L ≡ get_or loop (offset + 1) 0 → offset + (L + 2) ≤ length loop → 4 ≤ L → L ≤ 254
    → ReadsItem loop offset r → ReadsFullDescriptor (get_or loop offset 0) (take 4 (drop (offset + 2) loop)) (take (L - 4) (drop (offset + 6) loop)) w
    → (r.step.item ≡ item_at (offset + 6) w.read) × (r.step.identifier ≡ w.identifier) × (r.beside ≡ w.beside)
an_item_is_read_as_its_descriptor_alone loop offset L r w fits is there low high d e =
    let k : r ≡ placed (offset + 6) (offset + (L + 2)) w =
    reads_item_so d ∙ reading_full loop offset L (record { fits = fits; is = is; six = omega arith; there = there; right = high }) low ∙ ap (placed (offset + 6) (offset + (L + 2))) (sym (reads_full_descriptor_so e)) in
    (ap (λ (v : Reading). v.step.item) k, ap (λ (v : Reading). v.step.identifier) k, ap (λ (v : Reading). v.beside) k)

pub a_descriptor_is_read_as_in_full : (tag : ℕ) (identifier p : List ℕ) (w : FullDescriptor) (r : Result Descriptor Refusal) → ReadsFullDescriptor tag identifier p w → ReadsDescriptor tag identifier p r → w.read ≡ r
unfolding full_of
a_descriptor_is_read_as_in_full tag identifier p w r d e = ap (λ (v : FullDescriptor). v.read) (reads_full_descriptor_so d) ∙ sym (reads_descriptor_so e)

-- ---- a UPID that is only checked is refused, or of the type, as it is read

pub a_upid_is_checked_as_it_is_read : (k : ℕ) (b : List ℕ) (u : Upid) (r : Result ℕ Refusal) → ReadsUpid k b u → ChecksUpid k b r → u.read ≡ r
unfolding upid_of
a_upid_is_checked_as_it_is_read k b u r d e = ap (λ (v : Upid). v.read) (reads_upid_so d) ∙ sym (checks_upid_so e)

-- ---- the CRC: refusal 4 is that it is not 0, where none of 1 to 3 applies, and the last four bytes of an accepted section are that of the bytes before them

pub a_section_is_refused_with_4_by_its_crc : (s : List ℕ) (q : Result Section section_refusal.Refusal) (n : ℕ) → ReadsSection s q → GivesCrc s n → 3 ≤ length s → length s ≤ 4096 → get_or s 0 0 ≡ 0xfc
    → eqb (number_of q) 4 ≡ not (eqb n 0)
a_section_is_refused_with_4_by_its_crc s q n d e three most table =
    ap (λ (k : ℕ). eqb k 4) (functions.read_section_refuses_in_order s q d) ∙ by_crc s three most table ∙ ap (λ (k : ℕ). not (eqb k 0)) (sym (gives_crc_so e))

pub the_last_four_bytes_are_the_crc : (s : List ℕ) (x : Section) (n : ℕ) → AllBytes s → ReadsSection s (Ok x) → GivesCrc (take (length s - 4) s) n → drop (length s - 4) s ≡ big_endian 4 n
the_last_four_bytes_are_the_crc s x n a d e = last_four s x a (sym (reads_section_so d)) ∙ ap (big_endian 4) (sym (gives_crc_so e))

-- ---- the writers without components: what the writer with components answers and leaves, handed none

one_write : {m : Made} {target a b : List ℕ} {r q : Result ℕ ℕ} → Writes m target a r → Writes m target b q → (r ≡ q) × (a ≡ b)
one_write v w = (v.answer ∙ sym w.answer, v.target_later ∙ sym w.target_later)

pub a_command_without_components_is_written_as_with_none : (c : SpliceCommand) (lent target : List ℕ) (r q : Result ℕ ℕ) (a b : List ℕ) → WritesCommandAlone c lent target r a
    → WritesCommand c (array []) lent target q b → (r ≡ q) × (a ≡ b)
a_command_without_components_is_written_as_with_none c lent target r q a b d e = one_write (writes_command_alone_so d) (writes_command_so e)

pub a_descriptor_without_components_is_written_as_with_none : (x : Descriptor) (identifier eidr lent target : List ℕ) (r q : Result ℕ ℕ) (a b : List ℕ) → WritesDescriptorAlone x identifier eidr lent target r a
    → WritesDescriptor (record { descriptor = x; identifier = identifier; beside = record { components = filled []; eidr = eidr }; lent = lent }) target q b → (r ≡ q) × (a ≡ b)
a_descriptor_without_components_is_written_as_with_none x identifier eidr lent target r q a b d e = one_write (writes_descriptor_alone_so d) (writes_descriptor_so e)

pub a_section_without_components_is_written_as_with_none : (h : SpliceInfoHeader) (c : SpliceCommand) (lent loop target : List ℕ) (r q : Result ℕ ℕ) (a b : List ℕ) → WritesSectionAlone h c lent loop target r a
    → WritesSection (record { header = h; command = c; components = array []; lent = lent; loop = loop }) target q b → (r ≡ q) × (a ≡ b)
a_section_without_components_is_written_as_with_none h c lent loop target r q a b d e = one_write (writes_section_alone_so d) (writes_section_so e)

-- ---- the canonical form of the parts

-- of a canonical section the command and the loop are canonical
pub the_parts_of_a_canonical_section_are_canonical : (s : List ℕ) (c l : Bool) → TellsCanonical s true → TellsCommand (command_type s) (command_bytes s) c → TellsLoop (loop_bytes s) l
    → (c ≡ true) × (l ≡ true)
the_parts_of_a_canonical_section_are_canonical s c l t d e =
    let p = canonical_parts s (sym (tells_canonical_so t)) in
    (tells_command_so d ∙ p.command, tells_loop_so e ∙ p.loop)

-- A command is canonical if it was written, and only if writing what is read of it gives its bytes
pub what_is_written_of_a_command_is_canonical : (c : SpliceCommand) (places : List InsertComponent) (lent target : List ℕ) (n : ℕ) (later : List ℕ) (r : Bool) → length places ≡ 255 → count_in c ≤ 255 → AllBytes lent
    → WritesCommand c places lent target (Ok n) later → TellsCommand (type_of c) (take n later) r → r ≡ true
what_is_written_of_a_command_is_canonical c places lent target n later r full count bytes p d =
    tells_command_so d ∙ (functions.what_is_written_of_a_command_is_read_back c places lent target n later full count bytes p).form

pub a_canonical_command_is_written_back : (k : ℕ) (p : List ℕ) (c : SpliceCommand) (l : ListedCommand) (target : List ℕ) (answer : Result ℕ ℕ) (later : List ℕ) → AllBytes p → TellsCommand k p true
    → ReadsCommand k p (Ok c) → ReadsComponents p l → WritesCommand c l.components p target answer later → Puts p target answer later
unfolding listed_of
a_canonical_command_is_written_back k p c l target answer later a t d e w =
    let m : command_made c l.components p ≡ command_made c (components_of p) p = ap (λ (v : ListedCommand). command_made c v.components p) (reads_components_so e) in
    writes.puts_made _ p target answer later (m ∙ (command_back k p a c (sym (tells_command_so t)) (sym (reads_command_so d))).1) (writes_command_so w)

-- A loop is canonical exactly if each of its items is a canonical descriptor
pub the_items_of_a_canonical_loop_are_canonical : (loop : List ℕ) → length loop ≤ 4076 → TellsLoop loop true
    → All (λ (y : Listed). (r : Bool) → TellsDescriptor (run_of loop y) r → r ≡ true) (items_of loop)
the_items_of_a_canonical_loop_are_canonical loop fits t = all_into (λ y c r d. tells_descriptor_so d ∙ c) (canonical.items_canonical loop fits (sym (tells_loop_so t)))

pub a_loop_of_canonical_items_is_canonical : (loop : List ℕ) (r : Bool) → length loop ≤ 4076 → All (λ (y : Listed). TellsDescriptor (run_of loop y) true) (items_of loop) → TellsLoop loop r → r ≡ true
a_loop_of_canonical_items_is_canonical loop r fits all d = tells_loop_so d ∙ canonical.canonical_items loop fits (all_into (λ y t. sym (tells_descriptor_so t)) all)

-- if its items were written, and only if writing what is read of each gives its bytes
pub what_is_written_of_items_is_canonical : (gs : List Given) (bs : List (List ℕ)) (r : Bool) → All (λ (g : Given). Handed g.descriptor g.identifier g.beside g.lent) gs
    → Pairs functions.WritesBytes gs bs → TellsLoop (joined bs) r → r ≡ true
what_is_written_of_items_is_canonical gs bs r types w d = tells_loop_so d ∙ writing.canonical_descriptors_are_a_canonical_loop bs (canonical.pieces_canonical types (functions.made_of w))

pub the_items_of_a_canonical_loop_are_written_back : (loop : List ℕ) → AllBytes loop → length loop ≤ 4076 → TellsLoop loop true
    → All (λ (y : Listed). (r : Reading) (x : Descriptor) (target : List ℕ) (answer : Result ℕ ℕ) (later : List ℕ) → ReadsItem loop y.offset r → r.step.item ≡ Some (Ok x)
    → WritesDescriptor (record { descriptor = x; identifier = r.step.identifier; beside = r.beside; lent = loop }) target answer later → Puts (run_of loop y) target answer later) (items_of loop)
the_items_of_a_canonical_loop_are_written_back loop a fits t =
    all_into (λ y h r x target answer later i is p. writes.item_back loop y h r x (reads_item_so i) is target answer later (writes_descriptor_so p))
    (writes.all_again loop fits (loop_read_write loop a fits (sym (tells_loop_so t))).0)

-- ---- named numbers: of each enum what its functions are to each other (`Numbered`, `Flagged`, specs/Numbers.antt). Which numbers have a name: the same over C

pub algorithms_have_their_numbers : Numbered named.AlgorithmFrom named.AlgorithmNumber named.AlgorithmWritable
algorithms_have_their_numbers = numbered algorithm_laws named.algorithm_from_so named.algorithm_number_so named.algorithm_writable_so

pub command_types_have_their_numbers : Numbered named.CommandTypeFrom named.CommandTypeNumber named.CommandTypeWritable
command_types_have_their_numbers = numbered command_laws named.command_type_from_so named.command_type_number_so named.command_type_writable_so

pub upid_types_have_their_numbers : Numbered named.UpidTypeFrom named.UpidTypeNumber named.UpidTypeWritable
upid_types_have_their_numbers = numbered upid_type_laws named.upid_type_from_so named.upid_type_number_so named.upid_type_writable_so

pub segmentation_types_have_their_numbers : Numbered named.SegmentationTypeFrom named.SegmentationTypeNumber named.SegmentationTypeWritable
segmentation_types_have_their_numbers = numbered segmentation_laws named.segmentation_type_from_so named.segmentation_type_number_so named.segmentation_type_writable_so

pub network_indicators_have_their_numbers : Flagged named.NetworkFrom named.NetworkNumber 2
network_indicators_have_their_numbers = flagged network_laws named.network_from_so named.network_number_so

pub return_modes_have_their_numbers : Flagged named.ReturnModeFrom named.ReturnModeNumber 2
return_modes_have_their_numbers = flagged return_laws named.return_mode_from_so named.return_mode_number_so

pub restrictions_have_their_numbers : Flagged named.RestrictionsFrom named.RestrictionsNumber 4
restrictions_have_their_numbers = flagged restrictions_laws named.restrictions_from_so named.restrictions_number_so
