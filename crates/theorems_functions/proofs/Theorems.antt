-- The product's demands, of the functions: whoever meets their contracts, as the checker makes them of the sources, gives this on every input. `ReadsSection s r` is what
-- `read_section` may answer of the bytes s, and so on (Contracts.antt). So a contract that is changed together with its body is refused here, where the definitions alone would not notice.
-- The same over C: OverC.antt.
use Prim.Native.Nat.{ℕ, ◌+◌, ◌≤◌}
use mathlib.Core.Bool.{Bool, true}
use mathlib.Core.List.{List, ◌∷◌, map}
use mathlib.Core.Path.{◌≡◌, refl, ap, ap₂, sym, subst, ◌∙◌}
use lib.ListN.{length, take}
use Rattle.command.specs.Command.{count_in, components_of}
use Rattle.command.specs.declared.SpliceCommand.{SpliceCommand}
use Rattle.command.specs.declared.components.InsertComponent.{InsertComponent}
use Rattle.command_measure.specs.Made.{command_made}
use Rattle.descriptor.specs.declared.Descriptor.{Descriptor}
use Rattle.descriptor.specs.declared.segmentation.SegmentationDescriptor.{SegmentationDescriptor}
use Rattle.descriptor.specs.declared.segmentation.DescriptorDetail.{DescriptorDetail}
use Rattle.descriptor.specs.declared.segmentation.SegmentationDetail.{SegmentationDetail}
use Rattle.canonical_form.specs.Descriptor.{canonical_descriptor}
use Rattle.command.specs.declared.insert.SpliceInsert.{SpliceInsert}
use Rattle.descriptor_measure.specs.Writing.{descriptor_made}
use Rattle.descriptor_loop.proofs.Places.{all_into}
use Rattle.descriptor_loop.specs.Cover.{joined, run_of, Covered}
use Rattle.descriptor_loop.specs.Items.{step_of, reading_of, Listed, items_of}
use Rattle.descriptor_loop.specs.Place.{view_of}
use Rattle.descriptor_loop.specs.declared.Step.{Step}
use Rattle.descriptor_loop.specs.declared.reading.Reading.{Reading}
use Rattle.descriptor_round_trips.specs.Trips.{Handed, ReadAs}
use Rattle.header.specs.declared.header.SpliceInfoHeader.{SpliceInfoHeader}
use Rattle.canonical_form.specs.Same.{Given, Pairs, ItemBack, SameHeader, SameSections}
use Rattle.loop_round_trips.specs.Loops.{given_made, WrittenAgain}
use Rattle.canonical_form.specs.Same.Pairs.{over, pair}
use Rattle.section.specs.Section.{command_bytes, loop_bytes, conditions, first, section_of, number_of, None, loop_in}
use Rattle.section.specs.Full.{beside_command}
use Rattle.section.specs.declared.Section.{Section}
use Rattle.section.specs.declared.full.FullSection.{FullSection}
use Rattle.section_writer.specs.Writing.{type_of, section_made}
use Rattle.table.proofs.Lists.{zero_one}
use Rattle.table.specs.Bits.{AllBytes}
use Rattle.table.specs.Lent.{viewed}
use Rattle.table.specs.Writing.{Made, made}
use Rattle.theorems_reader.proofs.Sections.{loop_short}
use Rattle.theorems_reader.proofs.Theorems as reading
use Rattle.theorems_writer.proofs.Theorems as writing
use Rattle.theorems_reader.specs.Identifiers.{in_lent, parts_read, Unsplit}
use Rattle.theorems_writer.specs.Making.{CommandPayload, CommandMakes, HasHeader, SectionBytes}
use Rattle.theorems_writer.specs.Writable.{Writable}
use Rattle.theorems_reader.proofs.Whole.{whole_case, whole_command}
use Rattle.theorems_reader.proofs.WholeCases.{ItemCase}
use Rattle.upid.specs.Cover.{All}
use Rattle.upid.specs.Cover.All.{none, more}
use Rattle.upid.specs.Upid.{upid_of, parts_in}
use Rattle.upid.specs.declared.Part.{Part}
use Rattle.upid.specs.declared.Upid.{Upid}
use Rattle.command_writer.proofs.write_command_without_components.Reads as write_command_without_components
use Rattle.command_writer.proofs.write_command.Reads as write_command
use Rattle.descriptor_writer.proofs.write_descriptor_without_components.Reads as write_descriptor_without_components
use Rattle.descriptor_writer.proofs.write_descriptor.Reads as write_descriptor
use Rattle.section_writer.proofs.write_section_without_components.Reads as write_section_without_components
use Rattle.section_writer.proofs.write_section.Reads as write_section
use Rattle.theorems_functions.specs.Calls.{Stepped, SectionGiven, Puts}
use Rattle.theorems_functions.specs.Slices.{ItemSlice, PartSlice, Parted, PrivateSlice}
use Rattle.theorems_functions.proofs.Contracts.{ReadsSection, reads_section_so, ReadsFullSection, reads_full_section_so, Steps, steps_so, ReadsItem, reads_item_so, ReadsUpid, reads_upid_so, GivesLoop, gives_loop_so, GivesPrivate, gives_private_so, GivesBytes, gives_bytes_so, GivesPart, gives_part_so, TellsCanonical, tells_canonical_so, WritesSection, writes_section_so, WritesDescriptor, writes_descriptor_so, WritesCommand, writes_command_so, section_from}
use Rattle.theorems_functions.proofs.Slices as slices
use Rattle.theorems_functions.proofs.Steps as steps
use Rattle.theorems_functions.proofs.Writes as writes
use Rattle.std.proofs.Common.{Ok, Err, Some, Result}
use Rattle.section.specs.declared.Refusal.{Refusal}

-- ---- acceptance

-- "A section is accepted exactly when none of 1 to 11 applies", and else refused with the number of the first that does
pub read_section_refuses_in_order : (s : List ℕ) (r : Result Section Refusal) → ReadsSection s r → number_of r ≡ first 1 (conditions s)
read_section_refuses_in_order s r d = ap number_of (reads_section_so d) ∙ reading.refusals_1_to_11_in_order s

pub read_section_accepts : (s : List ℕ) (r : Result Section Refusal) → ReadsSection s r → None (conditions s) → (x : Section) × (r ≡ Ok x)
read_section_accepts s r d n = let x = reading.accepted_if_none_applies s n in (x.0, reads_section_so d ∙ x.1)

-- ---- covering

-- the loop that is handed back, stepped through from 0 to the end: "the loop's items in order cover the loop once", and no other cutting does
pub the_items_that_are_stepped_cover_the_loop : (s : List ℕ) (x : Section) (loop : List ℕ) (xs : List Listed) → ReadsSection s (Ok x) → GivesLoop s x loop → Stepped (Steps loop) 0 xs
    → Covered loop xs
the_items_that_are_stepped_cover_the_loop s x loop xs d g w =
    let e : section_of s ≡ Ok x = sym (reads_section_so d) in
    let l : loop ≡ loop_in s x = gives_loop_so g in
    let fits : length loop ≤ 4076 = rw l (loop_short s x e) in
    let z : xs ≡ items_of (loop_in s x) = steps.stepped_items loop fits (Steps loop) (λ offset st. steps_so) w ∙ ap items_of l in
    rw (z, l) (reading.the_items_cover_the_loop_of_the_section s x e)

-- ---- whole identifiers: the very slices that are handed back

-- Of the item that is read at any offset of the loop: `bytes_of` hands back its DTMF characters, UPID, private bytes or the text of refusal 24 whole, as many bytes of the section as it announces there,
-- and the EIDR and the identifier that stand beside it are such runs
pub the_bytes_of_an_item_are_whole : (s : List ℕ) (x : Section) (loop : List ℕ) (offset : ℕ) (r : Reading) (b : List ℕ) → AllBytes s
    → ReadsSection s (Ok x) → GivesLoop s x loop → ReadsItem loop offset r → GivesBytes loop r.step.item b → ItemSlice s (x.descriptors.at + offset) r b r.step.item
the_bytes_of_an_item_are_whole s x loop offset r b a d g i h =
    let e : section_of s ≡ Ok x = sym (reads_section_so d) in
    let l : loop ≡ loop_in s x = gives_loop_so g in
    let q : r ≡ reading_of (loop_in s x) offset = reads_item_so i ∙ ap (λ (y : List ℕ). reading_of y offset) l in
    let w : ItemCase s x.descriptors.at (loop_in s x) offset r r.step.item = rw q (whole_case s x e a offset) in
    slices.read_slice s x.descriptors.at (loop_in s x) offset r b w (gives_bytes_so h ∙ ap (λ (y : List ℕ). viewed y (view_of r.step.item)) l)

-- the step says what the full reading says
pub steps_are_read : (loop : List ℕ) (offset : ℕ) (st : Step) (r : Reading) → Steps loop offset st → ReadsItem loop offset r → st ≡ r.step
unfolding reading_of
steps_are_read loop offset st r d i = steps_so d ∙ ap (λ (y : Reading). y.step) (sym (reads_item_so i))

-- Where it is a MID: `read_upid` of these bytes answers parts that cover it once, and each MID in it, in no other way; and `part_bytes` hands back each of them, at every level, whole: as many bytes
-- of the section as its own head announces, of the type that is written there
pub the_bytes_of_a_part_are_whole : (s : List ℕ) (x : Section) (loop : List ℕ) (offset : ℕ) (st : Step) (d : SegmentationDescriptor) (i : SegmentationDetail) (b : List ℕ) (u : Upid)
    → ReadsSection s (Ok x) → GivesLoop s x loop → Steps loop offset st → st.item ≡ Some (Ok (Descriptor.Segmentation d)) → d.descriptor_detail ≡ DescriptorDetail.Active i
    → i.segmentation_upid.upid_type ≡ 13 → GivesBytes loop st.item b → ReadsUpid 13 b u
    → Parted b (parts_in u) × All (λ (p : Part). (c : List ℕ) → GivesPart b p c → PartSlice s (x.descriptors.at + i.segmentation_upid.bytes.at) p c) (parts_in u)
the_bytes_of_a_part_are_whole s x loop offset st d i b u rs g t is detail k h ru =
    let e : section_of s ≡ Ok x = sym (reads_section_so rs) in
    let l : loop ≡ loop_in s x = gives_loop_so g in
    let there : (step_of (loop_in s x) offset).item ≡ Some (Ok (Descriptor.Segmentation d)) = ap (λ (y : List ℕ). (step_of y offset).item) (sym l) ∙ ap (λ (y : Step). y.item) (sym (steps_so t)) ∙ is in
    let m : Unsplit s (in_lent x.descriptors.at (loop_in s x) i.segmentation_upid.bytes) = reading.no_mid_that_is_read_is_split s x e offset d i there detail k in
    let v : view_of st.item ≡ i.segmentation_upid.bytes = ap view_of is ∙ slices.mid_view d i detail k in
    let c : b ≡ viewed (loop_in s x) i.segmentation_upid.bytes = gives_bytes_so h ∙ ap (λ (y : List ℕ). viewed y (view_of st.item)) l ∙ ap (viewed (loop_in s x)) v in
    let ps : parts_in u ≡ parts_read 13 (viewed (loop_in s x) i.segmentation_upid.bytes) = ap parts_in (reads_upid_so ru) ∙ ap (λ (y : List ℕ). parts_in (upid_of 13 y)) c in
    slices.parts_whole s (in_lent x.descriptors.at (loop_in s x) i.segmentation_upid.bytes) b (parts_in u) (GivesPart b) (λ p c. gives_part_so) m c ps

-- the private bytes of a command
pub the_private_bytes_are_whole : (s : List ℕ) (x : Section) (b : List ℕ) → ReadsSection s (Ok x) → GivesPrivate s x.command b → PrivateSlice s b x.command
the_private_bytes_are_whole s x b d g = rw (gives_private_so g) (slices.private_slice s x.command (whole_command s x (sym (reads_section_so d))))

-- ---- writing

-- Demand 2: what is read of a canonical section, written with the components that stand beside it and the loop as it is handed back, is that section
pub a_canonical_section_is_written_back : (s : List ℕ) (w : FullSection) (x : Section) (loop target : List ℕ) (answer : Result ℕ ℕ) (later : List ℕ) → AllBytes s
    → TellsCanonical s true → ReadsFullSection s w → w.read ≡ Ok x → GivesLoop s x loop
    → WritesSection (record { header = x.header; command = x.command; components = w.components; lent = s; loop = loop }) target answer later → Puts s target answer later
a_canonical_section_is_written_back s w x loop target answer later a t d r g p =
    let e : section_of s ≡ Ok x = writes.full_read s w x (reads_full_section_so d) r in
    let c : w.components ≡ beside_command x.command (command_bytes s) = writes.full_beside s w x (reads_full_section_so d) r in
    let m : section_made x.header (command_made x.command w.components s) (type_of x.command) loop ≡ made s =
    rw (c, writes.beside_serves x.command (command_bytes s) s, gives_loop_so g) (writing.a_canonical_section_is_what_is_written_of_its_reading s x a e (sym (tells_canonical_so t))) in
    writes.puts_made _ s target answer later m (writes_section_so p)

-- An item of a loop that is read by `read_item` and written by `write_descriptor`: the bytes that were written
pub record Rewrites (loop : List ℕ) (y : Listed) (b : List ℕ) : Type 0 where
  pub reading : Reading
  pub descriptor : Descriptor
  pub target : List ℕ
  pub number : ℕ
  pub later : List ℕ
  pub reads : ReadsItem loop y.offset reading
  pub is : (reading).step.item ≡ Some (Ok descriptor)
  pub writes : WritesDescriptor (record { descriptor = descriptor; identifier = (reading).step.identifier; beside = (reading).beside; lent = loop }) target (Ok number) later
  pub bytes : b ≡ take number later

rewritten : (loop : List ℕ) {xs : List Listed} {bs : List (List ℕ)} → All (writes.Again loop) xs → Pairs (Rewrites loop) xs bs → bs ≡ map (run_of loop) xs
rewritten loop none over = refl
rewritten loop (more {x = y} h hs) (pair q qs) =
    let w : Puts (run_of loop y) q.target (Ok q.number) q.later =
    writes.item_back loop y h q.reading q.descriptor (reads_item_so q.reads) q.is q.target (Ok q.number) q.later (writes_descriptor_so q.writes) in
    ap₂ (λ (v : List ℕ) (vs : List (List ℕ)). v ∷ vs) (q.bytes ∙ writes.put_start (run_of loop y) q.target q.number q.later w) (rewritten loop hs qs)

-- and so by items: what is written of each, read by `read_item` at its offset, is the item's own bytes
pub the_items_of_a_canonical_section_are_written_back : (s : List ℕ) (x : Section) (loop : List ℕ) → AllBytes s → TellsCanonical s true → ReadsSection s (Ok x) → GivesLoop s x loop
    → All (λ (y : Listed). (r : Reading) (d : Descriptor) (target : List ℕ) (answer : Result ℕ ℕ) (later : List ℕ) → ReadsItem loop y.offset r → r.step.item ≡ Some (Ok d)
    → WritesDescriptor (record { descriptor = d; identifier = r.step.identifier; beside = r.beside; lent = loop }) target answer later → Puts (run_of loop y) target answer later) (items_of loop)
the_items_of_a_canonical_section_are_written_back s x loop a t d g =
    let e : section_of s ≡ Ok x = sym (reads_section_so d) in
    let l : loop ≡ loop_in s x = gives_loop_so g in
    let fits : length loop ≤ 4076 = rw l (loop_short s x e) in
    let h : All (WrittenAgain loop) (items_of loop) = rw l (writing.a_canonical_section_is_what_is_written_of_its_items s x a e (sym (tells_canonical_so t))).0 in
    all_into (λ y h r d target answer later i is p. writes.item_back loop y h r d (reads_item_so i) is target answer later (writes_descriptor_so p)) (writes.all_again loop fits h)

-- Demand 2 in one statement: the loop stepped through, each of its items read and written, what was written joined in order, and the section written around it: that is the section
pub a_canonical_section_is_written_back_by_its_items : (s : List ℕ) (w : FullSection) (x : Section) (loop : List ℕ) (xs : List Listed) (bs : List (List ℕ)) (target : List ℕ) (answer : Result ℕ ℕ) (later : List ℕ)
    → AllBytes s → TellsCanonical s true → ReadsFullSection s w → w.read ≡ Ok x → GivesLoop s x loop → Stepped (Steps loop) 0 xs → Pairs (Rewrites loop) xs bs
    → WritesSection (record { header = x.header; command = x.command; components = w.components; lent = s; loop = joined bs }) target answer later → Puts s target answer later
a_canonical_section_is_written_back_by_its_items s w x loop xs bs target answer later a t d r g st rw_all p =
    let e : section_of s ≡ Ok x = writes.full_read s w x (reads_full_section_so d) r in
    let l : loop ≡ loop_in s x = gives_loop_so g in
    let fits : length loop ≤ 4076 = rw l (loop_short s x e) in
    let z : xs ≡ items_of loop = steps.stepped_items loop fits (Steps loop) (λ offset st. steps_so) st in
    let o : All (WrittenAgain loop) (items_of loop) = rw l (writing.a_canonical_section_is_what_is_written_of_its_items s x a e (sym (tells_canonical_so t))).0 in
    let h : All (writes.Again loop) xs = rw z (writes.all_again loop fits o) in
    let j : joined (map (run_of loop) xs) ≡ loop = rw (z, l) (reading.the_items_cover_the_loop_of_the_section s x e).cutting.joins in
    let k : joined bs ≡ loop = ap joined (rewritten loop h rw_all) ∙ j in
    let c : w.components ≡ beside_command x.command (command_bytes s) = writes.full_beside s w x (reads_full_section_so d) r in
    let m : section_made x.header (command_made x.command w.components s) (type_of x.command) (joined bs) ≡ made s =
    rw (c, writes.beside_serves x.command (command_bytes s) s, k, l) (writing.a_canonical_section_is_what_is_written_of_its_reading s x a e (sym (tells_canonical_so t))) in
    writes.puts_made _ s target answer later m (writes_section_so p)

-- "reading what the writer wrote gives what it was handed": whatever was written is a canonical section with this header, this command, its components and bytes, and this loop (`SectionBytes`,
-- theorems_writer/specs/Making.antt), which the reader accepts and the test calls canonical
pub what_is_written_is_read_back : (g : SectionGiven) (target : List ℕ) (n : ℕ) (later : List ℕ) → length g.components ≡ 255 → count_in g.command ≤ 255 → AllBytes g.lent → AllBytes g.loop
    → WritesSection g target (Ok n) later → SectionBytes g.header g.command g.components g.lent g.loop (take n later)
what_is_written_is_read_back g target n later places count lent loop p =
    let c = writing.an_accepted_write_changes_only_its_result (section_from g) target n (sym (writes_section_so p).answer) in
    let b : take n later ≡ c.result = ap (take n) (writes_section_so p).target_later ∙ c.start in
    rw b (writing.what_is_written_reads_back g.header g.command g.components g.lent g.loop places count lent loop c.result c.is)

pub what_is_written_is_accepted : (g : SectionGiven) (target : List ℕ) (n : ℕ) (later : List ℕ) → length g.components ≡ 255 → count_in g.command ≤ 255 → AllBytes g.lent → AllBytes g.loop
    → WritesSection g target (Ok n) later → (r : Result Section Refusal) (t : Bool) → ReadsSection (take n later) r → TellsCanonical (take n later) t
    → (t ≡ true) × (y : Section) × (r ≡ Ok y) × SameHeader y.header g.header
what_is_written_is_accepted g target n later places count lent loop p r t d q =
    let h : HasHeader g.header (take n later) = (what_is_written_is_read_back g target n later places count lent loop p).header in
    (tells_canonical_so q ∙ h.form, h.reading, reads_section_so d ∙ h.reads, h.same)

-- A descriptor with what stands beside it, written by `write_descriptor`: the bytes that were written
pub record WritesBytes (g : Given) (b : List ℕ) : Type 0 where
  pub target : List ℕ
  pub number : ℕ
  pub later : List ℕ
  pub writes : WritesDescriptor g target (Ok number) later
  pub bytes : b ≡ take number later

pub made_of : {gs : List Given} {bs : List (List ℕ)} → Pairs WritesBytes gs bs → Pairs (λ (g : Given) (b : List ℕ). given_made g ≡ made b) gs bs
made_of over = over
made_of (pair {x = g} w ws) =
    let c = writing.an_accepted_write_changes_only_its_result (given_made g) w.target w.number (sym (writes_descriptor_so w.writes).answer) in
    let e = w.bytes ∙ ap (take w.number) (writes_descriptor_so w.writes).target_later ∙ c.start in
    pair (c.is ∙ ap made (sym e)) (made_of ws)

-- and so of any header, command and items, in one statement: the descriptors written, joined in order, and the section written around them, are read as this header, this command and these items
pub what_is_written_of_items_is_read_back : (h : SpliceInfoHeader) (c : SpliceCommand) (places : List InsertComponent) (lent : List ℕ) (gs : List Given) (bs : List (List ℕ)) (target : List ℕ) (n : ℕ) (later : List ℕ)
    → length places ≡ 255 → count_in c ≤ 255 → AllBytes lent → AllBytes (joined bs) → All (λ (g : Given). Handed g.descriptor g.identifier g.beside g.lent) gs → Pairs WritesBytes gs bs
    → WritesSection (record { header = h; command = c; components = places; lent = lent; loop = joined bs }) target (Ok n) later
    → SectionBytes h c places lent (joined bs) (take n later) × Pairs (ItemBack (loop_bytes (take n later))) (items_of (loop_bytes (take n later))) gs
what_is_written_of_items_is_read_back h c places lent gs bs target n later full count bytes joins types w p =
    let s = what_is_written_is_read_back (record { header = h; command = c; components = places; lent = lent; loop = joined bs }) target n later full count bytes joins p in
    (s, writing.what_is_written_of_descriptors_reads_back gs bs types (made_of w) (take n later) s.header.reading s.header.reads s.loops)

-- ---- what is read can be written, canonical or not

-- every item that is read: what `write_descriptor` writes of it is a canonical descriptor that reads as it
pub an_item_that_is_read_is_written : (s : List ℕ) (x : Section) (loop : List ℕ) (offset : ℕ) (r : Reading) (d : Descriptor) → AllBytes s → ReadsSection s (Ok x) → GivesLoop s x loop
    → ReadsItem loop offset r → r.step.item ≡ Some (Ok d)
    → (b : List ℕ) × (canonical_descriptor b ≡ true) × ReadAs b d r.step.identifier r.beside loop × ((target : List ℕ) (answer : Result ℕ ℕ) (later : List ℕ)
    → WritesDescriptor (record { descriptor = d; identifier = r.step.identifier; beside = r.beside; lent = loop }) target answer later → Puts b target answer later)
unfolding reading_of
an_item_that_is_read_is_written s x loop offset r d a rs g i is =
    let e : section_of s ≡ Ok x = sym (reads_section_so rs) in
    let l : loop ≡ loop_in s x = gives_loop_so g in
    let q : r ≡ reading_of loop offset = reads_item_so i in
    let there : (step_of (loop_in s x) offset).item ≡ Some (Ok d) = ap (λ (y : List ℕ). (step_of y offset).item) (sym l) ∙ ap (λ (y : Reading). y.step.item) (sym q) ∙ is in
    let w : Writable loop offset d = subst (λ (y : List ℕ). Writable y offset d) (sym l) (writing.what_is_read_can_be_written s x a e offset d there) in
    let m : descriptor_made d r.step.identifier r.beside loop ≡ made w.bytes = subst (λ (y : Reading). descriptor_made d y.step.identifier y.beside loop ≡ made w.bytes) (sym q) w.writes in
    let back : ReadAs w.bytes d r.step.identifier r.beside loop = subst (λ (y : Reading). ReadAs w.bytes d y.step.identifier y.beside loop) (sym q) w.back in
    (w.bytes, w.form, back, λ target answer later p. writes.puts_made _ w.bytes target answer later m (writes_descriptor_so p))

-- and the command of every section, but for "insert reserved other than 127": what `write_command` writes of it is a canonical payload that reads as it
pub the_command_of_a_section_is_written : (s : List ℕ) (w : FullSection) (x : Section) → AllBytes s → ReadsFullSection s w → w.read ≡ Ok x
    → ((i : SpliceInsert) → x.command ≡ SpliceCommand.SpliceInsert i → i.reserved ≡ 127)
    → (p : List ℕ) × CommandPayload x.command (components_of (command_bytes s)) s p × ((target : List ℕ) (answer : Result ℕ ℕ) (later : List ℕ)
    → WritesCommand x.command w.components s target answer later → Puts p target answer later)
the_command_of_a_section_is_written s w x a d r ones =
    let e : section_of s ≡ Ok x = writes.full_read s w x (reads_full_section_so d) r in
    let c : w.components ≡ beside_command x.command (command_bytes s) = writes.full_beside s w x (reads_full_section_so d) r in
    let k = writing.what_is_read_of_a_command_can_be_written s x a e ones in
    let m : command_made x.command w.components s ≡ made k.0 = ap (λ (l : List InsertComponent). command_made x.command l s) c ∙ writes.beside_serves x.command (command_bytes s) s ∙ k.1 in
    (k.0, k.2, λ target answer later p. writes.puts_made _ k.0 target answer later m (writes_command_so p))

pub payload_of_lem : (c : SpliceCommand) (places : List InsertComponent) (lent : List ℕ) {m : Made} → CommandMakes c places lent m → (b : List ℕ) → m ≡ made b → CommandPayload c places lent b
payload_of_lem c places lent (CommandMakes.outside f) b e = zero_one cc
payload_of_lem c places lent (CommandMakes.over f g) b e = zero_one cc
payload_of_lem c places lent (CommandMakes.nobodys f g h) b e = zero_one cc
payload_of_lem c places lent (CommandMakes.its f p h) b e = let q : p ≡ b = cc in subst (CommandPayload c places lent) q h

-- whatever was written of a command is a canonical payload that reads as it
pub what_is_written_of_a_command_is_read_back : (c : SpliceCommand) (places : List InsertComponent) (lent target : List ℕ) (n : ℕ) (later : List ℕ) → length places ≡ 255 → count_in c ≤ 255 → AllBytes lent
    → WritesCommand c places lent target (Ok n) later → CommandPayload c places lent (take n later)
what_is_written_of_a_command_is_read_back c places lent target n later full count bytes p =
    let k = writing.an_accepted_write_changes_only_its_result (command_made c places lent) target n (sym (writes_command_so p).answer) in
    let b : take n later ≡ k.result = ap (take n) (writes_command_so p).target_later ∙ k.start in
    rw b (payload_of_lem c places lent (writing.what_is_made_of_a_command c places lent full count bytes) k.result k.is)

-- Demand 3: two canonical sections with equal readings are one
pub canonical_sections_with_equal_readings_are_one : (s r : List ℕ) (x y : Section) → AllBytes s → AllBytes r → TellsCanonical s true → TellsCanonical r true
    → ReadsSection s (Ok x) → ReadsSection r (Ok y) → SameSections s x r y → s ≡ r
canonical_sections_with_equal_readings_are_one s r x y a b t u d e same =
    writing.canonical_sections_of_equal_answers_are_one s r x y a b (sym (reads_section_so d)) (sym (reads_section_so e)) (sym (tells_canonical_so t)) (sym (tells_canonical_so u)) same

-- ---- "A refused write leaves the target's bytes": of each writer, the target at exit is that at entry

pub a_refused_section_changes_no_byte : (κ : _) (a : _) (r : Result ℕ ℕ) (e : _) (n : ℕ) → write_section.Learnt κ a r e → r ≡ Err n → e.1.1.1.1.1.0.now ≡ a.1.1.1.1.1.0.now
a_refused_section_changes_no_byte κ a r e n l f = l.1 ∙ writing.a_refused_write_changes_no_byte _ _ n (sym l.0 ∙ f)

pub a_refused_section_without_components_changes_no_byte : (κ : _) (a : _) (r : Result ℕ ℕ) (e : _) (n : ℕ) → write_section_without_components.Learnt κ a r e → r ≡ Err n → e.1.1.1.1.0.now ≡ a.1.1.1.1.0.now
a_refused_section_without_components_changes_no_byte κ a r e n l f = l.1 ∙ writing.a_refused_write_changes_no_byte _ _ n (sym l.0 ∙ f)

pub a_refused_command_changes_no_byte : (κ : _) (a : _) (r : Result ℕ ℕ) (e : _) (n : ℕ) → write_command.Learnt κ a r e → r ≡ Err n → e.1.1.1.0.now ≡ a.1.1.1.0.now
a_refused_command_changes_no_byte κ a r e n l f = l.1 ∙ writing.a_refused_write_changes_no_byte _ _ n (sym l.0 ∙ f)

pub a_refused_command_without_components_changes_no_byte : (κ : _) (a : _) (r : Result ℕ ℕ) (e : _) (n : ℕ) → write_command_without_components.Learnt κ a r e → r ≡ Err n → e.1.1.0.now ≡ a.1.1.0.now
a_refused_command_without_components_changes_no_byte κ a r e n l f = l.1 ∙ writing.a_refused_write_changes_no_byte _ _ n (sym l.0 ∙ f)

pub a_refused_descriptor_changes_no_byte : (κ : _) (a : _) (r : Result ℕ ℕ) (e : _) (n : ℕ) → write_descriptor.Learnt κ a r e → r ≡ Err n → e.1.1.1.1.0.now ≡ a.1.1.1.1.0.now
a_refused_descriptor_changes_no_byte κ a r e n l f = l.target_later ∙ writing.a_refused_write_changes_no_byte _ _ n (sym l.answer ∙ f)

pub a_refused_descriptor_without_components_changes_no_byte : (κ : _) (a : _) (r : Result ℕ ℕ) (e : _) (n : ℕ) → write_descriptor_without_components.Learnt κ a r e → r ≡ Err n → e.1.1.1.1.0.now ≡ a.1.1.1.1.0.now
a_refused_descriptor_without_components_changes_no_byte κ a r e n l f = l.target_later ∙ writing.a_refused_write_changes_no_byte _ _ n (sym l.answer ∙ f)
