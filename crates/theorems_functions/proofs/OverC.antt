-- The product's demands over C, of the exported functions: whoever meets their contracts gives this on every input. `ReadsSectionC s f` is what `scte35_read_section` may answer
-- of the bytes s that stand from its offset to the end, and so on.
use Prim.Native.Nat.{ℕ, ◌+◌, ◌-◌, ◌≤◌}
use mathlib.Core.Bool.{Bool, true}
use mathlib.Core.List.{List, [], ◌∷◌}
use mathlib.Core.Path.{◌≡◌, refl, ap, sym, subst, ◌∙◌}
use native.Mathlib.Omega.{arith}
use lib.ListN.{length, take, drop, get_or}
use borrow.Author.Tests.{eqb-false}
use Rattle.command.specs.Command.{command_of, components_of}
use Rattle.command.specs.declared.SpliceCommand.{SpliceCommand}
use Rattle.c_section.specs.Flat.{flat_view, flat_header}
use Rattle.c_section.specs.FlatCommand.{flat_command, flat_insert_components}
use Rattle.c_section.specs.FlatSection.{flat_section_read}
use Rattle.c_section.specs.declared.FlatView.{FlatView}
use Rattle.c_section.specs.declared.components.FlatInsertComponents.{FlatInsertComponents}
use Rattle.c_section.specs.declared.sections.FlatSection.{FlatSection}
use Rattle.c_descriptor_writer.specs.ItemGiven.{descriptor_words_made}
use Rattle.c_items.specs.FlatItem.{flat_step, flat_beside}
use Rattle.c_items.specs.FlatUpid.{flat_upid}
use Rattle.c_items.specs.declared.beside.FlatBeside.{FlatBeside}
use Rattle.c_items.specs.declared.steps.FlatStep.{FlatStep}
use Rattle.c_items.specs.declared.upids.FlatPart.{FlatPart}
use Rattle.c_items.specs.declared.upids.FlatUpid.{FlatUpid}
use Rattle.c_section_writer.specs.SectionGiven.{section_words_made}
use Rattle.c_section_writer.specs.SectionWords.{header_words}
use Rattle.c_command_writer.specs.CommandWords.{command_words}
use Rattle.c_command_writer.specs.Words.{same, flat_written}
use Rattle.c_command_writer.specs.declared.FlatWritten.{FlatWritten}
use Rattle.descriptor_loop.proofs.Places.{all_into}
use Rattle.descriptor_loop.specs.Items.{step_of, reading_of, Listed, items_of}
use Rattle.descriptor_loop.specs.Cover.{run_of, Covered}
use Rattle.canonical_form.specs.Same.{Pairs}
use Rattle.canonical_form.specs.Same.Pairs.{over, pair}
use Rattle.bit_stores.specs.Written.{answer_of, later_of}
use Rattle.section.proofs.Acceptance.{is_read}
use Rattle.section.specs.Section.{command_length, command_type, command_bytes, loop_bytes, moved, conditions, first, loop_place, section_of, number_of, loop_in}
use Rattle.section.specs.declared.Section.{Section}
use Rattle.canonical_form.specs.Section.{canonical_section}
use Rattle.table.specs.Bits.{AllBytes}
use Rattle.table.specs.Lent.{viewed, filled_to}
use Rattle.table.specs.declared.View.{View}
use Rattle.table.specs.Writing.{Made, made}
use Rattle.theorems_reader.proofs.Framed.{laid}
use Rattle.theorems_reader.proofs.Runs.{viewed_is, viewed_inside, length_run}
use Rattle.theorems_reader.proofs.Sections.{loop_run, loop_short}
use Rattle.theorems_c.proofs.Theorems as over_c
use Rattle.theorems_reader.proofs.Theorems as reading
use Rattle.theorems_writer.proofs.Theorems as writing
use Rattle.theorems_c.specs.Boards.{May}
use Rattle.theorems_reader.specs.Identifiers.{Identifier, in_section, in_lent, parts_read, Announced, Unsplit}
use Rattle.theorems_c.specs.OverC.{insert_components_words, components_answered, step_words, beside_words, words_made_at}
use Rattle.theorems_reader.specs.Whole.{upid_at}
use Rattle.theorems_reader.proofs.Whole.{whole_case}
use Rattle.theorems_reader.proofs.WholeCases.{ItemCase}
use Rattle.upid.specs.Cover.{All}
use Rattle.upid.specs.Cover.All.{none, more}
use Rattle.upid.specs.Upid.{check_of, upid_of, part_view}
use Rattle.upid.specs.declared.Part.{Part}
use Rattle.scte35.proofs.canonical.scte35_is_canonical_section.Reads as scte35_is_canonical_section
use Rattle.scte35.proofs.scte35_read_insert_components.Reads as scte35_read_insert_components
use Rattle.scte35.proofs.scte35_read_item.Reads as scte35_read_item
use Rattle.scte35.proofs.scte35_read_segmentation_components.Reads as scte35_read_segmentation_components
use Rattle.scte35.proofs.scte35_read_section.Reads as scte35_read_section
use Rattle.scte35.proofs.scte35_read_upid.Reads as scte35_read_upid
use Rattle.scte35.proofs.writing.scte35_write_command_words.Reads as scte35_write_command_words
use Rattle.scte35.proofs.writing.scte35_write_descriptor_words.Reads as scte35_write_descriptor_words
use Rattle.scte35.proofs.writing.scte35_write_section_words.Reads as scte35_write_section_words
use Rattle.theorems_functions.specs.Flat.{taken, SectionLies, ItemLies, ItemStands, FlatListed, SteppedC, item_refusal, item_values, SameItem, upid_refusal, UpidSays, SamePart, PartLies, PutsFlat, WrittenOf, ReadsAgain}
use Rattle.theorems_functions.specs.Slices.{Slice, reported_as}
use Rattle.theorems_functions.proofs.Flat as flat
use Rattle.theorems_functions.proofs.Standing as standing
use Rattle.theorems_functions.proofs.Steps as steps
use Rattle.theorems_functions.proofs.Slices.{reported_as_lem}
use Rattle.theorems_functions.proofs.Writes as writes
use Rattle.theorems_functions.proofs.WrittenOverC as written_over_c
use Rattle.std.proofs.Common.{Ok, Err, Result}
use Rattle.section.specs.declared.Refusal.{Refusal}

-- ---- what the contracts allow

abbrev pub ReadsSectionC : List ℕ → FlatSection → Type 0
ReadsSectionC s f = May scte35_read_section.Learnt {S = List ℕ} {T = FlatSection} (λ κ a. drop a.1.0 a.0.now) (λ κ r e. r) s f

pub reads_section_so : {s : List ℕ} {f : FlatSection} → ReadsSectionC s f → f ≡ flat_section_read (section_of s)
reads_section_so d = sym d.left ∙ d.learnt_so ∙ ap (λ (v : List ℕ). flat_section_read (section_of v)) d.taken

abbrev pub ReadsItemC : List ℕ → ℕ → FlatStep → Type 0
ReadsItemC loop offset f = May scte35_read_item.Learnt {S = List ℕ × ℕ} {T = FlatStep} (λ κ a. (a.0.now, a.1.0)) (λ κ r e. r) (loop, offset) f

pub reads_item_so : {loop : List ℕ} {offset : ℕ} {f : FlatStep} → ReadsItemC loop offset f → f ≡ flat_step (step_of loop offset)
reads_item_so d = sym d.left ∙ d.learnt_so ∙ ap (λ (v : List ℕ × ℕ). flat_step (step_of v.0 v.1)) d.taken

abbrev pub ReadsBesideC : List ℕ → ℕ → FlatBeside → Type 0
ReadsBesideC loop offset f = May scte35_read_segmentation_components.Learnt {S = List ℕ × ℕ} {T = FlatBeside} (λ κ a. (a.0.now, a.1.0)) (λ κ r e. r) (loop, offset) f

pub reads_beside_so : {loop : List ℕ} {offset : ℕ} {f : FlatBeside} → ReadsBesideC loop offset f → f ≡ flat_beside (reading_of loop offset)
reads_beside_so d = sym d.left ∙ d.learnt_so ∙ ap (λ (v : List ℕ × ℕ). flat_beside (reading_of v.0 v.1)) d.taken

abbrev pub ReadsUpidC : ℕ → List ℕ → FlatUpid → Type 0
ReadsUpidC upid_type_number bytes f = May scte35_read_upid.Learnt {S = ℕ × List ℕ} {T = FlatUpid} (λ κ a. (a.0, drop a.1.1.0 a.1.0.now)) (λ κ r e. r) (upid_type_number, bytes) f

reads_upid_so : {upid_type_number : ℕ} {bytes : List ℕ} {f : FlatUpid} → ReadsUpidC upid_type_number bytes f → f ≡ flat_upid (upid_of upid_type_number bytes)
reads_upid_so d = sym d.left ∙ d.learnt_so ∙ ap (λ (v : ℕ × List ℕ). flat_upid (upid_of v.0 v.1)) d.taken

-- of an insert's payload
abbrev pub ReadsComponentsC : List ℕ → FlatInsertComponents → Type 0
ReadsComponentsC payload f = May scte35_read_insert_components.Learnt {S = List ℕ} {T = FlatInsertComponents} (λ κ a. drop a.1.0 a.0.now) (λ κ r e. r) payload f

pub reads_components_so : {payload : List ℕ} {f : FlatInsertComponents} → ReadsComponentsC payload f → f ≡ flat_insert_components (command_of 0x05 payload) (components_of payload)
reads_components_so d = sym d.left ∙ d.learnt_so ∙ ap (λ (v : List ℕ). flat_insert_components (command_of 0x05 v) (components_of v)) d.taken

abbrev pub TellsCanonicalC : List ℕ → Bool → Type 0
TellsCanonicalC s r = May scte35_is_canonical_section.Learnt {S = List ℕ} {T = Bool} (λ κ a. drop a.1.0 a.0.now) (λ κ r e. r) s r

pub tells_canonical_so : {s : List ℕ} {r : Bool} → TellsCanonicalC s r → r ≡ canonical_section s
tells_canonical_so d = sym d.left ∙ d.learnt_so ∙ ap canonical_section d.taken

-- the words of header, command and components, lent bytes and loop; the target, the answer and the target's later bytes
abbrev pub WritesSectionC : List ℕ → List ℕ → List ℕ → List ℕ → List ℕ → List ℕ → FlatWritten → List ℕ → Type 0
WritesSectionC header command components lent loop target answer later =
    May scte35_write_section_words.Learnt {S = List ℕ × (List ℕ × (List ℕ × (List ℕ × (List ℕ × List ℕ))))} {T = FlatWritten × List ℕ}
    (λ κ a. (a.0.now, (a.1.0.now, (a.1.1.0.now, (a.1.1.1.0.now, (a.1.1.1.1.0.now, a.1.1.1.1.1.0.now))))))
    (λ κ r e. (r, e.1.1.1.1.1.0.now)) (header, (command, (components, (lent, (loop, target))))) (answer, later)

pub writes_section_so : {header command components lent loop target : List ℕ} {answer : FlatWritten} {later : List ℕ} → WritesSectionC header command components lent loop target answer later
    → (answer ≡ flat_written (answer_of (section_words_made header command components lent loop) target)) × (later ≡ later_of (section_words_made header command components lent loop) target)
writes_section_so d = (
  sym (ap (λ (v : FlatWritten × List ℕ). v.0) d.left) ∙ d.learnt_so.0
      ∙ ap (λ (v : List ℕ × (List ℕ × (List ℕ × (List ℕ × (List ℕ × List ℕ))))). flat_written (answer_of (section_words_made v.0 v.1.0 v.1.1.0 v.1.1.1.0 v.1.1.1.1.0) v.1.1.1.1.1)) d.taken,
  sym (ap (λ (v : FlatWritten × List ℕ). v.1) d.left) ∙ d.learnt_so.1
      ∙ ap (λ (v : List ℕ × (List ℕ × (List ℕ × (List ℕ × (List ℕ × List ℕ))))). later_of (section_words_made v.0 v.1.0 v.1.1.0 v.1.1.1.0 v.1.1.1.1.0) v.1.1.1.1.1) d.taken,
)

-- the words of a step and of what stands beside it
abbrev pub WritesDescriptorC : List ℕ → List ℕ → List ℕ → List ℕ → FlatWritten → List ℕ → Type 0
WritesDescriptorC step beside lent target answer later =
    May scte35_write_descriptor_words.Learnt {S = List ℕ × (List ℕ × (List ℕ × List ℕ))} {T = FlatWritten × List ℕ}
    (λ κ a. (a.0.now, (a.1.0.now, (a.1.1.0.now, a.1.1.1.0.now)))) (λ κ r e. (r, e.1.1.1.0.now)) (step, (beside, (lent, target))) (answer, later)

pub writes_descriptor_so : {step beside lent target : List ℕ} {answer : FlatWritten} {later : List ℕ} → WritesDescriptorC step beside lent target answer later
    → (answer ≡ flat_written (answer_of (descriptor_words_made step beside lent) target)) × (later ≡ later_of (descriptor_words_made step beside lent) target)
writes_descriptor_so d = (
  sym (ap (λ (v : FlatWritten × List ℕ). v.0) d.left) ∙ d.learnt_so.0
      ∙ ap (λ (v : List ℕ × (List ℕ × (List ℕ × List ℕ))). flat_written (answer_of (descriptor_words_made v.0 v.1.0 v.1.1.0) v.1.1.1)) d.taken,
  sym (ap (λ (v : FlatWritten × List ℕ). v.1) d.left) ∙ d.learnt_so.1
      ∙ ap (λ (v : List ℕ × (List ℕ × (List ℕ × List ℕ))). later_of (descriptor_words_made v.0 v.1.0 v.1.1.0) v.1.1.1) d.taken,
)

-- ---- acceptance

pub flat_number : (r : Result Section Refusal) → (flat_section_read r).refusal ≡ number_of r
unfolding flat_section_read number_of
flat_number (Ok x) = refl
flat_number (Err r) = refl

-- the number is that of the first condition of 1 to 11 that holds, and 0 exactly where none does
pub scte35_read_section_refuses_in_order : (s : List ℕ) (f : FlatSection) → ReadsSectionC s f → f.refusal ≡ first 1 (conditions s)
scte35_read_section_refuses_in_order s f d = ap (λ (v : FlatSection). v.refusal) (reads_section_so d) ∙ flat_number (section_of s) ∙ reading.refusals_1_to_11_in_order s

-- ---- an accepted section

-- what is read, where there is no refusal
pub record Accepted (s : List ℕ) (f : FlatSection) : Type 0 where
  pub section : Section
  pub is : section_of s ≡ Ok section
  pub base : f.descriptors.at ≡ section.descriptors.at
  pub long : f.descriptors.len ≡ section.descriptors.len
  pub loop : taken s f.descriptors ≡ loop_in s section
  pub payload : f.payload ≡ flat_view section.payload

pub accepted : (s : List ℕ) (f : FlatSection) → ReadsSectionC s f → f.refusal ≡ 0 → Accepted s f
unfolding flat_section_read
accepted s f d z =
    let n : number_of (section_of s) ≡ 0 = sym (flat_number (section_of s)) ∙ sym (ap (λ (v : FlatSection). v.refusal) (reads_section_so d)) ∙ z in
    let r = is_read (section_of s) n in
    let v : f.descriptors ≡ flat_view r.0.descriptors = ap (λ (y : FlatSection). y.descriptors) (reads_section_so d ∙ ap flat_section_read r.1) in
    record {
      section = r.0;
      is = r.1;
      base = ap (λ (y : FlatView). y.at) v;
      long = ap (λ (y : FlatView). y.len) v;
      loop = ap (taken s) v ∙ sym (viewed_is s r.0.descriptors (reading.the_loop_is_one_run_of_the_section s r.0 r.1).inside);
      payload = ap (λ (y : FlatSection). y.payload) (reads_section_so d ∙ ap flat_section_read r.1);
    }

parts_lie_there : (s : List ℕ) (f : FlatSection) → Accepted s f → SectionLies s f
unfolding loop_place command_bytes
parts_lie_there s f x =
    let l = laid s x.section x.is in
    let v : f.payload ≡ record { at = 14; len = command_length s } = x.payload ∙ ap flat_view (reading.what_an_accepted_section_says s x.section x.is).3 in
    record {
      payload = record { there = omega (arith, l.fits); starts = omega (arith, ap (λ (y : FlatView). y.at) v); long = ap (λ (y : FlatView). y.len) v };
      command = ap (taken s) v;
      descriptors = record { there = omega (arith, l.fits); starts = omega (arith, x.base, ap (λ (y : View). y.at) l.place); long = x.long ∙ ap (λ (y : View). y.len) l.place };
    }

-- The command's payload and the loop of a section that is not refused lie where its own bytes say, and what a caller takes of the payload is the command
pub the_command_and_the_loop_over_c_are_the_sections : (s : List ℕ) (f : FlatSection) → ReadsSectionC s f → f.refusal ≡ 0 → SectionLies s f
the_command_and_the_loop_over_c_are_the_sections s f d z = parts_lie_there s f (accepted s f d z)

-- ---- an item

items_lie : (s : List ℕ) (f : FlatSection) (offset : ℕ) (i : FlatStep) → AllBytes s → (x : Accepted s f) → ReadsItemC (taken s f.descriptors) offset i → ItemLies s (f.descriptors.at + offset) f.descriptors.at i
unfolding reading_of
items_lie s f offset i a x q =
    let e : i ≡ flat_step (step_of (loop_in s x.section) offset) = reads_item_so q ∙ ap (λ (l : List ℕ). flat_step (step_of l offset)) x.loop in
    let w : ItemCase s x.section.descriptors.at (loop_in s x.section) offset (reading_of (loop_in s x.section) offset) (reading_of (loop_in s x.section) offset).step.item = whole_case s x.section x.is a offset in
    let h : ItemLies s (x.section.descriptors.at + offset) x.section.descriptors.at i = rw e (flat.step_lies s x.section.descriptors.at (loop_in s x.section) offset (reading_of (loop_in s x.section) offset) w) in
    subst (λ (n : ℕ). ItemLies s (n + offset) n i) (sym x.base) h

eidr_lies : (s : List ℕ) (f : FlatSection) (offset : ℕ) (i : FlatStep) (b : FlatBeside) → AllBytes s → (x : Accepted s f) → ReadsItemC (taken s f.descriptors) offset i
    → ReadsBesideC (taken s f.descriptors) offset b → i.item.kind ≡ 4 → i.item.segmentation.segmentation_upid_type ≡ 10
    → let h : ℕ = upid_at s (f.descriptors.at + offset + 6) in (get_or s h 0 ≡ 10) × (get_or s (h + 1) 0 ≡ 12) × Slice s (h + 2) 12 b.eidr
unfolding flat_beside
eidr_lies s f offset i b a x q r four ten =
    let e : i ≡ flat_step (step_of (loop_in s x.section) offset) = reads_item_so q ∙ ap (λ (l : List ℕ). flat_step (step_of l offset)) x.loop in
    let m = flat.upid_of_item 10 (step_of (loop_in s x.section) offset) (ap (λ (v : FlatStep). v.item.kind) (sym e) ∙ four) (ap (λ (v : FlatStep). v.item.segmentation.segmentation_upid_type) (sym e) ∙ ten) in
    let w = (reading.every_upid_of_the_section_is_whole s x.section x.is offset m.descriptor m.active m.is m.detail a).eidr m.upid_type in
    let g : b.eidr ≡ (reading_of (loop_in s x.section) offset).beside.eidr = ap (λ (v : FlatBeside). v.eidr) (reads_beside_so r ∙ ap (λ (l : List ℕ). flat_beside (reading_of l offset)) x.loop) in
    subst (λ (n : ℕ). (get_or s (upid_at s (n + offset + 6)) 0 ≡ 10) × (get_or s (upid_at s (n + offset + 6) + 1) 0 ≡ 12) × Slice s (upid_at s (n + offset + 6) + 2) 12 b.eidr) (sym x.base)
    (subst (λ (y : List ℕ). (get_or s (upid_at s (x.section.descriptors.at + offset + 6)) 0 ≡ 10) × (get_or s (upid_at s (x.section.descriptors.at + offset + 6) + 1) 0 ≡ 12)
    × Slice s (upid_at s (x.section.descriptors.at + offset + 6) + 2) 12 y) (sym g) w)

-- Wholeness over `scte35_read_item`, at any offset of the loop of a section that is not refused: the place and the length of its identifier in the section are those that the section's own bytes announce,
-- and a refused item has its refusal's number
pub the_items_over_c_are_whole : (s : List ℕ) (f : FlatSection) (offset : ℕ) (i : FlatStep) → AllBytes s → ReadsSectionC s f → f.refusal ≡ 0 → ReadsItemC (taken s f.descriptors) offset i
    → ItemLies s (f.descriptors.at + offset) f.descriptors.at i
the_items_over_c_are_whole s f offset i a d z q = items_lie s f offset i a (accepted s f d z) q

items_stand : (s : List ℕ) (f : FlatSection) (offset : ℕ) (i : FlatStep) → AllBytes s → (x : Accepted s f) → ReadsItemC (taken s f.descriptors) offset i
    → ItemStands s (f.descriptors.at + offset) (f.descriptors.at + f.descriptors.len) f.descriptors.at i
items_stand s f offset i a x q =
    let e : i ≡ flat_step (step_of (loop_in s x.section) offset) = reads_item_so q ∙ ap (λ (l : List ℕ). flat_step (step_of l offset)) x.loop in
    rw (x.base, x.long, e) (standing.stands s a (in_section s x.section.descriptors) (loop_run s x.section x.is) offset (loop_short s x.section x.is))

-- Its number is that of its tag and identifier, of its cancel bit, or of a refusal, and the next item starts where its own length byte says; what an ending rule refuses ends with the loop
pub an_item_over_c_is_what_its_bytes_say : (s : List ℕ) (f : FlatSection) (offset : ℕ) (i : FlatStep) → AllBytes s → ReadsSectionC s f → f.refusal ≡ 0 → ReadsItemC (taken s f.descriptors) offset i
    → ItemStands s (f.descriptors.at + offset) (f.descriptors.at + f.descriptors.len) f.descriptors.at i
an_item_over_c_is_what_its_bytes_say s f offset i a d z q = items_stand s f offset i a (accepted s f d z) q

-- It is refused exactly where the item is, with that refusal's number and values; 0 stands where there is none
pub an_item_over_c_is_refused_as_the_item_is : (loop : List ℕ) (offset : ℕ) (i : FlatStep) → ReadsItemC loop offset i
    → (i.refusal ≡ item_refusal (step_of loop offset).item) × (i.values ≡ filled_to 3 0 (item_values (step_of loop offset).item))
unfolding flat_step
an_item_over_c_is_refused_as_the_item_is loop offset i q = (
  ap (λ (v : FlatStep). v.refusal) (reads_item_so q) ∙ steps.item_refusal_lem (step_of loop offset).item,
  ap (λ (v : FlatStep). v.values) (reads_item_so q) ∙ steps.item_values_lem (step_of loop offset).item,
)

-- Covering over C: the items that a caller steps through, from 0 by `next` up to the loop's length, are those of the loop, in order, each where it starts and ends and with its refusal's number; and these
-- cover the loop once
pub the_items_over_c_cover_the_loop : (s : List ℕ) (f : FlatSection) (xs : List FlatListed) → ReadsSectionC s f → f.refusal ≡ 0 → SteppedC (ReadsItemC (taken s f.descriptors)) f.descriptors.len 0 xs
    → Covered (taken s f.descriptors) (items_of (taken s f.descriptors)) × Pairs SameItem xs (items_of (taken s f.descriptors))
the_items_over_c_cover_the_loop s f xs d z w =
    let x = accepted s f d z in
    let loop : List ℕ = taken s f.descriptors in
    let fits : length loop ≤ 4076 = rw x.loop (loop_short s x.section x.is) in
    let n : f.descriptors.len ≡ length loop = x.long ∙ sym (ap length x.loop ∙ length_run s (in_section s x.section.descriptors) (loop_run s x.section x.is)) in
    let v : SteppedC (ReadsItemC loop) (length loop) 0 xs = subst (λ (k : ℕ). SteppedC (ReadsItemC loop) k 0 xs) n w in
    (rw x.loop (reading.the_items_cover_the_loop_of_the_section s x.section x.is), steps.stepped_items_over_c loop fits (ReadsItemC loop) (λ offset i. reads_item_so) v)

-- An EIDR, which stands beside its item: `scte35_read_segmentation_components` at the same offset answers the very twelve bytes
pub the_eidr_over_c_is_whole : (s : List ℕ) (f : FlatSection) (offset : ℕ) (i : FlatStep) (b : FlatBeside) → AllBytes s → ReadsSectionC s f → f.refusal ≡ 0
    → ReadsItemC (taken s f.descriptors) offset i → ReadsBesideC (taken s f.descriptors) offset b → i.item.kind ≡ 4 → i.item.segmentation.segmentation_upid_type ≡ 10
    → let h : ℕ = upid_at s (f.descriptors.at + offset + 6) in (get_or s h 0 ≡ 10) × (get_or s (h + 1) 0 ≡ 12) × Slice s (h + 2) 12 b.eidr
the_eidr_over_c_is_whole s f offset i b a d z q r four ten = eidr_lies s f offset i b a (accepted s f d z) q r four ten

-- Of `scte35_read_upid` the first `count` parts are those of the UPID, field by field, and its refusal is that of what is read
pub the_parts_over_c_are_those_of_the_upid : (upid_type_number : ℕ) (bytes : List ℕ) (u : FlatUpid) → ReadsUpidC upid_type_number bytes u
    → (u.refusal ≡ upid_refusal (check_of upid_type_number bytes)) × (u.count ≡ length (parts_read upid_type_number bytes)) × Pairs SamePart (take u.count u.parts) (parts_read upid_type_number bytes)
the_parts_over_c_are_those_of_the_upid upid_type_number bytes u d = rw (reads_upid_so d) (flat.parts_flat upid_type_number bytes)

-- and its type is the one that is reported, an EIDR the very twelve bytes
pub the_type_and_the_eidr_over_c_are_those_of_the_upid : (upid_type_number : ℕ) (bytes : List ℕ) (u : FlatUpid) → ReadsUpidC upid_type_number bytes u → UpidSays upid_type_number bytes u
the_type_and_the_eidr_over_c_are_those_of_the_upid upid_type_number bytes u d = rw (reads_upid_so d) (flat.upid_says_lem upid_type_number bytes)

-- a MID that is accepted has bytes
some_byte : (b : List ℕ) → check_of 13 b ≡ Ok 13 → 1 ≤ length b
unfolding check_of
some_byte [] e = let z : ◌≡◌ {A = ℕ} 0 13 = cc in absurd (eqb-false 0 13 refl z)
some_byte (x ∷ b) e = omega arith

parts_lie : (s : List ℕ) (mid : Identifier) {qs : List FlatPart} {ps : List Part} → Pairs SamePart qs ps → All (λ (p : Part). Announced s p (in_lent mid.start mid.bytes (part_view p))) ps
    → All (PartLies s mid.start) qs
parts_lie s mid over none = none
parts_lie s mid (pair {x = q} {y = p} h hs) (more a rest) =
    let l : q.len ≡ get_or s (mid.start + q.start - 1) 0 = h.lens ∙ a.len ∙ ap (λ (n : ℕ). get_or s (mid.start + n - 1) 0) (sym h.starts) in
    more {x = q} (record {
      behind = omega (arith, a.behind, h.starts);
      there = omega (arith, a.unbroken.inside, h.starts, h.lens);
      upid_type = h.kinds ∙ a.upid_type ∙ reported_as_lem _ ∙ ap (λ (n : ℕ). reported_as (get_or s (mid.start + n - 2) 0)) (sym h.starts);
      long = l;
    }) (parts_lie s mid hs rest)

mid_lies : (s : List ℕ) (f : FlatSection) (offset : ℕ) (i : FlatStep) (u : FlatUpid) (x : Accepted s f) → ReadsItemC (taken s f.descriptors) offset i
    → i.item.kind ≡ 4 → i.item.segmentation.segmentation_upid_type ≡ 13 → ReadsUpidC 13 (taken (taken s f.descriptors) i.item.bytes) u
    → (u.refusal ≡ 0) × All (PartLies s (f.descriptors.at + i.item.bytes.at)) (take u.count u.parts)
mid_lies s f offset i u x q four mid r =
    let e : i ≡ flat_step (step_of (loop_in s x.section) offset) = reads_item_so q ∙ ap (λ (l : List ℕ). flat_step (step_of l offset)) x.loop in
    let m = flat.upid_of_item 13 (step_of (loop_in s x.section) offset) (ap (λ (v : FlatStep). v.item.kind) (sym e) ∙ four) (ap (λ (v : FlatStep). v.item.segmentation.segmentation_upid_type) (sym e) ∙ mid) in
    let v : i.item.bytes ≡ flat_view m.active.segmentation_upid.bytes = ap (λ (v : FlatStep). v.item.bytes) e ∙ m.bytes in
    let w : Unsplit s (in_lent x.section.descriptors.at (loop_in s x.section) m.active.segmentation_upid.bytes) =
    reading.no_mid_that_is_read_is_split s x.section x.is offset m.descriptor m.active m.is m.detail m.upid_type in
    let b : taken (taken s f.descriptors) i.item.bytes ≡ viewed (loop_in s x.section) m.active.segmentation_upid.bytes =
    ap (λ (l : List ℕ). taken l i.item.bytes) x.loop ∙ ap (taken (loop_in s x.section)) v ∙ sym (viewed_is (loop_in s x.section) m.active.segmentation_upid.bytes (viewed_inside (loop_in s x.section) m.active.segmentation_upid.bytes (some_byte _ w.accepted))) in
    let k : ReadsUpidC 13 (viewed (loop_in s x.section) m.active.segmentation_upid.bytes) u = rw b at r in
    let p = the_parts_over_c_are_those_of_the_upid 13 _ u k in
    let lie : All (PartLies s (x.section.descriptors.at + m.active.segmentation_upid.bytes.at)) (take u.count u.parts) = (parts_lie s (in_lent x.section.descriptors.at (loop_in s x.section) m.active.segmentation_upid.bytes) p.2 w.parts) in
    let there : x.section.descriptors.at + m.active.segmentation_upid.bytes.at ≡ f.descriptors.at + i.item.bytes.at = omega (arith, x.base, ap (λ (y : FlatView). y.at) v) in
    (p.0 ∙ ap upid_refusal w.accepted, subst (λ (n : ℕ). All (PartLies s n) (take u.count u.parts)) there lie)

-- So of a MID of the section: each part, at every level, lies in the section where it says, with as many bytes as its own head announces, of the type that is written there
pub the_parts_of_a_mid_over_c_are_whole : (s : List ℕ) (f : FlatSection) (offset : ℕ) (i : FlatStep) (u : FlatUpid) → AllBytes s → ReadsSectionC s f → f.refusal ≡ 0 → ReadsItemC (taken s f.descriptors) offset i
    → i.item.kind ≡ 4 → i.item.segmentation.segmentation_upid_type ≡ 13 → ReadsUpidC 13 (taken (taken s f.descriptors) i.item.bytes) u
    → (u.refusal ≡ 0) × All (PartLies s (f.descriptors.at + i.item.bytes.at)) (take u.count u.parts)
the_parts_of_a_mid_over_c_are_whole s f offset i u a d z q four mid r = mid_lies s f offset i u (accepted s f d z) q four mid r

-- ---- writing

-- the loop that a reading says is the section's
pub laid_loop : (s : List ℕ) (x : Section) → section_of s ≡ Ok x → loop_in s x ≡ loop_bytes s
laid_loop s x e = ap (viewed s) (reading.what_an_accepted_section_says s x e).2

pub puts_flat : (m : Made) (b target : List ℕ) (answer : FlatWritten) (later : List ℕ) → m ≡ made b → answer ≡ flat_written (answer_of m target) → later ≡ later_of m target → PutsFlat b target answer later
unfolding flat_written
puts_flat m b target answer later e f g =
    let p = writes.puts b target in
    let a : answer ≡ flat_written (answer_of (made b) target) = f ∙ ap (λ (n : Made). flat_written (answer_of n target)) e in
    let l : later ≡ later_of (made b) target = g ∙ ap (λ (n : Made). later_of n target) e in
    record {
      fits = λ h.
          let w : answer ≡ flat_written (Ok (length b)) = a ∙ ap flat_written (p.fits h).0 in
          (ap (λ (v : FlatWritten). v.refusal) w, ap (λ (v : FlatWritten). v.«length») w, l ∙ (p.fits h).1);
      short = λ h. (ap (λ (v : FlatWritten). v.refusal) (a ∙ ap flat_written (p.short h).0), l ∙ (p.short h).1);
    }

-- what is made of the words that are read of a canonical section, and of its components
pub made_of_its_words : (s : List ℕ) (f : FlatSection) (places : FlatInsertComponents) → AllBytes s → TellsCanonicalC s true → ReadsSectionC s f → f.refusal ≡ 0 → ReadsComponentsC (drop 14 (take (14 + command_length s) s)) places
    → section_words_made (header_words f.header) (command_words f.command) (insert_components_words places) s (taken s f.descriptors) ≡ made s
made_of_its_words s f places a t d z c =
    let x = accepted s f d z in
    ap (λ (v : FlatSection). section_words_made (header_words v.header) (command_words v.command) (insert_components_words places) s (taken s f.descriptors)) (reads_section_so d)
    ∙ ap (λ (v : FlatInsertComponents). section_words_made (header_words (flat_section_read (section_of s)).header) (command_words (flat_section_read (section_of s)).command) (insert_components_words v) s (taken s f.descriptors)) (reads_components_so c)
    ∙ ap (λ (l : List ℕ). section_words_made (header_words (flat_section_read (section_of s)).header) (command_words (flat_section_read (section_of s)).command) (insert_components_words (components_answered s)) s l) x.loop
    ∙ over_c.a_canonical_section_is_what_is_written_of_its_words s x.section a x.is (sym (tells_canonical_so t))

-- Demand 2 over C: the words that are read of a canonical section, its header's (without the last two) and its command's, those of its components, read of its bytes up to its command's end, and its loop, written, are that section
pub a_canonical_section_over_c_is_written_back : (s : List ℕ) (f : FlatSection) (places : FlatInsertComponents) (target : List ℕ) (answer : FlatWritten) (later : List ℕ) → AllBytes s
    → TellsCanonicalC s true → ReadsSectionC s f → f.refusal ≡ 0 → ReadsComponentsC (drop 14 (take (14 + command_length s) s)) places
    → WritesSectionC (header_words f.header) (command_words f.command) (insert_components_words places) s (taken s f.descriptors) target answer later → PutsFlat s target answer later
a_canonical_section_over_c_is_written_back s f places target answer later a t d z c p =
    let w = writes_section_so p in
    puts_flat _ s target answer later (made_of_its_words s f places a t d z c) w.0 w.1

-- and each of its items, of the words of its step and of what stands beside it, is its own bytes
pub the_items_of_a_canonical_section_over_c_are_written_back : (s : List ℕ) (f : FlatSection) → AllBytes s → TellsCanonicalC s true → ReadsSectionC s f → f.refusal ≡ 0
    → All (λ (y : Listed). (i : FlatStep) (beside : FlatBeside) (target : List ℕ) (answer : FlatWritten) (later : List ℕ) → ReadsItemC (taken s f.descriptors) y.offset i
    → ReadsBesideC (taken s f.descriptors) y.offset beside → WritesDescriptorC (step_words i) (beside_words beside) (taken s f.descriptors) target answer later
    → PutsFlat (run_of (taken s f.descriptors) y) target answer later) (items_of (taken s f.descriptors))
the_items_of_a_canonical_section_over_c_are_written_back s f a t d z =
    let x = accepted s f d z in
    let loop : List ℕ = taken s f.descriptors in
    let h : All (λ (y : Listed). words_made_at loop y ≡ made (run_of loop y)) (items_of loop) = rw x.loop (over_c.the_items_of_a_canonical_section_are_written_of_their_words s x.section a x.is (sym (tells_canonical_so t))) in
    let fits : length loop ≤ 4076 = rw x.loop (loop_short s x.section x.is) in
    all_into (λ y k i beside target answer later q b p.
    let w = writes_descriptor_so p in
    let m : descriptor_words_made (step_words i) (beside_words beside) loop ≡ made (run_of loop y) = rw (reads_item_so q, reads_beside_so b, sym k.1) k.0 in
    puts_flat _ (run_of loop y) target answer later m w.0 w.1) (writes.with_steps loop fits h)

-- "reading what the writer wrote gives what it was handed": whatever was written over C is a canonical section with the header, the command, the components and the bytes whose words were handed in, and
-- with the loop (`WrittenOf`)
pub what_is_written_over_c_is_read_back : (header command components lent loop target : List ℕ) (answer : FlatWritten) (later : List ℕ) → AllBytes lent → AllBytes loop
    → WritesSectionC header command components lent loop target answer later → answer.refusal ≡ 0 → WrittenOf header command components lent loop (take answer.«length» later)
what_is_written_over_c_is_read_back header command components lent loop target answer later a l p z =
    written_over_c.written_back header command components lent loop target answer later a l (writes_section_so p).0 (writes_section_so p).1 z

-- and read over C it has the header's and the command's words, and the loop
pub what_is_written_over_c_has_its_words : (header command components lent loop target : List ℕ) (answer : FlatWritten) (later : List ℕ) (f : FlatSection) → AllBytes lent → AllBytes loop
    → WritesSectionC header command components lent loop target answer later → answer.refusal ≡ 0 → ReadsSectionC (take answer.«length» later) f
    → ReadsAgain header command loop (take answer.«length» later) f
unfolding flat_section_read
what_is_written_over_c_has_its_words header command components lent loop target answer later f a l p z d =
    let b : List ℕ = take answer.«length» later in
    let w = what_is_written_over_c_is_read_back header command components lent loop target answer later a l p z in
    let x : Section = w.section.header.reading in
    let e : f ≡ flat_section_read (Ok x) = reads_section_so d ∙ ap flat_section_read w.section.header.reads in
    let k : header_words f.header ≡ header_words (flat_header w.own_header) =
    ap (λ (v : FlatSection). header_words v.header) e ∙ written_over_c.same_words x.header w.own_header w.section.header.same in
    let g : SpliceCommand = w.section.command.again in
    let moves : x.command ≡ moved 14 g =
    written_over_c.moved_command g (command_of (command_type b) (command_bytes b)) x.command
    (ap (λ (k : ℕ). command_of k (command_bytes b)) w.section.type ∙ w.section.command.reading) (reading.what_an_accepted_section_says b x w.section.header.reads).1 in
    let h : take 19 (command_words f.command) ≡ take 19 (command_words (flat_command w.own_command)) =
    ap (λ (v : FlatSection). take 19 (command_words v.command)) e ∙ written_over_c.command_words_lem x.command w.own_command g moves w.section.command.values in
    let q = accepted b f d (ap (λ (v : FlatSection). v.refusal) e) in
    record {
      accepted = ap (λ (v : FlatSection). v.refusal) e;
      words = ap (λ (v : List ℕ). same v header) k ∙ w.header_is.own;
      command_words_lem = ap (λ (v : List ℕ). same v command) h ∙ written_over_c.same_take 19 (command_words (flat_command w.own_command)) command w.command_is_lem.own;
      loops = q.loop ∙ laid_loop b q.section q.is ∙ w.section.loops;
    }

-- "A refused write leaves the target's bytes"
pub left : (m : Made) (target : List ℕ) (n : ℕ) → (flat_written (answer_of m target)).refusal ≡ n → (n ≡ 0 → ⊥) → later_of m target ≡ target
unfolding flat_written
left m target n e some = go (answer_of m target) refl e
  where
    go : (w : Result ℕ ℕ) → answer_of m target ≡ w → (flat_written w).refusal ≡ n → later_of m target ≡ target
    go (Ok k) h e = absurd (some (sym e))
    go (Err k) h e = writing.a_refused_write_changes_no_byte m target k h

pub a_refused_section_over_c_changes_no_byte : (κ : _) (a : _) (r : FlatWritten) (e : _) → scte35_write_section_words.Learnt κ a r e → (r.refusal ≡ 0 → ⊥) → e.1.1.1.1.1.0.now ≡ a.1.1.1.1.1.0.now
a_refused_section_over_c_changes_no_byte κ a r e l some = l.1 ∙ left _ _ r.refusal (ap (λ (v : FlatWritten). v.refusal) (sym l.0)) some

pub a_refused_descriptor_over_c_changes_no_byte : (κ : _) (a : _) (r : FlatWritten) (e : _) → scte35_write_descriptor_words.Learnt κ a r e → (r.refusal ≡ 0 → ⊥) → e.1.1.1.0.now ≡ a.1.1.1.0.now
a_refused_descriptor_over_c_changes_no_byte κ a r e l some = l.1 ∙ left _ _ r.refusal (ap (λ (v : FlatWritten). v.refusal) (sym l.0)) some

pub a_refused_command_over_c_changes_no_byte : (κ : _) (a : _) (r : FlatWritten) (e : _) → scte35_write_command_words.Learnt κ a r e → (r.refusal ≡ 0 → ⊥) → e.1.1.1.0.now ≡ a.1.1.1.0.now
a_refused_command_over_c_changes_no_byte κ a r e l some = l.1 ∙ left _ _ r.refusal (ap (λ (v : FlatWritten). v.refusal) (sym l.0)) some
