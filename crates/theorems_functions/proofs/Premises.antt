-- What the statements of functions ask of answers can be met: of any arguments the definition's answer is one that the contract allows. (`ReadsSection` and the like are in Contracts.antt, those over C in OverC.antt.)
use Prim.Native.Nat.{ℕ, ◌≤◌}
use mathlib.Core.Bool.{true}
use mathlib.Core.List.{List, [], map}
use mathlib.Core.Path.{◌≡◌, refl, ap, sym, subst, ◌∙◌}
use native.Mathlib.Omega.{arith}
use lib.ListN.{length}
use denote.Ref.{Bor}
use denote.MutBor.{MutBor}
use Rattle.bit_stores.specs.Written.{answer_of, later_of}
use Rattle.c_command_writer.specs.Words.{flat_written}
use Rattle.c_descriptor_writer.specs.ItemGiven.{descriptor_words_made}
use Rattle.c_items.specs.FlatItem.{flat_step, flat_beside}
use Rattle.c_items.specs.FlatUpid.{flat_upid}
use Rattle.c_section.specs.FlatCommand.{flat_insert_components}
use Rattle.c_section.specs.FlatSection.{flat_section_read}
use Rattle.c_section_writer.specs.SectionGiven.{section_words_made}
use Rattle.canonical_form.specs.Same.{Given, Pairs}
use Rattle.canonical_form.specs.Same.Pairs.{over, pair}
use Rattle.canonical_form.specs.Section.{canonical_section}
use Rattle.command.specs.Command.{command_of, components_of}
use Rattle.command.specs.declared.SpliceCommand.{SpliceCommand}
use Rattle.command.specs.declared.components.InsertComponent.{InsertComponent}
use Rattle.command_measure.specs.Made.{command_made}
use Rattle.descriptor_loop.proofs.Lists.{Walked, walked}
use Rattle.descriptor_loop.proofs.Steps.{step_end}
use Rattle.descriptor_loop.specs.Cover.{run_of}
use Rattle.descriptor_loop.specs.Items.{step_of, reading_of, Listed, items_of}
use Rattle.descriptor_loop.specs.Place.{view_of}
use Rattle.descriptor_loop.specs.declared.Step.{Step}
use Rattle.descriptor_loop.specs.declared.reading.Reading.{Reading}
use Rattle.loop_round_trips.specs.Loops.{given_made}
use Rattle.section.specs.Section.{private_view, section_of, loop_in}
use Rattle.section.specs.Full.{full_section_of}
use Rattle.section.specs.declared.Section.{Section}
use Rattle.table.specs.Bits.{AllBytes}
use Rattle.table.specs.Lent.{viewed}
use Rattle.table.specs.Writing.{Made, made}
use Rattle.theorems_reader.proofs.Sections.{loop_short}
use Rattle.theorems_writer.proofs.Theorems as writing
use Rattle.upid.specs.Cover.{All}
use Rattle.upid.specs.Cover.All.{none, more}
use Rattle.upid.specs.Upid.{upid_of, part_view}
use Rattle.upid.specs.declared.Part.{Part}
use Rattle.theorems_functions.specs.Calls.{Stepped, SectionGiven, Puts}
use Rattle.theorems_functions.specs.Flat.{FlatListed, SteppedC}
use Rattle.theorems_functions.proofs.Contracts.{ReadsSection, ReadsFullSection, Steps, steps_so, ReadsItem, ReadsUpid, GivesLoop, GivesPrivate, GivesBytes, GivesPart, TellsCanonical, WritesSection, WritesDescriptor, WritesCommand, section_from}
use Rattle.theorems_functions.proofs.OverC.{ReadsSectionC, ReadsItemC, ReadsBesideC, ReadsUpidC, ReadsComponentsC, TellsCanonicalC, WritesSectionC, WritesDescriptorC}
use Rattle.theorems_functions.proofs.Steps as steps
use Rattle.theorems_functions.proofs.Theorems.{Rewrites, WritesBytes}
use Rattle.theorems_functions.proofs.Writes as writes
use Rattle.std.proofs.Common.{Ok, Some, Option, Result}
use Rattle.descriptor.specs.declared.Descriptor.{Descriptor}
use Rattle.descriptor_loop.specs.declared.ItemRefusal.{ItemRefusal}

-- lent bytes, wherever they lie
abbrev pub slice : List ℕ → Bor (List ℕ)
slice s = record { ref_ptr = (0, 0); now = s }

-- a lent target
abbrev pub target_of : List ℕ → MutBor (List ℕ)
target_of s = record { ref_ptr = (0, 0); ghost_name = 0; now = s }

-- ---- the readers

pub read_section_is_met : (s : List ℕ) → ReadsSection s (section_of s)
read_section_is_met s = record { κ = ([], tt); arguments = (slice s, tt); answer = section_of s; after = (slice s, tt); taken = refl; left = refl; learnt_so = refl }

pub read_full_section_is_met : (s : List ℕ) → ReadsFullSection s (full_section_of s)
read_full_section_is_met s = record { κ = ([], tt); arguments = (slice s, tt); answer = full_section_of s; after = (slice s, tt); taken = refl; left = refl; learnt_so = refl }

pub step_is_met : (loop : List ℕ) (offset : ℕ) → Steps loop offset (step_of loop offset)
step_is_met loop offset = record { κ = ([], tt); arguments = (slice loop, (offset, tt)); answer = step_of loop offset; after = (slice loop, (offset, tt)); taken = refl; left = refl; learnt_so = refl }

pub read_item_is_met : (loop : List ℕ) (offset : ℕ) → ReadsItem loop offset (reading_of loop offset)
read_item_is_met loop offset = record { κ = ([], tt); arguments = (slice loop, (offset, tt)); answer = reading_of loop offset; after = (slice loop, (offset, tt)); taken = refl; left = refl; learnt_so = refl }

pub read_upid_is_met : (k : ℕ) (b : List ℕ) → ReadsUpid k b (upid_of k b)
read_upid_is_met k b = record { κ = ([], tt); arguments = (k, (slice b, tt)); answer = upid_of k b; after = (k, (slice b, tt)); taken = refl; left = refl; learnt_so = refl }

pub loop_of_is_met : (s : List ℕ) (x : Section) → GivesLoop s x (viewed s x.descriptors)
loop_of_is_met s x = record { κ = ([], tt); arguments = (slice s, (x, tt)); answer = slice (viewed s x.descriptors); after = (slice s, (x, tt)); taken = refl; left = refl; learnt_so = refl }

pub private_bytes_of_is_met : (s : List ℕ) (c : SpliceCommand) → GivesPrivate s c (viewed s (private_view c))
private_bytes_of_is_met s c = record { κ = ([], tt); arguments = (slice s, (c, tt)); answer = slice (viewed s (private_view c)); after = (slice s, (c, tt)); taken = refl; left = refl; learnt_so = refl }

pub bytes_of_is_met : (loop : List ℕ) (i : Option (Result Descriptor ItemRefusal)) → GivesBytes loop i (viewed loop (view_of i))
bytes_of_is_met loop i = record { κ = ([], tt); arguments = (slice loop, (i, tt)); answer = slice (viewed loop (view_of i)); after = (slice loop, (i, tt)); taken = refl; left = refl; learnt_so = refl }

pub part_bytes_is_met : (b : List ℕ) (p : Part) → GivesPart b p (viewed b (part_view p))
part_bytes_is_met b p = record { κ = ([], tt); arguments = (slice b, (p, tt)); answer = slice (viewed b (part_view p)); after = (slice b, (p, tt)); taken = refl; left = refl; learnt_so = refl }

pub is_canonical_section_is_met : (s : List ℕ) → TellsCanonical s (canonical_section s)
is_canonical_section_is_met s = record { κ = ([], tt); arguments = (slice s, tt); answer = canonical_section s; after = (slice s, tt); taken = refl; left = refl; learnt_so = refl }

-- ---- the writers

pub write_section_is_met : (g : SectionGiven) (target : List ℕ) → WritesSection g target (answer_of (section_from g) target) (later_of (section_from g) target)
write_section_is_met g target = record {
  κ = ([], ([], ([], tt)));
  arguments = (g.header, (g.command, (g.components, (slice g.lent, (slice g.loop, (target_of target, tt))))));
  answer = answer_of (section_from g) target;
  after = (g.header, (g.command, (g.components, (slice g.lent, (slice g.loop, (target_of (later_of (section_from g) target), tt))))));
  taken = refl;
  left = refl;
  learnt_so = (refl, refl);
}

pub write_descriptor_is_met : (g : Given) (target : List ℕ) → WritesDescriptor g target (answer_of (given_made g) target) (later_of (given_made g) target)
write_descriptor_is_met g target = record {
  κ = ([], ([], tt));
  arguments = (g.descriptor, (g.identifier, (g.beside, (slice g.lent, (target_of target, tt)))));
  answer = answer_of (given_made g) target;
  after = (g.descriptor, (g.identifier, (g.beside, (slice g.lent, (target_of (later_of (given_made g) target), tt)))));
  taken = refl;
  left = refl;
  learnt_so = record { answer = refl; target_later = refl };
}

pub write_command_is_met : (c : SpliceCommand) (places : List InsertComponent) (lent target : List ℕ)
    → WritesCommand c places lent target (answer_of (command_made c places lent) target) (later_of (command_made c places lent) target)
write_command_is_met c places lent target = record {
  κ = ([], ([], tt));
  arguments = (c, (places, (slice lent, (target_of target, tt))));
  answer = answer_of (command_made c places lent) target;
  after = (c, (places, (slice lent, (target_of (later_of (command_made c places lent) target), tt))));
  taken = refl;
  left = refl;
  learnt_so = (refl, refl);
}

-- ---- over C, each reader from offset 0 on

pub scte35_read_section_is_met : (s : List ℕ) → ReadsSectionC s (flat_section_read (section_of s))
scte35_read_section_is_met s = record { κ = ([], tt); arguments = (slice s, (0, tt)); answer = flat_section_read (section_of s); after = (slice s, (0, tt)); taken = refl; left = refl; learnt_so = refl }

pub scte35_read_item_is_met : (loop : List ℕ) (offset : ℕ) → ReadsItemC loop offset (flat_step (step_of loop offset))
scte35_read_item_is_met loop offset = record { κ = ([], tt); arguments = (slice loop, (offset, tt)); answer = flat_step (step_of loop offset); after = (slice loop, (offset, tt)); taken = refl; left = refl; learnt_so = refl }

pub scte35_read_segmentation_components_is_met : (loop : List ℕ) (offset : ℕ) → ReadsBesideC loop offset (flat_beside (reading_of loop offset))
scte35_read_segmentation_components_is_met loop offset = record { κ = ([], tt); arguments = (slice loop, (offset, tt)); answer = flat_beside (reading_of loop offset); after = (slice loop, (offset, tt)); taken = refl; left = refl; learnt_so = refl }

pub scte35_read_upid_is_met : (k : ℕ) (b : List ℕ) → ReadsUpidC k b (flat_upid (upid_of k b))
scte35_read_upid_is_met k b = record { κ = ([], tt); arguments = (k, (slice b, (0, tt))); answer = flat_upid (upid_of k b); after = (k, (slice b, (0, tt))); taken = refl; left = refl; learnt_so = refl }

pub scte35_read_insert_components_is_met : (p : List ℕ) → ReadsComponentsC p (flat_insert_components (command_of 0x05 p) (components_of p))
scte35_read_insert_components_is_met p = record { κ = ([], tt); arguments = (slice p, (0, tt)); answer = flat_insert_components (command_of 0x05 p) (components_of p); after = (slice p, (0, tt)); taken = refl; left = refl; learnt_so = refl }

pub scte35_is_canonical_section_is_met : (s : List ℕ) → TellsCanonicalC s (canonical_section s)
scte35_is_canonical_section_is_met s = record { κ = ([], tt); arguments = (slice s, (0, tt)); answer = canonical_section s; after = (slice s, (0, tt)); taken = refl; left = refl; learnt_so = refl }

pub scte35_write_section_words_is_met : (header command components lent loop target : List ℕ)
    → WritesSectionC header command components lent loop target (flat_written (answer_of (section_words_made header command components lent loop) target)) (later_of (section_words_made header command components lent loop) target)
scte35_write_section_words_is_met header command components lent loop target =
    let m : Made = section_words_made header command components lent loop in
    record {
      κ = ([], ([], ([], ([], ([], ([], tt))))));
      arguments = (slice header, (slice command, (slice components, (slice lent, (slice loop, (target_of target, tt))))));
      answer = flat_written (answer_of m target);
      after = (slice header, (slice command, (slice components, (slice lent, (slice loop, (target_of (later_of m target), tt))))));
      taken = refl;
      left = refl;
      learnt_so = (refl, refl);
    }

pub scte35_write_descriptor_words_is_met : (step beside lent target : List ℕ)
    → WritesDescriptorC step beside lent target (flat_written (answer_of (descriptor_words_made step beside lent) target)) (later_of (descriptor_words_made step beside lent) target)
scte35_write_descriptor_words_is_met step beside lent target =
    let m : Made = descriptor_words_made step beside lent in
    record {
      κ = ([], ([], ([], ([], tt))));
      arguments = (slice step, (slice beside, (slice lent, (target_of target, tt))));
      answer = flat_written (answer_of m target);
      after = (slice step, (slice beside, (slice lent, (target_of (later_of m target), tt))));
      taken = refl;
      left = refl;
      learnt_so = (refl, refl);
    }

-- ---- calls one after the other

-- every loop of at most 4,076 bytes is stepped through, and its items are what the steps answer
stepped_from : (loop : List ℕ) → length loop ≤ 4076 → {offset : ℕ} {xs : List Listed} → Walked loop offset xs → Stepped (Steps loop) offset xs
stepped_from loop fits Walked.stop = Stepped.ended (step_of loop (length loop)) (step_is_met loop (length loop)) (ap (λ (t : Step). t.item) (step_end loop (length loop) fits (omega arith)))
stepped_from loop fits (Walked.step {offset = o} {xs = xs} inside e t w) =
    Stepped.then (step_of loop o) (step_is_met loop o) (steps.not_end loop fits (Steps loop) (λ offset st. steps_so) o inside)
    (subst (λ (n : ℕ). Stepped (Steps loop) n xs) (sym e) (stepped_from loop fits w))

pub every_loop_is_stepped_through : (loop : List ℕ) → length loop ≤ 4076 → Stepped (Steps loop) 0 (items_of loop)
every_loop_is_stepped_through loop fits = stepped_from loop fits (walked loop fits)

-- over C
abbrev flat_listed : Listed → FlatListed
flat_listed y = record { offset = y.offset; step = flat_step y.step }

stepped_from_over_c : (loop : List ℕ) {offset : ℕ} {xs : List Listed} → Walked loop offset xs → SteppedC (ReadsItemC loop) (length loop) offset (map flat_listed xs)
unfolding flat_step
stepped_from_over_c loop Walked.stop = SteppedC.ended {offset = length loop} (omega arith)
stepped_from_over_c loop (Walked.step {offset = o} {xs = xs} inside e t w) =
    SteppedC.then (flat_step (step_of loop o)) inside (scte35_read_item_is_met loop o)
    (subst (λ (n : ℕ). SteppedC (ReadsItemC loop) (length loop) n (map flat_listed xs)) (sym e) (stepped_from_over_c loop w))

pub every_loop_is_stepped_through_over_c : (loop : List ℕ) → length loop ≤ 4076 → SteppedC (ReadsItemC loop) (length loop) 0 (map flat_listed (items_of loop))
every_loop_is_stepped_through_over_c loop fits = stepped_from_over_c loop (walked loop fits)

-- what is made of a descriptor is written to a target of its length
written_so : (g : Given) (b : List ℕ) → Puts b b (answer_of (given_made g) b) (later_of (given_made g) b) → WritesBytes g b
written_so g b p =
    let later : List ℕ = later_of (given_made g) b in
    let a : answer_of (given_made g) b ≡ Ok (length b) = (p.fits (omega arith)).0 in
    record {
      target = b;
      number = length b;
      later = later;
      writes = subst (λ (v : Result ℕ ℕ). WritesDescriptor g b v later) a (write_descriptor_is_met g b);
      bytes = sym (writes.put_start b b (length b) later (subst (λ (v : Result ℕ ℕ). Puts b b v later) a p));
    }

pub what_is_made_of_a_descriptor_is_written : (g : Given) (b : List ℕ) → given_made g ≡ made b → WritesBytes g b
what_is_made_of_a_descriptor_is_written g b e = written_so g b (writes.puts_made (given_made g) b b _ _ e (record { answer = refl; target_later = refl }))

-- the items of every canonical section are read and written
item_rewritten : (loop : List ℕ) (y : Listed) → writes.Again loop y → Rewrites loop y (run_of loop y)
item_rewritten loop y h =
    let r : Reading = reading_of loop y.offset in
    let is : r.step.item ≡ Some (Ok h.written.descriptor) = ap (λ (t : Step). t.item) (sym h.here) ∙ h.written.is in
    let g : Given = record { descriptor = h.written.descriptor; identifier = r.step.identifier; beside = r.beside; lent = loop } in
    let w : WritesBytes g (run_of loop y) = written_so g (run_of loop y) (writes.item_back loop y h r h.written.descriptor refl is (run_of loop y) _ _ (record { answer = refl; target_later = refl })) in
    record {
      reading = r;
      descriptor = h.written.descriptor;
      target = w.target;
      number = w.number;
      later = w.later;
      reads = read_item_is_met loop y.offset;
      is = is;
      writes = w.writes;
      bytes = w.bytes;
    }

all_rewritten : (loop : List ℕ) {xs : List Listed} → All (writes.Again loop) xs → Pairs (Rewrites loop) xs (map (run_of loop) xs)
all_rewritten loop none = over
all_rewritten loop (more {x = y} h hs) = pair (item_rewritten loop y h) (all_rewritten loop hs)

pub the_items_of_every_canonical_section_are_rewritten : (s : List ℕ) (x : Section) → AllBytes s → section_of s ≡ Ok x → canonical_section s ≡ true
    → Pairs (Rewrites (loop_in s x)) (items_of (loop_in s x)) (map (run_of (loop_in s x)) (items_of (loop_in s x)))
the_items_of_every_canonical_section_are_rewritten s x a e c =
    all_rewritten (loop_in s x) (writes.all_again (loop_in s x) (loop_short s x e) (writing.a_canonical_section_is_what_is_written_of_its_items s x a e c).0)
