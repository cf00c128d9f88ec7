-- What is written over C and read over C again has the words that were handed in: its components, the bytes of its views, its items. (Of the header, the command and the loop:
-- `what_is_written_over_c_has_its_words`, OverC.antt.)
use Prim.Native.Nat.{ℕ, ◌+◌, ◌≤◌}
use mathlib.Core.Bool.{true}
use mathlib.Core.List.{List}
use mathlib.Core.Path.{◌≡◌, ap, sym, subst, ◌∙◌}
use native.Mathlib.Omega.{arith}
use lib.ListN.{length, take, drop}
use lib.Seq.{take-length}
use Rattle.c_command_writer.specs.Words.{word}
use Rattle.c_command_writer.specs.declared.FlatWritten.{FlatWritten}
use Rattle.c_items.specs.declared.beside.FlatBeside.{FlatBeside}
use Rattle.c_items.specs.declared.steps.FlatStep.{FlatStep}
use Rattle.c_section.specs.Flat.{flat_view}
use Rattle.c_section.specs.FlatCommand.{flat_insert_components}
use Rattle.c_section.specs.FlatSection.{flat_section_read}
use Rattle.c_section.specs.declared.components.FlatInsertComponents.{FlatInsertComponents}
use Rattle.c_section.specs.declared.sections.FlatSection.{FlatSection}
use Rattle.canonical_form.specs.Descriptor.{canonical_descriptor}
use Rattle.command.specs.Command.{command_of, components_of}
use Rattle.section.specs.Section.{command_length, command_bytes}
use Rattle.section.specs.declared.Section.{Section}
use Rattle.table.specs.Bits.{AllBytes}
use Rattle.table.specs.Lent.{viewed}
use Rattle.theorems_reader.proofs.Sections.{loop_short}
use Rattle.theorems_reader.proofs.Theorems as reading
use Rattle.theorems_functions.specs.Flat.{taken}
use Rattle.theorems_functions.specs.Words.{command_view, SameBytes, ComponentsAgain, ItemAgain, BesideAgain}
use Rattle.theorems_functions.proofs.OverC.{ReadsSectionC, reads_section_so, ReadsItemC, reads_item_so, ReadsBesideC, reads_beside_so, ReadsComponentsC, reads_components_so, WritesSectionC, WritesDescriptorC, writes_descriptor_so, what_is_written_over_c_is_read_back, what_is_written_over_c_has_its_words}
use Rattle.theorems_functions.proofs.WordsKept as kept
use Rattle.std.proofs.Common.{Ok}

-- ---- a section

-- The components of an insert (command type 5), read of the payload that the section's answer names: as many as the command counts, and each has its three words
pub the_components_written_over_c_are_read_back : (header command components lent loop target : List ℕ) (answer : FlatWritten) (later : List ℕ) (f : FlatSection) (places : FlatInsertComponents) → AllBytes lent → AllBytes loop
    → WritesSectionC header command components lent loop target answer later → answer.refusal ≡ 0 → ReadsSectionC (take answer.«length» later) f
    → word command 1 ≡ 0x05 → ReadsComponentsC (taken (take answer.«length» later) f.payload) places → ComponentsAgain command components places
unfolding flat_section_read command_bytes
the_components_written_over_c_are_read_back header command components lent loop target answer later f places a l p z d five c =
    let b : List ℕ = take answer.«length» later in
    let w = what_is_written_over_c_is_read_back header command components lent loop target answer later a l p z in
    let x : Section = w.section.header.reading in
    let e : f ≡ flat_section_read (Ok x) = reads_section_so d ∙ ap flat_section_read w.section.header.reads in
    let v : f.payload ≡ record { at = 14; len = command_length b } = ap (λ (y : FlatSection). y.payload) e ∙ ap flat_view (reading.what_an_accepted_section_says b x w.section.header.reads).3 in
    let q : taken b f.payload ≡ command_bytes b = ap (taken b) v in
    kept.components_again command components w.own_command w.own_components lent (command_bytes b) places w.command_is_lem w.section.command five
    (reads_components_so c ∙ ap (λ (y : List ℕ). flat_insert_components (command_of 0x05 y) (components_of y)) q)

-- A private command's bytes, the command's last two words: they lie elsewhere, and are as many, and the same. (Another command has none.)
pub the_private_bytes_written_over_c_are_read_back : (header command components lent loop target : List ℕ) (answer : FlatWritten) (later : List ℕ) (f : FlatSection) → AllBytes lent → AllBytes loop
    → WritesSectionC header command components lent loop target answer later → answer.refusal ≡ 0 → ReadsSectionC (take answer.«length» later) f
    → SameBytes (take answer.«length» later) f.command.private_bytes lent (command_view command)
unfolding flat_section_read
the_private_bytes_written_over_c_are_read_back header command components lent loop target answer later f a l p z d =
    let b : List ℕ = take answer.«length» later in
    let w = what_is_written_over_c_is_read_back header command components lent loop target answer later a l p z in
    let x : Section = w.section.header.reading in
    let e : f ≡ flat_section_read (Ok x) = reads_section_so d ∙ ap flat_section_read w.section.header.reads in
    subst (λ (y : FlatSection). SameBytes b y.command.private_bytes lent (command_view command)) (sym e)
    (kept.private_again b x w.section.header.reads command components w.own_command w.own_components _ lent w.command_is_lem w.section.type w.section.command)

-- ---- an item

-- What is written of the words of an item is a canonical descriptor, so that the section writer takes a loop of such (35 is of no other)
pub what_is_written_of_an_item_over_c_is_canonical : (step beside lent target : List ℕ) (answer : FlatWritten) (later : List ℕ) → AllBytes lent → WritesDescriptorC step beside lent target answer later
    → answer.refusal ≡ 0 → canonical_descriptor (take answer.«length» later) ≡ true
what_is_written_of_an_item_over_c_is_canonical step beside lent target answer later a p z =
    let q = writes_descriptor_so p in
    kept.canonical_of step beside lent (take answer.«length» later) (kept.descriptor_written step beside lent a target answer later q.0 q.1 z).0

-- Wherever these bytes stand in a loop (of at most 4,076 bytes: refusal 2), the item that is read there has the words that were handed in, ends where they end, and has the bytes of its view; and so has
-- what stands beside it
pub an_item_written_over_c_is_read_back : (step beside lent target : List ℕ) (answer : FlatWritten) (later loop : List ℕ) (offset : ℕ) (i : FlatStep) (side : FlatBeside) → AllBytes lent
    → WritesDescriptorC step beside lent target answer later → answer.refusal ≡ 0 → length loop ≤ 4076 → take answer.«length» (drop offset loop) ≡ take answer.«length» later
    → ReadsItemC loop offset i → ReadsBesideC loop offset side → ItemAgain step lent loop (offset + answer.«length») i × BesideAgain step beside side
an_item_written_over_c_is_read_back step beside lent target answer later loop offset i side a p z fits stands r s =
    let q = writes_descriptor_so p in
    let b : List ℕ = take answer.«length» later in
    let w = kept.descriptor_written step beside lent a target answer later q.0 q.1 z in
    let here : take (length b) (drop offset loop) ≡ b = ap (λ (n : ℕ). take n (drop offset loop)) w.1 ∙ stands in (
      subst (λ (n : ℕ). ItemAgain step lent loop (offset + n) i) w.1 (kept.item_again step beside lent b w.0 loop fits offset here i (reads_item_so r)),
      kept.beside_again step beside lent b w.0 loop fits offset here side (reads_beside_so s),
    )

-- So of these bytes alone, read at offset 0
pub an_item_written_over_c_is_read_back_alone : (step beside lent target : List ℕ) (answer : FlatWritten) (later : List ℕ) (i : FlatStep) (side : FlatBeside) → AllBytes lent
    → WritesDescriptorC step beside lent target answer later → answer.refusal ≡ 0 → ReadsItemC (take answer.«length» later) 0 i → ReadsBesideC (take answer.«length» later) 0 side
    → ItemAgain step lent (take answer.«length» later) answer.«length» i × BesideAgain step beside side
an_item_written_over_c_is_read_back_alone step beside lent target answer later i side a p z r s =
    let q = writes_descriptor_so p in
    let b : List ℕ = take answer.«length» later in
    let w = kept.descriptor_written step beside lent a target answer later q.0 q.1 z in
    let fits : length b ≤ 4076 = omega (arith, kept.short_of step beside lent b w.0) in
    let n : 0 + answer.«length» ≡ answer.«length» = omega arith in
    let k = an_item_written_over_c_is_read_back step beside lent target answer later b 0 i side a p z fits (ap (λ (n : ℕ). take n b) (sym w.1) ∙ take-length b) r s in
    (subst (λ (m : ℕ). ItemAgain step lent b m i) n k.0, k.1)

-- and of a section that was written around a loop in which they stand
pub the_items_of_a_section_written_over_c_are_read_back : (header command components lent loop target : List ℕ) (answer : FlatWritten) (later : List ℕ) (f : FlatSection) → AllBytes lent → AllBytes loop
    → WritesSectionC header command components lent loop target answer later → answer.refusal ≡ 0 → ReadsSectionC (take answer.«length» later) f
    → (step beside own room : List ℕ) (wrote : FlatWritten) (bytes : List ℕ) (offset : ℕ) (i : FlatStep) (side : FlatBeside) → AllBytes own
    → WritesDescriptorC step beside own room wrote bytes → wrote.refusal ≡ 0 → take wrote.«length» (drop offset loop) ≡ take wrote.«length» bytes
    → ReadsItemC (taken (take answer.«length» later) f.descriptors) offset i → ReadsBesideC (taken (take answer.«length» later) f.descriptors) offset side
    → ItemAgain step own (taken (take answer.«length» later) f.descriptors) (offset + wrote.«length») i × BesideAgain step beside side
the_items_of_a_section_written_over_c_are_read_back header command components lent loop target answer later f a l p z d step beside own room wrote bytes offset i side o q y stands r s =
    let b : List ℕ = take answer.«length» later in
    let w = what_is_written_over_c_is_read_back header command components lent loop target answer later a l p z in
    let x : Section = w.section.header.reading in
    let here : taken b f.descriptors ≡ loop = (what_is_written_over_c_has_its_words header command components lent loop target answer later f a l p z d).loops in
    let it : viewed b x.descriptors ≡ loop = ap (viewed b) (reading.what_an_accepted_section_says b x w.section.header.reads).2 ∙ w.section.loops in
    let fits : length loop ≤ 4076 = subst (λ (k : List ℕ). length k ≤ 4076) it (loop_short b x w.section.header.reads) in
    let k = an_item_written_over_c_is_read_back step beside own room wrote bytes loop offset i side o q y fits stands
    (subst (λ (k : List ℕ). ReadsItemC k offset i) here r) (subst (λ (k : List ℕ). ReadsBesideC k offset side) here s) in
    (subst (λ (t : List ℕ). ItemAgain step own t (offset + wrote.«length») i) (sym here) k.0, k.1)
