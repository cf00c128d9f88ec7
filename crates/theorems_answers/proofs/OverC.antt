-- The same over C, of the exported functions. `ReadsHeaderC b f` is what `scte35_read_header` may answer of the bytes b that stand from its offset to the end,
-- and so on (Contracts.antt; `ReadsSectionC` and its like: theorems_functions/proofs/OverC.antt).
use Prim.Native.Nat.{ℕ, ◌+◌, ◌-◌, ◌≤◌}
use mathlib.Core.Bool.{Bool, true, false, not}
use mathlib.Core.List.{List, [], ◌∷◌}
use mathlib.Core.Path.{◌≡◌, refl, ap, sym, ◌∙◌}
use lib.Dec.{eqb, ltb}
use lib.ListN.{length, take, drop, get_or}
use Rattle.c_command_writer.specs.CommandGiven.{command_words_made}
use Rattle.c_command_writer.specs.CommandWords.{command_words}
use Rattle.c_command_writer.specs.Words.{word, same}
use Rattle.c_command_writer.specs.declared.FlatWritten.{FlatWritten}
use Rattle.c_section.specs.Flat.{flat_header_read, flat_view}
use Rattle.c_section.specs.FlatCommand.{flat_command, flat_command_read}
use Rattle.c_section.specs.FlatSection.{flat_section_read}
use Rattle.c_section.specs.declared.commands.FlatCommand.{FlatCommand}
use Rattle.c_section.specs.declared.components.FlatInsertComponents.{FlatInsertComponents}
use Rattle.c_section.specs.declared.headers.FlatHeader.{FlatHeader}
use Rattle.c_section.specs.declared.sections.FlatSection.{FlatSection}
use Rattle.c_section_writer.specs.SectionWords.{header_words}
use Rattle.canonical_form.specs.Descriptor.{canonical_loop}
use Rattle.command.specs.Command.{by_type, command_of}
use Rattle.crc.proofs.Vectors.{check_value}
use Rattle.descriptor_loop.proofs.Places.{all_into}
use Rattle.descriptor_loop.specs.Cover.{run_of}
use Rattle.descriptor_loop.specs.Items.{Listed, items_of}
use Rattle.header.specs.Header.{header_of}
use Rattle.names.proofs.Algorithms.{algorithm_laws}
use Rattle.names.proofs.Commands.{command_laws}
use Rattle.names.proofs.Segmentations.{segmentation_laws}
use Rattle.names.proofs.Upids.{upid_type_laws}
use Rattle.names.specs.Algorithm.{algorithms, algorithm_of}
use Rattle.names.specs.Command as command_names
use Rattle.names.specs.Command.{command_type_of}
use Rattle.names.specs.Flags.{network_flag, networks, network_of, return_flag, return_modes, return_of, restrictions_bits, restrictions, restrictions_of}
use Rattle.names.specs.Numbering.{class_in}
use Rattle.names.specs.Segmentation.{segmentations, segmentation_type_of}
use Rattle.names.specs.Upid.{upid_types, upid_type_of}
use Rattle.names.specs.declared.algorithm.EncryptionAlgorithm.{EncryptionAlgorithm}
use Rattle.scte35.specs.declared.numbers.FlatNumber.{FlatNumber}
use Rattle.section.proofs.Parts.{parts_of_lem}
use Rattle.section.specs.Section.{command_length, command_type, command_bytes, conditions, None}
use Rattle.section_writer.proofs.Theorems.{canonical_parts}
use Rattle.table.proofs.Structure.{bytes_take, bytes_drop}
use Rattle.table.specs.Bits.{pick, big_endian, AllBytes}
use Rattle.theorems_c.proofs.Theorems as over_c
use Rattle.theorems_c.specs.OverC.{insert_components_words}
use Rattle.theorems_functions.proofs.OverC as functions
use Rattle.theorems_functions.proofs.OverC.{ReadsSectionC, ReadsComponentsC, TellsCanonicalC, WritesSectionC, WritesDescriptorC}
use Rattle.theorems_functions.proofs.WrittenOverC as written
use Rattle.theorems_functions.specs.Flat.{taken, PutsFlat}
use Rattle.theorems_reader.proofs.CommandTypes.{unknown_is}
use Rattle.theorems_reader.proofs.Theorems as reading
use Rattle.upid.specs.Cover.{All}
use Rattle.theorems_answers.specs.Numbers.{algorithm_numbers, command_type_numbers, upid_type_numbers, segmentation_type_numbers, flag_numbers, restriction_numbers, classed, algorithm_class, or_twelve}
use Rattle.theorems_answers.specs.Words.{header_at, moved_by, PayloadOf}
use Rattle.theorems_answers.proofs.Canonical as canonical
use Rattle.theorems_answers.proofs.Commands as commands
use Rattle.theorems_answers.proofs.Contracts.{ReadsHeaderC, reads_header_c_so, ReadsCommandC, reads_command_c_so, TellsDescriptorC, tells_descriptor_c_so, TellsLoopC, tells_loop_c_so, GivesCrcC, gives_crc_c_so, WritesCommandC, writes_command_c_so, ClassifiesAlgorithm, classifies_algorithm_so, ClassifiesCommandType, classifies_command_type_so, ClassifiesUpidType, classifies_upid_type_so, ClassifiesSegmentationType, classifies_segmentation_type_so, ClassifiesNetworkIndicator, classifies_network_indicator_so, ClassifiesReturnMode, classifies_return_mode_so, ClassifiesRestrictions, classifies_restrictions_so}
use Rattle.theorems_answers.proofs.Crc.{by_crc, last_four}
use Rattle.theorems_answers.proofs.Headers.{flat_header_lem, type_there}
use Rattle.theorems_answers.proofs.Numbers.{name_classed, flag_answered}
use Rattle.std.proofs.Common.{Ok}

-- ---- the header

-- each field of its eleven bytes, and 5 of fewer (`header_at`, specs/Words.antt)
pub a_header_over_c_is_that_of_its_bytes : (b : List ℕ) (f : FlatHeader) → ReadsHeaderC b f → f ≡ header_at b
a_header_over_c_is_that_of_its_bytes b f d = reads_header_c_so d ∙ flat_header_lem b

-- the words that are read of an accepted section
flat_read : (s : List ℕ) (f : FlatSection) (d : ReadsSectionC s f) (z : f.refusal ≡ 0) → f ≡ flat_section_read (Ok (functions.accepted s f d z).section)
flat_read s f d z = functions.reads_section_so d ∙ ap flat_section_read (functions.accepted s f d z).is

header_of_lem : (s : List ℕ) (f : FlatSection) → ReadsSectionC s f → f.refusal ≡ 0 → f.header ≡ flat_header_read (header_of (drop 3 s))
unfolding flat_section_read flat_header_read
header_of_lem s f d z =
    let x = functions.accepted s f d z in
    ap (λ (v : FlatSection). v.header) (flat_read s f d z) ∙ sym (ap flat_header_read (reading.what_an_accepted_section_says s x.section x.is).0)

-- and of a section that `scte35_read_section` accepts it is the section's, which begins at byte 3
pub the_header_over_c_is_that_of_the_section : (s : List ℕ) (f : FlatSection) (h : FlatHeader) → ReadsSectionC s f → f.refusal ≡ 0 → ReadsHeaderC (drop 3 s) h → h ≡ f.header
the_header_over_c_is_that_of_the_section s f h d z e = reads_header_c_so e ∙ sym (header_of_lem s f d z)

-- ---- the command

-- called with the type and the payload that `scte35_read_section` answers, it answers the section's command, but that its private bytes are counted from the
-- payload's first byte
pub the_command_over_c_is_that_of_the_section : (s : List ℕ) (f : FlatSection) (c : FlatCommand) → AllBytes s → ReadsSectionC s f → f.refusal ≡ 0
    → ReadsCommandC f.header.splice_command_type (taken s f.payload) c → f.command ≡ moved_by 14 c
unfolding flat_section_read command_bytes flat_command_read
the_command_over_c_is_that_of_the_section s f c a d z e =
    let x = functions.accepted s f d z in
    let p = parts_of_lem s x.section x.is in
    let k : f.header.splice_command_type ≡ command_type s =
    ap (λ (v : FlatHeader). v.splice_command_type) (header_of_lem s f d z ∙ flat_header_lem (drop 3 s)) ∙ type_there s a p.long in
    let v : f.payload ≡ record { at = 14; len = command_length s } = ap (λ (y : FlatSection). y.payload) (flat_read s f d z) ∙ ap flat_view p.payload in
    let b : taken s f.payload ≡ command_bytes s = ap (taken s) v in
    let own : c ≡ flat_command p.own =
    reads_command_c_so e ∙ ap (λ (n : ℕ). flat_command_read (command_of n (taken s f.payload))) k ∙ ap (λ (l : List ℕ). flat_command_read (command_of (command_type s) l)) b ∙ ap flat_command_read p.command in
    ap (λ (y : FlatSection). y.command) (flat_read s f d z) ∙ ap flat_command p.moves ∙ commands.moved_flat p.own ∙ sym (ap (moved_by 14) own)

-- its refusal is the section's, where none of 1 to 9 applies
pub a_section_over_c_is_refused_as_its_command : (s : List ℕ) (f : FlatSection) (c : FlatCommand) → ReadsSectionC s f → ReadsCommandC (command_type s) (command_bytes s) c → None (take 9 (conditions s))
    → f.refusal ≡ c.refusal
a_section_over_c_is_refused_as_its_command s f c d e n =
    functions.scte35_read_section_refuses_in_order s f d ∙ commands.as_its_command s n
    ∙ sym (ap (λ (v : FlatCommand). v.refusal) (reads_command_c_so e) ∙ commands.flat_number (command_of (command_type s) (command_bytes s)))

-- and 10 exactly of a type that is "none of 0x00, 0x05, 0x06, 0x07, 0xFF", whatever the payload
pub a_command_over_c_is_refused_with_10_by_its_type : (k : ℕ) (p : List ℕ) (c : FlatCommand) → ReadsCommandC k p c → eqb c.refusal 10 ≡ by_type k false false false false false true
a_command_over_c_is_refused_with_10_by_its_type k p c d =
    ap (λ (v : FlatCommand). eqb v.refusal 10) (reads_command_c_so d) ∙ ap (λ (n : ℕ). eqb n 10) (commands.flat_number (command_of k p)) ∙ unknown_is k p

-- ---- the writer of commands

-- what is written of the words of a command and of its components is the command of the section that `scte35_write_section_words` writes of them, of any words
pub a_command_over_c_is_written_as_in_its_section : (header words components lent loop room : List ℕ) (w : FlatWritten) (section target : List ℕ) (answer : FlatWritten) (later : List ℕ) → AllBytes lent → AllBytes loop
    → WritesSectionC header words components lent loop room w section → w.refusal ≡ 0 → WritesCommandC words components lent target answer later
    → PutsFlat (command_bytes (take w.«length» section)) target answer later
a_command_over_c_is_written_as_in_its_section header words components lent loop room w section target answer later a l d z p =
    let v = functions.writes_section_so d in
    let m = written.section_bytes header words components lent loop room w section a l v.0 v.1 z in
    let q = writes_command_c_so p in
    functions.puts_flat _ _ target answer later (commands.command_words_lem words components lent a header loop l _ m) q.0 q.1

-- so of a canonical section: the words that are read of its command and of its components, written, are its command's bytes
pub the_command_of_a_canonical_section_over_c_is_written_back : (s : List ℕ) (f : FlatSection) (places : FlatInsertComponents) (target : List ℕ) (answer : FlatWritten) (later : List ℕ) → AllBytes s
    → TellsCanonicalC s true → ReadsSectionC s f → f.refusal ≡ 0 → ReadsComponentsC (drop 14 (take (14 + command_length s) s)) places
    → WritesCommandC (command_words f.command) (insert_components_words places) s target answer later → PutsFlat (command_bytes s) target answer later
the_command_of_a_canonical_section_over_c_is_written_back s f places target answer later a t d z c p =
    let l : AllBytes (taken s f.descriptors) = bytes_take f.descriptors.len (drop f.descriptors.at s) (bytes_drop f.descriptors.at s a) in
    let q = writes_command_c_so p in
    functions.puts_flat _ (command_bytes s) target answer later
    (commands.command_words_lem (command_words f.command) (insert_components_words places) s a (header_words f.header) (taken s f.descriptors) l s (functions.made_of_its_words s f places a t d z c)) q.0 q.1

-- what was written of any words is a canonical payload of the command whose words they are
pub what_is_written_of_a_command_over_c_is_read_back : (words components lent target : List ℕ) (answer : FlatWritten) (later : List ℕ) → AllBytes lent → WritesCommandC words components lent target answer later
    → answer.refusal ≡ 0 → PayloadOf words components lent (take answer.«length» later)
what_is_written_of_a_command_over_c_is_read_back words components lent target answer later a p z =
    let q = writes_command_c_so p in
    commands.payload_words words components lent a _ (written.written_bytes (command_words_made words components lent) target answer later (commands.words_some words components lent a) q.0 q.1 z)

-- and read over C, by the type that its second word is, it has these words again, but for where its private bytes lie
pub what_is_written_of_a_command_over_c_has_its_words : (words components lent target : List ℕ) (answer : FlatWritten) (later : List ℕ) (f : FlatCommand) → AllBytes lent
    → WritesCommandC words components lent target answer later → answer.refusal ≡ 0 → ReadsCommandC (word words 1) (take answer.«length» later) f
    → (f.refusal ≡ 0) × (same (take 19 (command_words f)) words ≡ true)
what_is_written_of_a_command_over_c_has_its_words words components lent target answer later f a p z d =
    let w = what_is_written_of_a_command_over_c_is_read_back words components lent target answer later a p z in
    let e : f ≡ flat_command_read (Ok w.payload.again) = reads_command_c_so d ∙ commands.payload_again_lem words components lent _ w in (
      ap (λ (v : FlatCommand). v.refusal) e ∙ commands.flat_number (Ok w.payload.again),
      ap (λ (v : FlatCommand). same (take 19 (command_words v)) words) e ∙ commands.words_again words components lent _ w,
    )

-- ---- named numbers

other_algorithm_lem : (n : ℕ) → class_in algorithms (algorithms.others n) ≡ algorithm_class n
other_algorithm_lem n = go (ltb n 32)
  where
    go : (b : Bool) → class_in algorithms (pick b (EncryptionAlgorithm.Reserved n) (EncryptionAlgorithm.Private n)) ≡ pick b 1 2
    go true = refl
    go false = refl

-- each number is answered with itself, and its class goes by a plain list of the numbers that have a name (specs/Numbers.antt)
pub named_numbers_over_c_go_by_their_lists : (n : ℕ) (f : FlatNumber) → (ClassifiesAlgorithm n f → f ≡ classed algorithm_numbers (algorithm_class n) n) × (ClassifiesCommandType n f → f ≡ classed command_type_numbers 1 n)
    × (ClassifiesUpidType n f → f ≡ classed upid_type_numbers 1 n) × (ClassifiesSegmentationType n f → f ≡ classed segmentation_type_numbers 1 n)
unfolding algorithm_of command_type_of upid_type_of segmentation_type_of
named_numbers_over_c_go_by_their_lists n f = (
  λ d. classifies_algorithm_so d ∙ name_classed algorithms n algorithm_numbers (algorithm_class n) refl refl (other_algorithm_lem n) (algorithm_laws.there n),
  λ d. classifies_command_type_so d ∙ name_classed command_names.commands n command_type_numbers 1 refl refl refl (command_laws.there n),
  λ d. classifies_upid_type_so d ∙ name_classed upid_types n upid_type_numbers 1 refl refl refl (upid_type_laws.there n),
  λ d. classifies_segmentation_type_so d ∙ name_classed segmentations n segmentation_type_numbers 1 refl refl refl (segmentation_laws.there n),
)

-- flags and restrictions: the number itself, and 12 of any other
pub flags_over_c_go_by_their_lists : (n : ℕ) (f : FlatNumber) → (ClassifiesNetworkIndicator n f → f ≡ or_twelve flag_numbers n) × (ClassifiesReturnMode n f → f ≡ or_twelve flag_numbers n)
    × (ClassifiesRestrictions n f → f ≡ or_twelve restriction_numbers n)
unfolding network_of return_of restrictions_of
flags_over_c_go_by_their_lists n f = (
  λ d. classifies_network_indicator_so d ∙ flag_answered network_flag networks n,
  λ d. classifies_return_mode_so d ∙ flag_answered return_flag return_modes n,
  λ d. classifies_restrictions_so d ∙ flag_answered restrictions_bits restrictions n,
)

-- ---- the canonical form of the parts

-- the loop of a section that `scte35_is_canonical_section` calls canonical is canonical
pub the_loop_of_a_canonical_section_over_c_is_canonical : (s : List ℕ) (f : FlatSection) (r : Bool) → TellsCanonicalC s true → ReadsSectionC s f → f.refusal ≡ 0 → TellsLoopC (taken s f.descriptors) r → r ≡ true
the_loop_of_a_canonical_section_over_c_is_canonical s f r t d z e =
    let x = functions.accepted s f d z in
    tells_loop_c_so e ∙ ap canonical_loop (x.loop ∙ functions.laid_loop s x.section x.is) ∙ (canonical_parts s (sym (functions.tells_canonical_so t))).loop

-- A loop is canonical exactly if each of its items is a canonical descriptor
pub the_items_of_a_canonical_loop_over_c_are_canonical : (loop : List ℕ) → length loop ≤ 4076 → TellsLoopC loop true
    → All (λ (y : Listed). (r : Bool) → TellsDescriptorC (run_of loop y) r → r ≡ true) (items_of loop)
the_items_of_a_canonical_loop_over_c_are_canonical loop fits t = all_into (λ y c r d. tells_descriptor_c_so d ∙ c) (canonical.items_canonical loop fits (sym (tells_loop_c_so t)))

pub a_loop_of_canonical_items_over_c_is_canonical : (loop : List ℕ) (r : Bool) → length loop ≤ 4076 → All (λ (y : Listed). TellsDescriptorC (run_of loop y) true) (items_of loop) → TellsLoopC loop r → r ≡ true
a_loop_of_canonical_items_over_c_is_canonical loop r fits all d = tells_loop_c_so d ∙ canonical.canonical_items loop fits (all_into (λ y t. sym (tells_descriptor_c_so t)) all)

-- what `scte35_write_descriptor_words` wrote is a canonical descriptor
pub what_is_written_of_a_descriptor_over_c_is_canonical : (step beside lent target : List ℕ) (answer : FlatWritten) (later : List ℕ) (r : Bool) → AllBytes lent
    → WritesDescriptorC step beside lent target answer later → answer.refusal ≡ 0 → TellsDescriptorC (take answer.«length» later) r → r ≡ true
what_is_written_of_a_descriptor_over_c_is_canonical step beside lent target answer later r a p z d =
    let w = functions.writes_descriptor_so p in
    let k = over_c.descriptor_words_are_answered step beside lent in
    tells_descriptor_c_so d ∙ canonical.words_canonical step beside lent a k _ (written.written_bytes _ target answer later (canonical.words_some step beside lent a k) w.0 w.1 z)

-- ---- the CRC

-- refusal 4 is that `scte35_crc` of the whole section is not 0, where none of 1 to 3 applies
pub a_section_over_c_is_refused_with_4_by_its_crc : (s : List ℕ) (f : FlatSection) (n : ℕ) → ReadsSectionC s f → GivesCrcC s n → 3 ≤ length s → length s ≤ 4096 → get_or s 0 0 ≡ 0xfc
    → eqb f.refusal 4 ≡ not (eqb n 0)
a_section_over_c_is_refused_with_4_by_its_crc s f n d e three most table =
    ap (λ (k : ℕ). eqb k 4) (functions.scte35_read_section_refuses_in_order s f d) ∙ by_crc s three most table ∙ ap (λ (k : ℕ). not (eqb k 0)) (sym (gives_crc_c_so e))

-- so the last four bytes of an accepted section are that of the bytes before them, the highest first
pub the_last_four_bytes_over_c_are_the_crc : (s : List ℕ) (f : FlatSection) (n : ℕ) → AllBytes s → ReadsSectionC s f → f.refusal ≡ 0 → GivesCrcC (take (length s - 4) s) n
    → drop (length s - 4) s ≡ big_endian 4 n
the_last_four_bytes_over_c_are_the_crc s f n a d z e =
    let x = functions.accepted s f d z in
    last_four s x.section a x.is ∙ ap (big_endian 4) (sym (gives_crc_c_so e))

-- ISO/IEC 13818-1's register on "123456789"
pub the_check_value_over_c : (n : ℕ) → GivesCrcC (49 ∷ 50 ∷ 51 ∷ 52 ∷ 53 ∷ 54 ∷ 55 ∷ 56 ∷ 57 ∷ []) n → n ≡ 0x0376_E6E7
the_check_value_over_c n d = gives_crc_c_so d ∙ check_value
