-- Worked sections, and each refusal of an item and of a UPID by its own words. A reader needs the specs of this crate beside this file. (Those of a section, 1 to 11: theorems/proofs/Theorems.antt,
-- `refusals_1_to_11_in_order`; of an adjusted time, 32: `numbers_of_34_bits_are_not_adjusted` there; of a short target, 36, of the writers: `Puts` in theorems_functions.)
use Prim.Native.Nat.{ℕ, ◌+◌, ◌-◌, ◌/◌, ◌≤◌, ◌<◌}
use mathlib.Core.Bool.{true, false}
use mathlib.Core.List.{List, [], ◌∷◌, ◌++◌}
use mathlib.Core.Path.{◌≡◌, refl, sym, ◌∙◌}
use native.Mathlib.Omega.{arith}
use lib.ListN.{length, take, drop, get_or, replicate}
use lib.Dec.{eqb}
use borrow.Author.Tests.{ne_eqb, le-leb, lt-leb}
use Rattle.bit_stores.specs.Written.{answer_of, later_of}
use Rattle.command.specs.Command.{command_of, components_of, private}
use Rattle.command.specs.Insert.{WithComponents, insert}
use Rattle.command.specs.declared.Private.{Private}
use Rattle.command.specs.declared.SpliceCommand.{SpliceCommand}
use Rattle.command.specs.declared.insert.SpliceInsert.{SpliceInsert}
use Rattle.descriptor.proofs.Plains.{avail_short, avail_is, time_short, time_is, reserved_is}
use Rattle.descriptor.specs.Descriptor.{cuei, descriptor_of, is_cuei}
use Rattle.descriptor.specs.Plain.{dtmf}
use Rattle.descriptor.specs.Full.{blank_beside}
use Rattle.descriptor.specs.declared.Descriptor.{Descriptor}
use Rattle.descriptor.specs.declared.plain.DTMFDescriptor.{DTMFDescriptor}
use Rattle.header.proofs.Headers.{header_refused, header_there}
use Rattle.header.specs.Header.{header_of}
use Rattle.header.specs.declared.header.SpliceInfoHeader.{SpliceInfoHeader}
use Rattle.descriptor_loop.specs.Cover.{Ends}
use Rattle.descriptor_loop.specs.Items.{step_of, reading_of, complete_at}
use Rattle.descriptor_loop.specs.declared.ItemRefusal.{ItemRefusal}
use Rattle.names.specs.Flags.{Answer, network_of, return_of, restrictions_of}
use Rattle.names.specs.declared.flags.DeviceRestrictions.{DeviceRestrictions}
use Rattle.names.specs.declared.flags.NetworkIndicator.{NetworkIndicator}
use Rattle.names.specs.declared.flags.ReturnMode.{ReturnMode}
use Rattle.section.specs.Section.{command_type, command_bytes, loop_bytes, malformed_command, section_of, loop_length, number_of}
use Rattle.section.specs.declared.Section.{Section}
use Rattle.canonical_form.specs.Section.{canonical_section}
use Rattle.splice_time.specs.Time.{splice_time}
use Rattle.splice_time.specs.declared.SpliceTime.{SpliceTime}
use Rattle.table.specs.Bits.{bits_of, field, AllBytes}
use Rattle.table.specs.Table.{got, short, parse}
use Rattle.table.specs.Writing.{made}
use Rattle.canonical_form.specs.Same.{SameSections}
use Rattle.theorems_reader.proofs.Theorems.{the_section_length_is_not_tested}
use Rattle.theorems_reader.specs.Around.{Around}
use Rattle.theorems_rows.specs.Examples.{EmptyCommand, Identified, splice_null, eight, twelve, both, eight_and_twelve}
use Rattle.upid.specs.Cover.{All}
use Rattle.upid.specs.Text.{text_of}
use Rattle.upid.specs.Upid.{check_of, read_of, length_of, reported_of}
use Rattle.upid.specs.declared.Refusal.{Refusal}
use Rattle.theorems_rows.specs.Refusals.{StepRefused, end_number, end_values, UpidRefused, kind_of, fixed_lengths, texts, plain_lengths}
use Rattle.theorems_rows.specs.Sections.{eighteen, nineteen, insert_section, other_insert_section, longer_insert_section, every_identifier, anothers_avail, every_descriptor, every_command}
use Rattle.theorems_rows.specs.Payloads.{SegmentationReads, UnrefusedAt, MidReads, part_read, kinds_of}
use Rattle.theorems_rows.specs.Rows.{Holds, rows}
use Rattle.header.specs.Header as header
use Rattle.theorems_rows.proofs.Mids as mids
use Rattle.theorems_rows.proofs.Payloads as payloads
use Rattle.theorems_rows.proofs.Refusals as refusals
use Rattle.theorems_rows.proofs.Worked as worked
use Rattle.theorems_rows.proofs.RowsHold as rows_hold
use Rattle.theorems_rows.proofs.Examples as examples
use Rattle.std.proofs.Common.{Ok, Err, Some, None, Result}
use Rattle.command.specs.declared.CommandRefusal.{CommandRefusal}

-- ---- worked sections

-- there are sections of which "18 and 19 bytes give 8" speaks
pub there_are_sections_of_18_and_19_bytes : (EmptyCommand eighteen × (length eighteen ≡ 18)) × (EmptyCommand nineteen × (length nineteen ≡ 19))
there_are_sections_of_18_and_19_bytes = (worked.eighteen_is_one, worked.nineteen_is_one)

-- all identifiers of a section that has every kind of them, in order: private bytes, DTMF, an EIDR, a reserved descriptor's bytes and identifier, a MID, the MID in it, its part, and the text of refusal 24
pub all_identifiers_of_a_section : Identified every_identifier (
    record { start = 18; len = 3; bytes = 0x01 ∷ 0x02 ∷ 0x03 ∷ [] }
    ∷ record { start = 31; len = 1; bytes = 0x34 ∷ [] }
    ∷ record { start = 46; len = 12; bytes = 0x10 ∷ 0x11 ∷ 0x12 ∷ 0x13 ∷ 0x14 ∷ 0x15 ∷ 0x16 ∷ 0x17 ∷ 0x18 ∷ 0x19 ∷ 0x1A ∷ 0x1B ∷ [] }
    ∷ record { start = 67; len = 2; bytes = 0xAA ∷ 0xBB ∷ [] }
    ∷ record { start = 63; len = 4; bytes = 0x41 ∷ 0x42 ∷ 0x43 ∷ 0x44 ∷ [] }
    ∷ record { start = 83; len = 6; bytes = 0x0D ∷ 0x04 ∷ 0x01 ∷ 0x02 ∷ 0xAA ∷ 0xBB ∷ [] }
    ∷ record { start = 85; len = 4; bytes = 0x01 ∷ 0x02 ∷ 0xAA ∷ 0xBB ∷ [] }
    ∷ record { start = 87; len = 2; bytes = 0xAA ∷ 0xBB ∷ [] }
    ∷ record { start = 106; len = 12; bytes = 0xFF ∷ 0x41 ∷ 0x42 ∷ 0x43 ∷ 0x44 ∷ 0x31 ∷ 0x32 ∷ 0x33 ∷ 0x34 ∷ 0x35 ∷ 0x36 ∷ 0x37 ∷ [] } ∷ [])
all_identifiers_of_a_section = worked.every_identifier_lem

-- "equal readings, only the first canonical": row m's inserts as sections are two, and have equal readings
pub two_sections_with_equal_readings : (x : Section) × (y : Section) × (section_of insert_section ≡ Ok x) × (section_of other_insert_section ≡ Ok y)
    × SameSections insert_section x other_insert_section y × (insert_section ≡ other_insert_section → ⊥)
two_sections_with_equal_readings = (worked.insert_reading, worked.insert_reading, worked.insert_read_lem, worked.other_insert_read, worked.same_insert, worked.other_bytes_lem)

-- there are two sections that differ in section_length only: they are other bytes, and read as one
pub two_sections_with_other_lengths : (others : List ℕ) × Around 0xFC others insert_section × Around 0xFC others longer_insert_section × (insert_section ≡ longer_insert_section → ⊥)
    × (x : Section) × (section_of longer_insert_section ≡ Ok x)
two_sections_with_other_lengths = (
  worked.insert_others,
  worked.its_length,
  worked.longer,
  worked.another_length,
  worked.insert_reading,
  the_section_length_is_not_tested 0xFC worked.insert_others longer_insert_section insert_section worked.longer worked.its_length ∙ worked.insert_read_lem,
)

-- there is a canonical section with an insert by components and every kind of descriptor
pub a_canonical_section_with_every_descriptor : canonical_section every_descriptor ≡ true
a_canonical_section_with_every_descriptor = worked.every_descriptor_canonical

-- which are these, in order: avail, DTMF, segmentation, a cancelled one, time, reserved; the insert has two components, and the first segmentation one
pub the_descriptors_of_that_section : (kinds_of every_descriptor ≡ 0 ∷ 1 ∷ 2 ∷ 2 ∷ 3 ∷ 4 ∷ []) × (command_type every_descriptor ≡ 0x05)
    × (take 2 (components_of (command_bytes every_descriptor)) ≡ record { component_tag = 1; splice_time = SpliceTime.At 90000 } ∷ record { component_tag = 2; splice_time = SpliceTime.At 90001 } ∷ [])
    × (take 1 (reading_of (loop_bytes every_descriptor) 19).beside.components ≡ record { component_tag = 5; pts_offset = 7 } ∷ [])
the_descriptors_of_that_section = (worked.every_kind, (worked.its_insert).0, (worked.its_insert).1, worked.its_components)

-- and one with each other command (a time_signal: `the_section_with_eight_and_twelve_is_canonical`)
pub canonical_sections_with_every_command : All (λ (c : List ℕ × ℕ). (canonical_section c.0 ≡ true) × (command_type c.0 ≡ c.1)) every_command
canonical_sections_with_every_command = worked.every_command_canonical

-- ---- 5: "a header alone under 11, its only refusal"

pub a_header_under_11_bytes_is_refused_with_5 : (s : List ℕ) → length s < 11 → (header_of s ≡ None) × (header.number_of (header_of s) ≡ 5)
a_header_under_11_bytes_is_refused_with_5 s h = (header_refused s h, rw (header_refused s h))

pub any_other_header_is_read : (s : List ℕ) → 11 ≤ length s → (x : SpliceInfoHeader) × (header_of s ≡ Some x)
any_other_header_is_read = header_there

-- ---- 11: "command payload malformed": where the table of the command's type does not read the payload, and nowhere else; a null and a reservation have none

pub a_command_is_malformed_where_its_table_lacks_bytes : (payload : List ℕ) (expected actual : ℕ)
    → (parse insert (bits_of payload) 0 ≡ short expected actual → command_of 0x05 payload ≡ Err CommandRefusal.Malformed)
    × (parse splice_time (bits_of payload) 0 ≡ short expected actual → command_of 0x06 payload ≡ Err CommandRefusal.Malformed)
    × (parse private (bits_of payload) 0 ≡ short expected actual → command_of 0xff payload ≡ Err CommandRefusal.Malformed)
    × (0 < length payload → (command_of 0x00 payload ≡ Err CommandRefusal.Malformed) × (command_of 0x07 payload ≡ Err CommandRefusal.Malformed))
unfolding command_of
a_command_is_malformed_where_its_table_lacks_bytes payload expected actual =
    (λ e. rw e, λ e. rw e, λ e. rw e, λ h. let z : eqb (length payload) 0 ≡ false = ne_eqb (length payload) 0 (λ e. omega arith) in (rw z, rw z))

pub a_command_that_its_table_reads_is_read : (payload : List ℕ) (end : ℕ)
    → ((x : WithComponents SpliceInsert) → parse insert (bits_of payload) 0 ≡ got x end → command_of 0x05 payload ≡ Ok (SpliceCommand.SpliceInsert x.value))
    × ((t : SpliceTime) → parse splice_time (bits_of payload) 0 ≡ got t end → command_of 0x06 payload ≡ Ok (SpliceCommand.TimeSignal t))
    × ((p : Private) → parse private (bits_of payload) 0 ≡ got p end → command_of 0xff payload ≡ Ok (SpliceCommand.PrivateCommand p))
    × (command_of 0x00 [] ≡ Ok SpliceCommand.SpliceNull) × (command_of 0x07 [] ≡ Ok SpliceCommand.BandwidthReservation)
unfolding command_of
a_command_that_its_table_reads_is_read payload end = (λ x e. rw e, λ t e. rw e, λ p e. rw e, refl, refl)

-- condition 11 of a section is that of its command's bytes
pub condition_11_is_of_the_command : (s : List ℕ) → (command_of (command_type s) (command_bytes s) ≡ Err CommandRefusal.Malformed → malformed_command s ≡ true)
    × (malformed_command s ≡ true → command_of (command_type s) (command_bytes s) ≡ Err CommandRefusal.Malformed)
condition_11_is_of_the_command s = (λ e. rw e, λ e. refusals.malformed_only (command_of (command_type s) (command_bytes s)) e)

-- ---- 12: "a flag number over 1 or a restriction number over 3"

pub flags_over_1_are_refused_with_12 : (n : ℕ) → 1 < n → (network_of n ≡ Answer.refuses 12 []) × (return_of n ≡ Answer.refuses 12 []) × (3 < n → restrictions_of n ≡ Answer.refuses 12 [])
unfolding network_of return_of restrictions_of
flags_over_1_are_refused_with_12 n h =
    let a : eqb n 0 ≡ false = ne_eqb n 0 (λ e. omega arith) in
    let b : eqb n 1 ≡ false = ne_eqb n 1 (λ e. omega arith) in
    (rw (a, b), rw (a, b), λ g. rw (a, b, ne_eqb n 2 (λ e. omega arith), ne_eqb n 3 (λ e. omega arith)))

-- and no other number is
pub flags_of_one_bit_are_read : (network_of 0 ≡ Answer.gives NetworkIndicator.In) × (network_of 1 ≡ Answer.gives NetworkIndicator.Out) × (return_of 0 ≡ Answer.gives ReturnMode.Manual)
    × (return_of 1 ≡ Answer.gives ReturnMode.Automatic) × (restrictions_of 0 ≡ Answer.gives DeviceRestrictions.RestrictGroup0) × (restrictions_of 1 ≡ Answer.gives DeviceRestrictions.RestrictGroup1)
    × (restrictions_of 2 ≡ Answer.gives DeviceRestrictions.RestrictGroup2) × (restrictions_of 3 ≡ Answer.gives DeviceRestrictions.None)
unfolding network_of return_of restrictions_of
flags_of_one_bit_are_read = (refl, refl, refl, refl, refl, refl, refl, refl)

-- ---- "Loop items": each rule, with its number, its values in order, and the next offset

-- 2: "loop over 4,076"
pub a_loop_over_4076_bytes_is_refused_with_2 : (loop : List ℕ) (offset : ℕ) → 4076 < length loop → StepRefused (step_of loop offset) 2 [] (length loop)
a_loop_over_4076_bytes_is_refused_with_2 = refusals.refusal_2

-- "At or past the end it says so, next offset the length"
pub at_or_past_the_end_it_says_so : (loop : List ℕ) (offset : ℕ) → length loop ≤ 4076 → length loop ≤ offset → ((step_of loop offset).item ≡ None) × ((step_of loop offset).next ≡ length loop)
at_or_past_the_end_it_says_so = refusals.at_the_end

-- "R from 1 to 5: refusal 21 (2, 0); the loop ends, next offset its length"
pub one_to_five_bytes_are_refused_with_21 : (loop : List ℕ) (offset : ℕ) → length loop ≤ 4076 → offset < length loop → length loop - offset ≤ 5 → StepRefused (step_of loop offset) 21 (2 ∷ 0 ∷ []) (length loop)
one_to_five_bytes_are_refused_with_21 = refusals.few_left

-- "R at least 6, length L, L + 2 > R: 21 (L + 2, 0); ends"
pub an_item_that_does_not_fit_is_refused_with_21 : (loop : List ℕ) (offset : ℕ) → length loop ≤ 4076 → offset + 6 ≤ length loop → length loop - offset < get_or loop (offset + 1) 0 + 2
    → StepRefused (step_of loop offset) 21 ((get_or loop (offset + 1) 0 + 2) ∷ 0 ∷ []) (length loop)
an_item_that_does_not_fit_is_refused_with_21 = refusals.too_long_for_the_rest

-- "L = 255 that fits: 22; ends"
pub an_item_of_255_bytes_is_refused_with_22 : (loop : List ℕ) (offset : ℕ) → length loop ≤ 4076 → offset + 6 ≤ length loop → get_or loop (offset + 1) 0 + 2 ≤ length loop - offset
    → 254 < get_or loop (offset + 1) 0 → StepRefused (step_of loop offset) 22 [] (length loop)
an_item_of_255_bytes_is_refused_with_22 = refusals.length_255

-- and so the refusal that takes the rest of a loop, whichever rule ends it, is 21 or 22 with the rule's values (`TakesRest` of theorems/proofs/Theorems.antt)
pub an_ending_refusal_is_21_or_22 : (loop : List ℕ) (offset : ℕ) → length loop ≤ 4076 → (e : Ends (drop offset loop))
    → StepRefused (step_of loop offset) (end_number e) (end_values e) (length loop)
an_ending_refusal_is_21_or_22 = refusals.ending

-- there are loops that end by each rule: one byte left, an item of six bytes that says 9, one that says 255 and has them
pub there_are_loops_that_end : (few : Ends (0x00 ∷ [])) × (over : Ends (0x02 ∷ 0x09 ∷ 0x43 ∷ 0x55 ∷ 0x45 ∷ 0x49 ∷ [])) × (full : Ends (0x02 ∷ 0xFF ∷ replicate 255 0))
    × (end_values few ≡ 2 ∷ 0 ∷ []) × (end_values over ≡ 11 ∷ 0 ∷ []) × (end_number full ≡ 22)
there_are_loops_that_end = refusals.loops_that_end

-- "L from 0 to 3: 21 (6, L + 2); the next item follows after L + 2 bytes"
pub an_item_under_4_bytes_is_refused_with_21 : (loop : List ℕ) (offset : ℕ) → length loop ≤ 4076 → offset + 6 ≤ length loop → get_or loop (offset + 1) 0 + 2 ≤ length loop - offset
    → get_or loop (offset + 1) 0 ≤ 3 → StepRefused (step_of loop offset) 21 (6 ∷ (get_or loop (offset + 1) 0 + 2) ∷ []) (offset + (get_or loop (offset + 1) 0 + 2))
an_item_under_4_bytes_is_refused_with_21 = refusals.length_below_4

-- "Else tag, L, identifier of 4; the descriptor's payload is handed to its reader as a part of L - 4 bytes": no other item is refused by the loop
pub any_other_item_is_read_by_its_descriptor : (loop : List ℕ) (offset : ℕ) → length loop ≤ 4076 → offset + 6 ≤ length loop → get_or loop (offset + 1) 0 + 2 ≤ length loop - offset
    → 4 ≤ get_or loop (offset + 1) 0 → get_or loop (offset + 1) 0 ≤ 254 → step_of loop offset ≡ complete_at loop offset (get_or loop (offset + 1) 0)
any_other_item_is_read_by_its_descriptor = refusals.else_read

-- a refusal is no reading: of whatever refused item, components, EIDR and identifier are blank
pub nothing_stands_beside_a_refused_item : (loop : List ℕ) (offset : ℕ) (r : ItemRefusal) → (step_of loop offset).item ≡ Some (Err r)
    → ((reading_of loop offset).beside ≡ blank_beside) × ((step_of loop offset).identifier ≡ replicate 4 0)
nothing_stands_beside_a_refused_item = refusals.nothing_beside

-- ---- the kind is what tag and identifier say

-- "Identifier "CUEI", by tag: 0 avail, 1 DTMF, 2 segmentation, 3 time": what is read is of that kind
pub a_descriptor_of_cuei_is_of_its_tag : (s : List ℕ) (tag : ℕ) (d : Descriptor) → tag ≤ 3 → descriptor_of tag cuei s ≡ Ok d → kind_of d ≡ tag
a_descriptor_of_cuei_is_of_its_tag = refusals.cuei_kind

-- "Other tags or identifiers: reserved, with tag, identifier and bytes": never refused, and with all bytes
pub another_tag_is_reserved : (s : List ℕ) (tag : ℕ) (id : List ℕ) → 3 < tag → descriptor_of tag id s ≡ Ok (Descriptor.Reserved tag (record { at = 0; len = length s }))
another_tag_is_reserved s tag id h = refusals.other_tag s tag id h ∙ sym (reserved_is s tag)

pub another_identifier_is_reserved : (s : List ℕ) (tag a b c d : ℕ) → (a ≡ 0x43 → b ≡ 0x55 → c ≡ 0x45 → d ≡ 0x49 → ⊥)
    → descriptor_of tag (a ∷ b ∷ c ∷ d ∷ []) s ≡ Ok (Descriptor.Reserved tag (record { at = 0; len = length s }))
another_identifier_is_reserved s tag a b c d h = refusals.other_identifier s tag a b c d h ∙ sym (reserved_is s tag)

-- "0 avail: 32 bits. Shorter: 21 (4, actual)"
pub an_avail_is_read_of_4_bytes : (s : List ℕ) → (length s < 4 → descriptor_of 0 cuei s ≡ Err (Refusal.NotEnoughData 4 (length s)))
    × (4 ≤ length s → descriptor_of 0 cuei s ≡ Ok (Descriptor.Avail (record { provider_avail_id = field (bits_of s) 0 32 })))
unfolding descriptor_of is_cuei
an_avail_is_read_of_4_bytes s = (λ h. sym (avail_short s h), λ h. sym (avail_is s _ h refl))

-- "3 time: seconds 48, nanoseconds 32, offset 16. Shorter: 21 (12, actual)"
pub a_time_is_read_of_12_bytes : (s : List ℕ) → (length s < 12 → descriptor_of 3 cuei s ≡ Err (Refusal.NotEnoughData 12 (length s)))
    × (12 ≤ length s → descriptor_of 3 cuei s
    ≡ Ok (Descriptor.Time (record { tai_seconds = field (bits_of s) 0 48; tai_nanoseconds = field (bits_of s) 48 32; utc_offset = field (bits_of s) 80 16 })))
unfolding descriptor_of is_cuei
a_time_is_read_of_12_bytes s = (λ h. sym (time_short s h), λ h. sym (time_is s _ _ _ h refl refl refl))

-- "1 DTMF: preroll 8, count 3, reserved 5, count bytes": 21 where its table lacks bytes of a field, w/8 and m/8 of it; and so by bytes. Else it is read.
pub a_dtmf_is_refused_with_21_where_its_table_lacks_bytes : (s : List ℕ) (expected actual : ℕ) → parse dtmf (bits_of s) 0 ≡ short expected actual
    → descriptor_of 1 cuei s ≡ Err (Refusal.NotEnoughData expected actual)
a_dtmf_is_refused_with_21_where_its_table_lacks_bytes = payloads.dtmf_lacks

pub a_dtmf_that_its_table_reads_is_read : (s : List ℕ) (x : DTMFDescriptor) (end : ℕ) → parse dtmf (bits_of s) 0 ≡ got x end → descriptor_of 1 cuei s ≡ Ok (Descriptor.Dtmf x)
a_dtmf_that_its_table_reads_is_read = payloads.dtmf_reads

pub a_dtmf_is_read_of_as_many_bytes_as_it_counts : (s : List ℕ) → AllBytes s
    → (length s ≡ 0 → descriptor_of 1 cuei s ≡ Err (Refusal.NotEnoughData 1 0))
    × (length s ≡ 1 → descriptor_of 1 cuei s ≡ Err (Refusal.NotEnoughData 0 0))
    × (2 ≤ length s → length s < 2 + get_or s 1 0 / 32 → descriptor_of 1 cuei s ≡ Err (Refusal.NotEnoughData 1 0))
    × (2 ≤ length s → 2 + get_or s 1 0 / 32 ≤ length s
    → descriptor_of 1 cuei s ≡ Ok (Descriptor.Dtmf (record { preroll = get_or s 0 0; dtmf_chars = record { at = 2; len = get_or s 1 0 / 32 } })))
a_dtmf_is_read_of_as_many_bytes_as_it_counts s a = (payloads.no_preroll s, payloads.no_count s, payloads.no_characters s a, payloads.characters s a)

-- "2 segmentation": every payload is refused with 21 where its table lacks bytes (unless a UPID that is refused stands before), with the UPID's refusal, or read, as `SegmentationReads`
-- has it (specs/Payloads.antt), and in no other way
pub what_is_read_of_a_segmentation : (s : List ℕ) → SegmentationReads s (descriptor_of 2 cuei s)
what_is_read_of_a_segmentation = payloads.reads

pub nothing_else_is_read_of_a_segmentation : (s : List ℕ) (a b : Result Descriptor Refusal) → SegmentationReads s a → SegmentationReads s b → a ≡ b
nothing_else_is_read_of_a_segmentation = payloads.reads_one

-- The other way round: an item whose payload nothing refuses is read, as the kind that its tag and identifier say
pub an_item_that_nothing_refuses_is_read : (loop : List ℕ) (offset : ℕ) → length loop ≤ 4076 → offset + 6 ≤ length loop → get_or loop (offset + 1) 0 + 2 ≤ length loop - offset
    → 4 ≤ get_or loop (offset + 1) 0 → get_or loop (offset + 1) 0 ≤ 254 → (kind : ℕ)
    → UnrefusedAt loop offset kind → (d : Descriptor) × ((step_of loop offset).item ≡ Some (Ok d)) × (kind_of d ≡ kind)
an_item_that_nothing_refuses_is_read = payloads.item_read

-- and there are such items of each kind: those of the loop with every kind of descriptor, and an avail that another identifier makes reserved
pub items_of_every_kind_that_nothing_refuses : let loop : List ℕ = loop_bytes every_descriptor in
    UnrefusedAt loop 0 0 × UnrefusedAt loop 10 1 × UnrefusedAt loop 19 2 × UnrefusedAt loop 58 2 × UnrefusedAt loop 69 3 × UnrefusedAt loop 87 4 × UnrefusedAt anothers_avail 0 4
items_of_every_kind_that_nothing_refuses = (
  worked.unrefused_avail,
  worked.unrefused_dtmf,
  worked.unrefused_segmentation,
  worked.unrefused_cancelled,
  worked.unrefused_time,
  worked.unrefused_by_tag,
  worked.unrefused_by_identifier,
)

-- ---- "Identifiers": a UPID alone (of a MID: below, and rows h to j)

-- 2: "UPID over 255 bytes"
pub a_upid_over_255_bytes_is_refused_with_2 : (b : List ℕ) (k : ℕ) → 255 < length b → UpidRefused (check_of k b) 2 []
a_upid_over_255_bytes_is_refused_with_2 = refusals.upid_too_long

-- 23: "a nonempty UPID of type 0"
pub a_upid_of_type_0_is_refused_with_23 : (b : List ℕ) → 1 ≤ length b → length b ≤ 255 → UpidRefused (check_of 0 b) 23 []
a_upid_of_type_0_is_refused_with_23 = refusals.upid_of_type_0

-- 25: "UPID of wrong length, with type as written, expected, actual"
pub a_upid_of_wrong_length_is_refused_with_25 : (b : List ℕ) → 1 ≤ length b → length b ≤ 255
    → All (λ (t : ℕ × ℕ). (length b ≡ t.1 → ⊥) → UpidRefused (check_of t.0 b) 25 (t.0 ∷ t.1 ∷ length b ∷ [])) fixed_lengths
a_upid_of_wrong_length_is_refused_with_25 = refusals.upid_of_wrong_length

-- 24: "UPID text not UTF-8, with type and its bytes as a view"
pub a_text_that_is_no_utf8_is_refused_with_24 : (b : List ℕ) → 1 ≤ length b → length b ≤ 255
    → All (λ (t : ℕ × ℕ). length b ≡ t.1 → text_of b ≡ false → UpidRefused (check_of t.0 b) 24 (t.0 ∷ 0 ∷ t.1 ∷ [])) texts
a_text_that_is_no_utf8_is_refused_with_24 = refusals.upid_no_text

-- and no other is refused: texts, types of a fixed length (both ISANs report 6), and all other types, which take any bytes
pub a_text_is_read : (b : List ℕ) → 1 ≤ length b → length b ≤ 255 → All (λ (t : ℕ × ℕ). length b ≡ t.1 → text_of b ≡ true → check_of t.0 b ≡ Ok t.0) texts
a_text_is_read = refusals.upid_text

pub a_upid_of_its_length_is_read : (b : List ℕ) → 1 ≤ length b → length b ≤ 255 → All (λ (t : ℕ × (ℕ × ℕ)). length b ≡ t.1.0 → check_of t.0 b ≡ Ok t.1.1) plain_lengths
a_upid_of_its_length_is_read = refusals.upid_of_length

pub untested_types_take_any_bytes : (b : List ℕ) → 1 ≤ length b → length b ≤ 255 → All (λ (k : ℕ). check_of k b ≡ Ok k) (1 ∷ 9 ∷ 11 ∷ 12 ∷ 14 ∷ [])
untested_types_take_any_bytes = refusals.upid_untested

pub types_above_14_take_any_bytes : (b : List ℕ) → 1 ≤ length b → length b ≤ 255 → (k : ℕ) → 15 ≤ k → check_of k b ≡ Ok k
types_above_14_take_any_bytes = refusals.upid_above_14

-- A MID, part by part: 21 for what its bytes lack, the refusal of its first faulty part, and else it is read (`MidReads`, specs/Payloads.antt); a part is read as the UPID alone, but an empty one is no None
pub a_mid_is_read_part_by_part : (start : ℕ) → MidReads start
a_mid_is_read_part_by_part = mids.mid_reads

pub a_mid_at_top_is_read_so : (b : List ℕ) → 1 ≤ length b → length b ≤ 255 → check_of 13 b ≡ read_of 13 0 b
a_mid_at_top_is_read_so = mids.mid_at_top

pub a_part_is_read_as_the_upid_alone : (k start : ℕ) (b : List ℕ) → (k ≡ 13 → ⊥) → 1 ≤ length b → length b ≤ 255 → read_of k start b ≡ part_read start (check_of k b)
a_part_is_read_as_the_upid_alone = mids.part_alone

pub an_empty_part_is_read_by_its_type : (k start : ℕ) → (k ≡ 13 → ⊥) → (k ≡ 0 → read_of k start [] ≡ Err Refusal.UpidLengthTypeMismatch)
    × ((k ≡ 0 → ⊥) → 1 ≤ length_of k → read_of k start [] ≡ Err (Refusal.InvalidUpidLength k (length_of k) 0))
    × ((k ≡ 0 → ⊥) → length_of k ≡ 0 → read_of k start [] ≡ Ok (reported_of k))
an_empty_part_is_read_by_its_type = mids.part_empty

-- ---- 36: "target shorter than the result", and no other target

pub a_target_that_is_long_enough_is_written : (b target : List ℕ) → length b ≤ length target
    → (answer_of (made b) target ≡ Ok (length b)) × (later_of (made b) target ≡ b ++ drop (length b) target)
unfolding answer_of later_of
a_target_that_is_long_enough_is_written b target h = let e = le-leb (length b) (length target) h in (rw e, rw e)

pub a_shorter_target_is_refused_with_36 : (b target : List ℕ) → length target < length b → (answer_of (made b) target ≡ Err 36) × (later_of (made b) target ≡ target)
unfolding answer_of later_of
a_shorter_target_is_refused_with_36 b target h = let e = lt-leb (length b) (length target) h in (rw e, rw e)

-- ---- the worked rows

-- 01: "Rows a to n are proved together, one table under one theorem over the definitions."
pub rows_a_to_n_hold : All Holds rows
rows_a_to_n_hold = rows_hold.every_row

-- "Sections with right CRC and command length 0: 18 and 19 bytes give 8;"
pub sections_of_18_and_19_bytes_give_8 : (s : List ℕ) → EmptyCommand s → 18 ≤ length s → length s ≤ 19 → number_of (section_of s) ≡ 8
sections_of_18_and_19_bytes_give_8 = examples.no_loop_length

-- "20 with loop length 0 and command type 0 is accepted."
pub sections_of_20_bytes_are_accepted : (s : List ℕ) → EmptyCommand s → length s ≡ 20 → loop_length s ≡ 0 → command_type s ≡ 0 → (x : Section) × (section_of s ≡ Ok x)
sections_of_20_bytes_are_accepted = examples.empty_accepted

-- there is one
pub a_null_is_such_a_section : EmptyCommand splice_null × (length splice_null ≡ 20) × (loop_length splice_null ≡ 0) × (command_type splice_null ≡ 0)
a_null_is_such_a_section = examples.null_is_one

-- The incident, worked out (`no_mid_that_is_read_is_split`, `writing_back_splits_no_mid` say it of every section): a section whose MID has a part of 8 bytes and one of 12 is read as these two, whole
pub eight_and_twelve_bytes_are_read_whole : Identified eight_and_twelve (
    record { start = 35; len = 24; bytes = both }
    ∷ record { start = 37; len = 8; bytes = eight }
    ∷ record { start = 47; len = 12; bytes = twelve }
    ∷ [])
eight_and_twelve_bytes_are_read_whole = examples.both_whole

-- and it is canonical, so it is what is written of its items, and its MID is kept whole
pub the_section_with_eight_and_twelve_is_canonical : AllBytes eight_and_twelve × (canonical_section eight_and_twelve ≡ true)
the_section_with_eight_and_twelve_is_canonical = examples.both_canonical
