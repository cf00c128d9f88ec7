-- A row for each refusal number over C: what is handed in, and the words that come back, by computation. The answers are the definitions that the lines of the
-- `scte35_..` functions name in theorems_fixed/proofs/FixedAtBoundary.antt.
use Prim.Native.Nat.{◌^◌}
use mathlib.Core.List.{[], ◌∷◌, ◌++◌}
use mathlib.Core.Path.{◌≡◌, refl}
use lib.ListN.{replicate}
use Rattle.bit_stores.specs.Written.{answer_of, later_of}
use Rattle.c_command_writer.specs.CommandGiven.{mode_in, break_in, insert_in, command_in, command_from, insertion_from, components_from, insert_components_within, own_insert_components, words_refusal, command_refusal, command_words_made}
use Rattle.c_command_writer.specs.CommandWords.{command_words, command_widths, command_seen}
use Rattle.c_command_writer.specs.Words.{within, same, each_place, places_of, flat_written, no_less}
use Rattle.c_descriptor_writer.specs.ItemGiven.{restrictions_in, sub_segments_in, segmentation_in, item_in, restrictions_from, detail_from, descriptor_from, identifier_from, place_from, places_from, eidr_from, beside_from, own_item, descriptor_words_made, descriptor_refusal}
use Rattle.c_descriptor_writer.specs.ItemGiven as item
use Rattle.c_descriptor_writer.specs.ItemWords.{item_words, item_widths, place_widths, places_within, beside_within, item_seen, beside_there}
use Rattle.c_items.specs.FlatItem.{flat_restrictions, flat_sub_segments, active_segmentation, segmentation_head, segmentation_item, flat_descriptor, flat_item, refusal_in, values_in, flat_step}
use Rattle.c_items.specs.FlatUpid.{flat_upid_read, flat_upid}
use Rattle.c_section.specs.Flat.{flat_header}
use Rattle.c_section.specs.FlatCommand.{flat_mode, flat_break, active_insert, insert_head, no_command, flat_command}
use Rattle.c_section.specs.FlatSection.{flat_section_read}
use Rattle.c_section_writer.specs.SectionGiven.{header_from, header_refusal, section_words_made}
use Rattle.c_section_writer.specs.SectionWords.{header_words, header_widths}
use Rattle.command.specs.Command.{array, command_of}
use Rattle.command_measure.specs.Made.{command_made}
use Rattle.crc.specs.Crc.{crc_of, crc_bits, crc_bit}
use Rattle.descriptor.specs.Descriptor.{descriptor_of, is_cuei, segmentation_of, active_of, active_with, dtmf_of}
use Rattle.descriptor.specs.Plain.{avail, dtmf, private_table}
use Rattle.descriptor.specs.Segmentation.{writable_front, writable_detail, device_of, component, delivery_restrictions, mode, duration, written_upid, parts, front, sub_segments, back, head, segmentation}
use Rattle.descriptor.specs.Full.{filled}
use Rattle.descriptor_loop.specs.Items as items
use Rattle.descriptor_loop.specs.Items.{read_at, complete_at, step_of}
use Rattle.canonical_form.specs.Descriptor.{canonical_descriptor, canonical_from, canonical_loop}
use Rattle.descriptor_measure.specs.Writing as writing
use Rattle.descriptor_measure.specs.Writing.{enveloped, enveloped_made, all_zero, alone, writable_reserved, written_type, upid_source, writable_upid, writable_segment, segmentation_made, payload_made, descriptor_made}
use Rattle.header.specs.Header.{header_of, header_read, splice_header}
use Rattle.names.specs.Algorithm.{algorithm_of, writable_algorithm}
use Rattle.names.specs.Command as types_of_commands
use Rattle.names.specs.Segmentation as types
use Rattle.names.specs.Flags.{network_flag, network_of, return_flag, return_of, restrictions_bits, restrictions_of}
use Rattle.scte35.specs.FlatNumber.{flat_answer}
use Rattle.section.specs.Section as section
use Rattle.section.specs.Section.{command_length, command_type, command_bytes, room_after, loop_length, loop_place, frame_in, moved, moved_read, accepted, frame_of, section_of}
use Rattle.section_writer.specs.Frame.{headed, numbers_fit, writable_head}
use Rattle.section_writer.specs.Writing.{section_made}
use Rattle.splice_time.specs.Time.{splice_time}
use Rattle.table.specs.Lent.{viewed}
use Rattle.table.specs.Table.{number, bit, reserved, part, remaining, list}
use Rattle.table.specs.Writing.{bytes_in}
use Rattle.upid.specs.Text as text
use Rattle.upid.specs.Text.{text_of, done}
use Rattle.upid.specs.Upid as upids
use Rattle.upid.specs.Upid.{upid_of, check_of, read_of, walk_of, ◌then◌, plain_of, length_of, is_text, reported_of, list_of, parts_of, listed, unless_refused, eidr_of}
use Rattle.theorems_rows_c.specs.Inputs.{section1, section2, section3, section4, section5, section6, section7, section8, section9, section10, section11, cuei_item, segment, command_handed, item_handed, segment_handed}
use Rattle.theorems_rows_c.specs.Refused.{section_refused, step_refused, upid_refused, WriteRefused}

-- ---- 1 to 11: `scte35_read_section`

pub sections_over_c_are_refused_with_1_to_4 : (flat_section_read (section_of section1) ≡ section_refused 1) × (flat_section_read (section_of section2) ≡ section_refused 2)
    × (flat_section_read (section_of section3) ≡ section_refused 3) × (flat_section_read (section_of section4) ≡ section_refused 4)
unfolding flat_section_read section.number_of section_of frame_of crc_of crc_bits crc_bit
sections_over_c_are_refused_with_1_to_4 = (refl, refl, refl, refl)

pub sections_over_c_are_refused_with_5_to_9 : (flat_section_read (section_of section5) ≡ section_refused 5) × (flat_section_read (section_of section6) ≡ section_refused 6)
    × (flat_section_read (section_of section7) ≡ section_refused 7) × (flat_section_read (section_of section8) ≡ section_refused 8) × (flat_section_read (section_of section9) ≡ section_refused 9)
unfolding flat_section_read section.number_of section_of frame_of frame_in command_length room_after loop_length loop_place crc_of crc_bits crc_bit
sections_over_c_are_refused_with_5_to_9 = (refl, refl, refl, refl, refl)

pub sections_over_c_are_refused_with_10_and_11 : (flat_section_read (section_of section10) ≡ section_refused 10) × (flat_section_read (section_of section11) ≡ section_refused 11)
unfolding flat_section_read section.number_of section_of frame_of frame_in accepted moved_read moved command_length command_type command_bytes room_after loop_length loop_place crc_of crc_bits crc_bit header_of header_read splice_header command_of number bit reserved part remaining list
sections_over_c_are_refused_with_10_and_11 = (refl, refl)

-- ---- 12: `scte35_classify_network_indicator`, `scte35_classify_return_mode`, `scte35_classify_device_restrictions`

pub flags_over_c_are_refused_with_12 : (flat_answer network_flag (network_of 2) ≡ record { refusal = 12; class = 0; number = 0 }) × (flat_answer return_flag (return_of 2) ≡ record { refusal = 12; class = 0; number = 0 })
    × (flat_answer restrictions_bits (restrictions_of 4) ≡ record { refusal = 12; class = 0; number = 0 })
unfolding network_of return_of restrictions_of
flags_over_c_are_refused_with_12 = (refl, refl, refl)

-- ---- 2, 21 and 22 of a loop: `scte35_read_item`

pub loops_over_c_are_refused_with_2_21_and_22 : (flat_step (step_of (replicate 4077 0) 0) ≡ step_refused 2 0 0 0 4077) × (flat_step (step_of (2 ∷ 4 ∷ []) 0) ≡ step_refused 21 2 0 0 2)
    × (flat_step (step_of (2 ∷ 5 ∷ 0 ∷ 0 ∷ 0 ∷ 0 ∷ []) 0) ≡ step_refused 21 7 0 0 6) × (flat_step (step_of (2 ∷ 255 ∷ replicate 255 0) 0) ≡ step_refused 22 0 0 0 257)
    × (flat_step (step_of (2 ∷ 3 ∷ 0 ∷ 0 ∷ 0 ∷ 9 ∷ []) 0) ≡ step_refused 21 6 5 0 5)
unfolding flat_step refusal_in values_in flat_item step_of items.number_of items.values_of upids.number_of upids.values_of
loops_over_c_are_refused_with_2_21_and_22 = (refl, refl, refl, refl, refl)

-- ---- 21 in the fields of a descriptor: `scte35_read_item`

-- preroll; the count's three bits; a character
pub dtmf_over_c_is_refused_with_21 : (flat_step (step_of (cuei_item 1 []) 0) ≡ step_refused 21 1 0 0 6) × (flat_step (step_of (cuei_item 1 (0xB1 ∷ [])) 0) ≡ step_refused 21 0 0 0 7)
    × (flat_step (step_of (cuei_item 1 (0xB1 ∷ 0x3F ∷ [])) 0) ≡ step_refused 21 1 0 0 8)
unfolding flat_step refusal_in values_in flat_item step_of complete_at read_at items.number_of items.values_of upids.number_of upids.values_of descriptor_of is_cuei dtmf_of dtmf number bit reserved part remaining list
dtmf_over_c_is_refused_with_21 = (refl, refl, refl)

-- event id; cancel bit; flags; how many components, a tag, reserved bits, an offset; a duration
pub segmentations_over_c_are_refused_with_21 : (flat_step (step_of (cuei_item 2 (0 ∷ 0 ∷ 0 ∷ [])) 0) ≡ step_refused 21 4 3 0 9) × (flat_step (step_of (cuei_item 2 (0 ∷ 0 ∷ 0 ∷ 42 ∷ [])) 0) ≡ step_refused 21 0 0 0 10)
    × (flat_step (step_of (segment []) 0) ≡ step_refused 21 0 0 0 11) × (flat_step (step_of (segment (0x3F ∷ [])) 0) ≡ step_refused 21 1 0 0 12)
    × (flat_step (step_of (segment (0x3F ∷ 1 ∷ [])) 0) ≡ step_refused 21 1 0 0 13) × (flat_step (step_of (segment (0x3F ∷ 1 ∷ 9 ∷ [])) 0) ≡ step_refused 21 0 0 0 14)
    × (flat_step (step_of (segment (0x3F ∷ 1 ∷ 9 ∷ 0xFE ∷ 0 ∷ 0 ∷ 0 ∷ [])) 0) ≡ step_refused 21 4 3 0 18) × (flat_step (step_of (segment (0xFF ∷ 0 ∷ 0 ∷ [])) 0) ≡ step_refused 21 5 2 0 14)
unfolding flat_step refusal_in values_in flat_item step_of complete_at read_at items.number_of items.values_of upids.number_of upids.values_of descriptor_of is_cuei segmentation_of active_of active_with head front parts delivery_restrictions mode component duration written_upid back sub_segments segmentation number bit reserved part remaining list
segmentations_over_c_are_refused_with_21 = (refl, refl, refl, refl, refl, refl, refl, refl)

-- the UPID's type, its length, its bytes; type id, segment number, segments expected; sub-segments expected
pub behind_the_flags_over_c_are_refused_with_21 : (flat_step (step_of (segment (0xBF ∷ [])) 0) ≡ step_refused 21 1 0 0 12) × (flat_step (step_of (segment (0xBF ∷ 8 ∷ [])) 0) ≡ step_refused 21 1 0 0 13)
    × (flat_step (step_of (segment (0xBF ∷ 8 ∷ 8 ∷ 1 ∷ [])) 0) ≡ step_refused 21 1 0 0 15) × (flat_step (step_of (segment (0xBF ∷ 0 ∷ 0 ∷ [])) 0) ≡ step_refused 21 1 0 0 14)
    × (flat_step (step_of (segment (0xBF ∷ 0 ∷ 0 ∷ 0x10 ∷ [])) 0) ≡ step_refused 21 1 0 0 15) × (flat_step (step_of (segment (0xBF ∷ 0 ∷ 0 ∷ 0x10 ∷ 1 ∷ [])) 0) ≡ step_refused 21 1 0 0 16)
    × (flat_step (step_of (segment (0xBF ∷ 0 ∷ 0 ∷ 0x34 ∷ 1 ∷ 1 ∷ 1 ∷ [])) 0) ≡ step_refused 21 1 0 0 18)
unfolding flat_step refusal_in values_in flat_item step_of complete_at read_at items.number_of items.values_of upids.number_of upids.values_of descriptor_of is_cuei segmentation_of active_of active_with head front parts delivery_restrictions mode component duration written_upid back sub_segments segmentation number bit reserved part remaining list viewed check_of read_of walk_of ◌then◌ plain_of length_of is_text reported_of
behind_the_flags_over_c_are_refused_with_21 = (refl, refl, refl, refl, refl, refl, refl)

-- ---- 2, 21, 23, 24, 25 of a UPID: `scte35_read_upid`; and 24 of an item's, where its bytes stand in the loop: `scte35_read_item`

pub upids_over_c_are_refused_with_2_and_21_to_25 : (flat_upid (upid_of 1 (replicate 256 0)) ≡ upid_refused 2 0 0 0) × (flat_upid (upid_of 13 (8 ∷ [])) ≡ upid_refused 21 1 0 0)
    × (flat_upid (upid_of 0 (1 ∷ [])) ≡ upid_refused 23 0 0 0) × (flat_upid (upid_of 3 (0xFF ∷ replicate 11 0x41)) ≡ upid_refused 24 3 0 12) × (flat_upid (upid_of 8 (1 ∷ [])) ≡ upid_refused 25 8 8 1)
unfolding flat_upid flat_upid_read upids.number_of upids.values_of upid_of check_of read_of walk_of ◌then◌ plain_of length_of is_text reported_of list_of parts_of listed unless_refused eidr_of text_of done text.step text.within
upids_over_c_are_refused_with_2_and_21_to_25 = (refl, refl, refl, refl, refl)

pub an_item_over_c_is_refused_with_24 : flat_step (step_of (segment (0xBF ∷ 3 ∷ 12 ∷ 0xFF ∷ replicate 11 0x41 ++ (0x10 ∷ 1 ∷ 1 ∷ []))) 0) ≡ step_refused 24 3 14 12 29
unfolding flat_step refusal_in values_in flat_item step_of complete_at read_at items.number_of items.values_of upids.number_of upids.values_of descriptor_of is_cuei segmentation_of active_of active_with head front parts delivery_restrictions mode component duration written_upid back sub_segments segmentation number bit reserved part remaining list viewed check_of read_of walk_of ◌then◌ plain_of length_of is_text reported_of text_of done text.step text.within
an_item_over_c_is_refused_with_24 = refl

-- ---- 31 to 36: the writers over words

-- 31: of a null whose view is (5, 1), with nothing lent; 33 where it lies in what is lent
pub a_null_with_a_view_over_c : WriteRefused 31 (command_words_made (command_handed 0 0 0 5 1) [] []) (7 ∷ []) × WriteRefused 33 (command_words_made (command_handed 0 0 0 5 1) [] (replicate 6 0)) (7 ∷ [])
unfolding flat_written answer_of later_of command_words_made command_refusal words_refusal command_seen command_in command_from insert_in insertion_from mode_in break_in components_from insert_components_within own_insert_components each_place places_of within same command_widths command_words flat_command no_command insert_head active_insert flat_mode flat_break array command_made no_less
a_null_with_a_view_over_c = ((refl, refl), (refl, refl))

-- 32: a time of 34 bits; 33: an immediate one in a time signal; 36: a payload of one byte, and no room
pub time_signals_over_c_are_refused_with_32_33_and_36 : WriteRefused 32 (command_words_made (command_handed 6 3 (2 ^ 33) 0 0) [] []) (7 ∷ []) × WriteRefused 33 (command_words_made (command_handed 6 1 0 0 0) [] []) (7 ∷ [])
    × WriteRefused 36 (command_words_made (command_handed 6 2 0 0 0) [] []) []
unfolding flat_written answer_of later_of command_words_made command_refusal words_refusal command_seen command_in command_from insert_in insertion_from mode_in break_in components_from insert_components_within own_insert_components each_place places_of within same command_widths command_words flat_command no_command insert_head active_insert flat_mode flat_break array command_made no_less splice_time number bit reserved
time_signals_over_c_are_refused_with_32_33_and_36 = ((refl, refl), (refl, refl), (refl, refl))

-- 31: of an avail whose view is (5, 1), with nothing lent; 34: a reserved descriptor of 251 bytes
pub descriptors_over_c_are_refused_with_31_and_34 : WriteRefused 31 (descriptor_words_made (item_handed 0 1 0 5 1) [] []) (7 ∷ [])
    × WriteRefused 34 (descriptor_words_made (item_handed 0x41424344 6 9 0 251) [] (replicate 251 0)) (replicate 300 7)
unfolding flat_written answer_of later_of descriptor_words_made descriptor_refusal item.words_refusal item_seen beside_there own_item item_in segmentation_in restrictions_in sub_segments_in descriptor_from identifier_from places_from eidr_from beside_from place_from places_within beside_within each_place places_of within same item_widths place_widths item_words flat_descriptor segmentation_head flat_restrictions flat_sub_segments filled no_less descriptor_made payload_made enveloped_made enveloped all_zero alone writable_reserved is_cuei avail private_table number bit reserved part remaining list
descriptors_over_c_are_refused_with_31_and_34 = ((refl, refl), (refl, refl))

-- 33: a segmentation with a component, or with an EIDR, and nothing beside it. The same with zeros beside it is written
pub descriptors_over_c_are_refused_with_33 : WriteRefused 33 (descriptor_words_made (segment_handed 0 1 0) [] []) (replicate 40 7) × WriteRefused 33 (descriptor_words_made (segment_handed 1 0 10) [] []) (replicate 40 7)
    × (flat_written (answer_of (descriptor_words_made (segment_handed 0 1 0) (replicate 7 0) []) (replicate 40 7)) ≡ record { refusal = 0; length = 24 })
    × (flat_written (answer_of (descriptor_words_made (segment_handed 1 0 10) (replicate 527 0) []) (replicate 40 7)) ≡ record { refusal = 0; length = 29 })
unfolding flat_written answer_of later_of descriptor_words_made descriptor_refusal item.words_refusal item_seen beside_there own_item item_in segmentation_in restrictions_in sub_segments_in restrictions_from detail_from descriptor_from identifier_from places_from eidr_from beside_from place_from places_within beside_within each_place places_of within same item_widths place_widths item_words flat_descriptor active_segmentation segmentation_item flat_restrictions flat_sub_segments filled no_less descriptor_made payload_made enveloped_made enveloped all_zero segmentation_made writable_segment writable_upid writable_detail writable_front writing.written_upid written_type upid_source segmentation head front parts delivery_restrictions mode component duration written_upid back sub_segments number bit reserved part remaining list viewed check_of read_of walk_of ◌then◌ plain_of length_of is_text reported_of device_of types.segmentation_type_of types.writable_segmentation
descriptors_over_c_are_refused_with_33 = ((refl, refl), (refl, refl), refl, refl)

-- 35: a loop of one byte around a null; header and command are all 0
pub a_section_over_c_is_refused_with_35 : WriteRefused 35 (section_words_made [] [] [] [] (0 ∷ [])) (replicate 30 7)
unfolding flat_written answer_of later_of section_words_made header_refusal header_from header_words header_widths flat_header command_refusal words_refusal command_seen command_in command_from insert_in insertion_from mode_in break_in components_from insert_components_within own_insert_components each_place places_of within same command_widths command_words flat_command no_command insert_head active_insert flat_mode flat_break array command_made no_less section_made numbers_fit writable_head headed splice_header number bit canonical_loop canonical_from canonical_descriptor algorithm_of writable_algorithm types_of_commands.command_type_of bytes_in
a_section_over_c_is_refused_with_35 = (refl, refl)
