-- Every public function of the C boundary fixes its answer and its target's later bytes, and asks nothing of the caller, as FixedAnswers.antt has it of the readers.
use lib.ListN.{drop, length}
use mathlib.Core.List.{[], ◌∷◌}
use Rattle.command.specs.Command.{command_of, components_of, count_in}
use Rattle.crc.specs.Crc.{crc_of}
use Rattle.canonical_form.specs.Descriptor.{canonical_descriptor, canonical_loop}
use Rattle.c_section.specs.Flat.{flat_adjusted, flat_header_read, flat_view}
use Rattle.c_section.specs.FlatCommand.{flat_command_read, flat_insert_components}
use Rattle.c_section.specs.FlatSection.{flat_parts, flat_section_read}
use Rattle.c_descriptor_writer.specs.ItemGiven.{descriptor_refusal, descriptor_words_made}
use Rattle.c_items.specs.FlatItem.{flat_beside, flat_step}
use Rattle.c_items.specs.FlatUpid.{flat_upid}
use Rattle.c_section_writer.specs.SectionGiven.{section_words_made}
use Rattle.c_command_writer.specs.CommandGiven.{command_given, command_refusal, command_words_made, components_from}
use Rattle.c_command_writer.specs.Private.{lower}
use Rattle.c_command_writer.specs.Words.{each_place, flat_written, same, within, word}
use Rattle.header.specs.Header.{header_of}
use Rattle.splice_time.specs.Time.{adjusted_of}
use Rattle.descriptor_loop.specs.Items.{reading_of, step_of}
use Rattle.names.specs.Algorithm.{algorithm_entry, algorithm_of}
use Rattle.names.specs.Command.{command_entry, command_type_of}
use Rattle.names.specs.Flags.{network_flag, network_of, restrictions_bits, restrictions_of, return_flag, return_of}
use Rattle.names.specs.Segmentation.{segmentation_entry, segmentation_type_of}
use Rattle.names.specs.Upid.{upid_type_entry, upid_type_of}
use Rattle.bit_stores.specs.Written.{answer_of, later_of}
use Rattle.scte35.specs.FlatNumber.{flat_answer, flat_name, time_handed}
use Rattle.section.specs.Section.{section_of}
use Rattle.canonical_form.specs.Section.{canonical_section}
use Rattle.table.specs.Table.{flag_number}
use Rattle.upid.specs.Upid.{upid_of}
use Rattle.c_section.proofs.flat_flag.Reads as flat_flag
use Rattle.c_section.proofs.flat_view.Reads as Flat_view
use Rattle.c_section.proofs.commands.flat_command_read.Reads as flat_command_read
use Rattle.c_section.proofs.headers.flat_header_read.Reads as flat_header_read
use Rattle.c_section.proofs.headers.read_flat_header.Reads as read_flat_header
use Rattle.c_section.proofs.headers.flat_adjusted.Reads as flat_adjusted
use Rattle.c_section.proofs.components.flat_insert_components.Reads as flat_insert_components
use Rattle.c_section.proofs.sections.no_section.Reads as no_section
use Rattle.c_section.proofs.sections.flat_parts.Reads as flat_parts
use Rattle.c_items.proofs.beside.flat_beside.Reads as flat_beside
use Rattle.c_items.proofs.upids.flat_upid.Reads as flat_upid
use Rattle.c_items.proofs.steps.flat_step.Reads as flat_step
use Rattle.c_command_writer.proofs.flat_written.Reads as flat_written
use Rattle.c_command_writer.proofs.lower_refusal.Reads as lower_refusal
use Rattle.c_command_writer.proofs.word_at.Reads as word_at
use Rattle.c_command_writer.proofs.words_from.Reads as words_from
use Rattle.c_command_writer.proofs.are_within.Reads as are_within
use Rattle.c_command_writer.proofs.are_places_within.Reads as are_places_within
use Rattle.c_command_writer.proofs.are_four_within.Reads as are_four_within
use Rattle.c_command_writer.proofs.are_same.Reads as are_same
use Rattle.c_command_writer.proofs.are_four_same.Reads as are_four_same
use Rattle.c_command_writer.proofs.commands.command_given.Reads as command_given
use Rattle.c_command_writer.proofs.commands.count_in_command.Reads as count_in_command
use Rattle.c_command_writer.proofs.commands.components_given.Reads as components_given
use Rattle.c_command_writer.proofs.commands.command_refusal.Reads as command_refusal
use Rattle.c_command_writer.proofs.commands.write_command_words.Reads as write_command_words
use Rattle.c_descriptor_writer.proofs.descriptor_refusal.Reads as descriptor_refusal
use Rattle.c_descriptor_writer.proofs.write_descriptor_words.Reads as write_descriptor_words
use Rattle.c_section_writer.proofs.write_section_words.Reads as write_section_words
use Rattle.scte35.proofs.scte35_read_header.Reads as scte35_read_header
use Rattle.scte35.proofs.scte35_read_section.Reads as scte35_read_section
use Rattle.scte35.proofs.scte35_read_command.Reads as scte35_read_command
use Rattle.scte35.proofs.scte35_read_insert_components.Reads as scte35_read_insert_components
use Rattle.scte35.proofs.scte35_read_item.Reads as scte35_read_item
use Rattle.scte35.proofs.scte35_read_segmentation_components.Reads as scte35_read_segmentation_components
use Rattle.scte35.proofs.scte35_read_upid.Reads as scte35_read_upid
use Rattle.scte35.proofs.scte35_crc.Reads as scte35_crc
use Rattle.scte35.proofs.scte35_adjust_time.Reads as scte35_adjust_time
use Rattle.scte35.proofs.numbers.scte35_classify_algorithm.Reads as scte35_classify_algorithm
use Rattle.scte35.proofs.numbers.scte35_classify_command_type.Reads as scte35_classify_command_type
use Rattle.scte35.proofs.numbers.scte35_classify_upid_type.Reads as scte35_classify_upid_type
use Rattle.scte35.proofs.numbers.scte35_classify_segmentation_type.Reads as scte35_classify_segmentation_type
use Rattle.scte35.proofs.numbers.scte35_classify_network_indicator.Reads as scte35_classify_network_indicator
use Rattle.scte35.proofs.numbers.scte35_classify_return_mode.Reads as scte35_classify_return_mode
use Rattle.scte35.proofs.numbers.scte35_classify_device_restrictions.Reads as scte35_classify_device_restrictions
use Rattle.scte35.proofs.writing.scte35_write_command_words.Reads as scte35_write_command_words
use Rattle.scte35.proofs.writing.scte35_write_descriptor_words.Reads as scte35_write_descriptor_words
use Rattle.scte35.proofs.writing.scte35_write_section_words.Reads as scte35_write_section_words
use Rattle.scte35.proofs.canonical.scte35_is_canonical_section.Reads as scte35_is_canonical_section
use Rattle.scte35.proofs.canonical.scte35_is_canonical_loop.Reads as scte35_is_canonical_loop
use Rattle.scte35.proofs.canonical.scte35_is_canonical_descriptor.Reads as scte35_is_canonical_descriptor
use Rattle.theorems_fixed.specs.FixedAnswers.{Answers}
use Rattle.std.proofs.Common.{Err}

-- ---- c_section: the flat forms of headers, commands and sections

pub flat_flag_answers : Answers flat_flag.Asked flat_flag.Learnt (λ κ r e. r) (λ κ a. flag_number a.0)
flat_flag_answers = record { takes_any = λ κ a. tt; is = λ κ a r e l. l }

pub flat_view_answers : Answers Flat_view.Asked Flat_view.Learnt (λ κ r e. r) (λ κ a. flat_view a.0)
flat_view_answers = record { takes_any = λ κ a. tt; is = λ κ a r e l. l }

pub flat_command_read_answers : Answers flat_command_read.Asked flat_command_read.Learnt (λ κ r e. r) (λ κ a. flat_command_read a.0)
flat_command_read_answers = record { takes_any = λ κ a. tt; is = λ κ a r e l. l }

pub flat_header_read_answers : Answers flat_header_read.Asked flat_header_read.Learnt (λ κ r e. r) (λ κ a. flat_header_read a.0)
flat_header_read_answers = record { takes_any = λ κ a. tt; is = λ κ a r e l. l }

pub read_flat_header_answers : Answers read_flat_header.Asked read_flat_header.Learnt (λ κ r e. r) (λ κ a. flat_header_read (header_of a.0.now))
read_flat_header_answers = record { takes_any = λ κ a. tt; is = λ κ a r e l. l }

pub flat_adjusted_answers : Answers flat_adjusted.Asked flat_adjusted.Learnt (λ κ r e. r) (λ κ a. flat_adjusted a.0)
flat_adjusted_answers = record { takes_any = λ κ a. tt; is = λ κ a r e l. l }

pub flat_insert_components_answers : Answers flat_insert_components.Asked flat_insert_components.Learnt (λ κ r e. r) (λ κ a. flat_insert_components a.0 a.1.0)
flat_insert_components_answers = record { takes_any = λ κ a. tt; is = λ κ a r e l. l }

pub no_section_answers : Answers no_section.Asked no_section.Learnt (λ κ r e. r) (λ κ a. flat_section_read (Err a.0))
no_section_answers = record { takes_any = λ κ a. tt; is = λ κ a r e l. l }

pub flat_parts_answers : Answers flat_parts.Asked flat_parts.Learnt (λ κ r e. r) (λ κ a. flat_parts a.0 a.1.0 a.1.1.0)
flat_parts_answers = record { takes_any = λ κ a. tt; is = λ κ a r e l. l }

-- ---- c_items: the flat forms of items and UPIDs

pub flat_beside_answers : Answers flat_beside.Asked flat_beside.Learnt (λ κ r e. r) (λ κ a. flat_beside a.0)
flat_beside_answers = record { takes_any = λ κ a. tt; is = λ κ a r e l. l }

pub flat_upid_answers : Answers flat_upid.Asked flat_upid.Learnt (λ κ r e. r) (λ κ a. flat_upid a.0)
flat_upid_answers = record { takes_any = λ κ a. tt; is = λ κ a r e l. l }

pub flat_step_answers : Answers flat_step.Asked flat_step.Learnt (λ κ r e. r) (λ κ a. flat_step a.0)
flat_step_answers = record { takes_any = λ κ a. tt; is = λ κ a r e l. l }

-- ---- c_command_writer, c_descriptor_writer, c_section_writer: the writers from words. A slice that is handed back is fixed in its words.

pub flat_written_answers : Answers flat_written.Asked flat_written.Learnt (λ κ r e. r) (λ κ a. flat_written a.0)
flat_written_answers = record { takes_any = λ κ a. tt; is = λ κ a r e l. l }

pub lower_refusal_answers : Answers lower_refusal.Asked lower_refusal.Learnt (λ κ r e. r) (λ κ a. record { refusal = lower a.0 a.1.0; length = 0 })
lower_refusal_answers = record { takes_any = λ κ a. tt; is = λ κ a r e l. l }

pub word_at_answers : Answers word_at.Asked word_at.Learnt (λ κ r e. r) (λ κ a. word a.0.now a.1.0)
word_at_answers = record { takes_any = λ κ a. tt; is = λ κ a r e l. l }

pub words_from_answers : Answers words_from.Asked words_from.Learnt (λ κ r e. r.now) (λ κ a. drop a.1.0 a.0.now)
words_from_answers = record { takes_any = λ κ a. tt; is = λ κ a r e l. l }

pub are_within_answers : Answers are_within.Asked are_within.Learnt (λ κ r e. r) (λ κ a. within a.0.now a.1.0.now)
are_within_answers = record { takes_any = λ κ a. tt; is = λ κ a r e l. l }

pub are_places_within_answers : Answers are_places_within.Asked are_places_within.Learnt (λ κ r e. r) (λ κ a. each_place (within a.0.now) (length a.0.now) a.1.0 a.1.1.0.now)
are_places_within_answers = record { takes_any = λ κ a. tt; is = λ κ a r e l. l }

pub are_four_within_answers : Answers are_four_within.Asked are_four_within.Learnt (λ κ r e. r) (λ κ a. within (a.0 ∷ a.1.0 ∷ a.1.1.0 ∷ a.1.1.1.0 ∷ []) a.1.1.1.1.0.now)
are_four_within_answers = record { takes_any = λ κ a. tt; is = λ κ a r e l. l }

pub are_same_answers : Answers are_same.Asked are_same.Learnt (λ κ r e. r) (λ κ a. same a.0.now a.1.0.now)
are_same_answers = record { takes_any = λ κ a. tt; is = λ κ a r e l. l }

pub are_four_same_answers : Answers are_four_same.Asked are_four_same.Learnt (λ κ r e. r) (λ κ a. same (a.0 ∷ a.1.0 ∷ a.1.1.0 ∷ a.1.1.1.0 ∷ []) a.1.1.1.1.0.now)
are_four_same_answers = record { takes_any = λ κ a. tt; is = λ κ a r e l. l }

pub command_given_answers : Answers command_given.Asked command_given.Learnt (λ κ r e. r) (λ κ a. command_given a.0.now)
command_given_answers = record { takes_any = λ κ a. tt; is = λ κ a r e l. l }

pub count_in_command_answers : Answers count_in_command.Asked count_in_command.Learnt (λ κ r e. r) (λ κ a. count_in a.0)
count_in_command_answers = record { takes_any = λ κ a. tt; is = λ κ a r e l. l }

pub components_given_answers : Answers components_given.Asked components_given.Learnt (λ κ r e. r) (λ κ a. components_from (count_in a.0) a.1.0.now)
components_given_answers = record { takes_any = λ κ a. tt; is = λ κ a r e l. l }

pub command_refusal_answers : Answers command_refusal.Asked command_refusal.Learnt (λ κ r e. r) (λ κ a. command_refusal a.0 a.1.0.now a.1.1.0.now a.1.1.1.0.now)
command_refusal_answers = record { takes_any = λ κ a. tt; is = λ κ a r e l. l }

pub write_command_words_answers : Answers write_command_words.Asked write_command_words.Learnt (λ κ r e. r) (λ κ a. flat_written (answer_of (command_words_made a.0.now a.1.0.now a.1.1.0.now) a.1.1.1.0.now))
write_command_words_answers = record { takes_any = λ κ a. tt; is = λ κ a r e l. l.0 }

pub write_command_words_leaves : Answers write_command_words.Asked write_command_words.Learnt (λ κ r e. e.1.1.1.0.now) (λ κ a. later_of (command_words_made a.0.now a.1.0.now a.1.1.0.now) a.1.1.1.0.now)
write_command_words_leaves = record { takes_any = λ κ a. tt; is = λ κ a r e l. l.1 }

pub descriptor_refusal_answers : Answers descriptor_refusal.Asked descriptor_refusal.Learnt (λ κ r e. r) (λ κ a. descriptor_refusal a.0 a.1.0.now a.1.1.0.now a.1.1.1.0.now)
descriptor_refusal_answers = record { takes_any = λ κ a. tt; is = λ κ a r e l. l }

pub write_descriptor_words_answers : Answers write_descriptor_words.Asked write_descriptor_words.Learnt (λ κ r e. r) (λ κ a. flat_written (answer_of (descriptor_words_made a.0.now a.1.0.now a.1.1.0.now) a.1.1.1.0.now))
write_descriptor_words_answers = record { takes_any = λ κ a. tt; is = λ κ a r e l. l.0 }

pub write_descriptor_words_leaves : Answers write_descriptor_words.Asked write_descriptor_words.Learnt (λ κ r e. e.1.1.1.0.now) (λ κ a. later_of (descriptor_words_made a.0.now a.1.0.now a.1.1.0.now) a.1.1.1.0.now)
write_descriptor_words_leaves = record { takes_any = λ κ a. tt; is = λ κ a r e l. l.1 }

pub write_section_words_answers : Answers write_section_words.Asked write_section_words.Learnt (λ κ r e. r) (λ κ a. flat_written (answer_of (section_words_made a.0.now a.1.0.now a.1.1.0.now a.1.1.1.0.now a.1.1.1.1.0.now) a.1.1.1.1.1.0.now))
write_section_words_answers = record { takes_any = λ κ a. tt; is = λ κ a r e l. l.0 }

pub write_section_words_leaves : Answers write_section_words.Asked write_section_words.Learnt (λ κ r e. e.1.1.1.1.1.0.now) (λ κ a. later_of (section_words_made a.0.now a.1.0.now a.1.1.0.now a.1.1.1.0.now a.1.1.1.1.0.now) a.1.1.1.1.1.0.now)
write_section_words_leaves = record { takes_any = λ κ a. tt; is = λ κ a r e l. l.1 }

-- ---- scte35: the exported functions

pub scte35_read_header_answers : Answers scte35_read_header.Asked scte35_read_header.Learnt (λ κ r e. r) (λ κ a. flat_header_read (header_of (drop a.1.0 a.0.now)))
scte35_read_header_answers = record { takes_any = λ κ a. tt; is = λ κ a r e l. l }

pub scte35_read_section_answers : Answers scte35_read_section.Asked scte35_read_section.Learnt (λ κ r e. r) (λ κ a. flat_section_read (section_of (drop a.1.0 a.0.now)))
scte35_read_section_answers = record { takes_any = λ κ a. tt; is = λ κ a r e l. l }

pub scte35_read_command_answers : Answers scte35_read_command.Asked scte35_read_command.Learnt (λ κ r e. r) (λ κ a. flat_command_read (command_of a.0 (drop a.1.1.0 a.1.0.now)))
scte35_read_command_answers = record { takes_any = λ κ a. tt; is = λ κ a r e l. l }

pub scte35_read_insert_components_answers : Answers scte35_read_insert_components.Asked scte35_read_insert_components.Learnt (λ κ r e. r) (λ κ a. flat_insert_components (command_of 0x05 (drop a.1.0 a.0.now)) (components_of (drop a.1.0 a.0.now)))
scte35_read_insert_components_answers = record { takes_any = λ κ a. tt; is = λ κ a r e l. l }

pub scte35_read_item_answers : Answers scte35_read_item.Asked scte35_read_item.Learnt (λ κ r e. r) (λ κ a. flat_step (step_of a.0.now a.1.0))
scte35_read_item_answers = record { takes_any = λ κ a. tt; is = λ κ a r e l. l }

pub scte35_read_segmentation_components_answers : Answers scte35_read_segmentation_components.Asked scte35_read_segmentation_components.Learnt (λ κ r e. r) (λ κ a. flat_beside (reading_of a.0.now a.1.0))
scte35_read_segmentation_components_answers = record { takes_any = λ κ a. tt; is = λ κ a r e l. l }

pub scte35_read_upid_answers : Answers scte35_read_upid.Asked scte35_read_upid.Learnt (λ κ r e. r) (λ κ a. flat_upid (upid_of a.0 (drop a.1.1.0 a.1.0.now)))
scte35_read_upid_answers = record { takes_any = λ κ a. tt; is = λ κ a r e l. l }

pub scte35_crc_answers : Answers scte35_crc.Asked scte35_crc.Learnt (λ κ r e. r) (λ κ a. crc_of (drop a.1.0 a.0.now))
scte35_crc_answers = record { takes_any = λ κ a. tt; is = λ κ a r e l. l }

pub scte35_adjust_time_answers : Answers scte35_adjust_time.Asked scte35_adjust_time.Learnt (λ κ r e. r) (λ κ a. flat_adjusted (adjusted_of (time_handed a.0 a.1.0) a.1.1.0))
scte35_adjust_time_answers = record { takes_any = λ κ a. tt; is = λ κ a r e l. l }

pub scte35_classify_algorithm_answers : Answers scte35_classify_algorithm.Asked scte35_classify_algorithm.Learnt (λ κ r e. r) (λ κ a. flat_name algorithm_entry (algorithm_of a.0))
scte35_classify_algorithm_answers = record { takes_any = λ κ a. tt; is = λ κ a r e l. l }

pub scte35_classify_command_type_answers : Answers scte35_classify_command_type.Asked scte35_classify_command_type.Learnt (λ κ r e. r) (λ κ a. flat_name command_entry (command_type_of a.0))
scte35_classify_command_type_answers = record { takes_any = λ κ a. tt; is = λ κ a r e l. l }

pub scte35_classify_upid_type_answers : Answers scte35_classify_upid_type.Asked scte35_classify_upid_type.Learnt (λ κ r e. r) (λ κ a. flat_name upid_type_entry (upid_type_of a.0))
scte35_classify_upid_type_answers = record { takes_any = λ κ a. tt; is = λ κ a r e l. l }

pub scte35_classify_segmentation_type_answers : Answers scte35_classify_segmentation_type.Asked scte35_classify_segmentation_type.Learnt (λ κ r e. r) (λ κ a. flat_name segmentation_entry (segmentation_type_of a.0))
scte35_classify_segmentation_type_answers = record { takes_any = λ κ a. tt; is = λ κ a r e l. l }

pub scte35_classify_network_indicator_answers : Answers scte35_classify_network_indicator.Asked scte35_classify_network_indicator.Learnt (λ κ r e. r) (λ κ a. flat_answer network_flag (network_of a.0))
scte35_classify_network_indicator_answers = record { takes_any = λ κ a. tt; is = λ κ a r e l. l }

pub scte35_classify_return_mode_answers : Answers scte35_classify_return_mode.Asked scte35_classify_return_mode.Learnt (λ κ r e. r) (λ κ a. flat_answer return_flag (return_of a.0))
scte35_classify_return_mode_answers = record { takes_any = λ κ a. tt; is = λ κ a r e l. l }

pub scte35_classify_device_restrictions_answers : Answers scte35_classify_device_restrictions.Asked scte35_classify_device_restrictions.Learnt (λ κ r e. r) (λ κ a. flat_answer restrictions_bits (restrictions_of a.0))
scte35_classify_device_restrictions_answers = record { takes_any = λ κ a. tt; is = λ κ a r e l. l }

pub scte35_write_command_words_answers : Answers scte35_write_command_words.Asked scte35_write_command_words.Learnt (λ κ r e. r) (λ κ a. flat_written (answer_of (command_words_made a.0.now a.1.0.now a.1.1.0.now) a.1.1.1.0.now))
scte35_write_command_words_answers = record { takes_any = λ κ a. tt; is = λ κ a r e l. l.0 }

pub scte35_write_command_words_leaves : Answers scte35_write_command_words.Asked scte35_write_command_words.Learnt (λ κ r e. e.1.1.1.0.now) (λ κ a. later_of (command_words_made a.0.now a.1.0.now a.1.1.0.now) a.1.1.1.0.now)
scte35_write_command_words_leaves = record { takes_any = λ κ a. tt; is = λ κ a r e l. l.1 }

pub scte35_write_descriptor_words_answers : Answers scte35_write_descriptor_words.Asked scte35_write_descriptor_words.Learnt (λ κ r e. r) (λ κ a. flat_written (answer_of (descriptor_words_made a.0.now a.1.0.now a.1.1.0.now) a.1.1.1.0.now))
scte35_write_descriptor_words_answers = record { takes_any = λ κ a. tt; is = λ κ a r e l. l.0 }

pub scte35_write_descriptor_words_leaves : Answers scte35_write_descriptor_words.Asked scte35_write_descriptor_words.Learnt (λ κ r e. e.1.1.1.0.now) (λ κ a. later_of (descriptor_words_made a.0.now a.1.0.now a.1.1.0.now) a.1.1.1.0.now)
scte35_write_descriptor_words_leaves = record { takes_any = λ κ a. tt; is = λ κ a r e l. l.1 }

pub scte35_write_section_words_answers : Answers scte35_write_section_words.Asked scte35_write_section_words.Learnt (λ κ r e. r) (λ κ a. flat_written (answer_of (section_words_made a.0.now a.1.0.now a.1.1.0.now a.1.1.1.0.now a.1.1.1.1.0.now) a.1.1.1.1.1.0.now))
scte35_write_section_words_answers = record { takes_any = λ κ a. tt; is = λ κ a r e l. l.0 }

pub scte35_write_section_words_leaves : Answers scte35_write_section_words.Asked scte35_write_section_words.Learnt (λ κ r e. e.1.1.1.1.1.0.now) (λ κ a. later_of (section_words_made a.0.now a.1.0.now a.1.1.0.now a.1.1.1.0.now a.1.1.1.1.0.now) a.1.1.1.1.1.0.now)
scte35_write_section_words_leaves = record { takes_any = λ κ a. tt; is = λ κ a r e l. l.1 }

pub scte35_is_canonical_section_answers : Answers scte35_is_canonical_section.Asked scte35_is_canonical_section.Learnt (λ κ r e. r) (λ κ a. canonical_section (drop a.1.0 a.0.now))
scte35_is_canonical_section_answers = record { takes_any = λ κ a. tt; is = λ κ a r e l. l }

pub scte35_is_canonical_loop_answers : Answers scte35_is_canonical_loop.Asked scte35_is_canonical_loop.Learnt (λ κ r e. r) (λ κ a. canonical_loop (drop a.1.0 a.0.now))
scte35_is_canonical_loop_answers = record { takes_any = λ κ a. tt; is = λ κ a r e l. l }

pub scte35_is_canonical_descriptor_answers : Answers scte35_is_canonical_descriptor.Asked scte35_is_canonical_descriptor.Learnt (λ κ r e. r) (λ κ a. canonical_descriptor (drop a.1.0 a.0.now))
scte35_is_canonical_descriptor_answers = record { takes_any = λ κ a. tt; is = λ κ a r e l. l }
