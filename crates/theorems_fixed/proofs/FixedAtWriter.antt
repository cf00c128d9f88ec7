-- Every public function of the writer fixes its answer and its target's later bytes, and asks nothing of the caller, as FixedAnswers.antt has it of the readers.
use mathlib.Core.List.{[]}
use lib.Dec.{ltb}
use lib.ListN.{get_or, length}
use mathlib.Core.Bool.{◌&&◌}
use Rattle.canonical_form.specs.Command.{canonical_command}
use Rattle.command.specs.Command.{array}
use Rattle.command.specs.Insert.{blank, immediate}
use Rattle.command_measure.specs.Made.{command_made, counted, insert_made, measured_of}
use Rattle.descriptor.specs.Segmentation.{by_program, component_count, duration_size, lasting, mode_size, sub_bytes, unrestricted}
use Rattle.descriptor.specs.Full.{filled}
use Rattle.canonical_form.specs.Descriptor.{canonical_descriptor, canonical_loop}
use Rattle.descriptor_measure.specs.Writing.{all_zero, alone, descriptor_made, writable_reserved, segmentation_made, written_type, written_upid}
use Rattle.bit_stores.specs.Pen.{pen_after, penned}
use Rattle.table.specs.Cursor.{place}
use Rattle.bit_stores.specs.Written.{answer_of, bytes_in, later_of}
use Rattle.canonical_form.specs.Section.{canonical_frame, canonical_section}
use Rattle.section_writer.specs.Writing.{type_of, section_made}
use Rattle.table.specs.Bits.{bits_of, bits_of_num}
use Rattle.table.specs.Lent.{stored}
use Rattle.table.specs.Writing.{refusal_in}
use Rattle.bit_stores.proofs.put_bits.Reads as put_bits
use Rattle.bit_stores.proofs.put_run.Reads as put_run
use Rattle.descriptor_measure.proofs.is_zero.Reads as is_zero
use Rattle.descriptor_measure.proofs.is_alone.Reads as is_alone
use Rattle.descriptor_measure.proofs.is_writable_reserved.Reads as is_writable_reserved
use Rattle.descriptor_measure.proofs.upids.written_type.Reads as written_type
use Rattle.descriptor_measure.proofs.upids.upid_size.Reads as upid_size
use Rattle.descriptor_measure.proofs.segment.by_program.Reads as by_program_lem
use Rattle.descriptor_measure.proofs.segment.lasts.Reads as lasts
use Rattle.descriptor_measure.proofs.segment.is_free.Reads as is_free
use Rattle.descriptor_measure.proofs.segment.refusal_with_no_components.Reads as refusal_with_no_components
use Rattle.descriptor_measure.proofs.segment.refusal_of_segmentation.Reads as refusal_of_segmentation
use Rattle.descriptor_measure.proofs.segment.count_in_segmentation.Reads as count_in_segmentation
use Rattle.descriptor_measure.proofs.segment.mode_size.Reads as mode_size_lem
use Rattle.descriptor_measure.proofs.segment.duration_size.Reads as duration_size_lem
use Rattle.descriptor_measure.proofs.segment.sub_size.Reads as sub_size
use Rattle.descriptor_canonical.proofs.is_canonical_descriptor.Reads as is_canonical_descriptor
use Rattle.descriptor_canonical.proofs.is_canonical_loop.Reads as is_canonical_loop
use Rattle.descriptor_writer.proofs.write_descriptor_without_components.Reads as write_descriptor_without_components
use Rattle.descriptor_writer.proofs.write_descriptor.Reads as write_descriptor
use Rattle.command_measure.proofs.measure.is_immediate.Reads as is_immediate
use Rattle.command_measure.proofs.measure.are_immediate.Reads as are_immediate
use Rattle.command_measure.proofs.measure.measure_insert.Reads as measure_insert
use Rattle.command_measure.proofs.measure_without_components.Reads as measure_without_components
use Rattle.command_measure.proofs.measure_command.Reads as measure_command
use Rattle.command_writer.proofs.put_without_components.Reads as put_without_components
use Rattle.command_writer.proofs.write_command_without_components.Reads as write_command_without_components
use Rattle.command_writer.proofs.put_command.Reads as put_command
use Rattle.command_writer.proofs.write_command.Reads as write_command
use Rattle.command_canonical.proofs.is_canonical_command.Reads as is_canonical_command
use Rattle.section_writer.proofs.write_section.Reads as write_section
use Rattle.section_writer.proofs.write_section_without_components.Reads as write_section_without_components
use Rattle.section_writer.proofs.is_canonical_frame.Reads as is_canonical_frame
use Rattle.section_writer.proofs.is_canonical_section.Reads as is_canonical_section
use Rattle.theorems_fixed.specs.FixedAnswers.{Answers}

-- ---- bit_stores: stores at any bit

pub put_bits_answers : Answers put_bits.Asked put_bits.Learnt (λ κ r e. r) (λ κ a. pen_after a.0.now a.1.0 (length (bits_of_num a.1.1.0 a.1.1.1.0)))
put_bits_answers = record { takes_any = λ κ a. tt; is = λ κ a r e l. l.cursor }

pub put_bits_leaves : Answers put_bits.Asked put_bits.Learnt (λ κ r e. e.0.now) (λ κ a. penned a.0.now (place a.1.0) (bits_of_num a.1.1.0 a.1.1.1.0))
put_bits_leaves = record { takes_any = λ κ a. tt; is = λ κ a r e l. l.bytes }

pub put_run_answers : Answers put_run.Asked put_run.Learnt (λ κ r e. r) (λ κ a. pen_after a.0.now a.1.0 (length (bits_of a.1.1.0.now)))
put_run_answers = record { takes_any = λ κ a. tt; is = λ κ a r e l. l.cursor }

pub put_run_leaves : Answers put_run.Asked put_run.Learnt (λ κ r e. e.0.now) (λ κ a. penned a.0.now (place a.1.0) (bits_of a.1.1.0.now))
put_run_leaves = record { takes_any = λ κ a. tt; is = λ κ a r e l. l.bytes }

-- ---- descriptor_measure: the tests of the descriptor writer

pub is_zero_answers : Answers is_zero.Asked is_zero.Learnt (λ κ r e. r) (λ κ a. all_zero a.0.now)
is_zero_answers = record { takes_any = λ κ a. tt; is = λ κ a r e l. l }

pub is_alone_answers : Answers is_alone.Asked is_alone.Learnt (λ κ r e. r) (λ κ a. alone a.0 a.1.0)
is_alone_answers = record { takes_any = λ κ a. tt; is = λ κ a r e l. l }

pub is_writable_reserved_answers : Answers is_writable_reserved.Asked is_writable_reserved.Learnt (λ κ r e. r) (λ κ a. writable_reserved a.0 a.1.0 a.1.1.0)
is_writable_reserved_answers = record { takes_any = λ κ a. tt; is = λ κ a r e l. l }

pub written_type_answers : Answers written_type.Asked written_type.Learnt (λ κ r e. r) (λ κ a. written_type a.0)
written_type_answers = record { takes_any = λ κ a. tt; is = λ κ a r e l. l }

pub upid_size_answers : Answers upid_size.Asked upid_size.Learnt (λ κ r e. r) (λ κ a. (written_upid a.0).bytes.len)
upid_size_answers = record { takes_any = λ κ a. tt; is = λ κ a r e l. l }

pub by_program_answers : Answers by_program_lem.Asked by_program_lem.Learnt (λ κ r e. r) (λ κ a. by_program a.0)
by_program_answers = record { takes_any = λ κ a. tt; is = λ κ a r e l. l }

pub lasts_answers : Answers lasts.Asked lasts.Learnt (λ κ r e. r) (λ κ a. lasting a.0)
lasts_answers = record { takes_any = λ κ a. tt; is = λ κ a r e l. l }

pub is_free_answers : Answers is_free.Asked is_free.Learnt (λ κ r e. r) (λ κ a. unrestricted a.0)
is_free_answers = record { takes_any = λ κ a. tt; is = λ κ a r e l. l }

pub refusal_with_no_components_answers : Answers refusal_with_no_components.Asked refusal_with_no_components.Learnt (λ κ r e. r) (λ κ a. refusal_in (segmentation_made a.0 a.1.0 (record { components = filled []; eidr = a.1.1.0 }) a.1.1.1.0.now))
refusal_with_no_components_answers = record { takes_any = λ κ a. tt; is = λ κ a r e l. l }

pub refusal_of_segmentation_answers : Answers refusal_of_segmentation.Asked refusal_of_segmentation.Learnt (λ κ r e. r) (λ κ a. refusal_in (segmentation_made a.0 a.1.0 (record { components = a.1.1.0; eidr = a.1.1.1.0 }) a.1.1.1.1.0.now))
refusal_of_segmentation_answers = record { takes_any = λ κ a. tt; is = λ κ a r e l. l }

pub count_in_segmentation_answers : Answers count_in_segmentation.Asked count_in_segmentation.Learnt (λ κ r e. r) (λ κ a. component_count a.0)
count_in_segmentation_answers = record { takes_any = λ κ a. tt; is = λ κ a r e l. l }

pub mode_size_answers : Answers mode_size_lem.Asked mode_size_lem.Learnt (λ κ r e. r) (λ κ a. mode_size a.0)
mode_size_answers = record { takes_any = λ κ a. tt; is = λ κ a r e l. l.0 }

pub duration_size_answers : Answers duration_size_lem.Asked duration_size_lem.Learnt (λ κ r e. r) (λ κ a. duration_size a.0)
duration_size_answers = record { takes_any = λ κ a. tt; is = λ κ a r e l. l.0 }

pub sub_size_answers : Answers sub_size.Asked sub_size.Learnt (λ κ r e. r) (λ κ a. sub_bytes a.0)
sub_size_answers = record { takes_any = λ κ a. tt; is = λ κ a r e l. l.0 }

-- ---- descriptor_canonical: the canonical form of a descriptor and of a loop, as tests

pub is_canonical_descriptor_answers : Answers is_canonical_descriptor.Asked is_canonical_descriptor.Learnt (λ κ r e. r) (λ κ a. canonical_descriptor a.0.now)
is_canonical_descriptor_answers = record { takes_any = λ κ a. tt; is = λ κ a r e l. l }

pub is_canonical_loop_answers : Answers is_canonical_loop.Asked is_canonical_loop.Learnt (λ κ r e. r) (λ κ a. canonical_loop a.0.now)
is_canonical_loop_answers = record { takes_any = λ κ a. tt; is = λ κ a r e l. l }

-- ---- descriptor_writer

pub write_descriptor_without_components_answers : Answers write_descriptor_without_components.Asked write_descriptor_without_components.Learnt (λ κ r e. r) (λ κ a. answer_of (descriptor_made a.0 a.1.0 (record { components = filled []; eidr = a.1.1.0 }) a.1.1.1.0.now) a.1.1.1.1.0.now)
write_descriptor_without_components_answers = record { takes_any = λ κ a. tt; is = λ κ a r e l. l.answer }

pub write_descriptor_without_components_leaves : Answers write_descriptor_without_components.Asked write_descriptor_without_components.Learnt (λ κ r e. e.1.1.1.1.0.now) (λ κ a. later_of (descriptor_made a.0 a.1.0 (record { components = filled []; eidr = a.1.1.0 }) a.1.1.1.0.now) a.1.1.1.1.0.now)
write_descriptor_without_components_leaves = record { takes_any = λ κ a. tt; is = λ κ a r e l. l.target_later }

pub write_descriptor_answers : Answers write_descriptor.Asked write_descriptor.Learnt (λ κ r e. r) (λ κ a. answer_of (descriptor_made a.0 a.1.0 a.1.1.0 a.1.1.1.0.now) a.1.1.1.1.0.now)
write_descriptor_answers = record { takes_any = λ κ a. tt; is = λ κ a r e l. l.answer }

pub write_descriptor_leaves : Answers write_descriptor.Asked write_descriptor.Learnt (λ κ r e. e.1.1.1.1.0.now) (λ κ a. later_of (descriptor_made a.0 a.1.0 a.1.1.0 a.1.1.1.0.now) a.1.1.1.1.0.now)
write_descriptor_leaves = record { takes_any = λ κ a. tt; is = λ κ a r e l. l.target_later }

-- ---- command_measure: the tests of the command writer

pub is_immediate_answers : Answers is_immediate.Asked is_immediate.Learnt (λ κ r e. r) (λ κ a. immediate a.0)
is_immediate_answers = record { takes_any = λ κ a. tt; is = λ κ a r e l. l }

pub are_immediate_answers : Answers are_immediate.Asked are_immediate.Learnt (λ κ r e. r) (λ κ a. ltb 0 a.0 && immediate (get_or a.1.0 0 blank).splice_time)
are_immediate_answers = record { takes_any = λ κ a. tt; is = λ κ a r e l. l }

pub measure_insert_answers : Answers measure_insert.Asked measure_insert.Learnt (λ κ r e. r) (λ κ a. measured_of (insert_made (counted a.0 a.1.0)))
measure_insert_answers = record { takes_any = λ κ a. tt; is = λ κ a r e l. l.0 }

pub measure_without_components_answers : Answers measure_without_components.Asked measure_without_components.Learnt (λ κ r e. r) (λ κ a. measured_of (command_made a.0 (array []) a.1.0.now))
measure_without_components_answers = record { takes_any = λ κ a. tt; is = λ κ a r e l. l.0 }

pub measure_command_answers : Answers measure_command.Asked measure_command.Learnt (λ κ r e. r) (λ κ a. measured_of (command_made a.0 a.1.0 a.1.1.0.now))
measure_command_answers = record { takes_any = λ κ a. tt; is = λ κ a r e l. l.0 }

-- ---- command_writer

pub put_command_leaves : Answers put_command.Asked put_command.Learnt (λ κ r e. e.0.now) (λ κ a. stored a.0.now a.1.0 (bytes_in (command_made a.1.1.0 a.1.1.1.0 a.1.1.1.1.0.now)))
put_command_leaves = record { takes_any = λ κ a. tt; is = λ κ a r e l. l }

pub write_command_answers : Answers write_command.Asked write_command.Learnt (λ κ r e. r) (λ κ a. answer_of (command_made a.0 a.1.0 a.1.1.0.now) a.1.1.1.0.now)
write_command_answers = record { takes_any = λ κ a. tt; is = λ κ a r e l. l.0 }

pub write_command_leaves : Answers write_command.Asked write_command.Learnt (λ κ r e. e.1.1.1.0.now) (λ κ a. later_of (command_made a.0 a.1.0 a.1.1.0.now) a.1.1.1.0.now)
write_command_leaves = record { takes_any = λ κ a. tt; is = λ κ a r e l. l.1 }

pub put_without_components_leaves : Answers put_without_components.Asked put_without_components.Learnt (λ κ r e. e.0.now) (λ κ a. stored a.0.now a.1.0 (bytes_in (command_made a.1.1.0 (array []) a.1.1.1.0.now)))
put_without_components_leaves = record { takes_any = λ κ a. tt; is = λ κ a r e l. l }

pub write_command_without_components_answers : Answers write_command_without_components.Asked write_command_without_components.Learnt (λ κ r e. r) (λ κ a. answer_of (command_made a.0 (array []) a.1.0.now) a.1.1.0.now)
write_command_without_components_answers = record { takes_any = λ κ a. tt; is = λ κ a r e l. l.0 }

pub write_command_without_components_leaves : Answers write_command_without_components.Asked write_command_without_components.Learnt (λ κ r e. e.1.1.0.now) (λ κ a. later_of (command_made a.0 (array []) a.1.0.now) a.1.1.0.now)
write_command_without_components_leaves = record { takes_any = λ κ a. tt; is = λ κ a r e l. l.1 }

-- ---- command_canonical

pub is_canonical_command_answers : Answers is_canonical_command.Asked is_canonical_command.Learnt (λ κ r e. r) (λ κ a. canonical_command a.0 a.1.0.now)
is_canonical_command_answers = record { takes_any = λ κ a. tt; is = λ κ a r e l. l }

-- ---- section_writer

pub write_section_answers : Answers write_section.Asked write_section.Learnt (λ κ r e. r) (λ κ a. answer_of (section_made a.0 (command_made a.1.0 a.1.1.0 a.1.1.1.0.now) (type_of a.1.0) a.1.1.1.1.0.now) a.1.1.1.1.1.0.now)
write_section_answers = record { takes_any = λ κ a. tt; is = λ κ a r e l. l.0 }

pub write_section_leaves : Answers write_section.Asked write_section.Learnt (λ κ r e. e.1.1.1.1.1.0.now) (λ κ a. later_of (section_made a.0 (command_made a.1.0 a.1.1.0 a.1.1.1.0.now) (type_of a.1.0) a.1.1.1.1.0.now) a.1.1.1.1.1.0.now)
write_section_leaves = record { takes_any = λ κ a. tt; is = λ κ a r e l. l.1 }

pub write_section_without_components_answers : Answers write_section_without_components.Asked write_section_without_components.Learnt (λ κ r e. r) (λ κ a. answer_of (section_made a.0 (command_made a.1.0 (array []) a.1.1.0.now) (type_of a.1.0) a.1.1.1.0.now) a.1.1.1.1.0.now)
write_section_without_components_answers = record { takes_any = λ κ a. tt; is = λ κ a r e l. l.0 }

pub write_section_without_components_leaves : Answers write_section_without_components.Asked write_section_without_components.Learnt (λ κ r e. e.1.1.1.1.0.now) (λ κ a. later_of (section_made a.0 (command_made a.1.0 (array []) a.1.1.0.now) (type_of a.1.0) a.1.1.1.0.now) a.1.1.1.1.0.now)
write_section_without_components_leaves = record { takes_any = λ κ a. tt; is = λ κ a r e l. l.1 }

pub is_canonical_frame_answers : Answers is_canonical_frame.Asked is_canonical_frame.Learnt (λ κ r e. r) (λ κ a. canonical_frame a.0.now)
is_canonical_frame_answers = record { takes_any = λ κ a. tt; is = λ κ a r e l. l }

pub is_canonical_section_answers : Answers is_canonical_section.Asked is_canonical_section.Learnt (λ κ r e. r) (λ κ a. canonical_section a.0.now)
is_canonical_section_answers = record { takes_any = λ κ a. tt; is = λ κ a r e l. l }
