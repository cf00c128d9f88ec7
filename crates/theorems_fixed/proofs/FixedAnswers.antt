-- Every public function's contract fixes its answer, and asks nothing of the caller (specs/FixedAnswers.antt): a line for each.
-- A slice that is handed back is fixed in its bytes, and not in its address: `view`, `bytes_of`, `part_bytes`, `loop_of`, `private_bytes_of`. A store has no answer: its
-- target's later bytes are fixed, `put_byte`, `put_number`, `put_bytes`. The programs' `list_input` has no answer and no target, and no line: it prints.
use mathlib.Core.Path.{◌≡◌, refl, sym, ◌∙◌}
use Prim.Native.Nat.{◌%◌, ◌*◌, ◌+◌, ◌-◌, ◌/◌, ◌^◌}
use lib.ListN.{get_or, length}
use native.Mathlib.Omega.{arith}
use Rattle.std.specs.Prelude.{Result, Ok, Err}
use mathlib.Core.List.{[], ◌∷◌}
use Rattle.command.specs.Command.{array, command_of, listed_of, number_of as commandNumberOf}
use Rattle.command.specs.Insert.{insert}
use Rattle.command.specs.Private.{insert_read}
use Rattle.crc.specs.Crc.{crc_of}
use Rattle.crc_table.specs.Turns.{reversed, turns}
use Rattle.descriptor.specs.Descriptor.{avail_of, descriptor_of, dtmf_of, is_cuei, reserved_of, segmentation_of, time_of}
use Rattle.descriptor.specs.Full.{beside_read, blank_beside, identifier_read, full_of}
use Rattle.header.specs.Header.{header_of}
use Rattle.header_numbers.specs.Numbers.{numbers_read}
use Rattle.splice_time.specs.Break.{break_duration, break_read}
use Rattle.splice_time.specs.Time.{adjusted_of, splice_time, time_read}
use Rattle.descriptor_loop.specs.Items.{count_of, reading_of, step_of}
use Rattle.descriptor_loop.specs.Place.{view_of}
use Rattle.names.specs.Algorithm.{algorithm_number, algorithm_of, algorithms, writable_algorithm}
use Rattle.names.specs.Command.{command_number, command_type_of, commands, writable_command}
use Rattle.names.specs.Flags.{flag_answer, network_flag, network_of, restrictions_bits, restrictions_of, return_flag, return_of}
use Rattle.names.specs.Numbering.{class_in, class_number}
use Rattle.names.specs.Segmentation.{writable_segmentation, segmentation_number, segmentation_type_of, segmentations}
use Rattle.names.specs.Upid.{writable_upid_type, upid_type_number, upid_type_of, upid_types}
use Rattle.names.specs.declared.flags.UnknownNumber.{UnknownNumber}
use Rattle.names.specs.declared.numbering.NumberClass.{NumberClass}
use Rattle.section.specs.Section.{frame_of, moved_read, number_of, private_view, section_of}
use Rattle.section.specs.Full.{full_section_of}
use Rattle.table.proofs.Lists.{zero_one}
use Rattle.table.specs.Bits.{big_endian, bits_of, field}
use Rattle.table.specs.Cursor.{flagged_of, passed_of, place, skipped_of, taken_of}
use Rattle.table.specs.Lent.{lies_in, stored, viewed}
use Rattle.table.specs.Table.{bit, flag_number, number, parse, part, reserved}
use Rattle.upid.specs.Text.{text_of}
use Rattle.upid.specs.Upid.{check_of, eidr_of, part_view, upid_of}
use Rattle.crc.proofs.crc32.Reads as crc32
use Rattle.crc.proofs.crc32_plain.Reads as crc32_plain
use Rattle.crc_table.proofs.reverse.Reads as reverse
use Rattle.crc_table.proofs.turned.Reads as turned
use Rattle.table.proofs.numbers.wide.Reads as wide
use Rattle.table.proofs.numbers.size.Reads as size
use Rattle.table.proofs.numbers.flag_number.Reads as flag_number
use Rattle.table.proofs.numbers.byte.Reads as byte
use Rattle.table.proofs.numbers.bits.Reads as bits
use Rattle.table.proofs.numbers.big_endian.Reads as big_endian
use Rattle.table.proofs.numbers.time33.Reads as time33
use Rattle.table.proofs.lent.lies_in.Reads as lies_in_lem
use Rattle.table.proofs.lent.view.Reads as view
use Rattle.table.proofs.cursor.Cursor.left.Reads as cursor_left
use Rattle.table.proofs.cursor.Cursor.take.Reads as cursor_take
use Rattle.table.proofs.cursor.Cursor.flag.Reads as cursor_flag
use Rattle.table.proofs.cursor.Cursor.skip.Reads as cursor_skip
use Rattle.table.proofs.cursor.Cursor.pass.Reads as cursor_pass
use Rattle.table.proofs.store.put_byte.Reads as put_byte
use Rattle.table.proofs.store.put_number.Reads as put_number
use Rattle.table.proofs.store.put_bytes.Reads as put_bytes
use Rattle.names.proofs.algorithm.EncryptionAlgorithmFromU8.from.Reads as algorithm_from
use Rattle.names.proofs.algorithm.U8FromEncryptionAlgorithm.from.Reads as algorithm_into
use Rattle.names.proofs.algorithm.EncryptionAlgorithmNumbered.class.Reads as algorithm_class
use Rattle.names.proofs.algorithm.EncryptionAlgorithmNumbered.writable.Reads as algorithm_writable
use Rattle.names.proofs.command.SpliceCommandTypeFromU8.from.Reads as command_type_from
use Rattle.names.proofs.command.U8FromSpliceCommandType.from.Reads as command_type_into
use Rattle.names.proofs.command.SpliceCommandTypeNumbered.class.Reads as command_type_class
use Rattle.names.proofs.command.SpliceCommandTypeNumbered.writable.Reads as command_type_writable
use Rattle.names.proofs.upid.SegmentationUpidTypeFromU8.from.Reads as upid_type_from
use Rattle.names.proofs.upid.U8FromSegmentationUpidType.from.Reads as upid_type_into
use Rattle.names.proofs.upid.SegmentationUpidTypeNumbered.class.Reads as upid_type_class
use Rattle.names.proofs.upid.SegmentationUpidTypeNumbered.writable.Reads as upid_type_writable
use Rattle.names.proofs.segmentation.SegmentationTypeIdFromU8.from.Reads as segmentation_type_from
use Rattle.names.proofs.segmentation.U8FromSegmentationTypeId.from.Reads as segmentation_type_into
use Rattle.names.proofs.segmentation.SegmentationTypeIdNumbered.class.Reads as segmentation_type_class
use Rattle.names.proofs.segmentation.SegmentationTypeIdNumbered.writable.Reads as segmentation_type_writable
use Rattle.names.proofs.flags.NetworkIndicatorTryFromU8.try_from.Reads as network_try_from
use Rattle.names.proofs.flags.U8FromNetworkIndicator.from.Reads as network_into
use Rattle.names.proofs.flags.ReturnModeTryFromU8.try_from.Reads as return_mode_try_from
use Rattle.names.proofs.flags.U8FromReturnMode.from.Reads as return_mode_into
use Rattle.names.proofs.flags.DeviceRestrictionsTryFromU8.try_from.Reads as restrictions_try_from
use Rattle.names.proofs.flags.U8FromDeviceRestrictions.from.Reads as restrictions_into
use Rattle.header_numbers.proofs.read_header_numbers.Reads as read_header_numbers
use Rattle.header.proofs.header.read_header.Reads as read_header
use Rattle.splice_time.proofs.read_aligned_time.Reads as read_aligned_time
use Rattle.splice_time.proofs.break_duration.read_break.Reads as read_break
use Rattle.splice_time.proofs.adjusted_time.Reads as adjusted_time
use Rattle.upid.proofs.text.is_text.Reads as is_text
use Rattle.upid.proofs.check_upid.Reads as check_upid
use Rattle.upid.proofs.read_upid.Reads as read_upid
use Rattle.upid.proofs.eidr.Reads as eidr
use Rattle.upid.proofs.part_bytes.Reads as part_bytes
use Rattle.descriptor.proofs.is_cuei.Reads as is_cuei
use Rattle.descriptor.proofs.read_descriptor.Reads as read_descriptor
use Rattle.descriptor.proofs.plain.read_avail.Reads as read_avail
use Rattle.descriptor.proofs.plain.read_dtmf.Reads as read_dtmf
use Rattle.descriptor.proofs.plain.read_time.Reads as read_time
use Rattle.descriptor.proofs.plain.read_reserved.Reads as read_reserved
use Rattle.descriptor.proofs.segmentation.read_segmentation.Reads as read_segmentation
use Rattle.descriptor.proofs.full.read_full_descriptor.Reads as read_full_descriptor
use Rattle.descriptor.proofs.full.blank_beside.Reads as blank_beside
use Rattle.descriptor.proofs.full.beside_of.Reads as beside_of
use Rattle.descriptor.proofs.full.identifier_of.Reads as identifier_of_lem
use Rattle.descriptor_loop.proofs.iteration.step.Reads as step
use Rattle.descriptor_loop.proofs.iteration.count_items.Reads as count_items
use Rattle.descriptor_loop.proofs.place.view_of.Reads as view_of
use Rattle.descriptor_loop.proofs.place.bytes_of.Reads as bytes_of
use Rattle.descriptor_loop.proofs.reading.read_item.Reads as read_item
use Rattle.command.proofs.read_command.Reads as read_command
use Rattle.command.proofs.insert.read_insert.Reads as read_insert
use Rattle.command.proofs.components.read_components.Reads as read_components
use Rattle.command.proofs.components.blanks.Reads as blank_components
use Rattle.section.proofs.read_command_part.Reads as read_command_part
use Rattle.section.proofs.Refusal.number.Reads as section_refusal_number
use Rattle.command.proofs.number.Reads as command_read_number
use Rattle.section.proofs.read_frame.Reads as read_frame
use Rattle.section.proofs.read_section.Reads as read_section
use Rattle.section.proofs.loop_of.Reads as loop_of
use Rattle.section.proofs.private_bytes_of.Reads as private_bytes_of
use Rattle.section.proofs.full.read_full_section.Reads as read_full_section
use Rattle.theorems_fixed.specs.FixedAnswers.{Answers}

-- ---- what the lines say

-- whatever has such a line has one answer: any two that its contract allows are seen to be the same
pub answers_are_one : {K : Type 0} {A R E : K → Type 0} {asked : (κ : K) → A κ → Type 0} {learnt : (κ : K) → A κ → R κ → E κ → Type 0} {S : Type 0} {see : (κ : K) → R κ → E κ → S} {by : (κ : K) → A κ → S}
    → Answers asked learnt see by → (κ : K) (a : A κ) (x y : R κ) (e f : E κ) → learnt κ a x e → learnt κ a y f → see κ x e ≡ see κ y f
answers_are_one h κ a x y e f p q = h.is κ a x e p ∙ sym (h.is κ a y f q)

-- ---- an answer is known by what it tells
pub flag_told : {A : Type 0} (x y : Result A UnknownNumber) → flag_answer x ≡ flag_answer y → x ≡ y
flag_told (Ok a) (Ok b) e = cc
flag_told (Ok a) (Err d) e = zero_one cc
flag_told (Err d) (Ok b) e = zero_one cc
flag_told (Err d) (Err f) e = refl

pub class_told : (x y : NumberClass) → class_number x ≡ class_number y → x ≡ y
class_told NumberClass.Named NumberClass.Named e = refl
class_told NumberClass.Named NumberClass.Reserved e = absurd (omega arith)
class_told NumberClass.Named NumberClass.Private e = absurd (omega arith)
class_told NumberClass.Reserved NumberClass.Named e = absurd (omega arith)
class_told NumberClass.Reserved NumberClass.Reserved e = refl
class_told NumberClass.Reserved NumberClass.Private e = absurd (omega arith)
class_told NumberClass.Private NumberClass.Named e = absurd (omega arith)
class_told NumberClass.Private NumberClass.Reserved e = absurd (omega arith)
class_told NumberClass.Private NumberClass.Private e = refl

-- ---- crc, crc_table

pub crc32_answers : Answers crc32.Asked crc32.Learnt (λ κ r e. r) (λ κ a. crc_of a.0.now)
crc32_answers = record { takes_any = λ κ a. tt; is = λ κ a r e l. l }

pub crc32_plain_answers : Answers crc32_plain.Asked crc32_plain.Learnt (λ κ r e. r) (λ κ a. crc_of a.0.now)
crc32_plain_answers = record { takes_any = λ κ a. tt; is = λ κ a r e l. l }

pub reverse_answers : Answers reverse.Asked reverse.Learnt (λ κ r e. r) (λ κ a. reversed a.0)
reverse_answers = record { takes_any = λ κ a. tt; is = λ κ a r e l. l }

pub turned_answers : Answers turned.Asked turned.Learnt (λ κ r e. r) (λ κ a. reversed (turns (32 + 8 * (a.0 % 4)) (a.1.0 % 256)))
turned_answers = record { takes_any = λ κ a. tt; is = λ κ a r e l. l }

-- ---- table

pub wide_answers : Answers wide.Asked wide.Learnt (λ κ r e. r) (λ κ a. a.0)
wide_answers = record { takes_any = λ κ a. tt; is = λ κ a r e l. l.0 }

pub size_answers : Answers size.Asked size.Learnt (λ κ r e. r) (λ κ a. a.0)
size_answers = record { takes_any = λ κ a. tt; is = λ κ a r e l. l.0 }

pub flag_number_answers : Answers flag_number.Asked flag_number.Learnt (λ κ r e. r) (λ κ a. flag_number a.0)
flag_number_answers = record { takes_any = λ κ a. tt; is = λ κ a r e l. l.0 }

pub byte_answers : Answers byte.Asked byte.Learnt (λ κ r e. r) (λ κ a. get_or a.0.now a.1.0 0)
byte_answers = record { takes_any = λ κ a. tt; is = λ κ a r e l. l }

pub bits_answers : Answers bits.Asked bits.Learnt (λ κ r e. r) (λ κ a. field (bits_of a.0.now) (a.1.0 * 8 + a.1.1.0) a.1.1.1.0 % 2 ^ 64)
bits_answers = record { takes_any = λ κ a. tt; is = λ κ a r e l. l }

pub big_endian_answers : Answers big_endian.Asked big_endian.Learnt (λ κ r e. r) (λ κ a. field (bits_of a.0.now) (a.1.0 * 8) (a.1.1.0 * 8) % 2 ^ 64)
big_endian_answers = record { takes_any = λ κ a. tt; is = λ κ a r e l. l }

pub time33_answers : Answers time33.Asked time33.Learnt (λ κ r e. r) (λ κ a. field (bits_of a.0.now) (a.1.0 * 8 + 7) 33)
time33_answers = record { takes_any = λ κ a. tt; is = λ κ a r e l. l }

pub lies_in_answers : Answers lies_in_lem.Asked lies_in_lem.Learnt (λ κ r e. r) (λ κ a. lies_in a.0.now a.1.0)
lies_in_answers = record { takes_any = λ κ a. tt; is = λ κ a r e l. l }

pub view_answers : Answers view.Asked view.Learnt (λ κ r e. r.now) (λ κ a. viewed a.0.now a.1.0)
view_answers = record { takes_any = λ κ a. tt; is = λ κ a r e l. l }

pub cursor_left_answers : Answers cursor_left.Asked cursor_left.Learnt (λ κ r e. r) (λ κ a. (length a.1.0.now * 8 - place a.0) / 8)
cursor_left_answers = record { takes_any = λ κ a. tt; is = λ κ a r e l. l }

pub cursor_take_answers : Answers cursor_take.Asked cursor_take.Learnt (λ κ r e. r) (λ κ a. taken_of (parse (number a.1.1.0) (bits_of a.1.0.now) (place a.0)))
cursor_take_answers = record { takes_any = λ κ a. tt; is = λ κ a r e l. l }

pub cursor_flag_answers : Answers cursor_flag.Asked cursor_flag.Learnt (λ κ r e. r) (λ κ a. flagged_of (parse bit (bits_of a.1.0.now) (place a.0)))
cursor_flag_answers = record { takes_any = λ κ a. tt; is = λ κ a r e l. l }

pub cursor_skip_answers : Answers cursor_skip.Asked cursor_skip.Learnt (λ κ r e. r) (λ κ a. skipped_of (parse (reserved a.1.1.0) (bits_of a.1.0.now) (place a.0)))
cursor_skip_answers = record { takes_any = λ κ a. tt; is = λ κ a r e l. l }

pub cursor_pass_answers : Answers cursor_pass.Asked cursor_pass.Learnt (λ κ r e. r) (λ κ a. passed_of (parse (part a.1.1.0) (bits_of a.1.0.now) (place a.0)))
cursor_pass_answers = record { takes_any = λ κ a. tt; is = λ κ a r e l. l }

pub put_byte_leaves : Answers put_byte.Asked put_byte.Learnt (λ κ r e. e.0.now) (λ κ a. stored a.0.now a.1.0 (a.1.1.0 ∷ []))
put_byte_leaves = record { takes_any = λ κ a. tt; is = λ κ a r e l. l }

pub put_number_leaves : Answers put_number.Asked put_number.Learnt (λ κ r e. e.0.now) (λ κ a. stored a.0.now a.1.0 (big_endian a.1.1.0 a.1.1.1.0))
put_number_leaves = record { takes_any = λ κ a. tt; is = λ κ a r e l. l }

pub put_bytes_leaves : Answers put_bytes.Asked put_bytes.Learnt (λ κ r e. e.0.now) (λ κ a. stored a.0.now a.1.0 a.1.1.0.now)
put_bytes_leaves = record { takes_any = λ κ a. tt; is = λ κ a r e l. l }

-- ---- names

pub algorithm_from_answers : Answers algorithm_from.Asked algorithm_from.Learnt (λ κ r e. r) (λ κ a. algorithm_of a.0)
algorithm_from_answers = record { takes_any = λ κ a. tt; is = λ κ a r e l. l }

pub algorithm_into_answers : Answers algorithm_into.Asked algorithm_into.Learnt (λ κ r e. r) (λ κ a. algorithm_number a.0)
algorithm_into_answers = record { takes_any = λ κ a. tt; is = λ κ a r e l. l }

pub algorithm_class_answers : Answers algorithm_class.Asked algorithm_class.Learnt (λ κ r e. class_number r) (λ κ a. class_in algorithms a.0)
algorithm_class_answers = record { takes_any = λ κ a. tt; is = λ κ a r e l. l }

pub algorithm_writable_answers : Answers algorithm_writable.Asked algorithm_writable.Learnt (λ κ r e. r) (λ κ a. writable_algorithm a.0)
unfolding writable_algorithm
algorithm_writable_answers = record { takes_any = λ κ a. tt; is = λ κ a r e l. l }

pub command_type_from_answers : Answers command_type_from.Asked command_type_from.Learnt (λ κ r e. r) (λ κ a. command_type_of a.0)
command_type_from_answers = record { takes_any = λ κ a. tt; is = λ κ a r e l. l }

pub command_type_into_answers : Answers command_type_into.Asked command_type_into.Learnt (λ κ r e. r) (λ κ a. command_number a.0)
command_type_into_answers = record { takes_any = λ κ a. tt; is = λ κ a r e l. l }

pub command_type_class_answers : Answers command_type_class.Asked command_type_class.Learnt (λ κ r e. class_number r) (λ κ a. class_in commands a.0)
command_type_class_answers = record { takes_any = λ κ a. tt; is = λ κ a r e l. l }

pub command_type_writable_answers : Answers command_type_writable.Asked command_type_writable.Learnt (λ κ r e. r) (λ κ a. writable_command a.0)
unfolding writable_command
command_type_writable_answers = record { takes_any = λ κ a. tt; is = λ κ a r e l. l }

pub upid_type_from_answers : Answers upid_type_from.Asked upid_type_from.Learnt (λ κ r e. r) (λ κ a. upid_type_of a.0)
upid_type_from_answers = record { takes_any = λ κ a. tt; is = λ κ a r e l. l }

pub upid_type_into_answers : Answers upid_type_into.Asked upid_type_into.Learnt (λ κ r e. r) (λ κ a. upid_type_number a.0)
upid_type_into_answers = record { takes_any = λ κ a. tt; is = λ κ a r e l. l }

pub upid_type_class_answers : Answers upid_type_class.Asked upid_type_class.Learnt (λ κ r e. class_number r) (λ κ a. class_in upid_types a.0)
upid_type_class_answers = record { takes_any = λ κ a. tt; is = λ κ a r e l. l }

pub upid_type_writable_answers : Answers upid_type_writable.Asked upid_type_writable.Learnt (λ κ r e. r) (λ κ a. writable_upid_type a.0)
unfolding writable_upid_type
upid_type_writable_answers = record { takes_any = λ κ a. tt; is = λ κ a r e l. l }

pub segmentation_type_from_answers : Answers segmentation_type_from.Asked segmentation_type_from.Learnt (λ κ r e. r) (λ κ a. segmentation_type_of a.0)
segmentation_type_from_answers = record { takes_any = λ κ a. tt; is = λ κ a r e l. l }

pub segmentation_type_into_answers : Answers segmentation_type_into.Asked segmentation_type_into.Learnt (λ κ r e. r) (λ κ a. segmentation_number a.0)
segmentation_type_into_answers = record { takes_any = λ κ a. tt; is = λ κ a r e l. l }

pub segmentation_type_class_answers : Answers segmentation_type_class.Asked segmentation_type_class.Learnt (λ κ r e. class_number r) (λ κ a. class_in segmentations a.0)
segmentation_type_class_answers = record { takes_any = λ κ a. tt; is = λ κ a r e l. l }

pub segmentation_type_writable_answers : Answers segmentation_type_writable.Asked segmentation_type_writable.Learnt (λ κ r e. r) (λ κ a. writable_segmentation a.0)
unfolding writable_segmentation
segmentation_type_writable_answers = record { takes_any = λ κ a. tt; is = λ κ a r e l. l }

pub network_try_from_answers : Answers network_try_from.Asked network_try_from.Learnt (λ κ r e. flag_answer r) (λ κ a. network_of a.0)
network_try_from_answers = record { takes_any = λ κ a. tt; is = λ κ a r e l. l }

pub network_into_answers : Answers network_into.Asked network_into.Learnt (λ κ r e. r) (λ κ a. network_flag a.0)
network_into_answers = record { takes_any = λ κ a. tt; is = λ κ a r e l. l }

pub return_mode_try_from_answers : Answers return_mode_try_from.Asked return_mode_try_from.Learnt (λ κ r e. flag_answer r) (λ κ a. return_of a.0)
return_mode_try_from_answers = record { takes_any = λ κ a. tt; is = λ κ a r e l. l }

pub return_mode_into_answers : Answers return_mode_into.Asked return_mode_into.Learnt (λ κ r e. r) (λ κ a. return_flag a.0)
return_mode_into_answers = record { takes_any = λ κ a. tt; is = λ κ a r e l. l }

pub restrictions_try_from_answers : Answers restrictions_try_from.Asked restrictions_try_from.Learnt (λ κ r e. flag_answer r) (λ κ a. restrictions_of a.0)
restrictions_try_from_answers = record { takes_any = λ κ a. tt; is = λ κ a r e l. l }

pub restrictions_into_answers : Answers restrictions_into.Asked restrictions_into.Learnt (λ κ r e. r) (λ κ a. restrictions_bits a.0)
restrictions_into_answers = record { takes_any = λ κ a. tt; is = λ κ a r e l. l }

-- ---- header_numbers, header

pub read_header_numbers_answers : Answers read_header_numbers.Asked read_header_numbers.Learnt (λ κ r e. r) (λ κ a. numbers_read a.0.now)
read_header_numbers_answers = record { takes_any = λ κ a. tt; is = λ κ a r e l. l }

pub read_header_answers : Answers read_header.Asked read_header.Learnt (λ κ r e. r) (λ κ a. header_of a.0.now)
read_header_answers = record { takes_any = λ κ a. tt; is = λ κ a r e l. l }

-- ---- splice_time

pub read_aligned_time_answers : Answers read_aligned_time.Asked read_aligned_time.Learnt (λ κ r e. r) (λ κ a. time_read (parse splice_time (bits_of a.0.now) (a.1.0 * 8)))
read_aligned_time_answers = record { takes_any = λ κ a. tt; is = λ κ a r e l. l }

pub read_break_answers : Answers read_break.Asked read_break.Learnt (λ κ r e. r) (λ κ a. break_read (parse (break_duration a.1.1.0) (bits_of a.0.now) (a.1.0 * 8)))
read_break_answers = record { takes_any = λ κ a. tt; is = λ κ a r e l. l }

pub adjusted_time_answers : Answers adjusted_time.Asked adjusted_time.Learnt (λ κ r e. r) (λ κ a. adjusted_of a.0 a.1.0)
adjusted_time_answers = record { takes_any = λ κ a. tt; is = λ κ a r e l. l }

-- ---- upid

pub is_text_answers : Answers is_text.Asked is_text.Learnt (λ κ r e. r) (λ κ a. text_of a.0.now)
is_text_answers = record { takes_any = λ κ a. tt; is = λ κ a r e l. l }

pub check_upid_answers : Answers check_upid.Asked check_upid.Learnt (λ κ r e. r) (λ κ a. check_of a.0 a.1.0.now)
check_upid_answers = record { takes_any = λ κ a. tt; is = λ κ a r e l. l }

pub read_upid_answers : Answers read_upid.Asked read_upid.Learnt (λ κ r e. r) (λ κ a. upid_of a.0 a.1.0.now)
read_upid_answers = record { takes_any = λ κ a. tt; is = λ κ a r e l. l }

pub eidr_answers : Answers eidr.Asked eidr.Learnt (λ κ r e. r) (λ κ a. eidr_of a.0 a.1.0.now)
eidr_answers = record { takes_any = λ κ a. tt; is = λ κ a r e l. l }

-- ---- descriptor

pub is_cuei_answers : Answers is_cuei.Asked is_cuei.Learnt (λ κ r e. r) (λ κ a. is_cuei a.0)
is_cuei_answers = record { takes_any = λ κ a. tt; is = λ κ a r e l. l }

pub read_descriptor_answers : Answers read_descriptor.Asked read_descriptor.Learnt (λ κ r e. r) (λ κ a. descriptor_of a.0 a.1.0 a.1.1.0.now)
read_descriptor_answers = record { takes_any = λ κ a. tt; is = λ κ a r e l. l }

pub read_avail_answers : Answers read_avail.Asked read_avail.Learnt (λ κ r e. r) (λ κ a. avail_of a.0.now)
read_avail_answers = record { takes_any = λ κ a. tt; is = λ κ a r e l. l }

pub read_dtmf_answers : Answers read_dtmf.Asked read_dtmf.Learnt (λ κ r e. r) (λ κ a. dtmf_of a.0.now)
read_dtmf_answers = record { takes_any = λ κ a. tt; is = λ κ a r e l. l }

pub read_time_answers : Answers read_time.Asked read_time.Learnt (λ κ r e. r) (λ κ a. time_of a.0.now)
read_time_answers = record { takes_any = λ κ a. tt; is = λ κ a r e l. l }

pub read_reserved_answers : Answers read_reserved.Asked read_reserved.Learnt (λ κ r e. r) (λ κ a. reserved_of a.0 a.1.0.now)
read_reserved_answers = record { takes_any = λ κ a. tt; is = λ κ a r e l. l }

pub read_segmentation_answers : Answers read_segmentation.Asked read_segmentation.Learnt (λ κ r e. r) (λ κ a. segmentation_of a.0.now)
read_segmentation_answers = record { takes_any = λ κ a. tt; is = λ κ a r e l. l }

pub read_full_descriptor_answers : Answers read_full_descriptor.Asked read_full_descriptor.Learnt (λ κ r e. r) (λ κ a. full_of a.0 a.1.0 a.1.1.0.now)
read_full_descriptor_answers = record { takes_any = λ κ a. tt; is = λ κ a r e l. l }

pub blank_beside_answers : Answers blank_beside.Asked blank_beside.Learnt (λ κ r e. r) (λ κ a. blank_beside)
blank_beside_answers = record { takes_any = λ κ a. tt; is = λ κ a r e l. l }

pub beside_of_answers : Answers beside_of.Asked beside_of.Learnt (λ κ r e. r) (λ κ a. beside_read a.0 a.1.0.now)
beside_of_answers = record { takes_any = λ κ a. tt; is = λ κ a r e l. l }

pub identifier_of_answers : Answers identifier_of_lem.Asked identifier_of_lem.Learnt (λ κ r e. r) (λ κ a. identifier_read a.0 a.1.0)
identifier_of_answers = record { takes_any = λ κ a. tt; is = λ κ a r e l. l }

-- ---- descriptor_loop

pub step_answers : Answers step.Asked step.Learnt (λ κ r e. r) (λ κ a. step_of a.0.now a.1.0)
step_answers = record { takes_any = λ κ a. tt; is = λ κ a r e l. l }

pub count_items_answers : Answers count_items.Asked count_items.Learnt (λ κ r e. r) (λ κ a. count_of a.0.now)
count_items_answers = record { takes_any = λ κ a. tt; is = λ κ a r e l. l }

pub view_of_answers : Answers view_of.Asked view_of.Learnt (λ κ r e. r) (λ κ a. view_of a.0)
view_of_answers = record { takes_any = λ κ a. tt; is = λ κ a r e l. l }

pub part_bytes_answers : Answers part_bytes.Asked part_bytes.Learnt (λ κ r e. r.now) (λ κ a. viewed a.0.now (part_view a.1.0))
part_bytes_answers = record { takes_any = λ κ a. tt; is = λ κ a r e l. l }

pub bytes_of_answers : Answers bytes_of.Asked bytes_of.Learnt (λ κ r e. r.now) (λ κ a. viewed a.0.now (view_of a.1.0))
bytes_of_answers = record { takes_any = λ κ a. tt; is = λ κ a r e l. l }

pub read_item_answers : Answers read_item.Asked read_item.Learnt (λ κ r e. r) (λ κ a. reading_of a.0.now a.1.0)
read_item_answers = record { takes_any = λ κ a. tt; is = λ κ a r e l. l }

-- ---- command

pub read_command_answers : Answers read_command.Asked read_command.Learnt (λ κ r e. r) (λ κ a. command_of a.0 a.1.0.now)
read_command_answers = record { takes_any = λ κ a. tt; is = λ κ a r e l. l }

pub command_read_number_answers : Answers command_read_number.Asked command_read_number.Learnt (λ κ r e. r) (λ κ a. commandNumberOf a.0)
command_read_number_answers = record { takes_any = λ κ a. tt; is = λ κ a r e l. l }

pub read_insert_answers : Answers read_insert.Asked read_insert.Learnt (λ κ r e. r) (λ κ a. insert_read (parse insert (bits_of a.0.now) 0))
read_insert_answers = record { takes_any = λ κ a. tt; is = λ κ a r e l. l }

pub read_components_answers : Answers read_components.Asked read_components.Learnt (λ κ r e. r) (λ κ a. listed_of a.0.now)
read_components_answers = record { takes_any = λ κ a. tt; is = λ κ a r e l. l }

pub blank_components_answers : Answers blank_components.Asked blank_components.Learnt (λ κ r e. r) (λ κ a. array [])
blank_components_answers = record { takes_any = λ κ a. tt; is = λ κ a r e l. l }

-- ---- section

pub section_refusal_number_answers : Answers section_refusal_number.Asked section_refusal_number.Learnt (λ κ r e. r) (λ κ a. number_of (Err a.0))
section_refusal_number_answers = record { takes_any = λ κ a. tt; is = λ κ a r e l. l }

pub read_frame_answers : Answers read_frame.Asked read_frame.Learnt (λ κ r e. r) (λ κ a. frame_of a.0.now)
read_frame_answers = record { takes_any = λ κ a. tt; is = λ κ a r e l. l }

pub read_command_part_answers : Answers read_command_part.Asked read_command_part.Learnt (λ κ r e. r) (λ κ a. moved_read (command_of a.0 a.1.0.now))
read_command_part_answers = record { takes_any = λ κ a. tt; is = λ κ a r e l. l }

pub read_section_answers : Answers read_section.Asked read_section.Learnt (λ κ r e. r) (λ κ a. section_of a.0.now)
read_section_answers = record { takes_any = λ κ a. tt; is = λ κ a r e l. l }

pub loop_of_answers : Answers loop_of.Asked loop_of.Learnt (λ κ r e. r.now) (λ κ a. viewed a.0.now a.1.0.descriptors)
loop_of_answers = record { takes_any = λ κ a. tt; is = λ κ a r e l. l }

pub private_bytes_of_answers : Answers private_bytes_of.Asked private_bytes_of.Learnt (λ κ r e. r.now) (λ κ a. viewed a.0.now (private_view a.1.0))
private_bytes_of_answers = record { takes_any = λ κ a. tt; is = λ κ a r e l. l }

pub read_full_section_answers : Answers read_full_section.Asked read_full_section.Learnt (λ κ r e. r) (λ κ a. full_section_of a.0.now)
read_full_section_answers = record { takes_any = λ κ a. tt; is = λ κ a r e l. l }
