-- What is proved of reading, over the definitions: acceptance, and of every section that is accepted its identifiers, whole, and its items. A reader needs the specs of this crate
-- beside this file. The proofs stand in the other files of this folder.
use Prim.Native.Nat.{ℕ, ◌+◌, ◌≤◌, ◌^◌, ◌<◌}
use mathlib.Core.Bool.{true, false}
use mathlib.Core.List.{List, ◌∷◌, ◌++◌}
use mathlib.Core.Path.{◌≡◌, refl}
use lib.ListN.{length, drop, get_or}
use Rattle.command.specs.Command.{command_of, insert_count, by_type}
use Rattle.command.specs.Insert.{count}
use Rattle.command.specs.declared.SpliceCommand.{SpliceCommand}
use Rattle.command.specs.declared.insert.InsertDetail.{InsertDetail}
use Rattle.command.specs.declared.insert.SpliceDetail.{SpliceDetail}
use Rattle.descriptor.proofs.Longer as longer
use Rattle.descriptor.specs.Descriptor.{avail_of, dtmf_of, time_of, cuei, descriptor_of}
use Rattle.descriptor.specs.Segmentation.{device_of, count_of, blank_upid, detail_upid, detail_count}
use Rattle.descriptor.specs.declared.Descriptor.{Descriptor}
use Rattle.descriptor.specs.declared.segmentation.SegmentationDescriptor.{SegmentationDescriptor}
use Rattle.descriptor.specs.declared.segmentation.DescriptorDetail.{DescriptorDetail}
use Rattle.descriptor.specs.declared.segmentation.SegmentationDetail.{SegmentationDetail}
use Rattle.descriptor.specs.declared.segmentation.SegmentationUpid.{SegmentationUpid}
use Rattle.descriptor.specs.declared.segmentation.SubSegment.{SubSegment}
use Rattle.header.specs.Header.{header_of}
use Rattle.splice_time.specs.Time.{adjusted_of, too_large}
use Rattle.splice_time.specs.declared.SpliceTime.{SpliceTime}
use Rattle.descriptor_loop.specs.Cover.{Ends, TakesRest, Covered, times}
use Rattle.descriptor_loop.specs.Items.{step_of, reading_of, items_of}
use Rattle.names.specs.Algorithm.{algorithms, algorithm_entry, other_algorithm, algorithm_of, writable_algorithm}
use Rattle.names.specs.Command.{commands, command_entry, command_type_of, writable_command}
use Rattle.names.specs.Flags.{restrictions_bits}
use Rattle.names.specs.Numbering.{class_in}
use Rattle.names.specs.Segmentation.{segmentations, segmentation_entry, segmentation_type_of, writable_segmentation}
use Rattle.names.specs.Upid.{upid_types, upid_type_entry, upid_type_of, writable_upid_type}
use Rattle.names.specs.declared.algorithm.EncryptionAlgorithm.{EncryptionAlgorithm}
use Rattle.names.specs.declared.command.SpliceCommandType.{SpliceCommandType}
use Rattle.names.specs.declared.flags.DeviceRestrictions.{DeviceRestrictions}
use Rattle.names.specs.declared.segmentation.SegmentationTypeId.{SegmentationTypeId}
use Rattle.names.specs.declared.upid.SegmentationUpidType.{SegmentationUpidType}
use Rattle.section.proofs.Acceptance as acceptance
use Rattle.section.specs.Section.{command_type, command_bytes, command_length, loop_place, moved_read, unknown_command, conditions, first, section_of, number_of, None, loop_in}
use Rattle.section.specs.declared.Section.{Section}
use Rattle.table.specs.Bits.{AllBytes}
use Rattle.table.specs.Lent.{viewed}
use Rattle.upid.specs.Cover.{All, top_part, Once}
use Rattle.upid.proofs.Answers as upids
use Rattle.upid.specs.Upid.{check_of, list_of, unless_refused}
use Rattle.theorems_reader.specs.Around.{Around}
use Rattle.theorems_reader.specs.Identifiers.{OneRun, in_section, in_lent, parts_read, identifiers_of, Unsplit}
use Rattle.theorems_reader.specs.Listing.{ListsItem, ListsCommand}
use Rattle.theorems_reader.specs.Numbers.{OnlyBy}
use Rattle.theorems_reader.specs.Whole.{WholeUpid, upid_at, WholeAt, WholeCommand}
use Rattle.theorems_reader.proofs.CommandTypes as command_types
use Rattle.theorems_reader.proofs.Framed as framed
use Rattle.theorems_reader.proofs.Listing as listing
use Rattle.theorems_reader.proofs.Numbers as numbers
use Rattle.theorems_reader.proofs.Sections as sections
use Rattle.splice_time.proofs.Times as adjustments
use Rattle.theorems_reader.proofs.Tolerated as tolerated
use Rattle.theorems_reader.proofs.Whole as whole_runs
use Rattle.theorems_reader.proofs.WholeCases as cases
use Rattle.std.proofs.Common.{Ok, Err, Some}
use Rattle.std.specs.declared.option.Option.TheVariants as option
use Rattle.command.specs.declared.CommandRefusal.{CommandRefusal}

-- ---- acceptance

-- Of 1 to 11, which are the section reader's: "checked in order of number". The number given is that of the first condition that holds, each under its condition
-- and no other.
pub refusals_1_to_11_in_order : (s : List ℕ) → number_of (section_of s) ≡ first 1 (conditions s)
refusals_1_to_11_in_order = acceptance.refusals_in_order

-- "21 to 25 refuse an item or a UPID, never the section."
pub a_section_is_refused_by_1_to_11_only : (s : List ℕ) → number_of (section_of s) ≤ 11
a_section_is_refused_by_1_to_11_only s = tolerated.eleven (section_of s)

-- "section_length is not tested": two sections that differ in nothing but it, and in the CRC that goes with it, are read as the same, or refused with the same number
pub the_section_length_is_not_tested : (table : ℕ) (others s t : List ℕ) → Around table others s → Around table others t → section_of s ≡ section_of t
the_section_length_is_not_tested = tolerated.length_untested

-- "Bytes after insert or time signal are tolerated": the command is the same
pub bytes_after_an_insert_are_tolerated : (payload more : List ℕ) (c : SpliceCommand) → command_of 0x05 payload ≡ Ok c → command_of 0x05 (payload ++ more) ≡ Ok c
bytes_after_an_insert_are_tolerated = tolerated.insert_on

pub bytes_after_a_time_signal_are_tolerated : (payload more : List ℕ) (c : SpliceCommand) → command_of 0x06 payload ≡ Ok c → command_of 0x06 (payload ++ more) ≡ Ok c
bytes_after_a_time_signal_are_tolerated = tolerated.time_signal_on

-- "Bytes left over are tolerated". (A reserved descriptor has none left over.)
pub bytes_left_over_by_an_avail_are_tolerated : (payload more : List ℕ) (d : Descriptor) → avail_of payload ≡ Ok d → avail_of (payload ++ more) ≡ Ok d
bytes_left_over_by_an_avail_are_tolerated = longer.avail_on

pub bytes_left_over_by_dtmf_are_tolerated : (payload more : List ℕ) (d : Descriptor) → dtmf_of payload ≡ Ok d → dtmf_of (payload ++ more) ≡ Ok d
bytes_left_over_by_dtmf_are_tolerated = longer.dtmf_on

pub bytes_left_over_by_a_time_are_tolerated : (payload more : List ℕ) (d : Descriptor) → time_of payload ≡ Ok d → time_of (payload ++ more) ≡ Ok d
bytes_left_over_by_a_time_are_tolerated = longer.time_on

-- Of a segmentation descriptor they stand behind the head of a cancelled one, and behind sub-segments. (Bytes behind one without sub-segments would be its sub-segments.)
pub bytes_left_over_by_a_cancelled_segmentation_are_tolerated : (payload more : List ℕ) (x : SegmentationDescriptor) → descriptor_of 2 cuei payload ≡ Ok (Descriptor.Segmentation x)
    → x.descriptor_detail ≡ DescriptorDetail.Cancel → descriptor_of 2 cuei (payload ++ more) ≡ descriptor_of 2 cuei payload
bytes_left_over_by_a_cancelled_segmentation_are_tolerated = longer.cancelled_on

pub bytes_left_over_by_sub_segments_are_tolerated : (payload more : List ℕ) (x : SegmentationDescriptor) (i : SegmentationDetail) (sub : SubSegment)
    → descriptor_of 2 cuei payload ≡ Ok (Descriptor.Segmentation x) → x.descriptor_detail ≡ DescriptorDetail.Active i → i.sub_segments ≡ Some sub
    → descriptor_of 2 cuei (payload ++ more) ≡ descriptor_of 2 cuei payload
bytes_left_over_by_sub_segments_are_tolerated = longer.sub_segments_on

-- Condition 10: "command type is none of 0x00, 0x05, 0x06, 0x07, 0xFF" (the last case of `by_type`, which lists them), whatever the payload
pub condition_10_is_of_the_other_types : (s : List ℕ) → unknown_command s ≡ by_type (command_type s) false false false false false true
condition_10_is_of_the_other_types s = command_types.unknown_is (command_type s) (command_bytes s)

-- so the command reader gives 10 to exactly these types
pub another_type_is_refused_by_10 : (command_type' : ℕ) (payload : List ℕ) → by_type command_type' false false false false false true ≡ true → command_of command_type' payload ≡ Err CommandRefusal.UnknownType
another_type_is_refused_by_10 = command_types.unknown_if

pub only_another_type_is_refused_by_10 : (command_type' : ℕ) (payload : List ℕ) → command_of command_type' payload ≡ Err CommandRefusal.UnknownType → by_type command_type' false false false false false true ≡ true
only_another_type_is_refused_by_10 = command_types.unknown_only_if

-- "A section is accepted exactly when none of 1 to 11 applies"
pub accepted_if_none_applies : (s : List ℕ) → None (conditions s) → (x : Section) × (section_of s ≡ Ok x)
accepted_if_none_applies = acceptance.accepted_if_none

pub none_applies_if_accepted : (s : List ℕ) (x : Section) → section_of s ≡ Ok x → None (conditions s)
none_applies_if_accepted = acceptance.none_if_accepted

-- and says what its layout has: its header, its command, whose views count from the section's first byte, and where the loop and the command lie
pub what_an_accepted_section_says : (s : List ℕ) (x : Section) → section_of s ≡ Ok x
    → (header_of (drop 3 s) ≡ Some x.header) × (moved_read (command_of (command_type s) (command_bytes s)) ≡ Ok x.command) × (x.descriptors ≡ loop_place s) × (x.payload ≡ record { at = 14; len = command_length s })
what_an_accepted_section_says = framed.says

-- ---- of every section that is accepted

-- "In every accepted section each identifier is one unbroken run": private bytes of a command; of each item DTMF characters, UPID, private bytes or the text
-- of refusal 24; every part of a MID, at every level; an EIDR; the identifier beside a reserved descriptor.
pub every_identifier_is_one_run_of_the_section : (s : List ℕ) (x : Section) → section_of s ≡ Ok x → All (OneRun s) (identifiers_of s x)
every_identifier_is_one_run_of_the_section = sections.identifiers_run

-- and it is the whole run that the section's own bytes announce (specs/Whole.antt). The station's question first: the UPID of every segmentation descriptor, at whatever
-- offset of the loop it is read, is of the type and has exactly the bytes that its head says, which stands behind the fields before it.
pub every_upid_of_the_section_is_whole : (s : List ℕ) (x : Section) → section_of s ≡ Ok x → (offset : ℕ) (d : SegmentationDescriptor) (i : SegmentationDetail)
    → (step_of (loop_in s x) offset).item ≡ Some (Ok (Descriptor.Segmentation d)) → d.descriptor_detail ≡ DescriptorDetail.Active i → AllBytes s
    → WholeUpid s (upid_at s (x.descriptors.at + offset + 6)) x.descriptors.at (loop_in s x) (reading_of (loop_in s x) offset).beside.eidr i.segmentation_upid
every_upid_of_the_section_is_whole = whole_runs.whole_upid

-- The incident: where it is a MID, no identifier of it is split. It is read as its parts, each of them, at every level, exactly the run of the section that the two bytes before it announce; the direct
-- parts of each MID cover it once; and no other part is in the list, which goes by the bytes, "outer part before its inner ones".
pub no_mid_that_is_read_is_split : (s : List ℕ) (x : Section) → section_of s ≡ Ok x → (offset : ℕ) (d : SegmentationDescriptor) (i : SegmentationDetail)
    → (step_of (loop_in s x) offset).item ≡ Some (Ok (Descriptor.Segmentation d)) → d.descriptor_detail ≡ DescriptorDetail.Active i
    → i.segmentation_upid.upid_type ≡ 13 → Unsplit s (in_lent x.descriptors.at (loop_in s x) i.segmentation_upid.bytes)
no_mid_that_is_read_is_split = whole_runs.whole_mid

-- So of every item: DTMF characters, UPID with EIDR, private bytes and identifier of a reserved descriptor, the text of refusal 24; at any offset, and so of each item of the loop
pub every_identifier_of_an_item_is_whole : (s : List ℕ) (x : Section) → section_of s ≡ Ok x → AllBytes s → (offset : ℕ) → WholeAt s x offset (reading_of (loop_in s x) offset)
every_identifier_of_an_item_is_whole = whole_runs.whole_at

pub every_identifier_of_the_loop_is_whole : (s : List ℕ) (x : Section) → section_of s ≡ Ok x → AllBytes s
    → All (λ y. (y.step ≡ (reading_of (loop_in s x) y.offset).step) × WholeAt s x y.offset (reading_of (loop_in s x) y.offset)) (items_of (loop_in s x))
every_identifier_of_the_loop_is_whole = whole_runs.whole_items

-- and of a command: its private bytes
pub the_private_bytes_of_the_section_are_whole : (s : List ℕ) (x : Section) → section_of s ≡ Ok x → WholeCommand s x.command
the_private_bytes_of_the_section_are_whole s x e = cases.command_whole s x.command (whole_runs.whole_command s x e)

-- so a reader that cuts one is not the definition's: of a UPID of type 15 with 20 bytes announced twelve are not the whole
pub a_cut_upid_is_not_whole : (s : List ℕ) (h base : ℕ) (loop beside : List ℕ) (u : SegmentationUpid) → u.upid_type ≡ 15 → u.bytes.len ≡ 12 → get_or s (h + 1) 0 ≡ 20
    → WholeUpid s h base loop beside u → ⊥
a_cut_upid_is_not_whole = whole_runs.a_cut_upid_is_not_whole

-- and the list of identifiers above leaves none out (specs/Listing.antt)
pub the_list_of_identifiers_is_complete : (s : List ℕ) (x : Section)
    → All (ListsItem (identifiers_of s x) x.descriptors.at (loop_in s x)) (items_of (loop_in s x)) × ListsCommand (identifiers_of s x) s x.command
the_list_of_identifiers_is_complete s x = (listing.lists_items s x, listing.lists_command s x)

-- (The parts of a UPID, as `read_upid` answers them: those of its walk, and none of what is refused)
pub the_parts_that_are_read : (upid_type_number : ℕ) (bytes : List ℕ) → parts_read upid_type_number bytes ≡ unless_refused (check_of upid_type_number bytes) (list_of upid_type_number 1 0 bytes)
the_parts_that_are_read = upids.parts_in_lem

-- the loop lies in the section whole
pub the_loop_is_one_run_of_the_section : (s : List ℕ) (x : Section) → section_of s ≡ Ok x → OneRun s (in_section s x.descriptors)
the_loop_is_one_run_of_the_section = sections.loop_run

-- "the loop's items in order cover the loop once"; "No other cutting .. meets 01's rules."
pub the_items_cover_the_loop_of_the_section : (s : List ℕ) (x : Section) → section_of s ≡ Ok x → Covered (loop_in s x) (items_of (loop_in s x))
the_items_cover_the_loop_of_the_section = sections.items_cover

-- "a refusal that ends it taking the rest": where "the loop ends", by each of the three rules, the item is a refusal, "next offset its length"
pub an_ending_refusal_takes_the_rest_of_the_loop : (s : List ℕ) (x : Section) → section_of s ≡ Ok x → (offset : ℕ) → Ends (drop offset (loop_in s x))
    → TakesRest (loop_in s x) (step_of (loop_in s x) offset)
an_ending_refusal_takes_the_rest_of_the_loop = sections.ending_takes_rest

-- ---- what follows from these

-- "the loop's items .. cover the loop once", byte by byte: each byte lies in exactly one item
pub each_byte_of_the_loop_lies_in_one_item : (s : List ℕ) (x : Section) → section_of s ≡ Ok x → (i : ℕ) → i < length (loop_in s x) → times i (items_of (loop_in s x)) ≡ 1
each_byte_of_the_loop_lies_in_one_item = sections.bytes_in_one_item

-- "the direct parts of each accepted MID, heads included, cover that MID once", byte by byte: each byte of a MID, at every depth, lies in exactly one of its direct parts
pub each_byte_of_a_mid_lies_in_one_part : (s : List ℕ) (x : Section) → section_of s ≡ Ok x → (offset : ℕ) (d : SegmentationDescriptor) (i : SegmentationDetail)
    → (step_of (loop_in s x) offset).item ≡ Some (Ok (Descriptor.Segmentation d)) → d.descriptor_detail ≡ DescriptorDetail.Active i → i.segmentation_upid.upid_type ≡ 13
    → let b : List ℕ = viewed (loop_in s x) i.segmentation_upid.bytes in All (λ m. m.upid_type ≡ 13 → Once (parts_read 13 b) m) (top_part b ∷ parts_read 13 b)
each_byte_of_a_mid_lies_in_one_part = whole_runs.whole_mid_bytes

-- ---- numbers and times

-- Which value a number stands for: the name that has it in the table of names/specs, and where none has it the value that carries it ("4 to 31 reserved, 32 to 63 private; as a bare
-- number, 64 to 255 too"); and nothing else goes by the table
pub algorithms_go_by_their_table : OnlyBy algorithm_entry other_algorithm algorithm_of writable_algorithm
algorithms_go_by_their_table = numbers.algorithms_by

pub command_types_go_by_their_table : OnlyBy command_entry SpliceCommandType.Reserved command_type_of writable_command
command_types_go_by_their_table = numbers.commands_by

pub upid_types_go_by_their_table : OnlyBy upid_type_entry SegmentationUpidType.Reserved upid_type_of writable_upid_type
upid_types_go_by_their_table = numbers.upid_types_by

pub segmentation_types_go_by_their_table : OnlyBy segmentation_entry SegmentationTypeId.Reserved segmentation_type_of writable_segmentation
segmentation_types_go_by_their_table = numbers.segmentations_by

-- and the class of a value is that of its line there
pub classes_go_by_their_entries : ((x : EncryptionAlgorithm) → class_in algorithms x ≡ (algorithm_entry x).1) × ((x : SpliceCommandType) → class_in commands x ≡ (command_entry x).1)
    × ((x : SegmentationUpidType) → class_in upid_types x ≡ (upid_type_entry x).1) × ((x : SegmentationTypeId) → class_in segmentations x ≡ (segmentation_entry x).1)
classes_go_by_their_entries = (λ x. refl, λ x. refl, λ x. refl, λ x. refl)

-- of device_restrictions each number of two bits has a name
pub device_restrictions_go_by_their_numbers : (d : DeviceRestrictions) → device_of (restrictions_bits d) ≡ d
device_restrictions_go_by_their_numbers = numbers.device_by

-- what a detail has: a cancelled one has no UPID and counts no components
pub upids_and_counts_of_segmentations : (detail_upid DescriptorDetail.Cancel ≡ blank_upid) × (detail_count DescriptorDetail.Cancel ≡ 0)
    × ((i : SegmentationDetail) → (detail_upid (DescriptorDetail.Active i) ≡ i.segmentation_upid) × (detail_count (DescriptorDetail.Active i) ≡ count_of i.segmentation_mode))
upids_and_counts_of_segmentations = (refl, refl, λ i. (refl, refl))

pub counts_of_inserts : (insert_count SpliceDetail.Cancel ≡ 0) × ((i : InsertDetail) → insert_count (SpliceDetail.Insert i) ≡ count i.splice_mode)
counts_of_inserts = (refl, λ i. refl)

-- 02, Q-2: "the adjusted time is the sum's remainder modulo 8,589,934,592"
pub an_adjusted_time_has_33_bits : (t : SpliceTime) (adjustment n : ℕ) → adjusted_of t adjustment ≡ Ok (Some n) → n < 2 ^ 33
an_adjusted_time_has_33_bits = adjustments.adjusted_below

-- "Time 8,589,934,591 with adjustment 1 gives 0", with 0 itself, and two of 8,589,934,591 one less
pub adjusted_times_wrap_round : (adjusted_of (SpliceTime.At 8589934591) 1 ≡ Ok (Some 0)) × (adjusted_of (SpliceTime.At 8589934591) 0 ≡ Ok (Some 8589934591))
    × (adjusted_of (SpliceTime.At 8589934591) 8589934591 ≡ Ok (Some 8589934590))
adjusted_times_wrap_round = adjustments.adjusted_wraps

-- where nothing is carried, the sum; where no time is specified, none; refusal 32 for a number of 2 ^ 33 or more, either one
pub an_adjusted_time_is_the_sum : (t adjustment : ℕ) → t + adjustment < 2 ^ 33 → adjusted_of (SpliceTime.At t) adjustment ≡ Ok (Some (t + adjustment))
an_adjusted_time_is_the_sum = adjustments.adjusted_sum

pub no_time_is_adjusted_to_none : (adjustment : ℕ) → adjustment < 2 ^ 33
    → (adjusted_of SpliceTime.Unspecified adjustment ≡ Ok option.None) × (adjusted_of SpliceTime.Immediate adjustment ≡ Ok option.None)
no_time_is_adjusted_to_none = adjustments.adjusted_none

pub numbers_of_34_bits_are_not_adjusted : (t adjustment : ℕ) → (2 ^ 33 ≤ adjustment → (x : SpliceTime) → adjusted_of x adjustment ≡ Err too_large)
    × (adjustment < 2 ^ 33 → 2 ^ 33 ≤ t → adjusted_of (SpliceTime.At t) adjustment ≡ Err too_large)
numbers_of_34_bits_are_not_adjusted = adjustments.adjusted_wide
