-- Sections that are worked out, by computation.
use Prim.Native.Nat.{ℕ, ◌≤◌}
use mathlib.Core.Bool.{true, false}
use mathlib.Core.List.{List, [], ◌∷◌}
use mathlib.Core.Path.{◌≡◌, refl, ap, sym, ◌∙◌}
use native.Mathlib.Omega.{arith}
use lib.ListN.{length, take, drop, get_or}
use borrow.Author.Tests.{eqb-false}
use Rattle.command.specs.Command.{command_of, components_of, private, array}
use Rattle.command.specs.Insert.{insert, active, moded, ending, time_unless, component}
use Rattle.splice_time.specs.Break.{break_duration}
use Rattle.command.specs.declared.SpliceCommand.{SpliceCommand}
use Rattle.command.specs.declared.insert.SpliceDetail.{SpliceDetail}
use Rattle.command.specs.declared.insert.SpliceMode.{SpliceMode}
use Rattle.names.specs.declared.flags.NetworkIndicator.{NetworkIndicator}
use Rattle.canonical_form.specs.Command.{canonical_command}
use Rattle.descriptor.specs.Segmentation as segment
use Rattle.canonical_form.specs.Descriptor.{canonical_upid, canonical_segmentation, canonical_payload, canonical_descriptor, canonical_from, canonical_loop}
use Rattle.canonical_form.specs.Section.{canonical_frame, canonical_section}
use Rattle.crc.specs.Crc.{crc_of, crc_bits, crc_bit}
use Rattle.descriptor.specs.Descriptor.{descriptor_of, is_cuei, segmentation_of, active_of, active_with, avail_of, dtmf_of, time_of, reserved_of}
use Rattle.descriptor.specs.Plain.{avail, dtmf, time, private_table}
use Rattle.descriptor.specs.Segmentation.{delivery_restrictions, mode, duration, written_upid, parts, ListedFront, front, sub_segments, back, Head, head, segmentation}
use Rattle.descriptor.specs.Full.{beside_of, beside_in, filled}
use Rattle.header.specs.Header.{header_of, header_read, splice_header}
use Rattle.splice_time.specs.Time.{splice_time}
use Rattle.splice_time.specs.declared.SpliceTime.{SpliceTime}
use Rattle.descriptor_loop.specs.Items.{read_at, complete_at, step_of, reading_of, items_from, items_of}
use Rattle.canonical_form.specs.Same.Pairs.{over}
use Rattle.names.specs.Algorithm.{algorithm_of}
use Rattle.names.specs.Command as names
use Rattle.section.specs.Section.{command_length, command_type, command_bytes, loop_bytes, room_after, loop_length, loop_place, frame_in, moved, moved_read, accepted, frame_of, section_of, number_of}
use Rattle.section.specs.declared.Section.{Section}
use Rattle.table.proofs.Lists.{zero_one}
use Rattle.table.specs.Bits.{bits_of}
use Rattle.table.specs.Lent.{viewed}
use Rattle.table.specs.Table.{number, bit, reserved, part, remaining, list, canonical_by, got, parse}
use Rattle.theorems_reader.specs.Around.{Around}
use Rattle.theorems_reader.specs.Identifiers.{identifiers_of}
use Rattle.canonical_form.specs.Same.{SameSections}
use Rattle.theorems_rows.specs.Examples.{EmptyCommand, Identified}
use Rattle.theorems_rows.specs.Payloads.{UpidIn, written_in, checked_in, Unrefused, UnrefusedAt, kinds_of}
use Rattle.upid.specs.Cover.{All, none, more}
use Rattle.upid.specs.Text.{text_of, done, step, within}
use Rattle.upid.specs.Upid.{upid_of, check_of, read_of, walk_of, ◌then◌, plain_of, length_of, is_text, reported_of, list_of, parts_of, listed, unless_refused, eidr_of}
use Rattle.theorems_rows.specs.Sections.{eighteen, nineteen, insert_section, other_insert_section, longer_insert_section, every_identifier, anothers_avail, every_descriptor, every_command, null_section, program_insert_section, cancelled_insert_section, bandwidth_section, private_section}
use Rattle.std.proofs.Common.{Ok, None}

pub eighteen_is_one : EmptyCommand eighteen × (length eighteen ≡ 18)
unfolding crc_of crc_bits crc_bit command_length
eighteen_is_one = (record { table = refl; crc = refl; clear = refl; size = refl }, refl)

pub nineteen_is_one : EmptyCommand nineteen × (length nineteen ≡ 19)
unfolding crc_of crc_bits crc_bit command_length
nineteen_is_one = (record { table = refl; crc = refl; clear = refl; size = refl }, refl)

-- every kind of identifier, in order
pub every_identifier_lem : Identified every_identifier (
    record { start = 18; len = 3; bytes = 0x01 ∷ 0x02 ∷ 0x03 ∷ [] }
    ∷ record { start = 31; len = 1; bytes = 0x34 ∷ [] }
    ∷ record { start = 46; len = 12; bytes = 0x10 ∷ 0x11 ∷ 0x12 ∷ 0x13 ∷ 0x14 ∷ 0x15 ∷ 0x16 ∷ 0x17 ∷ 0x18 ∷ 0x19 ∷ 0x1A ∷ 0x1B ∷ [] }
    ∷ record { start = 67; len = 2; bytes = 0xAA ∷ 0xBB ∷ [] }
    ∷ record { start = 63; len = 4; bytes = 0x41 ∷ 0x42 ∷ 0x43 ∷ 0x44 ∷ [] }
    ∷ record { start = 83; len = 6; bytes = 0x0D ∷ 0x04 ∷ 0x01 ∷ 0x02 ∷ 0xAA ∷ 0xBB ∷ [] }
    ∷ record { start = 85; len = 4; bytes = 0x01 ∷ 0x02 ∷ 0xAA ∷ 0xBB ∷ [] }
    ∷ record { start = 87; len = 2; bytes = 0xAA ∷ 0xBB ∷ [] }
    ∷ record { start = 106; len = 12; bytes = 0xFF ∷ 0x41 ∷ 0x42 ∷ 0x43 ∷ 0x44 ∷ 0x31 ∷ 0x32 ∷ 0x33 ∷ 0x34 ∷ 0x35 ∷ 0x36 ∷ 0x37 ∷ [] } ∷ [])
unfolding every_identifier identifiers_of section_of frame_of frame_in accepted moved_read moved command_length command_type command_bytes room_after loop_length loop_place crc_of crc_bits crc_bit header_of header_read splice_header splice_time command_of private items_of items_from step_of complete_at read_at descriptor_of is_cuei segmentation_of active_of active_with dtmf_of reserved_of dtmf private_table head front parts delivery_restrictions mode duration written_upid back sub_segments segmentation beside_of beside_in filled number bit reserved part remaining list viewed upid_of check_of read_of walk_of ◌then◌ plain_of length_of is_text reported_of list_of parts_of listed unless_refused eidr_of text_of done step within
every_identifier_lem = record {
  section = record {
    header = record {
      protocol_version = 0;
      encrypted_packet = false;
      encryption_algorithm = algorithm_of 0;
      pts_adjustment = 0;
      cw_index = 255;
      tier = 4095;
      splice_command_length = 7;
      splice_command_type = names.command_type_of 255;
    };
    command = SpliceCommand.PrivateCommand (record { identifier = 0x41424344; private_bytes = record { at = 18; len = 3 } });
    descriptors = record { at = 23; len = 98 };
    payload = record { at = 14; len = 7 };
  };
  accepted = refl;
  identified = refl;
}

-- ---- row m's inserts, as sections

unfoldable pub insert_reading : Section
insert_reading = record {
  header = record {
    protocol_version = 0;
    encrypted_packet = false;
    encryption_algorithm = algorithm_of 0;
    pts_adjustment = 0;
    cw_index = 255;
    tier = 4095;
    splice_command_length = 11;
    splice_command_type = names.command_type_of 5;
  };
  command = SpliceCommand.SpliceInsert (record {
    splice_event_id = 1;
    reserved = 127;
    splice_detail = SpliceDetail.Insert (record {
      network_indicator = NetworkIndicator.In;
      splice_mode = SpliceMode.Components 0;
      duration = None;
      unique_program_id = 0;
      avail_num = 0;
      avails_expected = 0;
    });
  });
  descriptors = record { at = 27; len = 0 };
  payload = record { at = 14; len = 11 };
}

pub insert_read_lem : section_of insert_section ≡ Ok insert_reading
unfolding insert_reading section_of frame_of frame_in accepted moved_read moved command_length command_type command_bytes room_after loop_length loop_place crc_of crc_bits crc_bit header_of header_read splice_header command_of insert active moded ending break_duration time_unless component number bit reserved part remaining list
insert_read_lem = refl

pub other_insert_read : section_of other_insert_section ≡ Ok insert_reading
unfolding insert_reading section_of frame_of frame_in accepted moved_read moved command_length command_type command_bytes room_after loop_length loop_place crc_of crc_bits crc_bit header_of header_read splice_header command_of insert active moded ending break_duration time_unless component number bit reserved part remaining list
other_insert_read = refl

pub same_insert : SameSections insert_section insert_reading other_insert_section insert_reading
unfolding insert_reading items_of items_from viewed
same_insert = record {
  headers = record { version = refl; encrypted = refl; algorithm = refl; adjustment = refl; index = refl; tiers = refl };
  commands = refl;
  components = refl;
  bytes = refl;
  items = over;
}

pub other_bytes_lem : insert_section ≡ other_insert_section → ⊥
other_bytes_lem e = eqb-false 0x0F 0x1F refl (ap (λ (l : List ℕ). get_or l 19 0) e)

-- ---- another section_length

abbrev pub insert_others : List ℕ
insert_others = take 24 (drop 3 insert_section)

pub its_length : Around 0xFC insert_others insert_section
unfolding crc_of crc_bits crc_bit
its_length = record { byte_1 = 0x30; byte_2 = 0x1C; crc = drop 27 insert_section; is = refl; four = refl; right = refl }

pub longer : Around 0xFC insert_others longer_insert_section
unfolding crc_of crc_bits crc_bit
longer = record { byte_1 = 0x30; byte_2 = 0x1D; crc = drop 27 longer_insert_section; is = refl; four = refl; right = refl }

pub another_length : insert_section ≡ longer_insert_section → ⊥
another_length e = eqb-false 0x1C 0x1D refl (ap (λ (l : List ℕ). get_or l 2 0) e)

-- ---- a canonical section with every kind of descriptor
pub every_descriptor_canonical : canonical_section every_descriptor ≡ true
unfolding every_descriptor canonical_section canonical_frame canonical_command canonical_loop canonical_from canonical_descriptor canonical_payload canonical_segmentation canonical_by canonical_upid number_of section_of frame_of frame_in accepted moved_read moved command_length command_type command_bytes room_after loop_length loop_place crc_of crc_bits crc_bit header_of header_read splice_header splice_time command_of insert active moded ending break_duration time_unless component is_cuei avail dtmf time private_table segmentation head front parts delivery_restrictions mode segment.component duration written_upid back sub_segments number bit reserved part remaining list viewed check_of read_of walk_of ◌then◌ plain_of length_of is_text reported_of text_of done step within
every_descriptor_canonical = refl

pub every_kind : kinds_of every_descriptor ≡ 0 ∷ 1 ∷ 2 ∷ 2 ∷ 3 ∷ 4 ∷ []
unfolding every_descriptor command_length command_type command_bytes room_after loop_length loop_place items_of items_from step_of complete_at read_at descriptor_of is_cuei avail_of time_of segmentation_of active_of active_with dtmf_of reserved_of avail dtmf time private_table segmentation head front parts delivery_restrictions mode segment.component duration written_upid back sub_segments number bit reserved part remaining list viewed check_of read_of walk_of ◌then◌ plain_of length_of is_text reported_of text_of done step within
every_kind = refl

pub its_insert : (command_type every_descriptor ≡ 0x05)
    × (take 2 (components_of (command_bytes every_descriptor)) ≡ record { component_tag = 1; splice_time = SpliceTime.At 90000 } ∷ record { component_tag = 2; splice_time = SpliceTime.At 90001 } ∷ [])
unfolding every_descriptor command_length command_type command_bytes room_after components_of array splice_time insert active moded ending break_duration time_unless component number bit reserved part remaining list viewed
its_insert = (refl, refl)

pub its_components : take 1 (reading_of (loop_bytes every_descriptor) 19).beside.components ≡ record { component_tag = 5; pts_offset = 7 } ∷ []
unfolding every_descriptor reading_of command_length command_type command_bytes room_after loop_length loop_place step_of complete_at read_at descriptor_of is_cuei segmentation_of active_of active_with beside_of beside_in filled segmentation head front parts delivery_restrictions mode segment.component duration written_upid back sub_segments number bit reserved part remaining list viewed check_of read_of walk_of ◌then◌ plain_of length_of is_text reported_of text_of done step within eidr_of
its_components = refl

-- nothing refuses them: avail, DTMF, segmentation, a cancelled one, time, reserved
at_least : (n m : ℕ) → m ≡ n → n ≤ m
at_least n m e = omega (arith, e)

pub unrefused_avail : UnrefusedAt (loop_bytes every_descriptor) 0 0
unfolding every_descriptor command_length loop_length loop_place viewed
unrefused_avail = Unrefused.an_avail refl refl (at_least 4 _ refl)

pub unrefused_dtmf : UnrefusedAt (loop_bytes every_descriptor) 10 1
unfolding every_descriptor command_length loop_length loop_place viewed dtmf number reserved part
unrefused_dtmf = Unrefused.a_dtmf refl refl (record { preroll = 0xB1; dtmf_chars = record { at = 2; len = 1 } }) 24 refl

-- a UPID that its own rules read, where the tables up to it read these
module _ (p : List ℕ) (h : Head) (m : ℕ) (heads : parse head (bits_of p) 0 ≡ got h m) where
  upid_read_lem : (f : ListedFront) (n k : ℕ) → parse front (bits_of p) m ≡ got f n → checked_in p f.front.segmentation_upid ≡ Ok k
      → (u : UpidIn p) → (k : ℕ) × (checked_in p (written_in u) ≡ Ok k)
  upid_read_lem f n k fronts fine u =
      let z : got h m ≡ got u.first u.seam = sym heads ∙ u.heads in
      let seam : m ≡ u.seam = cc in
      let w : got f n ≡ got u.fore u.end = sym fronts ∙ ap (parse front (bits_of p)) seam ∙ u.fronts in
      let same : f ≡ u.fore = cc in
      (k, ap (λ (x : ListedFront). checked_in p x.front.segmentation_upid) (sym same) ∙ fine)

  -- a cancelled one has none
  no_upid : h.cancel ≡ true → (u : UpidIn p) → ⊥
  no_upid on u =
      let z : got h m ≡ got u.first u.seam = sym heads ∙ u.heads in
      let same : h ≡ u.first = cc in
      let b : true ≡ false = sym on ∙ ap (λ (x : Head). x.cancel) same ∙ u.active in
      zero_one cc

pub unrefused_segmentation : UnrefusedAt (loop_bytes every_descriptor) 19 2
unfolding every_descriptor command_length loop_length loop_place viewed segmentation head front parts delivery_restrictions mode segment.component duration written_upid back sub_segments number bit reserved part remaining list check_of read_of plain_of length_of is_text reported_of
unrefused_segmentation = Unrefused.a_segmentation refl refl _ _ refl (upid_read_lem _ _ _ refl _ _ _ refl refl)

pub unrefused_cancelled : UnrefusedAt (loop_bytes every_descriptor) 58 2
unfolding every_descriptor command_length loop_length loop_place viewed segmentation head front number bit reserved
unrefused_cancelled = Unrefused.a_segmentation refl refl _ _ refl (λ u. absurd (no_upid _ _ _ refl refl u))

pub unrefused_time : UnrefusedAt (loop_bytes every_descriptor) 69 3
unfolding every_descriptor command_length loop_length loop_place viewed
unrefused_time = Unrefused.a_time refl refl (at_least 12 _ refl)

pub unrefused_by_tag : UnrefusedAt (loop_bytes every_descriptor) 87 4
unfolding every_descriptor command_length loop_length loop_place viewed
unrefused_by_tag = Unrefused.another_tag (omega arith)

pub unrefused_by_identifier : UnrefusedAt anothers_avail 0 4
unrefused_by_identifier = Unrefused.another_identifier 0x41 0x42 0x43 0x44 refl (λ a b c d. eqb-false 0x41 0x43 refl a)

-- ---- and with every other command

abbrev CanonicalWith : List ℕ → ℕ → Type 0
CanonicalWith s type = (canonical_section s ≡ true) × (command_type s ≡ type)

null_canonical : CanonicalWith null_section 0x00
unfolding canonical_section canonical_frame canonical_command canonical_loop canonical_from canonical_by number_of section_of frame_of frame_in accepted moved_read moved command_length command_type command_bytes room_after loop_length loop_place crc_of crc_bits crc_bit header_of header_read splice_header splice_time command_of private insert active moded ending break_duration time_unless component number bit reserved part remaining list viewed
null_canonical = (refl, refl)

program_insert_canonical : CanonicalWith program_insert_section 0x05
unfolding canonical_section canonical_frame canonical_command canonical_loop canonical_from canonical_by number_of section_of frame_of frame_in accepted moved_read moved command_length command_type command_bytes room_after loop_length loop_place crc_of crc_bits crc_bit header_of header_read splice_header splice_time command_of private insert active moded ending break_duration time_unless component number bit reserved part remaining list viewed
program_insert_canonical = (refl, refl)

cancelled_insert_canonical : CanonicalWith cancelled_insert_section 0x05
unfolding canonical_section canonical_frame canonical_command canonical_loop canonical_from canonical_by number_of section_of frame_of frame_in accepted moved_read moved command_length command_type command_bytes room_after loop_length loop_place crc_of crc_bits crc_bit header_of header_read splice_header splice_time command_of private insert active moded ending break_duration time_unless component number bit reserved part remaining list viewed
cancelled_insert_canonical = (refl, refl)

bandwidth_canonical : CanonicalWith bandwidth_section 0x07
unfolding canonical_section canonical_frame canonical_command canonical_loop canonical_from canonical_by number_of section_of frame_of frame_in accepted moved_read moved command_length command_type command_bytes room_after loop_length loop_place crc_of crc_bits crc_bit header_of header_read splice_header splice_time command_of private insert active moded ending break_duration time_unless component number bit reserved part remaining list viewed
bandwidth_canonical = (refl, refl)

private_canonical : CanonicalWith private_section 0xFF
unfolding canonical_section canonical_frame canonical_command canonical_loop canonical_from canonical_by number_of section_of frame_of frame_in accepted moved_read moved command_length command_type command_bytes room_after loop_length loop_place crc_of crc_bits crc_bit header_of header_read splice_header splice_time command_of private insert active moded ending break_duration time_unless component number bit reserved part remaining list viewed
private_canonical = (refl, refl)

pub every_command_canonical : All (λ (c : List ℕ × ℕ). (canonical_section c.0 ≡ true) × (command_type c.0 ≡ c.1)) every_command
every_command_canonical = more null_canonical (more program_insert_canonical (more cancelled_insert_canonical (more bandwidth_canonical (more private_canonical none))))
