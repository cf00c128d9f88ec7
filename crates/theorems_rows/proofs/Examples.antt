-- Sections that are worked out.
use Prim.Native.Nat.{ℕ, ◌+◌, ◌-◌, ◌≤◌}
use mathlib.Core.Bool.{Bool, true, false, ◌&&◌}
use mathlib.Core.List.{List, [], ◌∷◌}
use mathlib.Core.Path.{◌≡◌, refl, ◌∙◌}
use native.Mathlib.Omega.{arith}
use lib.Dec.{ltb, eqb}
use lib.ListN.{length, get_or}
use borrow.Author.Tests.{ltb-true, lt-ltb, le-ltb, eq-eqb}
use Rattle.canonical_form.specs.Command.{canonical_command}
use Rattle.command.specs.Command.{command_of}
use Rattle.command.specs.declared.SpliceCommand.{SpliceCommand}
use Rattle.crc.specs.Crc.{crc_of, crc_bits, crc_bit}
use Rattle.descriptor.specs.Descriptor.{descriptor_of, is_cuei, segmentation_of, active_of, active_with}
use Rattle.descriptor.specs.Segmentation.{delivery_restrictions, mode, duration, written_upid, parts, front, sub_segments, back, head, segmentation}
use Rattle.canonical_form.specs.Descriptor.{canonical_upid, canonical_segmentation, canonical_payload, canonical_descriptor, canonical_from, canonical_loop}
use Rattle.header.specs.Header.{header_of, header_read, splice_header}
use Rattle.splice_time.specs.Time.{splice_time}
use Rattle.splice_time.specs.declared.SpliceTime.{SpliceTime}
use Rattle.descriptor_loop.specs.Items.{read_at, complete_at, step_of, items_from, items_of}
use Rattle.names.specs.Algorithm.{algorithm_of}
use Rattle.names.specs.Command as names
use Rattle.section.proofs.Acceptance.{refusals_in_order, accepted_if_none}
use Rattle.section.specs.Section.{command_length, command_type, command_bytes, room_after, loop_length, loop_place, frame_in, moved, moved_read, accepted, frame_of, section_of, number_of}
use Rattle.section.specs.declared.Section.{Section}
use Rattle.canonical_form.specs.Section.{canonical_frame, canonical_section}
use Rattle.table.proofs.Lists.{and_true}
use Rattle.table.specs.Bits.{bits_of, field, AllBytes}
use Rattle.table.specs.Lent.{viewed}
use Rattle.table.specs.Table.{number, bit, reserved, part, remaining, canonical_by}
use Rattle.upid.specs.Text.{text_of, done, step, within}
use Rattle.upid.specs.Upid.{upid_of, check_of, read_of, walk_of, ◌then◌, plain_of, length_of, is_text, reported_of, list_of, parts_of, listed, unless_refused}
use Rattle.theorems_reader.specs.Identifiers.{identifiers_of}
use Rattle.theorems_rows.specs.Examples.{EmptyCommand, splice_null, eight, twelve, both, eight_and_twelve, Identified}
use Rattle.std.proofs.Common.{Ok}

module _ (s : List ℕ) (h : EmptyCommand s) where
  room : room_after s ≡ length s - 18
  unfolding room_after
  room = omega (arith, h.size)

  clear_bit : eqb (field (bits_of s) 32 1) 1 ≡ false
  clear_bit = rw h.clear

  pub no_loop_length : 18 ≤ length s → length s ≤ 19 → number_of (section_of s) ≡ 8
  no_loop_length low high =
      refusals_in_order s
      ∙ rw (
        le-ltb (length s) 3 (omega arith),
        le-ltb 4096 (length s) (omega arith),
        eq-eqb (get_or s 0 0) 0xFC h.table,
        eq-eqb (crc_of s) 0 h.crc,
        le-ltb (length s) 18 (omega arith),
        clear_bit,
        le-ltb (length s - 18) (command_length s) (omega (arith, h.size)),
        lt-ltb (room_after s) 2 (omega (arith, room)),
      )

  no_bytes : command_bytes s ≡ []
  unfolding command_bytes
  no_bytes = rw h.size

  null : command_type s ≡ 0 → command_of (command_type s) (command_bytes s) ≡ Ok SpliceCommand.SpliceNull
  unfolding command_of
  null t = rw (t, no_bytes)

  pub empty_accepted : length s ≡ 20 → loop_length s ≡ 0 → command_type s ≡ 0 → (x : Section) × (section_of s ≡ Ok x)
  empty_accepted n l t =
      accepted_if_none s (
        le-ltb (length s) 3 (omega arith),
        (
          le-ltb 4096 (length s) (omega arith),
          (
            rw (eq-eqb (get_or s 0 0) 0xFC h.table),
            (
              rw (eq-eqb (crc_of s) 0 h.crc),
              (
                le-ltb (length s) 18 (omega arith),
                (
                  clear_bit,
                  (
                    le-ltb (length s - 18) (command_length s) (omega (arith, h.size)),
                    (
                      le-ltb (room_after s) 2 (omega (arith, room)),
                      (
                        le-ltb (room_after s) (loop_length s + 2) (omega (arith, room)),
                        (rw (null t), (rw (null t), tt)),
                      ),
                    ),
                  ),
                ),
              ),
            ),
          ),
        ),
      )

-- ---- by computation

pub null_is_one : EmptyCommand splice_null × (length splice_null ≡ 20) × (loop_length splice_null ≡ 0) × (command_type splice_null ≡ 0)
unfolding crc_of crc_bits crc_bit command_length loop_length command_type
null_is_one = (record { table = refl; crc = refl; clear = refl; size = refl }, refl, refl, refl)

pub both_whole : Identified eight_and_twelve (
    record { start = 35; len = 24; bytes = both }
    ∷ record { start = 37; len = 8; bytes = eight }
    ∷ record { start = 47; len = 12; bytes = twelve } ∷ [])
unfolding eight_and_twelve identifiers_of section_of frame_of frame_in accepted moved_read moved command_length command_type command_bytes room_after loop_length loop_place crc_of crc_bits crc_bit header_of header_read splice_header splice_time command_of items_of items_from step_of complete_at read_at descriptor_of is_cuei segmentation_of active_of active_with head front parts delivery_restrictions mode duration written_upid back sub_segments number bit reserved part remaining viewed upid_of check_of read_of walk_of ◌then◌ plain_of length_of is_text reported_of list_of parts_of listed unless_refused text_of done step within
both_whole = record {
  section = record {
    header = record {
      protocol_version = 0;
      encrypted_packet = false;
      encryption_algorithm = algorithm_of 0;
      pts_adjustment = 0;
      cw_index = 255;
      tier = 4095;
      splice_command_length = 5;
      splice_command_type = names.command_type_of 6;
    };
    command = SpliceCommand.TimeSignal (SpliceTime.At 0);
    descriptors = record { at = 21; len = 41 };
    payload = record { at = 14; len = 5 };
  };
  accepted = refl;
  identified = refl;
}

-- ---- that section is canonical

all_below256 : List ℕ → Bool
all_below256 [] = true
all_below256 (b ∷ bs) = ltb b 256 && all_below256 bs

are_bytes : (s : List ℕ) → all_below256 s ≡ true → AllBytes s
unfolding all_below256
are_bytes [] e = tt
are_bytes (b ∷ s) e = let i = and_true (ltb b 256) _ e in (ltb-true b 256 i.0, are_bytes s i.1)

pub both_canonical : AllBytes eight_and_twelve × (canonical_section eight_and_twelve ≡ true)
unfolding eight_and_twelve all_below256 canonical_section canonical_frame canonical_command canonical_loop canonical_from canonical_descriptor canonical_payload canonical_segmentation canonical_by canonical_upid number_of section_of frame_of frame_in accepted moved_read moved command_length command_type command_bytes room_after loop_length loop_place crc_of crc_bits crc_bit header_of header_read splice_header splice_time command_of is_cuei segmentation head front parts delivery_restrictions mode duration written_upid back sub_segments number bit reserved part remaining viewed check_of read_of walk_of ◌then◌ plain_of length_of is_text reported_of text_of done step within
both_canonical = (are_bytes eight_and_twelve refl, refl)
