-- 01, "Worked rows": "Sections with right CRC and command length 0: 18 and 19 bytes give 8; 20 with loop length 0 and command type 0 is accepted."
-- Stated of every such section, and of one of each length; then a full reading.
use Prim.Native.Nat.{ℕ, ◌%◌, ◌^◌, ◌≤◌}
use mathlib.Core.List.{List, [], ◌∷◌}
use mathlib.Core.Path.{◌≡◌, refl, ap, sym}
use native.Mathlib.Omega.{arith}
use lib.ListN.{length, get_or, drop, replicate, length-drop}
use Rattle.crc.specs.Crc.{crc_of, crc_bits, crc_bit}
use Rattle.command.specs.Command.{command_of, array, components_of}
use Rattle.command.specs.Insert.{blank, time_unless, component, moded, ending, active, insert}
use Rattle.splice_time.specs.Break.{break_duration}
use Rattle.command.specs.declared.SpliceCommand.{SpliceCommand}
use Rattle.header.specs.Header.{splice_header, header_read, header_of}
use Rattle.splice_time.specs.Time.{splice_time}
use Rattle.header.specs.declared.header.SpliceInfoHeader.{SpliceInfoHeader}
use Rattle.splice_time.specs.declared.SpliceTime.{SpliceTime}
use Rattle.header.proofs.Headers.{header_there}
use Rattle.table.specs.Bits.{bits_of, field}
use Rattle.table.specs.Table.{number, bit, reserved, list}
use Rattle.section.specs.Section.{command_length, command_type, command_bytes, room_after, loop_length, loop_place, frame_in, moved, moved_read, accepted, frame_of, section_of, number_of}
use Rattle.section.specs.Private.{layout_of}
use Rattle.section.specs.Full.{full_section_of}
use Rattle.section.proofs.Framing.{is_framed, no_loop, has_parts, is_refused, is_accepted, is_section}
use Rattle.std.proofs.Common.{Ok, Some, Result}
use Rattle.section.specs.declared.Frame.{Frame}
use Rattle.section.specs.declared.Refusal.{Refusal}

-- a section with right CRC and command length 0, not encrypted
pub record Plain (s : List ℕ) : Type 0 where
  pub table : get_or s 0 0 ≡ 0xfc
  pub right : crc_of s ≡ 0
  pub clear : field (bits_of s) 32 1 ≡ 0
  pub none : command_length s ≡ 0

module _ {s : List ℕ} (p : Plain s) where
  clear_bit : 0 ≡ field (bits_of s) 32 1 % 2 ^ 64
  clear_bit = rw p.clear

  not_one : ◌≡◌ {A = ℕ} 0 1 → ⊥
  not_one e = omega arith

  laid_out : (r : Result Frame Refusal) → 18 ≤ length s → length s ≤ 20 → r ≡ layout_of s → r ≡ frame_of s
  laid_out r h k e = is_framed s (omega arith) (omega arith) p.table p.right r h e

  -- "18 and 19 bytes give 8"
  no_loop_length : 18 ≤ length s → length s ≤ 19 → number_of (section_of s) ≡ 8
  unfolding number_of
  no_loop_length h k =
      sym (ap number_of (is_refused s _ (laid_out _ h (omega arith) (no_loop s 0 clear_bit not_one 0 (sym p.none) (omega arith) (omega arith)))))

  pub row_18 : length s ≡ 18 → number_of (section_of s) ≡ 8
  row_18 e = no_loop_length (omega arith) (omega arith)

  pub row_19 : length s ≡ 19 → number_of (section_of s) ≡ 8
  row_19 e = no_loop_length (omega arith) (omega arith)

  null : command_type s ≡ 0 → command_of (command_type s) (command_bytes s) ≡ Ok SpliceCommand.SpliceNull
  unfolding command_of command_bytes
  null e = rw (e, p.none)

  -- "20 with loop length 0 and command type 0 is accepted", a null command with an empty loop
  pub row_20 : length s ≡ 20 → loop_length s ≡ 0 → command_type s ≡ 0 → (h : SpliceInfoHeader) × (header_of (drop 3 s) ≡ Some h)
      × (section_of s ≡ Ok (record { header = h; command = SpliceCommand.SpliceNull; descriptors = record { at = 16; len = 0 }; payload = record { at = 14; len = 0 } }))
  unfolding moved loop_place frame_in
  row_20 e l t =
      let h = header_there (drop 3 s) (omega (arith, length-drop 3 s)) in (
        h.0,
        h.1,
        sym
            (is_accepted s (frame_in s) _
            (laid_out _ (omega arith) (omega arith) (has_parts s 0 clear_bit not_one 0 (sym p.none) (omega arith) (omega arith) 0 (sym l) (omega arith)))
            (is_section _ h.0 h.1 _ _ SpliceCommand.SpliceNull SpliceCommand.SpliceNull (record { command = record { at = 14; len = 0 }; descriptors = record { at = 16; len = 0 } }) (null t) refl (rw (p.none, l)))),
      )

-- ---- one of each length
abbrev of_18 : List ℕ
of_18 = 0xfc ∷ 0x30 ∷ 0x0f ∷ 0x00 ∷ 0x00 ∷ 0x00 ∷ 0x00 ∷ 0x00 ∷ 0x00 ∷ 0xff ∷ 0xff ∷ 0xf0 ∷ 0x00 ∷ 0x00 ∷ 0xab ∷ 0xe5 ∷ 0x30 ∷ 0x48 ∷ []

abbrev of_19 : List ℕ
of_19 = 0xfc ∷ 0x30 ∷ 0x10 ∷ 0x00 ∷ 0x00 ∷ 0x00 ∷ 0x00 ∷ 0x00 ∷ 0x00 ∷ 0xff ∷ 0xff ∷ 0xf0 ∷ 0x00 ∷ 0x00 ∷ 0x00 ∷ 0x40 ∷ 0x05 ∷ 0x6c ∷ 0x6d ∷ []

abbrev of_20 : List ℕ
of_20 = 0xfc ∷ 0x30 ∷ 0x11 ∷ 0x00 ∷ 0x00 ∷ 0x00 ∷ 0x00 ∷ 0x00 ∷ 0x00 ∷ 0xff ∷ 0xff ∷ 0xf0 ∷ 0x00 ∷ 0x00 ∷ 0x00 ∷ 0x00 ∷ 0x76 ∷ 0x1d ∷ 0xd3 ∷ 0xb6 ∷ []

plain_18 : Plain of_18
unfolding crc_of crc_bits crc_bit command_length
plain_18 = record { table = refl; right = refl; clear = refl; none = refl }

plain_19 : Plain of_19
unfolding crc_of crc_bits crc_bit command_length
plain_19 = record { table = refl; right = refl; clear = refl; none = refl }

plain_20 : Plain of_20
unfolding crc_of crc_bits crc_bit command_length
plain_20 = record { table = refl; right = refl; clear = refl; none = refl }

pub example_18 : number_of (section_of of_18) ≡ 8
example_18 = row_18 plain_18 refl

pub example_19 : number_of (section_of of_19) ≡ 8
example_19 = row_19 plain_19 refl

pub example_20 : number_of (section_of of_20) ≡ 0
unfolding loop_length command_type command_length number_of
example_20 = ap number_of (row_20 plain_20 refl refl refl).2

-- ---- a full reading: an insert by two components, tag 1 at time 5 and tag 2 without a time
abbrev of_39 : List ℕ
of_39 =
    0xfc ∷ 0x30 ∷ 0x24 ∷ 0x00 ∷ 0x00 ∷ 0x00 ∷ 0x00 ∷ 0x00 ∷ 0x00 ∷ 0xff ∷ 0xff ∷ 0xf0 ∷ 0x13 ∷ 0x05
    ∷ 0x00 ∷ 0x00 ∷ 0x00 ∷ 0x01 ∷ 0x7f ∷ 0x8f ∷ 0x02 ∷ 0x01 ∷ 0xfe ∷ 0x00 ∷ 0x00 ∷ 0x00 ∷ 0x05 ∷ 0x02 ∷ 0x7f ∷ 0x00 ∷ 0x09 ∷ 0x00 ∷ 0x00
    ∷ 0x00 ∷ 0x00 ∷ 0xc0 ∷ 0x07 ∷ 0xc4 ∷ 0x9b ∷ []

pub row_components : (full_section_of of_39).components
    ≡ record { component_tag = 1; splice_time = SpliceTime.At 5 } ∷ record { component_tag = 2; splice_time = SpliceTime.Unspecified } ∷ replicate 253 blank
unfolding full_section_of section_of frame_of frame_in accepted moved_read moved command_length command_type command_bytes room_after loop_length crc_of crc_bits crc_bit header_of header_read splice_header command_of components_of array insert active ending moded break_duration time_unless component splice_time number bit reserved list
row_components = refl
