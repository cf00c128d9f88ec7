-- A section with another pts_adjustment is accepted, and reads the same but for that.
use Prim.Native.Nat.{ℕ, ◌+◌, ◌*◌, ◌-◌, ◌^◌, ◌<◌, ◌≤◌}
use mathlib.Core.List.{List}
use mathlib.Core.Path.{◌≡◌, refl, ap, ap₂, sym, ◌∙◌}
use native.Mathlib.Omega.{arith}
use lib.Dec.{eqb}
use lib.ListN.{length, get_or, take, drop, length-drop}
use lib.Seq.{drop-drop}
use borrow.Author.Tests.{ltb-false, le-leb, eqb-true, not-false}
use Rattle.command.specs.Command.{command_of}
use Rattle.crc.specs.Crc.{crc_of}
use Rattle.crc.proofs.Laws.{crc_appended}
use Rattle.header.specs.Header.{header_read, header_of}
use Rattle.header.specs.declared.header.SpliceInfoHeader.{SpliceInfoHeader}
use Rattle.header.proofs.Headers.{header_got}
use Rattle.names.specs.Algorithm.{algorithm_of}
use Rattle.names.specs.Command.{command_type_of}
use Rattle.section.specs.Section.{command_length, command_type, command_bytes, room_after, loop_length, loop_place, frame_in, loop_bytes, frame_of, moved_read, accepted, through, section_of, conditions, None}
use Rattle.section.specs.declared.Section.{Section}
use Rattle.section.proofs.Acceptance.{none_if_accepted}
use Rattle.table.specs.Bits.{num, bits_of, field}
use Rattle.table.specs.Lent.{viewed}
use Rattle.table.specs.declared.View.{View}
use Rattle.table.proofs.Bits.{bits_from}
use Rattle.table.proofs.Lists.{zero_one}
use Rattle.adjust_section.specs.Adjusted.{adjustment_in, body_with, section_with}
use Rattle.adjust_section.specs.Readings.{header_with, reading_with}
use Rattle.adjust_section.proofs.Parts.{length_section, front_same, moved_is, back_same, run_kept, byte_kept, first_kept}
use Rattle.std.proofs.Common.{Ok, Err, Some, Option, Result}
use Rattle.command.specs.declared.SpliceCommand.{SpliceCommand}
use Rattle.command.specs.declared.CommandRefusal.{CommandRefusal}
use Rattle.section.specs.declared.Frame.{Frame}
use Rattle.section.specs.declared.Refusal.{Refusal}

-- a header's field, in the section
header_field : (s : List ℕ) (at w : ℕ) → field (bits_of (drop 3 s)) at w ≡ field (bits_of s) (24 + at) w
header_field s at w = ap (λ (l : List ℕ). num 0 (take w (drop at l))) (sym (bits_from 3 s)) ∙ ap (λ (l : List ℕ). num 0 (take w l)) (drop-drop at 24 (bits_of s))

-- what is accepted, with another header
abbrev section_in : Section → Result Section Refusal → Section
section_in x (Ok y) = y
section_in x (Err r) = x

accepted_with : (p : ℕ) (f : Result Frame Refusal) (h : SpliceInfoHeader) (r : Result SpliceCommand CommandRefusal) (x : Section) → through f (Some h) r ≡ Ok x
    → (through f (Some (header_with p h)) r ≡ Ok (reading_with p x)) × (x.header ≡ h)
unfolding accepted
accepted_with p (Ok v) h (Ok c) x e =
    (ap (λ (r : Result Section Refusal). Ok (reading_with p (section_in x r))) e, sym (ap (λ (r : Result Section Refusal). (section_in x r).header) e))
accepted_with p (Ok v) h (Err CommandRefusal.UnknownType) x e = zero_one cc
accepted_with p (Ok v) h (Err CommandRefusal.Malformed) x e = zero_one cc
accepted_with p (Err n) h r x e = zero_one cc

-- the header's fields
abbrev header_in : List ℕ → SpliceInfoHeader
header_in t = record {
  protocol_version = field (bits_of t) 0 8;
  encrypted_packet = eqb (field (bits_of t) 8 1) 1;
  encryption_algorithm = algorithm_of (field (bits_of t) 9 6);
  pts_adjustment = field (bits_of t) 15 33;
  cw_index = field (bits_of t) 48 8;
  tier = field (bits_of t) 56 12;
  splice_command_length = field (bits_of t) 68 12;
  splice_command_type = command_type_of (field (bits_of t) 80 8);
}

header_read_lem : (t : List ℕ) → 11 ≤ length t → header_of t ≡ Some (header_in t)
unfolding header_of header_read
header_read_lem t h = ap header_read (header_got t h)

-- the header of the numbers in its fields
module _ (t : List ℕ) (v₁ v₂ v₃ v₄ v₅ v₆ v₇ v₈ : ℕ) where
  header_is : 11 ≤ length t → v₁ ≡ field (bits_of t) 0 8 → v₂ ≡ field (bits_of t) 8 1 → v₃ ≡ field (bits_of t) 9 6 → v₄ ≡ field (bits_of t) 15 33 → v₅ ≡ field (bits_of t) 48 8
      → v₆ ≡ field (bits_of t) 56 12 → v₇ ≡ field (bits_of t) 68 12 → v₈ ≡ field (bits_of t) 80 8
      → Some (record {
        protocol_version = v₁;
        encrypted_packet = eqb v₂ 1;
        encryption_algorithm = algorithm_of v₃;
        pts_adjustment = v₄;
        cw_index = v₅;
        tier = v₆;
        splice_command_length = v₇;
        splice_command_type = command_type_of v₈;
      }) ≡ header_of t
  header_is h e₁ e₂ e₃ e₄ e₅ e₆ e₇ e₈ = rw (header_read_lem t h, e₁, e₂, e₃, e₄, e₅, e₆, e₇, e₈)

module _ (p : ℕ) (s : List ℕ) (x : Section) (is : section_of s ≡ Ok x) (narrow : p < 2 ^ 33) where
  tests : None (conditions s)
  tests = none_if_accepted s x is

  pub long : 18 ≤ length s
  long = ltb-false (length s) 18 tests.1.1.1.1.0

  room : 20 + command_length s + loop_length s ≤ length s
  unfolding room_after
  room =
      let a : command_length s ≤ length s - 18 = ltb-false (length s - 18) (command_length s) tests.1.1.1.1.1.1.0 in
      let b : loop_length s + 2 ≤ length s - 18 - command_length s = ltb-false (length s - 18 - command_length s) (loop_length s + 2) tests.1.1.1.1.1.1.1.1.0 in
      omega (arith, a, b, long)

  new : List ℕ
  new = section_with p s

  size : length new ≡ length s
  unfolding new
  size = length_section p s long

  before : (at w : ℕ) → at + w ≤ 39 → field (bits_of new) at w ≡ field (bits_of s) at w
  unfolding new
  before = front_same s long p narrow

  after : (at w : ℕ) → at + w ≤ (length s - 13) * 8 → field (bits_of new) (72 + at) w ≡ field (bits_of s) (72 + at) w
  unfolding new
  after = back_same s long p narrow

  command_length_same : command_length new ≡ command_length s
  unfolding command_length
  command_length_same = after 20 12 (omega (arith, long))

  command_type_same : command_type new ≡ command_type s
  unfolding command_type new
  command_type_same = byte_kept p s long 4 (omega (arith, long))

  command_bytes_same : command_bytes new ≡ command_bytes s
  unfolding command_bytes new
  command_bytes_same = ap (λ (k : ℕ). take k (drop 14 (section_with p s))) command_length_same ∙ run_kept p s long 5 (command_length s) (omega (arith, room))

  loop_length_same : loop_length new ≡ loop_length s
  unfolding loop_length
  loop_length_same =
      let o : (14 + command_length s) * 8 ≡ 72 + (5 + command_length s) * 8 = omega arith in
      ap (λ (k : ℕ). field (bits_of new) ((14 + k) * 8) 16) command_length_same
      ∙ ap (λ (k : ℕ). field (bits_of new) k 16) o ∙ after ((5 + command_length s) * 8) 16 (omega (arith, room)) ∙ ap (λ (k : ℕ). field (bits_of s) k 16) (sym o)

  place_same : loop_place new ≡ loop_place s
  unfolding loop_place
  place_same = ap₂ (λ (a l : ℕ). record { at = 16 + a; len = l }) command_length_same loop_length_same

  loop_same : loop_bytes new ≡ loop_bytes s
  unfolding viewed loop_place new
  loop_same =
      let n = loop_length s in
      let c = command_length s in
      let o : 16 + c ≡ 9 + (7 + c) = omega arith in
      ap (viewed (section_with p s)) place_same
      ∙ rw (size, le-leb (16 + c + n) (length s) (omega (arith, room)), o) (run_kept p s long (7 + c) n (omega (arith, room)))

  crc_same : crc_of new ≡ crc_of s
  unfolding new section_with
  crc_same = crc_appended (body_with p s) ∙ sym (eqb-true (crc_of s) 0 (not-false (eqb (crc_of s) 0) tests.1.1.1.0))

  first_same : get_or new 0 0 ≡ get_or s 0 0
  unfolding new
  first_same = first_kept p s long 0 (omega arith)

  parts_same : frame_in new ≡ frame_in s
  unfolding frame_in
  parts_same = ap₂ (λ (n : ℕ) (v : View). record { command = record { at = 14; len = n }; descriptors = v }) command_length_same place_same

  frame_same : frame_of new ≡ frame_of s
  unfolding frame_of room_after
  frame_same = rw (size, first_same, crc_same, before 32 1 (omega arith), command_length_same, loop_length_same, parts_same)

  eleven : (t : List ℕ) → length t ≡ length s → 11 ≤ length (drop 3 t)
  eleven t e = omega (arith, length-drop 3 t, long)

  moved : field (bits_of new) 39 33 ≡ p
  unfolding new
  moved = moved_is s long p narrow

  header_moved : header_of (drop 3 new) ≡ Some (header_with p (header_in (drop 3 s)))
  header_moved =
      let f : (at w : ℕ) → at + w ≤ 15 → field (bits_of (drop 3 s)) at w ≡ field (bits_of (drop 3 new)) at w =
      λ at w h. header_field s at w ∙ sym (before (24 + at) w (omega arith)) ∙ sym (header_field new at w) in
      let b : (at w : ℕ) → at + w ≤ 40 → field (bits_of (drop 3 s)) (48 + at) w ≡ field (bits_of (drop 3 new)) (48 + at) w =
      λ at w h. header_field s (48 + at) w ∙ back at w h ∙ sym (header_field new (48 + at) w) in
      sym (header_is (drop 3 new) _ _ _ _ _ _ _ _ (eleven new size) (f 0 8 (omega arith)) (f 8 1 (omega arith)) (f 9 6 (omega arith)) (sym (header_field new 15 33 ∙ moved))
      (b 0 8 (omega arith)) (b 8 12 (omega arith)) (b 20 12 (omega arith)) (b 32 8 (omega arith)))
    where
      back : (at w : ℕ) → at + w ≤ 40 → field (bits_of s) (24 + (48 + at)) w ≡ field (bits_of new) (24 + (48 + at)) w
      back at w h =
          let o : 24 + (48 + at) ≡ 72 + at = omega arith in
          ap (λ (k : ℕ). field (bits_of s) k w) o ∙ sym (after at w (omega (arith, long))) ∙ ap (λ (k : ℕ). field (bits_of new) k w) (sym o)

  old_through : through (frame_of s) (Some (header_in (drop 3 s))) (moved_read (command_of (command_type s) (command_bytes s))) ≡ Ok x
  unfolding section_of
  old_through = ap (λ (h : Option SpliceInfoHeader). through (frame_of s) h (moved_read (command_of (command_type s) (command_bytes s)))) (sym (header_read_lem (drop 3 s) (eleven s refl))) ∙ is

  pub reads_again : section_of (section_with p s) ≡ Ok (reading_with p x)
  unfolding section_of new
  reads_again =
      rw (frame_same, header_moved, command_type_same, command_bytes_same)
      (accepted_with p (frame_of s) (header_in (drop 3 s)) (moved_read (command_of (command_type s) (command_bytes s))) x old_through).0

  pub adjustment_is : x.header.pts_adjustment ≡ adjustment_in s
  unfolding adjustment_in
  adjustment_is =
      ap (λ (h : SpliceInfoHeader). h.pts_adjustment) (accepted_with p (frame_of s) (header_in (drop 3 s)) (moved_read (command_of (command_type s) (command_bytes s))) x old_through).1
      ∙ header_field s 15 33

  pub loop_stays : loop_bytes (section_with p s) ≡ loop_bytes s
  unfolding new
  loop_stays = loop_same

  pub command_stays : (command_type (section_with p s) ≡ command_type s) × (command_bytes (section_with p s) ≡ command_bytes s)
  unfolding new
  command_stays = (command_type_same, command_bytes_same)

  pub lengths_stay : (command_length (section_with p s) ≡ command_length s) × (loop_length (section_with p s) ≡ loop_length s)
  unfolding new
  lengths_stay = (command_length_same, loop_length_same)
