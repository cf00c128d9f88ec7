-- The section's refusals one after the other, as the reader comes to them.
use Prim.Native.Nat.{ℕ, ◌+◌, ◌*◌, ◌-◌, ◌/◌, ◌^◌, ◌%◌, ◌<◌, ◌≤◌}
use mathlib.Core.Bool.{Bool, true, false, not}
use mathlib.Core.List.{List}
use mathlib.Core.Path.{◌≡◌, refl, ap, sym, ◌∙◌}
use native.Mathlib.Omega.{arith}
use lib.Dec.{ltb, eqb}
use lib.ListN.{length, get_or, take, drop, length-drop}
use lib.Seq.{take_all}
use borrow.Author.Tests.{lt-ltb, le-ltb, le-leb, ltb-false, eq-eqb, ne_eqb}
use Rattle.command.specs.Command.{command_of}
use Rattle.command.specs.declared.SpliceCommand.{SpliceCommand}
use Rattle.command.proofs.Payloads.{private_behind}
use Rattle.crc.specs.Crc.{crc_of}
use Rattle.header.specs.Header.{header_of}
use Rattle.header.specs.declared.header.SpliceInfoHeader.{SpliceInfoHeader}
use Rattle.table.specs.Bits.{pick, bits_of, field}
use Rattle.table.specs.Lent.{viewed}
use Rattle.table.proofs.Fields.{byte_field, field_in, field_byte}
use Rattle.table.proofs.Reading.{bits_are}
use Rattle.section.specs.Section.{command_length, command_type, command_bytes, room_after, loop_length, loop_place, frame_in, loop_bytes, moved, moved_read, frame_of, accepted, through, section_of}
use Rattle.section.specs.Private.{view_start, layout_of}
use Rattle.section.specs.declared.Frame.{Frame}
use Rattle.section.specs.declared.Refusal.{Refusal}
use Rattle.std.proofs.Common.{Ok, Err, Some, None, Option, Result}
use Rattle.command.specs.declared.CommandRefusal.{CommandRefusal}
use Rattle.section.specs.declared.Section.{Section}

-- ---- 1 to 5
module _ (s : List ℕ) where
  pub is_short : length s < 3 → Err Refusal.SectionTooShort ≡ frame_of s
  unfolding frame_of
  is_short h = rw (lt-ltb (length s) 3 h)

  module _ (long : 3 ≤ length s) where
    pub is_long : 4096 < length s → Err Refusal.InputTooLong ≡ frame_of s
    unfolding frame_of
    is_long h = rw (le-ltb (length s) 3 long, lt-ltb 4096 (length s) h)

    module _ (fits : length s ≤ 4096) where
      pub is_other : (get_or s 0 0 ≡ 0xfc → ⊥) → Err Refusal.OtherTable ≡ frame_of s
      unfolding frame_of
      is_other h = rw (le-ltb (length s) 3 long, le-ltb 4096 (length s) fits, ne_eqb (get_or s 0 0) 0xfc h)

      module _ (table : get_or s 0 0 ≡ 0xfc) where
        pub is_wrong : (crc_of s ≡ 0 → ⊥) → Err Refusal.WrongCrc ≡ frame_of s
        unfolding frame_of
        is_wrong h = rw (le-ltb (length s) 3 long, le-ltb 4096 (length s) fits, eq-eqb (get_or s 0 0) 0xfc table, ne_eqb (crc_of s) 0 h)

        module _ (right : crc_of s ≡ 0) where
          pub is_headless : length s < 18 → Err Refusal.NoHeader ≡ frame_of s
          unfolding frame_of
          is_headless h = rw (le-ltb (length s) 3 long, le-ltb 4096 (length s) fits, eq-eqb (get_or s 0 0) 0xfc table, eq-eqb (crc_of s) 0 right, lt-ltb (length s) 18 h)

          pub is_framed : (r : Result Frame Refusal) → 18 ≤ length s → r ≡ layout_of s → r ≡ frame_of s
          unfolding frame_of layout_of
          is_framed r h e = rw (le-ltb (length s) 3 long, le-ltb 4096 (length s) fits, eq-eqb (get_or s 0 0) 0xfc table, eq-eqb (crc_of s) 0 right, le-ltb (length s) 18 h) e

-- ---- 6 to 9; what the reader reads of the layout
module _ (s : List ℕ) where
  pub size_is : (v : ℕ) → v ≡ field (bits_of s) 92 12 % 2 ^ 64 → (v ≡ command_length s) × (v < 2 ^ 12)
  unfolding command_length
  size_is v e = bits_are s 92 12 v (omega arith) e

  -- four bits of byte 11, and byte 12
  pub size_of : (x y : ℕ) → 18 ≤ length s → x ≡ get_or s 11 0 → x < 256 → y ≡ get_or s 12 0 → y < 256 → x % 16 * 256 + y ≡ command_length s
  unfolding command_length
  size_of x y h ex bx ey by =
      let four : field (bits_of s) 92 4 ≡ get_or s 11 0 / 1 % 16 = field_in s 11 (omega arith) (rw (← ex) bx) 4 4 0 refl in
      let overall = field_byte s 12 (omega arith) (rw (← ey) by) 92 4 refl in
      sym (overall ∙ omega (arith, four, ex, ey))

  pub number_of : (at x y : ℕ) → at + 2 ≤ length s → x ≡ get_or s at 0 → x < 256 → y ≡ get_or s (at + 1) 0 → y < 256 → x * 256 + y ≡ field (bits_of s) (at * 8) 16
  number_of at x y h ex bx ey by =
      let high = byte_field s at (omega arith) (rw (← ex) bx) in
      let overall = field_byte s (at + 1) (omega arith) (rw (← ey) by) (at * 8) 8 (omega arith) in
      sym (overall ∙ omega (arith, high, ex, ey))

  pub extent_is : (n v : ℕ) → n ≡ command_length s → v ≡ field (bits_of s) ((14 + n) * 8) 16 → v ≡ loop_length s
  unfolding loop_length
  extent_is n v h e = e ∙ ap (λ (m : ℕ). field (bits_of s) ((14 + m) * 8) 16) h

  module _ (long : 18 ≤ length s) (byte : get_or s 4 0 < 256) where
    bit_is : field (bits_of s) 32 1 ≡ get_or s 4 0 / 128 % 2
    bit_is = field_in s 4 (omega arith) byte 0 1 7 refl

    pub is_encrypted : 128 ≤ get_or s 4 0 → Err Refusal.Encrypted ≡ layout_of s
    unfolding layout_of
    is_encrypted h = rw (eq-eqb (field (bits_of s) 32 1) 1 (omega (arith, bit_is)))

    module _ (clear : get_or s 4 0 < 128) where
      clear_bit : eqb (field (bits_of s) 32 1) 1 ≡ false
      clear_bit = ne_eqb (field (bits_of s) 32 1) 1 (λ e. omega (arith, bit_is, e))

      module _ (n : ℕ) (en : n ≡ command_length s) where
        pub is_command_long : length s - 18 < n → Err Refusal.CommandTooLong ≡ layout_of s
        unfolding layout_of
        is_command_long h = rw (clear_bit, ← en, lt-ltb (length s - 18) n h)

        module _ (fits : n ≤ length s - 18) where
          pub is_loopless : length s - 18 - n < 2 → Err Refusal.NoLoopLength ≡ layout_of s
          unfolding layout_of room_after
          is_loopless h = rw (clear_bit, ← en, le-ltb (length s - 18) n fits, lt-ltb (length s - 18 - n) 2 h)

          module _ (room : 2 ≤ length s - 18 - n) (m : ℕ) (em : m ≡ loop_length s) where
            pub is_loop_long : length s - 18 - n < m + 2 → Err Refusal.LoopTooLong ≡ layout_of s
            unfolding layout_of room_after
            is_loop_long h = rw (clear_bit, ← em, ← en, le-ltb (length s - 18) n fits, le-ltb (length s - 18 - n) 2 room, lt-ltb (length s - 18 - n) (m + 2) h)

            pub is_laid : m + 2 ≤ length s - 18 - n → Ok (record { command = record { at = 14; len = n }; descriptors = record { at = 16 + n; len = m } }) ≡ layout_of s
            unfolding layout_of room_after loop_place frame_in
            is_laid h = rw (clear_bit, ← em, ← en, le-ltb (length s - 18) n fits, le-ltb (length s - 18 - n) 2 room, le-ltb (length s - 18 - n) (m + 2) h)

  module _ (v : ℕ) (ev : v ≡ field (bits_of s) 32 1 % 2 ^ 64) (clear : v ≡ 1 → ⊥) (n : ℕ) (en : n ≡ command_length s) (fits : n ≤ length s - 18) where
    not_set : eqb (field (bits_of s) 32 1) 1 ≡ false
    not_set = ne_eqb (field (bits_of s) 32 1) 1 (λ e. clear ((bits_are s 32 1 v (omega arith) ev).0 ∙ e))

    pub no_loop : length s - 18 - n < 2 → Err Refusal.NoLoopLength ≡ layout_of s
    unfolding layout_of room_after
    no_loop h = rw (not_set, ← en, le-ltb (length s - 18) n fits, lt-ltb (length s - 18 - n) 2 h)

    module _ (room : 2 ≤ length s - 18 - n) (m : ℕ) (em : m ≡ loop_length s) where
      pub has_parts : m + 2 ≤ length s - 18 - n → Ok (frame_in s) ≡ layout_of s
      unfolding layout_of room_after
      has_parts h = rw (not_set, ← em, ← en, le-ltb (length s - 18) n fits, le-ltb (length s - 18 - n) 2 room, le-ltb (length s - 18 - n) (m + 2) h)

-- ---- from the frame to the section
abbrev pub command_read : List ℕ → Result SpliceCommand CommandRefusal
command_read s = command_of (command_type s) (command_bytes s)

pub is_refused : (s : List ℕ) (x : Refusal) → Err x ≡ frame_of s → Err x ≡ section_of s
unfolding section_of
is_refused s x e = ap (λ (f : Result Frame Refusal). through f (header_of (drop 3 s)) (moved_read (command_read s))) e

pub is_accepted : (s : List ℕ) (v : Frame) (r : Result Section Refusal) → Ok v ≡ frame_of s → r ≡ accepted (header_of (drop 3 s)) (moved_read (command_read s)) v → r ≡ section_of s
unfolding section_of
is_accepted s v r e f = f ∙ ap (λ (x : Result Frame Refusal). through x (header_of (drop 3 s)) (moved_read (command_read s))) e

-- what a whole frame says
abbrev as_number : Result Frame Refusal → ℕ
as_number (Ok v) = 1
as_number (Err x) = 0

not_laid : {A : Type 0} (x : Refusal) (v : Frame) → Ok v ≡ Err x → A
not_laid x v e = let z : ◌≡◌ {A = ℕ} 1 0 = ap as_number e in absurd (omega (arith, z))

abbrev place_in : Result Frame Refusal → Frame → Frame
place_in (Ok v) w = v
place_in (Err x) w = w

tests : (b₁ b₂ b₃ b₄ b₅ b₆ b₇ b₈ b₉ : Bool) (v w : Frame)
    → Ok w ≡ pick b₁ (Err Refusal.SectionTooShort)
    (pick b₂ (Err Refusal.InputTooLong)
    (pick b₃ (Err Refusal.OtherTable)
    (pick b₄ (Err Refusal.WrongCrc)
    (pick b₅ (Err Refusal.NoHeader)
    (pick b₆ (Err Refusal.Encrypted)
    (pick b₇ (Err Refusal.CommandTooLong)
    (pick b₈ (Err Refusal.NoLoopLength)
    (pick b₉ (Err Refusal.LoopTooLong) (Ok v)))))))))
    → (w ≡ v) × (b₂ ≡ false) × (b₅ ≡ false) × (b₇ ≡ false) × (b₈ ≡ false) × (b₉ ≡ false)
tests true b₂ b₃ b₄ b₅ b₆ b₇ b₈ b₉ v w e = not_laid _ w e
tests false true b₃ b₄ b₅ b₆ b₇ b₈ b₉ v w e = not_laid _ w e
tests false false true b₄ b₅ b₆ b₇ b₈ b₉ v w e = not_laid _ w e
tests false false false true b₅ b₆ b₇ b₈ b₉ v w e = not_laid _ w e
tests false false false false true b₆ b₇ b₈ b₉ v w e = not_laid _ w e
tests false false false false false true b₇ b₈ b₉ v w e = not_laid _ w e
tests false false false false false false true b₈ b₉ v w e = not_laid _ w e
tests false false false false false false false true b₉ v w e = not_laid _ w e
tests false false false false false false false false true v w e = not_laid _ w e
tests false false false false false false false false false v w e = (ap (λ (f : Result Frame Refusal). place_in f v) e, refl, refl, refl, refl, refl)

pub record Framed (s : List ℕ) (v : Frame) : Type 0 where
  pub place : v ≡ frame_in s
  pub size : v.command.len ≡ command_length s
  pub at : v.descriptors.at ≡ 16 + command_length s
  pub short : length s ≤ 4096
  pub long : 18 ≤ length s
  pub fits : 20 + command_length s + loop_length s ≤ length s

pub framed : (s : List ℕ) (v : Frame) → Ok v ≡ frame_of s → Framed s v
unfolding frame_of room_after loop_place frame_in
framed s v e =
    let t = tests (ltb (length s) 3) (ltb 4096 (length s)) (not (eqb (get_or s 0 0) 0xfc)) (not (eqb (crc_of s) 0)) (ltb (length s) 18)
    (eqb (field (bits_of s) 32 1) 1) (ltb (length s - 18) (command_length s)) (ltb (room_after s) 2) (ltb (room_after s) (loop_length s + 2)) (frame_in s) v e in
    let h₅ = ltb-false (length s) 18 t.2 in
    let h₇ = ltb-false (length s - 18) (command_length s) t.3 in
    let h₈ = ltb-false (length s - 18 - command_length s) 2 t.4 in
    let h₉ = ltb-false (length s - 18 - command_length s) (loop_length s + 2) t.5 in
    record {
      place = t.0;
      size = ap (λ (u : Frame). u.command.len) t.0;
      at = ap (λ (u : Frame). u.descriptors.at) t.0;
      short = ltb-false 4096 (length s) t.1;
      long = h₅;
      fits = omega (arith, h₅, h₇, h₈, h₉);
    }

-- the bytes of its two parts, by the views of the frame
pub command_viewed : (s : List ℕ) (v : Frame) → Ok v ≡ frame_of s → viewed s v.command ≡ command_bytes s
unfolding viewed frame_in command_bytes
command_viewed s v e =
    let f = framed s v e in
    rw (f.place, le-leb (14 + command_length s) (length s) (omega (arith, f.fits)))

pub loop_viewed : (s : List ℕ) (v : Frame) → Ok v ≡ frame_of s → viewed s v.descriptors ≡ loop_bytes s
unfolding frame_in
loop_viewed s v e = rw (framed s v e).place

-- ---- 10, 11 and the reading
pub no_header : (h : Option SpliceInfoHeader) (r : Result SpliceCommand CommandRefusal) (v : Frame) → h ≡ None → Err Refusal.NoHeader ≡ accepted h r v
unfolding accepted
no_header h r v e = rw e

module _ (h : Option SpliceInfoHeader) (x : SpliceInfoHeader) (eh : h ≡ Some x) (r : Result SpliceCommand CommandRefusal) (v : Frame) where
  pub is_unknown : r ≡ Err CommandRefusal.UnknownType → Err Refusal.UnknownCommand ≡ accepted h (moved_read r) v
  unfolding accepted moved_read
  is_unknown e = rw (eh, e)

  pub is_malformed : r ≡ Err CommandRefusal.Malformed → Err Refusal.MalformedCommand ≡ accepted h (moved_read r) v
  unfolding accepted moved_read
  is_malformed e = rw (eh, e)

  pub is_section : (c d : SpliceCommand) (u : Frame) → r ≡ Ok c → d ≡ moved 14 c → u ≡ v
      → Ok (record { header = x; command = d; descriptors = u.descriptors; payload = u.command }) ≡ accepted h (moved_read r) v
  unfolding accepted moved_read
  is_section c d u e f g = rw (eh, e, f, g)

-- the same of a command as the section has it
pub section_is : (s : List ℕ) (p : Frame) (x : SpliceInfoHeader) (y : Result SpliceCommand CommandRefusal) → header_of (drop 3 s) ≡ Some x → y ≡ moved_read (command_read s) → p ≡ frame_in s
    → accepted (Some x) y p ≡ accepted (header_of (drop 3 s)) (moved_read (command_read s)) (frame_in s)
section_is s p x y eh ey ep = rw (ep, ey, eh)

pub is_moved : (r : Result SpliceCommand CommandRefusal) (c d : SpliceCommand) → r ≡ Ok c → d ≡ moved 14 c → Ok d ≡ moved_read r
unfolding moved_read
is_moved r c d e f = rw (e, f)

pub unknown_moved : (r : Result SpliceCommand CommandRefusal) → r ≡ Err CommandRefusal.UnknownType → Err CommandRefusal.UnknownType ≡ moved_read r
unfolding moved_read
unknown_moved r e = rw e

pub malformed_moved : (r : Result SpliceCommand CommandRefusal) → r ≡ Err CommandRefusal.Malformed → Err CommandRefusal.Malformed ≡ moved_read r
unfolding moved_read
malformed_moved r e = rw e

-- the views of a command begin within four bytes of its payload
pub within_four : (k : ℕ) (s : List ℕ) (c : SpliceCommand) → command_of k s ≡ Ok c → view_start c ≤ 4
within_four k s (SpliceCommand.PrivateCommand p) e = omega (arith, private_behind k s p e)
within_four k s SpliceCommand.SpliceNull e = omega arith
within_four k s (SpliceCommand.SpliceInsert i) e = omega arith
within_four k s (SpliceCommand.TimeSignal t) e = omega arith
within_four k s SpliceCommand.BandwidthReservation e = omega arith

pub size_at : (s : List ℕ) (p : Frame) → p ≡ frame_in s → p.command.len ≡ command_length s
unfolding frame_in
size_at s p e = ap (λ (u : Frame). u.command.len) e

pub command_at : (s : List ℕ) (p : Frame) → p ≡ frame_in s → command_of (get_or s 13 0) (take (14 + p.command.len - 14) (drop 14 s)) ≡ command_read s
unfolding command_type command_bytes
command_at s p e =
    let z : 14 + p.command.len - 14 ≡ command_length s = omega (arith, size_at s p e) in
    rw z

pub header_at : (s : List ℕ) → header_of (take (length s - 3) (drop 3 s)) ≡ header_of (drop 3 s)
header_at s = ap header_of (take_all (length s - 3) (drop 3 s) (omega (arith, length-drop 3 s)))
