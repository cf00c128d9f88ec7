-- A section with another loop is accepted, and reads the same but for its loop.
use Rattle.section.specs.declared.Refusal.{Refusal}
use Prim.Native.Nat.{ℕ, ◌+◌, ◌*◌, ◌-◌, ◌/◌, ◌%◌, ◌≤◌, ◌<◌}
use mathlib.Core.Bool.{false, not}
use mathlib.Core.List.{List, [], ◌∷◌, ◌++◌, append_assoc}
use mathlib.Core.Path.{◌≡◌, refl, ap, ap₂, sym, ◌∙◌}
use native.Mathlib.Omega.{arith}
use lib.Dec.{eqb, ltb}
use lib.ListN.{length, take, drop, get_or, length-append, length-take, length-drop, take-append-drop, get_or-append}
use lib.Seq.{length-take-le, take-append-le, drop-append-le, get_or-append-add, drop-append-add, take-append_seam}
use borrow.Author.Tests.{le-ltb, ltb-false, le-leb}
use Rattle.command.specs.Command.{command_of}
use Rattle.crc.specs.Crc.{crc_of, crc_bytes_of}
use Rattle.crc.proofs.Laws.{crc_appended}
use Rattle.header.specs.Header.{splice_header, header_read, header_of}
use Rattle.header.proofs.Headers.{header_got}
use Rattle.table.specs.Bits.{bits_of, field, num, big_endian}
use Rattle.table.specs.Lent.{viewed}
use Rattle.table.specs.Table.{number, bit, parse}
use Rattle.table.specs.declared.View.{View}
use Rattle.table.proofs.Bits.{bits_append, length_bits}
use Rattle.table.proofs.Fields.{field_in, field_byte}
use Rattle.table.proofs.Lists.{zero_one}
use Rattle.table.proofs.Longer.{Blind}
use Rattle.section.specs.Section.{command_length, command_type, command_bytes, room_after, loop_length, loop_place, loop_bytes, frame_in, frame_of, moved_read, accepted, section_of, conditions, None}
use Rattle.section.specs.declared.Frame.{Frame}
use Rattle.section.specs.declared.Section.{Section}
use Rattle.section.proofs.Acceptance.{none_if_accepted}
use Rattle.section.proofs.Framing.{number_of, extent_is, command_read, is_accepted}
use Rattle.table.proofs.Swaps.{swap}
use Rattle.relabel_section.specs.Frame.{header_and_command, spare_of, rest_with, body_with, section_with}
use Rattle.std.proofs.Common.{Ok, Err, Some, Option, Result}
use Rattle.std.specs.declared.option.Option.TheVariants as option
use Rattle.command.specs.declared.SpliceCommand.{SpliceCommand}
use Rattle.command.specs.declared.CommandRefusal.{CommandRefusal}
use Rattle.header.specs.declared.header.SpliceInfoHeader.{SpliceInfoHeader}

-- ---- fields behind three bytes that may differ, of bytes that begin alike

run_same : (pre r : List ℕ) (at w : ℕ) → at + w ≤ length pre → take w (drop at (pre ++ r)) ≡ take w (drop at pre)
run_same pre r at w h = ap (take w) (drop-append-le at pre r (omega arith)) ∙ take-append-le w (drop at pre) r (omega (arith, length-drop at pre))

-- of three bytes, then `fore`, then anything
module _ (a b c : ℕ) (fore r : List ℕ) where
  abbrev all : List ℕ
  all = a ∷ (b ∷ (c ∷ (fore ++ r)))

  field_fore : (at w : ℕ) → at + w ≤ length fore * 8 → field (bits_of all) (24 + at) w ≡ field (bits_of fore) at w
  field_fore at w h =
      let three : List ℕ = a ∷ (b ∷ (c ∷ [])) in
      let n : length (bits_of three) ≡ 24 = length_bits three in
      let m : length (bits_of fore) ≡ length fore * 8 = length_bits fore in
      let z : 24 + at ≡ length (bits_of three) + at = omega arith in
      ap₂ (λ (bs : List ℕ) (k : ℕ). num 0 (take w (drop k bs))) (bits_append three (fore ++ r) ∙ ap (λ (bs : List ℕ). bits_of three ++ bs) (bits_append fore r)) z
      ∙ ap (λ (bs : List ℕ). num 0 (take w bs)) (drop-append-add (bits_of three) (bits_of fore ++ bits_of r) at)
      ∙ ap (num 0) (run_same (bits_of fore) (bits_of r) at w (omega arith))

  byte_fore : (k : ℕ) → k < length fore → get_or all (3 + k) 0 ≡ get_or fore k 0
  byte_fore k h =
      let three : List ℕ = a ∷ (b ∷ (c ∷ [])) in
      get_or-append-add three (fore ++ r) k 0 ∙ get_or-append fore r 0 k h

-- ---- a header is read from its first 11 bytes

blind_header : Blind splice_header
unfolding splice_header number bit
blind_header = λ version encrypted algorithm pts cw tier length type. tt

header_same : (fore r other : List ℕ) → 11 ≤ length fore → header_of (fore ++ r) ≡ header_of (fore ++ other)
unfolding header_of
header_same fore r other h =
    let n : length (bits_of fore) ≡ length fore * 8 = length_bits fore in
    let e = header_got (fore ++ r) (omega (arith, length-append fore r)) in
    let f = swap splice_header blind_header (bits_of fore) (bits_of r) (bits_of other) 0 _ 88 (ap (λ (bs : List ℕ). parse splice_header bs 0) (sym (bits_append fore r)) ∙ e) (omega arith) in
    ap header_read (e ∙ sym (ap (λ (bs : List ℕ). parse splice_header bs 0) (bits_append fore other) ∙ f))

-- ---- a section as three bytes, header and command, and the rest

three_bytes : (s : List ℕ) → 3 ≤ length s → s ≡ get_or s 0 0 ∷ (get_or s 1 0 ∷ (get_or s 2 0 ∷ drop 3 s))
three_bytes [] h = absurd (omega arith)
three_bytes (a ∷ []) h = absurd (omega arith)
three_bytes (a ∷ (b ∷ [])) h = absurd (omega arith)
three_bytes (a ∷ (b ∷ (c ∷ t))) h = refl

-- the same with another frame
accepted_with : (h : Option SpliceInfoHeader) (r : Result SpliceCommand CommandRefusal) (v w : Frame) (x : Section) → accepted h r v ≡ Ok x
    → accepted h r w ≡ Ok (record { header = x.header; command = x.command; descriptors = w.descriptors; payload = w.command })
unfolding accepted
accepted_with (Some h) (Ok c) v w x e =
    let z : ◌≡◌ {A = Section} (record { header = h; command = c; descriptors = v.descriptors; payload = v.command }) x = cc in
    ap (λ (y : Section). Ok (record { header = y.header; command = y.command; descriptors = w.descriptors; payload = w.command })) z
accepted_with (Some h) (Err CommandRefusal.UnknownType) v w x e = zero_one cc
accepted_with (Some h) (Err CommandRefusal.Malformed) v w x e = zero_one cc
accepted_with option.None r v w x e = zero_one cc

section_inj : (x y : Section) → ◌≡◌ {A = Result Section Refusal} (Ok x) (Ok y) → x ≡ y
section_inj x y e = cc

module _ (s loop : List ℕ) (x : Section) (is : section_of s ≡ Ok x) (fits : length (section_with s loop) ≤ 4096) where
  tests : None (conditions s)
  tests = none_if_accepted s x is

  c : ℕ
  c = command_length s

  -- what the tests say of the old section
  long : 18 ≤ length s
  long = ltb-false (length s) 18 tests.1.1.1.1.0

  room : 20 + command_length s + loop_length s ≤ length s
  unfolding room_after
  room =
      let a : command_length s ≤ length s - 18 = ltb-false (length s - 18) (command_length s) tests.1.1.1.1.1.1.0 in
      let b : loop_length s + 2 ≤ length s - 18 - command_length s = ltb-false (length s - 18 - command_length s) (loop_length s + 2) tests.1.1.1.1.1.1.1.1.0 in
      let d : 2 ≤ length s - 18 - command_length s = ltb-false (length s - 18 - command_length s) 2 tests.1.1.1.1.1.1.1.0 in
      omega arith

  fore : List ℕ
  fore = header_and_command s

  fore_size : length fore ≡ 11 + command_length s
  unfolding fore
  fore_size = length-take-le (11 + command_length s) (drop 3 s) (omega (arith, room, length-drop 3 s))

  old_rest : List ℕ
  old_rest = drop (11 + command_length s) (drop 3 s)

  old_is : s ≡ get_or s 0 0 ∷ (get_or s 1 0 ∷ (get_or s 2 0 ∷ (fore ++ old_rest)))
  unfolding fore old_rest
  old_is =
      three_bytes s (omega (arith, long))
      ∙ ap (λ (t : List ℕ). get_or s 0 0 ∷ (get_or s 1 0 ∷ (get_or s 2 0 ∷ t))) (sym (take-append-drop (11 + command_length s) (drop 3 s)))

  two : List ℕ
  two = big_endian 2 (length loop)

  tail : List ℕ
  tail = crc_bytes_of (body_with s loop)

  n : ℕ
  n = length (rest_with s loop) + 4

  new_rest : List ℕ
  new_rest = two ++ (loop ++ (spare_of s ++ tail))

  new : List ℕ
  new = section_with s loop

  new_is : new ≡ get_or s 0 0 ∷ ((get_or s 1 0 / 16 * 16 + n / 256) ∷ (n % 256 ∷ (fore ++ new_rest)))
  unfolding new section_with body_with fore new_rest two tail n
  new_is = simp append_assoc

  new_size : length new ≡ 20 + command_length s + (length loop + length (spare_of s))
  unfolding new_rest two tail
  new_size =
      omega (arith, ap length new_is, length-append fore new_rest, fore_size, length-append loop (spare_of s ++ tail), length-append (spare_of s) tail)

  -- ---- what is the same

  field_same : (at w : ℕ) → at + w ≤ 88 → field (bits_of new) (24 + at) w ≡ field (bits_of s) (24 + at) w
  field_same at w h =
      ap (λ (l : List ℕ). field (bits_of l) (24 + at) w) new_is
      ∙ field_fore (get_or s 0 0) (get_or s 1 0 / 16 * 16 + n / 256) (n % 256) fore new_rest at w (omega (arith, fore_size))
      ∙ sym (ap (λ (l : List ℕ). field (bits_of l) (24 + at) w) old_is ∙ field_fore (get_or s 0 0) (get_or s 1 0) (get_or s 2 0) fore old_rest at w (omega (arith, fore_size)))

  byte_same : (k : ℕ) → k < 11 + command_length s → get_or new (3 + k) 0 ≡ get_or s (3 + k) 0
  byte_same k h =
      ap (λ (l : List ℕ). get_or l (3 + k) 0) new_is
      ∙ byte_fore (get_or s 0 0) (get_or s 1 0 / 16 * 16 + n / 256) (n % 256) fore new_rest k (omega (arith, fore_size))
      ∙ sym (ap (λ (l : List ℕ). get_or l (3 + k) 0) old_is ∙ byte_fore (get_or s 0 0) (get_or s 1 0) (get_or s 2 0) fore old_rest k (omega (arith, fore_size)))

  command_length_same : command_length new ≡ command_length s
  unfolding command_length
  command_length_same = field_same 68 12 (omega arith)

  command_type_same : command_type new ≡ command_type s
  unfolding command_type
  command_type_same = byte_same 10 (omega arith)

  command_run : (r : List ℕ) → take (command_length s) (drop 11 (fore ++ r)) ≡ take (command_length s) (drop 11 fore)
  command_run r = run_same fore r 11 (command_length s) (omega (arith, fore_size))

  command_bytes_same : command_bytes new ≡ command_bytes s
  unfolding command_bytes
  command_bytes_same =
      ap (λ (k : ℕ). take k (drop 14 new)) command_length_same
      ∙ ap (λ (l : List ℕ). take (command_length s) (drop 14 l)) new_is ∙ command_run new_rest
      ∙ sym (ap (λ (l : List ℕ). take (command_length s) (drop 14 l)) old_is ∙ command_run old_rest)

  command_same : command_read new ≡ command_read s
  command_same = ap₂ command_of command_type_same command_bytes_same

  header_kept : header_of (drop 3 new) ≡ header_of (drop 3 s)
  header_kept =
      ap (λ (l : List ℕ). header_of (drop 3 l)) new_is ∙ header_same fore new_rest old_rest (omega (arith, fore_size))
      ∙ sym (ap (λ (l : List ℕ). header_of (drop 3 l)) old_is)

  -- ---- the loop

  byte_after : (k : ℕ) → get_or new (3 + (length fore + k)) 0 ≡ get_or new_rest k 0
  byte_after k =
      ap (λ (l : List ℕ). get_or l (3 + (length fore + k)) 0) new_is
      ∙ get_or-append-add (get_or s 0 0 ∷ ((get_or s 1 0 / 16 * 16 + n / 256) ∷ (n % 256 ∷ []))) (fore ++ new_rest) (length fore + k) 0
      ∙ get_or-append-add fore new_rest k 0

  high : get_or new (14 + command_length s) 0 ≡ length loop / 256 % 256
  unfolding new_rest two
  high =
      let e : 14 + command_length s ≡ 3 + (length fore + 0) = omega (arith, fore_size) in
      ap (λ (k : ℕ). get_or new k 0) e ∙ byte_after 0

  low : get_or new (14 + command_length s + 1) 0 ≡ length loop % 256
  unfolding new_rest two
  low =
      let e : 14 + command_length s + 1 ≡ 3 + (length fore + 1) = omega (arith, fore_size) in
      let z : length loop / 1 % 256 ≡ length loop % 256 = omega arith in
      ap (λ (k : ℕ). get_or new k 0) e ∙ byte_after 1 ∙ z

  new_fits : length new ≤ 4096
  unfolding new
  new_fits = fits

  short_loop : length loop ≤ 4096
  short_loop = omega (arith, new_size, new_fits)

  loop_length_lem : length loop ≡ loop_length new
  loop_length_lem =
      let l : length loop ≤ 4096 = short_loop in
      let v : length loop / 256 % 256 * 256 + length loop % 256 ≡ length loop = omega arith in
      extent_is new (command_length s) (length loop) (sym command_length_same)
      (sym v ∙ number_of new (14 + command_length s) (length loop / 256 % 256) (length loop % 256) (omega (arith, new_size)) (sym high) (omega arith) (sym low) (omega arith))

  place_is : loop_place new ≡ record { at = 16 + command_length s; len = length loop }
  unfolding loop_place
  place_is = ap₂ (λ (a l : ℕ). record { at = 16 + a; len = l }) command_length_same (sym loop_length_lem)

  loop_there : take (length loop) (drop (16 + command_length s) new) ≡ loop
  unfolding new_rest two
  loop_there =
      let e : 16 + command_length s ≡ 3 + (length fore + 2) = omega (arith, fore_size) in
      ap₂ (λ (k : ℕ) (l : List ℕ). take (length loop) (drop k l)) e new_is
      ∙ ap (take (length loop)) (drop-append-add (get_or s 0 0 ∷ ((get_or s 1 0 / 16 * 16 + n / 256) ∷ (n % 256 ∷ []))) (fore ++ new_rest) (length fore + 2) ∙ drop-append-add fore new_rest 2)
      ∙ take-append_seam loop (spare_of s ++ tail)

  loop_is_lem : loop_bytes new ≡ loop
  unfolding viewed
  loop_is_lem =
      let h : 16 + command_length s + length loop ≤ length new = omega (arith, new_size) in
      ap (viewed new) place_is ∙ rw (le-leb (16 + command_length s + length loop) (length new) h) loop_there

  -- ---- the frame

  first_same : get_or new 0 0 ≡ get_or s 0 0
  first_same = ap (λ (l : List ℕ). get_or l 0 0) new_is

  crc_right : crc_of new ≡ 0
  unfolding new section_with
  crc_right = crc_appended (body_with s loop)

  new_frame : frame_of new ≡ Ok (frame_in new)
  unfolding frame_of room_after
  new_frame =
      let l : length new ≤ 4096 = new_fits in
      let t1 : ltb (length new) 3 ≡ false = le-ltb (length new) 3 (omega (arith, new_size)) in
      let t2 : ltb 4096 (length new) ≡ false = le-ltb 4096 (length new) l in
      let t3 : not (eqb (get_or new 0 0) 0xfc) ≡ false = ap (λ (b : ℕ). not (eqb b 0xfc)) first_same ∙ tests.1.1.0 in
      let t4 : not (eqb (crc_of new) 0) ≡ false = ap (λ (b : ℕ). not (eqb b 0)) crc_right in
      let t5 : ltb (length new) 18 ≡ false = le-ltb (length new) 18 (omega (arith, new_size)) in
      let t6 : eqb (field (bits_of new) 32 1) 1 ≡ false = ap (λ (b : ℕ). eqb b 1) (field_same 8 1 (omega arith)) ∙ tests.1.1.1.1.1.0 in
      let t7 : ltb (length new - 18) (command_length new) ≡ false = le-ltb (length new - 18) (command_length new) (omega (arith, new_size, command_length_same)) in
      let t8 : ltb (length new - 18 - command_length new) 2 ≡ false = le-ltb (length new - 18 - command_length new) 2 (omega (arith, new_size, command_length_same)) in
      let t9 : ltb (length new - 18 - command_length new) (loop_length new + 2) ≡ false = le-ltb (length new - 18 - command_length new) (loop_length new + 2) (omega (arith, new_size, command_length_same, loop_length_lem)) in
      rw (t1, t2, t3, t4, t5, t6, t7, t8, t9)

  old_frame : frame_of s ≡ Ok (frame_in s)
  unfolding frame_of
  old_frame =
      rw (
        tests.0,
        tests.1.0,
        tests.1.1.0,
        tests.1.1.1.0,
        tests.1.1.1.1.0,
        tests.1.1.1.1.1.0,
        tests.1.1.1.1.1.1.0,
        tests.1.1.1.1.1.1.1.0,
        tests.1.1.1.1.1.1.1.1.0,
      )

  old_accepted : accepted (header_of (drop 3 s)) (moved_read (command_read s)) (frame_in s) ≡ Ok x
  old_accepted = is_accepted s (frame_in s) (accepted (header_of (drop 3 s)) (moved_read (command_read s)) (frame_in s)) (sym old_frame) refl ∙ is

  -- the command lies where it lay
  pub payload_is : x.payload ≡ (frame_in s).command
  payload_is =
      let e = accepted_with (header_of (drop 3 s)) (moved_read (command_read s)) (frame_in s) (frame_in s) x old_accepted in
      ap (λ (y : Section). y.payload) (section_inj x _ (sym old_accepted ∙ e))

  pub descriptors_are : x.descriptors ≡ loop_place s
  unfolding frame_in
  descriptors_are =
      let e = accepted_with (header_of (drop 3 s)) (moved_read (command_read s)) (frame_in s) (frame_in s) x old_accepted in
      ap (λ (y : Section). y.descriptors) (section_inj x _ (sym old_accepted ∙ e))

  frame_is : frame_in new ≡ record { command = x.payload; descriptors = record { at = 16 + command_length s; len = length loop } }
  unfolding frame_in
  frame_is =
      ap₂ (λ (n : ℕ) (v : View). record { command = record { at = 14; len = n }; descriptors = v }) command_length_same place_is
      ∙ ap (λ (v : View). record { command = v; descriptors = record { at = 16 + command_length s; len = length loop } }) (sym payload_is)

  new_section : section_of new
      ≡ Ok (record { header = x.header; command = x.command; descriptors = record { at = 16 + command_length s; len = length loop }; payload = x.payload })
  new_section =
      sym (is_accepted new (frame_in new) (accepted (header_of (drop 3 new)) (moved_read (command_read new)) (frame_in new)) (sym new_frame) refl)
      ∙ ap₂ (λ (h : Option SpliceInfoHeader) (r : Result SpliceCommand CommandRefusal). accepted h (moved_read r) (frame_in new)) header_kept command_same
      ∙ accepted_with (header_of (drop 3 s)) (moved_read (command_read s)) (frame_in s) (frame_in new) x old_accepted
      ∙ ap (λ (f : Frame). Ok (record { header = x.header; command = x.command; descriptors = f.descriptors; payload = f.command })) frame_is

  pub with_loop : (section_of (section_with s loop)
      ≡ Ok (record { header = x.header; command = x.command; descriptors = record { at = 16 + command_length s; len = length loop }; payload = x.payload }))
      × (loop_bytes (section_with s loop) ≡ loop)
  unfolding new
  with_loop = (new_section, loop_is_lem)

  pub size_with : length (section_with s loop) ≡ 20 + command_length s + (length loop + length (spare_of s))
  unfolding new
  size_with = new_size

  -- ---- what its head says

  pub command_with_lem : (command_length (section_with s loop) ≡ command_length s) × (command_type (section_with s loop) ≡ command_type s) × (command_bytes (section_with s loop) ≡ command_bytes s)
  unfolding new
  command_with_lem = (command_length_same, command_type_same, command_bytes_same)

  pub loop_length_with : loop_length (section_with s loop) ≡ length loop
  unfolding new
  loop_length_with = sym loop_length_lem

  counted : length new ≡ 3 + n
  unfolding n fore
  counted = omega (arith, new_size, length-append fore (big_endian 2 (length loop) ++ (loop ++ spare_of s)), length-append loop (spare_of s), fore_size)

  second_is : get_or new 1 0 ≡ get_or s 1 0 / 16 * 16 + n / 256
  second_is = ap (λ (l : List ℕ). get_or l 1 0) new_is

  third_is : get_or new 2 0 ≡ n % 256
  third_is = ap (λ (l : List ℕ). get_or l 2 0) new_is

  module _ (byte : get_or s 1 0 < 256) where
    short_n : n ≤ 4093
    short_n = omega (arith, counted, new_fits)

    second_byte : get_or new 1 0 < 256
    second_byte = let h : n ≤ 4093 = short_n in omega (arith, second_is)

    -- the four bits before section_length
    pub four_with : field (bits_of (section_with s loop)) 8 4 ≡ field (bits_of s) 8 4
    unfolding new
    four_with =
        let h : n ≤ 4093 = short_n in
        let z : get_or new 1 0 / 16 % 16 ≡ get_or s 1 0 / 16 % 16 = omega (arith, second_is) in
        field_in new 1 (omega (arith, new_size)) second_byte 0 4 4 refl ∙ z ∙ sym (field_in s 1 (omega (arith, long)) byte 0 4 4 refl)

    -- section_length
    pub length_with : field (bits_of (section_with s loop)) 12 12 ≡ length (section_with s loop) - 3
    unfolding new
    length_with =
        let h : n ≤ 4093 = short_n in
        let low : field (bits_of new) 12 4 ≡ get_or new 1 0 / 1 % 16 = field_in new 1 (omega (arith, new_size)) second_byte 4 4 0 refl in
        let third : get_or new 2 0 < 256 = omega (arith, third_is) in
        let z : get_or new 1 0 / 1 % 16 * 256 + get_or new 2 0 ≡ length new - 3 = omega (arith, second_is, third_is, counted) in
        field_byte new 2 (omega (arith, new_size)) third 12 4 refl ∙ ap (λ (m : ℕ). m * 256 + get_or new 2 0) low ∙ z

  -- both loops are short enough to be read
  pub new_loop_fits : length loop ≤ 4076
  new_loop_fits = omega (arith, new_size, new_fits)

  pub old_loop_fits : length (loop_bytes s) ≤ 4076
  unfolding viewed loop_place
  old_loop_fits =
      let l : length s ≤ 4096 = ltb-false 4096 (length s) tests.1.0 in
      let h : 16 + command_length s + loop_length s ≤ length s = omega (arith, room) in
      rw (le-leb (16 + command_length s + loop_length s) (length s) h) (omega (arith, length-take (loop_length s) (drop (16 + command_length s) s), room))
