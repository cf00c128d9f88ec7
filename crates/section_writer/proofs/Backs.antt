-- A section without a spare byte, whose first three bytes are right, is the frame of its own parts.
--     opening_is       the first three bytes as a number
--     frame_again      the section is what is made of its header, command and loop
use Prim.Native.Nat.{ℕ, ◌+◌, ◌-◌, ◌^◌, ◌<◌, ◌≤◌}
use mathlib.Core.List.{List, [], ◌∷◌, ◌++◌}
use mathlib.Core.Path.{◌≡◌, refl, ap, ap₂, sym, ◌∙◌}
use native.Mathlib.Omega.{arith}
use lib.Dec.{eqb}
use lib.ListN.{length, get_or, take, drop, length-drop}
use lib.Seq.{take-add, drop-drop, length-take-le, get_or-drop, drop-cons}
use Rattle.crc.specs.Crc.{crc_of, crc_bytes_of}
use Rattle.crc.proofs.Laws.{crc_last}
use Rattle.header.specs.Header.{splice_header, header_of, header_read}
use Rattle.header.specs.declared.header.SpliceInfoHeader.{SpliceInfoHeader}
use Rattle.header.proofs.Headers.{writable_header, header_got, header_read_write}
use Rattle.names.specs.Algorithm.{algorithm_of}
use Rattle.names.specs.Command.{command_type_of}
use Rattle.section.specs.Section.{command_length, command_type, command_bytes, loop_length, section_length}
use Rattle.table.specs.Bits.{bits_of, field, bytes_n, bytes_of, big_endian, AllBytes}
use Rattle.table.specs.Table.{number, bit}
use Rattle.table.specs.Writing.{walk, contents, print}
use Rattle.table.proofs.Bits.{bits_join, bytes_num, length_bits, byte_in}
use Rattle.table.proofs.Fields.{field_add, field_byte}
use Rattle.table.proofs.Structure.{wrote, bytes_take, bytes_drop}
use Rattle.section_writer.specs.Frame.{headed, header_bytes, opening, head, with_length, body, frame}
use Rattle.section_writer.proofs.Numbers.{number_bytes, field_behind, field_front}
use Rattle.std.proofs.Common.{Some}

-- ---- the first three bytes
pub opening_is : (n : ℕ) → n - 3 < 2 ^ 12 → opening n ≡ 0xfc ∷ big_endian 2 (0x3000 + (n - 3))
unfolding opening
opening_is n h = ap (λ (l : List ℕ). 0xfc ∷ bytes_n 2 l) (bits_join 4 12 3 (n - 3) h) ∙ ap (λ (l : List ℕ). 0xfc ∷ l) (bytes_num 2 (0x3000 + (n - 3)))

module _ (s : List ℕ) (a : AllBytes s) (long : 18 ≤ length s) where
  opening_again : get_or s 0 0 ≡ 0xfc → field (bits_of s) 8 4 ≡ 3 → field (bits_of s) 12 12 ≡ length s - 3 → length s ≤ 4096 → take 3 s ≡ opening (length s)
  opening_again first high low short =
      let f : field (bits_of s) 8 16 ≡ 0x3000 + (length s - 3) = field_add (bits_of s) 8 4 12 (omega (arith, length_bits s)) ∙ omega arith in
      let g : take 2 (drop 1 s) ≡ big_endian 2 (0x3000 + (length s - 3)) = sym (number_bytes s 1 2 a (omega arith)) ∙ ap (big_endian 2) f in
      let d : s ≡ get_or s 0 0 ∷ drop 1 s = drop-cons s 0 0 (omega arith) in
      let e : take 3 s ≡ get_or s 0 0 ∷ take 2 (drop 1 s) = ap (take 3) d in
      e ∙ ap₂ (λ (b : ℕ) (l : List ℕ). b ∷ l) first g ∙ sym (opening_is (length s) (omega arith))

-- ---- the header
header_front : (t : List ℕ) → 11 ≤ length t → header_of (take 11 t) ≡ header_of t
unfolding header_of header_read
header_front t h =
    rw (
      header_got t h,
      header_got (take 11 t) (omega (arith, length-take-le 11 t h)),
      field_front t 11 0 8 h (omega arith),
      field_front t 11 8 1 h (omega arith),
      field_front t 11 9 6 h (omega arith),
      field_front t 11 15 33 h (omega arith),
      field_front t 11 48 8 h (omega arith),
      field_front t 11 56 12 h (omega arith),
      field_front t 11 68 12 h (omega arith),
      field_front t 11 80 8 h (omega arith),
    )

no_views : (t : List ℕ) (x : SpliceInfoHeader) → contents t (walk splice_header x 0).fields ≡ contents [] (walk splice_header x 0).fields
unfolding splice_header number bit
no_views t x = refl

-- eleven bytes are those of the header that they are read as
header_again : (t : List ℕ) (x : SpliceInfoHeader) → AllBytes t → length t ≡ 11 → header_of t ≡ Some x → t ≡ header_bytes x
unfolding header_bytes
header_again t x a n e = (wrote (writable_header x) t (walk splice_header x 0).fields t (header_read_write t x a n e)).bytes ∙ ap (λ l. bytes_of (print l)) (no_views t x)

module _ (s : List ℕ) (a : AllBytes s) (long : 18 ≤ length s) (x : SpliceInfoHeader) (is : header_of (drop 3 s) ≡ Some x) where
  abbrev tail : List ℕ
  tail = drop 3 s

  room : 11 ≤ length tail
  room = omega (arith, length-drop 3 s)

  abbrev pub own : SpliceInfoHeader
  own = record {
    protocol_version = field (bits_of tail) 0 8;
    encrypted_packet = eqb (field (bits_of tail) 8 1) 1;
    encryption_algorithm = algorithm_of (field (bits_of tail) 9 6);
    pts_adjustment = field (bits_of tail) 15 33;
    cw_index = field (bits_of tail) 48 8;
    tier = field (bits_of tail) 56 12;
    splice_command_length = field (bits_of tail) 68 12;
    splice_command_type = command_type_of (field (bits_of tail) 80 8);
  }

  pub own_is : own ≡ x
  unfolding header_of header_read
  own_is =
      let e : Some own ≡ Some x = sym (ap header_read (header_got tail room)) ∙ is in
      cc

  type_is : command_type s ≡ field (bits_of tail) 80 8
  unfolding command_type
  type_is = omega (arith, get_or-drop 3 s 10 0, field_byte tail 10 (omega (arith, room)) (byte_in tail (bytes_drop 3 s a) 10) 80 0 refl)

  size_is : command_length s ≡ field (bits_of tail) 68 12
  unfolding command_length
  size_is = field_behind s 3 68 12

  -- its length and type are those of the command
  pub headed_own : headed x (command_length s) (command_type s) ≡ x
  unfolding headed
  headed_own =
      let g : headed own (command_length s) (command_type s) ≡ own = rw (size_is, type_is) in
      ap (λ (y : SpliceInfoHeader). headed y (command_length s) (command_type s)) (sym own_is) ∙ g ∙ own_is

-- ---- the whole
parts : (s : List ℕ) (n m : ℕ) → take (16 + n + m) s ≡ take 3 s ++ take 11 (drop 3 s) ++ take n (drop 14 s) ++ (take 2 (drop (14 + n) s) ++ take m (drop (16 + n) s))
parts s n m =
    let z : 16 + n + m ≡ 14 + n + (2 + m) = omega arith in
    let y : 14 + n + 2 ≡ 16 + n = omega arith in
    rw (z, take-add (14 + n) (2 + m) s, take-add 14 n s, take-add 3 11 s, take-add 2 m (drop (14 + n) s), drop-drop 2 (14 + n) s, y)

module _ (s : List ℕ) (a : AllBytes s) (long : 18 ≤ length s) (short : length s ≤ 4096) (exact : length s ≡ section_length (command_length s) (loop_length s)) where
  abbrev loop : List ℕ
  loop = take (loop_length s) (drop (16 + command_length s) s)

  command_size : length (command_bytes s) ≡ command_length s
  unfolding command_bytes
  command_size = length-take-le (command_length s) (drop 14 s) (omega (arith, length-drop 14 s))

  command_taken : take (command_length s) (drop 14 s) ≡ command_bytes s
  unfolding command_bytes
  command_taken = refl

  loop_size : length loop ≡ loop_length s
  loop_size = length-take-le (loop_length s) (drop (16 + command_length s) s) (omega (arith, length-drop (16 + command_length s) s))

  extent_again : take 2 (drop (14 + command_length s) s) ≡ big_endian 2 (loop_length s)
  unfolding loop_length
  extent_again = sym (number_bytes s (14 + command_length s) 2 a (omega arith))

  pub frame_again : (x : SpliceInfoHeader) → get_or s 0 0 ≡ 0xfc → crc_of s ≡ 0 → field (bits_of s) 8 4 ≡ 3 → field (bits_of s) 12 12 ≡ length s - 3
      → header_of (drop 3 s) ≡ Some x → s ≡ frame x (command_type s) (command_bytes s) loop
  unfolding frame body head with_length
  frame_again x first crc high low is =
      let n = command_length s in
      let m = loop_length s in
      let t = take 11 (drop 3 s) in
      let u : length t ≡ 11 = length-take-le 11 (drop 3 s) (omega (arith, length-drop 3 s)) in
      let h : t ≡ header_bytes (headed x n (command_type s)) =
      header_again t x (bytes_take 11 (drop 3 s) (bytes_drop 3 s a)) u (header_front (drop 3 s) (omega (arith, length-drop 3 s)) ∙ is)
      ∙ ap header_bytes (sym (headed_own s a long x is)) in
      let o : take 3 s ≡ opening (section_length n m) = opening_again s a long first high low short ∙ ap opening exact in
      let b : take (16 + n + m) s ≡ body x (command_type s) (command_bytes s) loop = parts s n m ∙ rw (o, h, command_taken, extent_again, command_size, loop_size) in
      crc_last s (16 + n + m) (omega arith) (byte_in s a) crc ∙ ap (λ (l : List ℕ). l ++ crc_bytes_of l) b
