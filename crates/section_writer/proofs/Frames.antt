-- A section that is written, by its positions: each part stands where the reader looks for it.
--     length_frame, frame_first, frame_crc
--     frame_header, frame_clear, frame_command_length, frame_command_type, frame_command_bytes
--     frame_loop_length, frame_loop_place, frame_loop
--     frame_accepted     so the section is accepted, and its reading is the header, the command and the loop
use Prim.Native.Nat.{ℕ, ◌+◌, ◌*◌, ◌/◌, ◌^◌, ◌<◌, ◌≤◌}
use mathlib.Core.Bool.{true, false}
use mathlib.Core.List.{List, [], ◌++◌, append_assoc}
use mathlib.Core.Path.{◌≡◌, refl, ap, sym, ◌∙◌}
use native.Mathlib.Omega.{arith}
use lib.Dec.{eqb}
use lib.ListN.{length, get_or, drop, length-append, length-drop, get_or-append}
use lib.Seq.{take_at, drop_at, get_or-drop}
use borrow.Author.Tests.{le-leb, eqb-false}
use Rattle.command.specs.Command as command
use Rattle.command.specs.declared.SpliceCommand.{SpliceCommand}
use Rattle.crc.specs.Crc.{crc_of, crc_bytes_of}
use Rattle.crc.proofs.Laws.{crc_appended}
use Rattle.header.specs.Header.{splice_header, header_of, header_read}
use Rattle.header.specs.declared.header.SpliceInfoHeader.{SpliceInfoHeader}
use Rattle.header.proofs.Headers.{header_got, header_write_read}
use Rattle.names.specs.Algorithm.{algorithm_of}
use Rattle.names.specs.Command.{command_number, command_type_of}
use Rattle.names.proofs.Commands.{command_laws}
use Rattle.section.specs.Section.{command_length, command_type, command_bytes, loop_length, loop_place, frame_in, loop_bytes, moved, section_of, section_length}
use Rattle.section.proofs.Framing.{is_framed, has_parts, is_accepted, is_section}
use Rattle.table.specs.Bits.{bits_of, field, big_endian, AllBytes}
use Rattle.table.specs.Lent.{viewed}
use Rattle.table.specs.Table.{got, parse}
use Rattle.table.specs.Writing.{walk, contents, print}
use Rattle.table.proofs.Bits.{all_bytes_n, byte_in}
use Rattle.table.proofs.Fields.{field_byte}
use Rattle.table.proofs.Reading.{field_exact}
use Rattle.table.proofs.Walks.{print_bits}
use Rattle.section_writer.specs.Frame.{headed, header_bytes, opening, head, with_length, body, frame, numbers_fit, writable_head}
use Rattle.section_writer.proofs.Heads.{fitting, clear, header_is_made, length_header, length_opening, length_head}
use Rattle.section_writer.proofs.Numbers.{number_at, field_behind}
use Rattle.std.proofs.Common.{Ok, Some}

header_bytes_lem : (x : SpliceInfoHeader) → AllBytes (header_bytes x)
unfolding header_bytes
header_bytes_lem x =
    let p = print (contents [] (walk splice_header x 0).fields) in
    all_bytes_n (length p / 8) p (print_bits (contents [] (walk splice_header x 0).fields))

pub length_with_length : (loop : List ℕ) → length (with_length loop) ≡ 2 + length loop
unfolding with_length
length_with_length loop = omega arith

module _ (h : SpliceInfoHeader) (command_type' : ℕ) (payload loop : List ℕ) where
  pub length_body : length (body h command_type' payload loop) ≡ 16 + length payload + length loop
  unfolding body
  length_body =
      let t = head h command_type' (length payload) (length loop) in
      length-append (t ++ payload) (with_length loop) ∙ omega (arith, length-append t payload, length_head h command_type' (length payload) (length loop), length_with_length loop)

  pub length_frame : length (frame h command_type' payload loop) ≡ section_length (length payload) (length loop)
  unfolding frame
  length_frame = length-append (body h command_type' payload loop) (crc_bytes_of (body h command_type' payload loop)) ∙ omega (arith, length_body)

  pub frame_crc : crc_of (frame h command_type' payload loop) ≡ 0
  unfolding frame
  frame_crc = crc_appended (body h command_type' payload loop)

  -- what stands behind the header, behind the command, and behind the loop
  abbrev pub crc : List ℕ
  crc = crc_bytes_of (body h command_type' payload loop)

  pub behind_three : frame h command_type' payload loop ≡ opening (section_length (length payload) (length loop)) ++ (header_bytes (headed h (length payload) command_type') ++ (payload ++ (with_length loop ++ crc)))
  unfolding frame body head
  behind_three = simp append_assoc

  pub behind_head : frame h command_type' payload loop ≡ head h command_type' (length payload) (length loop) ++ (payload ++ (with_length loop ++ crc))
  unfolding frame body
  behind_head = simp append_assoc

  behind_command : frame h command_type' payload loop ≡ head h command_type' (length payload) (length loop) ++ payload ++ (big_endian 2 (length loop) ++ (loop ++ crc))
  unfolding frame body with_length
  behind_command = simp append_assoc

  before_crc : frame h command_type' payload loop ≡ head h command_type' (length payload) (length loop) ++ payload ++ big_endian 2 (length loop) ++ (loop ++ crc)
  unfolding frame body with_length
  before_crc = simp append_assoc

  pub frame_first : get_or (frame h command_type' payload loop) 0 0 ≡ 0xfc
  unfolding opening
  frame_first = rw behind_three

  after_three : drop 3 (frame h command_type' payload loop) ≡ header_bytes (headed h (length payload) command_type') ++ (payload ++ (with_length loop ++ crc))
  after_three = ap (drop 3) behind_three ∙ drop_at (opening (section_length (length payload) (length loop))) _ 3 (length_opening (section_length (length payload) (length loop)))

  module _ (fits : numbers_fit h ≡ true) (writable : writable_head h ≡ true) (byte : command_type' < 2 ^ 8) (small : section_length (length payload) (length loop) ≤ 4096) where
    header_parsed : parse splice_header (bits_of (drop 3 (frame h command_type' payload loop))) 0 ≡ got (headed h (length payload) command_type') 88
    header_parsed =
        let x = headed h (length payload) command_type' in
        let m = header_is_made h (length payload) command_type' (fitting h fits) (clear h writable).1 (omega arith) byte in
        rw after_three (header_write_read [] x (header_bytes x) (payload ++ (with_length loop ++ crc)) m ∙ ap (λ (n : ℕ). got x (n * 8)) (length_header x))

    pub frame_header : header_of (drop 3 (frame h command_type' payload loop)) ≡ Some (headed h (length payload) command_type')
    unfolding header_of header_read
    frame_header = ap header_read header_parsed

    abbrev tail : List ℕ
    tail = drop 3 (frame h command_type' payload loop)

    room : 11 ≤ length tail
    room = omega (arith, length-drop 3 (frame h command_type' payload loop), length_frame)

    header_numbers_lem : record {
      protocol_version = field (bits_of tail) 0 8;
      encrypted_packet = eqb (field (bits_of tail) 8 1) 1;
      encryption_algorithm = algorithm_of (field (bits_of tail) 9 6);
      pts_adjustment = field (bits_of tail) 15 33;
      cw_index = field (bits_of tail) 48 8;
      tier = field (bits_of tail) 56 12;
      splice_command_length = field (bits_of tail) 68 12;
      splice_command_type = command_type_of (field (bits_of tail) 80 8);
    } ≡ headed h (length payload) command_type'
    header_numbers_lem =
        let e = sym (header_got tail room) ∙ header_parsed in
        cc

    pub frame_clear : field (bits_of (frame h command_type' payload loop)) 32 1 ≡ 1 → ⊥
    unfolding headed
    frame_clear e =
        let f : eqb (field (bits_of tail) 8 1) 1 ≡ false = ap (λ (x : SpliceInfoHeader). x.encrypted_packet) header_numbers_lem ∙ (clear h writable).0 in
        eqb-false _ _ f (sym (field_behind (frame h command_type' payload loop) 3 8 1) ∙ e)

    pub frame_command_length : command_length (frame h command_type' payload loop) ≡ length payload
    unfolding command_length headed
    frame_command_length = field_behind (frame h command_type' payload loop) 3 68 12 ∙ ap (λ (x : SpliceInfoHeader). x.splice_command_length) header_numbers_lem

    -- the header's last byte
    last_byte : get_or (frame h command_type' payload loop) 13 0 ≡ field (bits_of tail) 80 8
    last_byte =
        let x = headed h (length payload) command_type' in
        let g : get_or (frame h command_type' payload loop) 13 0 ≡ get_or tail 10 0 = sym (get_or-drop 3 (frame h command_type' payload loop) 10 0) in
        let k : get_or tail 10 0 ≡ get_or (header_bytes x) 10 0 = ap (λ (l : List ℕ). get_or l 10 0) after_three ∙ get_or-append (header_bytes x) _ 0 10 (omega (arith, length_header x)) in
        let b : get_or tail 10 0 < 256 = omega (arith, byte_in (header_bytes x) (header_bytes_lem x) 10) in
        omega (arith, field_byte tail 10 (omega (arith, room)) b 80 0 refl)

    pub frame_command_type : command_type (frame h command_type' payload loop) ≡ command_type'
    unfolding command_type headed
    frame_command_type =
        last_byte ∙ sym (command_laws.there (field (bits_of tail) 80 8)) ∙ ap (λ (x : SpliceInfoHeader). command_number x.splice_command_type) header_numbers_lem ∙ command_laws.there command_type'

    pub frame_command_bytes : command_bytes (frame h command_type' payload loop) ≡ payload
    unfolding command_bytes
    frame_command_bytes =
        let t = head h command_type' (length payload) (length loop) in
        let d : drop 14 (frame h command_type' payload loop) ≡ payload ++ (with_length loop ++ crc) = ap (drop 14) behind_head ∙ drop_at t _ 14 (length_head h command_type' (length payload) (length loop)) in
        rw (frame_command_length, d) (take_at payload (with_length loop ++ crc) (length payload) refl)

    front : length (head h command_type' (length payload) (length loop) ++ payload) ≡ 14 + length payload
    front = length-append (head h command_type' (length payload) (length loop)) payload ∙ omega (arith, length_head h command_type' (length payload) (length loop))

    pub frame_loop_length : loop_length (frame h command_type' payload loop) ≡ length loop
    unfolding loop_length
    frame_loop_length =
        rw frame_command_length
        (ap (λ (l : List ℕ). field (bits_of l) ((14 + length payload) * 8) 16) behind_command
        ∙ number_at (head h command_type' (length payload) (length loop) ++ payload) (loop ++ crc) (14 + length payload) 2 (length loop) front (omega arith))

    pub frame_loop_place : loop_place (frame h command_type' payload loop) ≡ record { at = 16 + length payload; len = length loop }
    unfolding loop_place
    frame_loop_place = rw (frame_command_length, frame_loop_length)

    frame_places : frame_in (frame h command_type' payload loop) ≡ record { command = record { at = 14; len = length payload }; descriptors = record { at = 16 + length payload; len = length loop } }
    unfolding frame_in
    frame_places = rw (frame_command_length, frame_loop_place)

    -- the loop's bytes are those that were lent
    pub frame_loop : loop_bytes (frame h command_type' payload loop) ≡ loop
    unfolding viewed
    frame_loop =
        let p = head h command_type' (length payload) (length loop) ++ payload ++ big_endian 2 (length loop) in
        let n : length p ≡ 16 + length payload = length-append (head h command_type' (length payload) (length loop) ++ payload) (big_endian 2 (length loop)) ∙ omega (arith, front) in
        let d : drop (16 + length payload) (frame h command_type' payload loop) ≡ loop ++ crc = ap (drop (16 + length payload)) before_crc ∙ drop_at p (loop ++ crc) _ n in
        rw (frame_loop_place, le-leb (16 + length payload + length loop) (length (frame h command_type' payload loop)) (omega (arith, length_frame)), d)
        (take_at loop crc (length loop) refl)

    -- a frame is accepted, and is read as what it was made of
    pub frame_accepted : (c : SpliceCommand) → command.command_of command_type' payload ≡ Ok c
        → section_of (frame h command_type' payload loop) ≡ Ok (record { header = headed h (length payload) command_type'; command = moved 14 c; descriptors = record { at = 16 + length payload; len = length loop }; payload = record { at = 14; len = length payload } })
    frame_accepted c e =
        let s = frame h command_type' payload loop in
        let n : length s ≡ section_length (length payload) (length loop) = length_frame in
        let k : command.command_of (command_type s) (command_bytes s) ≡ Ok c = rw (frame_command_type, frame_command_bytes) e in
        let r = Ok (record { header = headed h (length payload) command_type'; command = moved 14 c; descriptors = record { at = 16 + length payload; len = length loop }; payload = record { at = 14; len = length payload } }) in
        sym
        (is_accepted s (frame_in s) r
        (is_framed s (omega arith) (omega arith) frame_first frame_crc _ (omega arith)
        (has_parts s (field (bits_of s) 32 1) (sym (field_exact s 32 1 (omega arith))) frame_clear (length payload) (sym frame_command_length) (omega arith) (omega arith) (length loop) (sym frame_loop_length) (omega arith)))
        (is_section (header_of (drop 3 s)) (headed h (length payload) command_type') frame_header (command.command_of (command_type s) (command_bytes s)) (frame_in s) c (moved 14 c) _ k refl (sym frame_places)))
