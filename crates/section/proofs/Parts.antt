-- What an accepted section has, part by part.
use Prim.Native.Nat.{ℕ, ◌+◌, ◌-◌, ◌≤◌}
use mathlib.Core.List.{List}
use mathlib.Core.Path.{◌≡◌, refl, ap, sym, ◌∙◌}
use native.Mathlib.Omega.{arith}
use lib.ListN.{length, get_or, drop}
use borrow.Author.Tests.{ltb-false, eqb-true, eqb-false, not-false}
use Rattle.command.specs.Command as command
use Rattle.command.specs.declared.SpliceCommand.{SpliceCommand}
use Rattle.crc.specs.Crc.{crc_of}
use Rattle.header.specs.Header.{header_of}
use Rattle.section.specs.Section.{command_length, command_type, command_bytes, room_after, loop_length, loop_place, frame_in, moved, moved_read, accepted, section_of, section_length}
use Rattle.section.specs.declared.Frame.{Frame}
use Rattle.section.specs.declared.Section.{Section}
use Rattle.section.proofs.Acceptance.{none_if_accepted}
use Rattle.section.proofs.Framing.{is_framed, has_parts, is_accepted}
use Rattle.table.specs.Bits.{bits_of, field}
use Rattle.table.proofs.Lists.{zero_one}
use Rattle.table.proofs.Reading.{field_exact}
use Rattle.std.proofs.Common.{Ok, Err, Some, None, Option, Result}
use Rattle.command.specs.declared.CommandRefusal.{CommandRefusal}
use Rattle.header.specs.declared.header.SpliceInfoHeader.{SpliceInfoHeader}

pub record Parts (s : List ℕ) (x : Section) : Type 0 where
  pub long : 18 ≤ length s
  pub short : length s ≤ 4096
  pub fits : section_length (command_length s) (loop_length s) ≤ length s
  pub first : get_or s 0 0 ≡ 0xfc
  pub crc : crc_of s ≡ 0
  pub clear : field (bits_of s) 32 1 ≡ 1 → ⊥
  pub header : header_of (drop 3 s) ≡ Some x.header
  pub own : SpliceCommand
  pub command : command.command_of (command_type s) (command_bytes s) ≡ Ok own
  pub moves : x.command ≡ moved 14 own
  pub loop : x.descriptors ≡ loop_place s
  pub payload : x.payload ≡ record { at = 14; len = command_length s }

record Made (h : Option SpliceInfoHeader) (r : Result SpliceCommand CommandRefusal) (v : Frame) (x : Section) : Type 0 where
  pub header : h ≡ Some x.header
  pub own : SpliceCommand
  pub command : r ≡ Ok own
  pub moves : x.command ≡ moved 14 own
  pub loop : x.descriptors ≡ v.descriptors
  pub payload : x.payload ≡ v.command

made : (h : Option SpliceInfoHeader) (r : Result SpliceCommand CommandRefusal) (v : Frame) (x : Section) → accepted h (moved_read r) v ≡ Ok x → Made h r v x
unfolding accepted moved_read
made (Some h) (Ok c) v x e =
    let f : record { header = h; command = moved 14 c; descriptors = v.descriptors; payload = v.command } ≡ x = cc in
    record {
      header = ap (λ (y : Section). Some y.header) f;
      own = c;
      command = refl;
      moves = ap (λ (y : Section). y.command) (sym f);
      loop = ap (λ (y : Section). y.descriptors) (sym f);
      payload = ap (λ (y : Section). y.payload) (sym f);
    }
made (Some h) (Err CommandRefusal.UnknownType) v x e = zero_one cc
made (Some h) (Err CommandRefusal.Malformed) v x e = zero_one cc
made None r v x e = zero_one cc

pub parts_of_lem : (s : List ℕ) (x : Section) → section_of s ≡ Ok x → Parts s x
unfolding room_after frame_in
parts_of_lem s x e =
    let n = none_if_accepted s x e in
    let long : 3 ≤ length s = ltb-false (length s) 3 n.0 in
    let short : length s ≤ 4096 = ltb-false 4096 (length s) n.1.0 in
    let first : get_or s 0 0 ≡ 0xfc = eqb-true (get_or s 0 0) 0xfc (not-false _ n.1.1.0) in
    let crc : crc_of s ≡ 0 = eqb-true (crc_of s) 0 (not-false _ n.1.1.1.0) in
    let longer : 18 ≤ length s = ltb-false (length s) 18 n.1.1.1.1.0 in
    let clear : field (bits_of s) 32 1 ≡ 1 → ⊥ = eqb-false (field (bits_of s) 32 1) 1 n.1.1.1.1.1.0 in
    let size : command_length s ≤ length s - 18 = ltb-false (length s - 18) (command_length s) n.1.1.1.1.1.1.0 in
    let room : 2 ≤ length s - 18 - command_length s = ltb-false (length s - 18 - command_length s) 2 n.1.1.1.1.1.1.1.0 in
    let extent : loop_length s + 2 ≤ length s - 18 - command_length s = ltb-false (length s - 18 - command_length s) (loop_length s + 2) n.1.1.1.1.1.1.1.1.0 in
    let r = accepted (header_of (drop 3 s)) (moved_read (command.command_of (command_type s) (command_bytes s))) (frame_in s) in
    let f : r ≡ section_of s =
    is_accepted s (frame_in s) r
    (is_framed s long short first crc _ longer
    (has_parts s (field (bits_of s) 32 1) (sym (field_exact s 32 1 (omega arith))) clear (command_length s) refl size room (loop_length s) refl extent)) refl in
    let m = made (header_of (drop 3 s)) (command.command_of (command_type s) (command_bytes s)) (frame_in s) x (f ∙ e) in
    record {
      long = longer;
      short = short;
      fits = omega arith;
      first = first;
      crc = crc;
      clear = clear;
      header = m.header;
      own = m.own;
      command = m.command;
      moves = m.moves;
      loop = m.loop;
      payload = m.payload;
    }
