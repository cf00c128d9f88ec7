-- What `is_canonical_frame` answers, return by return; and what its answer says of a section.
use Prim.Native.Nat.{ℕ, ◌+◌, ◌-◌, ◌^◌, ◌%◌}
use mathlib.Core.Bool.{true, false}
use mathlib.Core.List.{List}
use mathlib.Core.Path.{◌≡◌, refl, ap, sym, ◌∙◌}
use native.Mathlib.Omega.{arith}
use lib.Dec.{eqb}
use lib.ListN.{length, get_or, take, drop, length-drop}
use borrow.Author.Tests.{eqb-true, eq-eqb, ne_eqb}
use Rattle.command.specs.Command.{command_of}
use Rattle.command.specs.declared.SpliceCommand.{SpliceCommand}
use Rattle.header.specs.Header.{header_of}
use Rattle.header.specs.declared.header.SpliceInfoHeader.{SpliceInfoHeader}
use Rattle.header.proofs.Headers.{header_there}
use Rattle.section.proofs.Acceptance.{number_some}
use Rattle.section.proofs.Framing as frame
use Rattle.section.specs.Section.{command_length, loop_length, loop_place, moved, frame_of, section_of, number_of, section_length}
use Rattle.section.specs.declared.Frame.{Frame}
use Rattle.section.specs.declared.Refusal.{Refusal}
use Rattle.section.specs.declared.Section.{Section}
use Rattle.table.specs.Bits.{bits_of, field}
use Rattle.table.specs.declared.View.{View}
use Rattle.table.proofs.Lists.{and_true}
use Rattle.table.proofs.Reading.{bits_are}
use Rattle.canonical_form.specs.Section.{canonical_frame}
use Rattle.section.proofs.Parts.{parts_of_lem}
use Rattle.std.proofs.Common.{Ok, Err, Some, Result}
use Rattle.command.specs.declared.CommandRefusal.{CommandRefusal}

module _ (s : List ℕ) where
  pub not_accepted : (r : Refusal) → section_of s ≡ Err r → false ≡ canonical_frame s
  unfolding canonical_frame
  not_accepted r e = rw (e, ne_eqb (number_of (Err r)) 0 (number_some r))

  module _ (x : Section) (e : section_of s ≡ Ok x) where
    pub loop_at : (x.descriptors.at ≡ 16 + command_length s) × (x.descriptors.len ≡ loop_length s)
    unfolding loop_place
    loop_at = let l = (parts_of_lem s x e).loop in (ap (λ (v : View). v.at) l, ap (λ (v : View). v.len) l)

    module _ (v : ℕ) (ev : v ≡ field (bits_of s) 8 4 % 2 ^ 64) where
      pub other_bits : (v ≡ 3 → ⊥) → false ≡ canonical_frame s
      unfolding canonical_frame number_of
      other_bits h = rw (e, ne_eqb (field (bits_of s) 8 4) 3 (λ z. h ((bits_are s 8 4 v (omega arith) ev).0 ∙ z)))

      module _ (high : v ≡ 3) (w : ℕ) (ew : w ≡ field (bits_of s) 12 12 % 2 ^ 64) where
        is_high : eqb (field (bits_of s) 8 4) 3 ≡ true
        is_high = eq-eqb _ _ (sym (bits_are s 8 4 v (omega arith) ev).0 ∙ high)

        pub other_length : (w ≡ length s - 3 → ⊥) → false ≡ canonical_frame s
        unfolding canonical_frame number_of
        other_length h = rw (e, is_high, ne_eqb (field (bits_of s) 12 12) (length s - 3) (λ z. h ((bits_are s 12 12 w (omega arith) ew).0 ∙ z)))

        module _ (low : w ≡ length s - 3) where
          is_low : eqb (field (bits_of s) 12 12) (length s - 3) ≡ true
          is_low = eq-eqb _ _ (sym (bits_are s 12 12 w (omega arith) ew).0 ∙ low)

          pub spare_bytes : (length s ≡ x.descriptors.at + x.descriptors.len + 4 → ⊥) → false ≡ canonical_frame s
          unfolding canonical_frame number_of
          spare_bytes h =
              let z : length s ≡ section_length (command_length s) (loop_length s) → ⊥ = λ q. h (omega (arith, q, loop_at.0, loop_at.1)) in
              rw (e, is_high, is_low, ne_eqb (length s) (section_length (command_length s) (loop_length s)) z)

          pub no_spare_byte : length s ≡ x.descriptors.at + x.descriptors.len + 4 → true ≡ canonical_frame s
          unfolding canonical_frame number_of
          no_spare_byte q =
              let z : length s ≡ section_length (command_length s) (loop_length s) = omega (arith, q, loop_at.0, loop_at.1) in
              rw (e, is_high, is_low, eq-eqb (length s) (section_length (command_length s) (loop_length s)) z)

-- ---- the frame and the command make the section
abbrev pub read_as : SpliceInfoHeader → SpliceCommand → Frame → Section
read_as h c p = record { header = h; command = moved 14 c; descriptors = p.descriptors; payload = p.command }

module _ (s : List ℕ) (p : Frame) (laid : Ok p ≡ frame_of s) where
  there : (x : SpliceInfoHeader) × (header_of (drop 3 s) ≡ Some x)
  there = header_there (drop 3 s) (omega (arith, length-drop 3 s, (frame.framed s p laid).long))

  here : (r : Result SpliceCommand CommandRefusal) → command_of (get_or s 13 0) (take (14 + p.command.len - 14) (drop 14 s)) ≡ r → frame.command_read s ≡ r
  here r e = sym (frame.command_at s p (frame.framed s p laid).place) ∙ e

  pub is_read : (c : SpliceCommand) → command_of (get_or s 13 0) (take (14 + p.command.len - 14) (drop 14 s)) ≡ Ok c → (x : SpliceInfoHeader) × (d : SpliceCommand) × (section_of s ≡ Ok (read_as x d p))
  is_read c e =
      (there.0, c, sym (frame.is_accepted s p _ laid (frame.is_section _ there.0 there.1 _ p c (moved 14 c) p (here (Ok c) e) refl refl)))

  pub is_unknown : command_of (get_or s 13 0) (take (14 + p.command.len - 14) (drop 14 s)) ≡ Err CommandRefusal.UnknownType → false ≡ canonical_frame s
  is_unknown e = not_accepted s Refusal.UnknownCommand (sym (frame.is_accepted s p _ laid (frame.is_unknown _ there.0 there.1 _ _ (here (Err CommandRefusal.UnknownType) e))))

  pub is_malformed : command_of (get_or s 13 0) (take (14 + p.command.len - 14) (drop 14 s)) ≡ Err CommandRefusal.Malformed → false ≡ canonical_frame s
  is_malformed e = not_accepted s Refusal.MalformedCommand (sym (frame.is_accepted s p _ laid (frame.is_malformed _ there.0 there.1 _ _ (here (Err CommandRefusal.Malformed) e))))

-- ---- what the canonical form of a frame says
pub record Framed (s : List ℕ) : Type 0 where
  pub high : field (bits_of s) 8 4 ≡ 0b0011
  pub low : field (bits_of s) 12 12 ≡ length s - 3
  pub exact : length s ≡ section_length (command_length s) (loop_length s)

pub framed : (s : List ℕ) → canonical_frame s ≡ true → Framed s
unfolding canonical_frame
framed s e =
    let a = and_true (eqb (number_of (section_of s)) 0) _ e in
    let b = and_true (eqb (field (bits_of s) 8 4) 0b0011) _ a.1 in
    let c = and_true (eqb (field (bits_of s) 12 12) (length s - 3)) _ b.1 in
    record { high = eqb-true _ _ b.0; low = eqb-true _ _ c.0; exact = eqb-true _ _ c.1 }
