-- What is built of a section's parts is the flat form of its reading.
use Prim.Native.Nat.{ℕ, ◌+◌, ◌-◌}
use mathlib.Core.List.{List}
use mathlib.Core.Path.{◌≡◌, refl, ap, sym, ◌∙◌}
use native.Mathlib.Omega.{arith}
use lib.ListN.{length, get_or, take, drop, length-drop}
use Rattle.command.specs.Command.{command_of}
use Rattle.command.specs.declared.SpliceCommand.{SpliceCommand}
use Rattle.header.specs.Header.{header_of}
use Rattle.header.specs.declared.header.SpliceInfoHeader.{SpliceInfoHeader}
use Rattle.header.proofs.Headers.{header_there}
use Rattle.section.specs.Section.{moved_read, accepted, frame_of, section_of}
use Rattle.section.specs.declared.Frame.{Frame}
use Rattle.section.specs.declared.Refusal.{Refusal}
use Rattle.section.proofs.Framing.{framed, is_accepted, section_is, command_read, command_at, header_at}
use Rattle.c_section.specs.Flat.{flat_header, flat_header_read}
use Rattle.c_section.specs.FlatSection.{flat_parts, flat_section_read}
use Rattle.c_section.specs.declared.headers.FlatHeader.{FlatHeader}
use Rattle.c_section.specs.declared.sections.FlatSection.{FlatSection}
use Rattle.std.proofs.Common.{Ok, Err, Some, Option, Result}
use Rattle.command.specs.declared.CommandRefusal.{CommandRefusal}

pub of_kind : (h : FlatHeader) (x y : SpliceCommand) (f : Frame) (r : FlatSection) → r ≡ flat_parts h x f → y ≡ x → r ≡ flat_parts h y f
of_kind h x y f r e k = rw k e

-- what is told of a command as the section has it
abbrev told : FlatHeader → Result SpliceCommand CommandRefusal → Frame → FlatSection
told h (Ok c) p = flat_parts h c p
told h (Err CommandRefusal.UnknownType) p = flat_section_read (Err Refusal.UnknownCommand)
told h (Err CommandRefusal.Malformed) p = flat_section_read (Err Refusal.MalformedCommand)

told_is : (h : FlatHeader) (x : SpliceInfoHeader) (y : Result SpliceCommand CommandRefusal) (p : Frame) → h ≡ flat_header x → told h y p ≡ flat_section_read (accepted (Some x) y p)
unfolding flat_section_read accepted
told_is h x (Ok c) p e = rw e
told_is h x (Err CommandRefusal.UnknownType) p e = refl
told_is h x (Err CommandRefusal.Malformed) p e = refl

flat_of : (h : FlatHeader) (r : Option SpliceInfoHeader) (x : SpliceInfoHeader) → h ≡ flat_header_read r → r ≡ Some x → h ≡ flat_header x
unfolding flat_header_read
flat_of h r x e f = e ∙ ap flat_header_read f

module _ (s : List ℕ) (p : Frame) (laid : Ok p ≡ frame_of s) (h : FlatHeader) (eh : h ≡ flat_header_read (header_of (take (length s - 3) (drop 3 s)))) where
  flat_with_lem : (y : Result SpliceCommand CommandRefusal) → y ≡ moved_read (command_read s) → told h y p ≡ flat_section_read (section_of s)
  flat_with_lem y e =
      let f = framed s p laid in
      let there = header_there (drop 3 s) (omega (arith, length-drop 3 s, f.long)) in
      told_is h there.0 y p (flat_of h (header_of (drop 3 s)) there.0 (eh ∙ ap flat_header_read (header_at s)) there.1)
      ∙ ap flat_section_read
      (is_accepted s p (accepted (Some there.0) y p) laid (section_is s p there.0 y there.1 e f.place ∙ ap (accepted (header_of (drop 3 s)) (moved_read (command_read s))) (sym f.place)))

  pub flat_is : (y : Result SpliceCommand CommandRefusal) → y ≡ moved_read (command_of (get_or s 13 0) (take (14 + p.command.len - 14) (drop 14 s))) → told h y p ≡ flat_section_read (section_of s)
  flat_is y e = flat_with_lem y (e ∙ ap moved_read (command_at s p (framed s p laid).place))
