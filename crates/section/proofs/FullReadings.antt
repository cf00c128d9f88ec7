-- The full reading of a section.
--     payload_is       what an accepted section says of its command's place
--     full_is, full_refused   the answer
use Prim.Native.Nat.{ℕ}
use mathlib.Core.List.{List, []}
use mathlib.Core.Path.{◌≡◌, refl, ap, sym, ◌∙◌}
use lib.ListN.{drop}
use Rattle.command.specs.Command.{array}
use Rattle.command.specs.declared.components.InsertComponent.{InsertComponent}
use Rattle.command.specs.Command.{command_of}
use Rattle.header.specs.Header.{header_of}
use Rattle.table.specs.Lent.{no_view, viewed}
use Rattle.table.specs.declared.View.{View}
use Rattle.table.proofs.Lists.{zero_one}
use Rattle.section.specs.Section.{command_length, command_type, command_bytes, frame_in, moved_read, accepted, frame_of, through, section_of}
use Rattle.section.specs.Full.{beside_command, full_section_of}
use Rattle.section.specs.declared.Frame.{Frame}
use Rattle.section.specs.declared.Refusal.{Refusal}
use Rattle.section.specs.declared.Section.{Section}
use Rattle.section.specs.declared.full.FullSection.{FullSection}
use Rattle.section.proofs.Framing.{framed, command_viewed}
use Rattle.std.proofs.Common.{Ok, Err, Some, None, Option, Result}
use Rattle.command.specs.declared.SpliceCommand.{SpliceCommand}
use Rattle.command.specs.declared.CommandRefusal.{CommandRefusal}
use Rattle.header.specs.declared.header.SpliceInfoHeader.{SpliceInfoHeader}

-- ---- where an accepted section has its command
abbrev place_of : Result Section Refusal → View
place_of (Ok x) = x.payload
place_of (Err q) = no_view

of_frame : (f : Result Frame Refusal) (h : Option SpliceInfoHeader) (r : Result SpliceCommand CommandRefusal) (x : Section) → through f h r ≡ Ok x → (g : Frame) × (f ≡ Ok g) × (x.payload ≡ g.command)
unfolding accepted
of_frame (Ok g) (Some h) (Ok c) x e = (g, refl, sym (ap place_of e))
of_frame (Ok g) (Some h) (Err CommandRefusal.UnknownType) x e = zero_one cc
of_frame (Ok g) (Some h) (Err CommandRefusal.Malformed) x e = zero_one cc
of_frame (Ok g) None r x e = zero_one cc
of_frame (Err q) h r x e = zero_one cc

-- the command's bytes, by the view that an accepted section has of them
pub payload_is : (s : List ℕ) (x : Section) → section_of s ≡ Ok x → (x.payload ≡ record { at = 14; len = command_length s }) × (viewed s x.payload ≡ command_bytes s)
unfolding section_of frame_in
payload_is s x e =
    let g = of_frame (frame_of s) (header_of (drop 3 s)) (moved_read (command_of (command_type s) (command_bytes s))) x e in
    (g.2 ∙ ap (λ (y : Frame). y.command) (framed s g.0 (sym g.1)).place, ap (viewed s) g.2 ∙ command_viewed s g.0 (sym g.1))

-- ---- the answer
module _ (s : List ℕ) (r : Result Section Refusal) (is : r ≡ section_of s) where
  pub full_refused : (q : Refusal) → r ≡ Err q → (cs : List InsertComponent) → cs ≡ array []
      → ◌≡◌ {A = FullSection} (record { read = r; components = cs }) (full_section_of s)
  unfolding full_section_of
  full_refused q e cs f = rw (← is, e, f)

  pub full_is : (x : Section) → r ≡ Ok x → (cs : List InsertComponent) → cs ≡ beside_command x.command (viewed s x.payload)
      → ◌≡◌ {A = FullSection} (record { read = r; components = cs }) (full_section_of s)
  unfolding full_section_of
  full_is x e cs f = rw (← is, e, f, (payload_is s x (sym is ∙ e)).1)
