-- What `is_canonical_section` answers, return by return.
use Prim.Native.Nat.{ℕ}
use mathlib.Core.Bool.{Bool, true, false, not}
use mathlib.Core.List.{List}
use mathlib.Core.Path.{◌≡◌, ap, sym, ◌∙◌}
use lib.ListN.{get_or}
use borrow.Author.Tests.{not-true, not-false}
use Rattle.canonical_form.specs.Command.{canonical_command}
use Rattle.canonical_form.specs.Descriptor.{canonical_loop}
use Rattle.section.specs.Section.{command_type, command_bytes, frame_of}
use Rattle.section.specs.declared.Frame.{Frame}
use Rattle.section.proofs.Framing.{command_viewed, loop_viewed}
use Rattle.table.specs.Lent.{viewed}
use Rattle.canonical_form.specs.Section.{canonical_frame, canonical_section}
use Rattle.std.proofs.Common.{Ok}

-- ---- the canonical form
pub unframed : (s : List ℕ) → false ≡ canonical_frame s → false ≡ canonical_section s
unfolding canonical_section
unframed s e = rw (← e)

module _ (s : List ℕ) (f : Bool) (ef : f ≡ canonical_frame s) where
  pub no_frame : not f ≡ true → false ≡ canonical_section s
  unfolding canonical_section
  no_frame h = rw (← ef, not-true f h)

  module _ (on : not f ≡ false) (p : Frame) (laid : Ok p ≡ frame_of s) (c : Bool) (ec : c ≡ canonical_command (get_or s 13 0) (viewed s p.command)) where
    is_framed : canonical_frame s ≡ true
    is_framed = sym ef ∙ not-false f on

    is_command : c ≡ canonical_command (command_type s) (command_bytes s)
    unfolding command_type
    is_command = ec ∙ ap (canonical_command (get_or s 13 0)) (command_viewed s p laid)

    pub no_command_lem : not c ≡ true → false ≡ canonical_section s
    unfolding canonical_section
    no_command_lem h = rw (is_framed, ← is_command, not-true c h)

    pub is_section : (l : Bool) → not c ≡ false → l ≡ canonical_loop (viewed s p.descriptors) → l ≡ canonical_section s
    unfolding canonical_section
    is_section l h el = rw (is_framed, ← is_command, not-false c h) (el ∙ ap canonical_loop (loop_viewed s p laid))
