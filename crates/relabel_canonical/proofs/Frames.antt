-- A canonical section with another loop: all around the loop is canonical again.
use Prim.Native.Nat.{ℕ, ◌+◌, ◌-◌, ◌≤◌, ◌<◌}
use mathlib.Core.Bool.{true}
use mathlib.Core.List.{List}
use mathlib.Core.Path.{◌≡◌, ap₂, ◌∙◌}
use native.Mathlib.Omega.{arith}
use borrow.Author.Tests.{eqb-true, eq-eqb}
use lib.Dec.{eqb}
use lib.ListN.{length, get_or, drop, length-take}
use Rattle.canonical_form.specs.Command.{canonical_command}
use Rattle.relabel_section.proofs.Frames.{with_loop, size_with, command_with_lem, loop_length_with, four_with, length_with}
use Rattle.relabel_section.specs.Frame.{spare_of, section_with}
use Rattle.section.specs.Section.{command_length, command_type, command_bytes, loop_length, section_of, number_of, section_length}
use Rattle.section.specs.declared.Section.{Section}
use Rattle.canonical_form.specs.Section.{canonical_frame}
use Rattle.table.proofs.Lists.{and_true}
use Rattle.table.specs.Bits.{bits_of, field}
use Rattle.std.proofs.Common.{Ok, Result}
use Rattle.section.specs.declared.Refusal.{Refusal}

number_none : (a : Result Section Refusal) (x : Section) → a ≡ Ok x → eqb (number_of a) 0 ≡ true
unfolding number_of
number_none a x e = rw e

module _ (s loop : List ℕ) (x : Section) (is : section_of s ≡ Ok x) (fits : length (section_with s loop) ≤ 4096) (byte : get_or s 1 0 < 256) where
  abbrev new : List ℕ
  new = section_with s loop

  pub frame_kept : canonical_frame s ≡ true → canonical_frame new ≡ true
  unfolding canonical_frame
  frame_kept e =
      let a = and_true (eqb (number_of (section_of s)) 0) _ e in
      let b = and_true (eqb (field (bits_of s) 8 4) 0b0011) _ a.1 in
      let c = and_true (eqb (field (bits_of s) 12 12) (length s - 3)) _ b.1 in
      let all : length s ≡ section_length (command_length s) (loop_length s) = eqb-true (length s) (section_length (command_length s) (loop_length s)) c.1 in
      let none : length (spare_of s) ≡ 0 =
      omega (arith, all, length-take (length s - 20 - command_length s - loop_length s) (drop (16 + command_length s + loop_length s) s)) in
      let size : length new ≡ section_length (command_length new) (loop_length new) =
      omega (arith, none, size_with s loop x is fits, (command_with_lem s loop x is fits).0, loop_length_with s loop x is fits) in
      rw (
        number_none (section_of new) _ (with_loop s loop x is fits).0,
        four_with s loop x is fits byte,
        b.0,
        eq-eqb (field (bits_of new) 12 12) (length new - 3) (length_with s loop x is fits byte),
        eq-eqb (length new) (section_length (command_length new) (loop_length new)) size,
      )

  pub command_kept : canonical_command (command_type s) (command_bytes s) ≡ true → canonical_command (command_type new) (command_bytes new) ≡ true
  command_kept e = let c = command_with_lem s loop x is fits in ap₂ canonical_command c.1 c.2 ∙ e
