-- `section_writer::is_canonical_section`, return by return.
use Prim.Native.Nat.{ℕ}
use mathlib.Core.List.{List}
use mathlib.Core.Path.{◌≡◌, ap, sym, ◌∙◌}
use lib.ListN.{get_or}
use native.Mathlib.Omega.{arith}
use Rattle.canonical_form.specs.Command.{canonical_command}
use Rattle.canonical_form.specs.Descriptor.{canonical_loop}
use Rattle.section.specs.Section.{frame_of}
use Rattle.section.proofs.Framing.{framed, is_refused}
use Rattle.section_writer.proofs.Forms.{not_accepted}
use Rattle.section_writer.proofs.Sections.{unframed, no_frame, no_command_lem, is_section}
use Rattle.section_writer.proofs.is_canonical_section.Goals as goal
use Rattle.std.proofs.Common.{Ok}

pub returns-in-Err : goal.returns-in-Err
returns-in-Err c =
    let s = c.args.section.now in
    unframed s (not_accepted s _ (sym (is_refused s _ (sym c.in-Err.is ∙ c.read_frame.ensures))))

pub is_canonical_around-requires : goal.is_canonical_around-requires
is_canonical_around-requires c =
    let bytes : List ℕ = c.args.section.now in
    let laid : Ok c.in-Ok.f ≡ frame_of bytes = sym c.in-Ok.is ∙ c.read_frame.ensures in
    laid

pub returns-then-not-is_canonical_around : goal.returns-then-not-is_canonical_around
returns-then-not-is_canonical_around c = no_frame _ _ c.is_canonical_around.ensures c.if-not-is_canonical_around.true-raw

pub bounds-section-13 : goal.bounds-section-13
bounds-section-13 c =
    let bytes : List ℕ = c.args.section.now in
    let laid : Ok c.in-Ok.f ≡ frame_of bytes = sym c.in-Ok.is ∙ c.read_frame.ensures in
    omega (arith, (framed bytes _ laid).long)

pub returns-then-not-is_canonical_command : goal.returns-then-not-is_canonical_command
returns-then-not-is_canonical_command c =
    let bytes : List ℕ = c.args.section.now in
    let laid : Ok c.in-Ok.f ≡ frame_of bytes = sym c.in-Ok.is ∙ c.read_frame.ensures in
    no_command_lem bytes _ c.is_canonical_around.ensures c.if-not-is_canonical_around.false-raw _ laid _ (c.is_canonical_command.ensures ∙ ap (canonical_command (get_or bytes 13 0)) c.view.ensures) c.if-not-is_canonical_command.true-raw

pub returns : goal.returns
returns c =
    let bytes : List ℕ = c.args.section.now in
    let laid : Ok c.in-Ok.f ≡ frame_of bytes = sym c.in-Ok.is ∙ c.read_frame.ensures in
    is_section bytes _ c.is_canonical_around.ensures c.if-not-is_canonical_around.false-raw _ laid _ (c.is_canonical_command.ensures ∙ ap (canonical_command (get_or bytes 13 0)) c.view.ensures) _ c.if-not-is_canonical_command.false-raw
    (c.is_canonical_loop.ensures ∙ ap canonical_loop c.view-2.ensures)
