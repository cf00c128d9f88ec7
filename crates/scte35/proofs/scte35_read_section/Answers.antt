-- `scte35::scte35_read_section`: what is built in each arm is the flat form of the section's reading.
use Rattle.std.proofs.Common.{Err}
use Prim.Native.Nat.{ℕ}
use mathlib.Core.List.{List}
use mathlib.Core.Path.{ap, sym, ◌∙◌}
use native.Mathlib.Omega.{arith}
use Rattle.c_section.specs.FlatSection.{flat_section_read}
use Rattle.c_section.proofs.FlatSections.{of_kind, flat_is}
use Rattle.section.specs.Section.{section_of}
use Rattle.section.proofs.Framing.{framed, is_refused}
use Rattle.scte35.proofs.scte35_read_section.Goals as goal

pub returns-in-Err : goal.returns-in-Err
returns-in-Err c =
    c.no_section.ensures
    ∙ ap flat_section_read (is_refused _ _ (sym c.in-Err.is ∙ c.read_frame.ensures))
    ∙ ap (λ (z : List ℕ). flat_section_read (section_of z)) c.rest-t.ensures

pub slice_bounds-read_flat_header-count : goal.slice_bounds-read_flat_header-count
slice_bounds-read_flat_header-count c =
    let f = framed _ _ (sym c.in-Ok.is ∙ c.read_frame.ensures) in
    omega (arith, f.long)

pub slice_bounds-read_flat_header-start : goal.slice_bounds-read_flat_header-start
slice_bounds-read_flat_header-start c =
    let f = framed _ _ (sym c.in-Ok.is ∙ c.read_frame.ensures) in
    omega (arith, f.long)

pub slice_bounds-read_flat_header-end : goal.slice_bounds-read_flat_header-end
slice_bounds-read_flat_header-end c =
    let f = framed _ _ (sym c.in-Ok.is ∙ c.read_frame.ensures) in
    omega (arith, f.long)

pub overflow_add-end : goal.overflow_add-end
overflow_add-end c =
    let f = framed _ _ (sym c.in-Ok.is ∙ c.read_frame.ensures) in
    omega (arith, f.size, f.short, f.fits)

pub bounds-t-13 : goal.bounds-t-13
bounds-t-13 c =
    let f = framed _ _ (sym c.in-Ok.is ∙ c.read_frame.ensures) in
    omega (arith, f.size, f.long, f.fits)

pub slice_bounds-read_command_part-count : goal.slice_bounds-read_command_part-count
slice_bounds-read_command_part-count c =
    let f = framed _ _ (sym c.in-Ok.is ∙ c.read_frame.ensures) in
    omega (arith, f.size, f.long, f.fits)

pub slice_bounds-read_command_part-start : goal.slice_bounds-read_command_part-start
slice_bounds-read_command_part-start c =
    let f = framed _ _ (sym c.in-Ok.is ∙ c.read_frame.ensures) in
    omega (arith, f.size, f.long, f.fits)

pub slice_bounds-read_command_part-end : goal.slice_bounds-read_command_part-end
slice_bounds-read_command_part-end c =
    let f = framed _ _ (sym c.in-Ok.is ∙ c.read_frame.ensures) in
    omega (arith, f.size, f.long, f.fits)

pub returns-in-SpliceNull : goal.returns-in-SpliceNull
returns-in-SpliceNull c =
    of_kind _ _ _ _ _ c.flat_parts.ensures c.in-SpliceNull.is
    ∙ flat_is _ _ (sym c.in-Ok.is ∙ c.read_frame.ensures) _ c.read_flat_header-header.ensures _ (sym c.in-Ok-read_command_part.is ∙ c.read_command_part.ensures)
    ∙ ap (λ (z : List ℕ). flat_section_read (section_of z)) c.rest-t.ensures

pub returns-in-SpliceInsert : goal.returns-in-SpliceInsert
returns-in-SpliceInsert c =
    of_kind _ _ _ _ _ c.flat_parts-in-SpliceInsert.ensures c.in-SpliceInsert.is
    ∙ flat_is _ _ (sym c.in-Ok.is ∙ c.read_frame.ensures) _ c.read_flat_header-header.ensures _ (sym c.in-Ok-read_command_part.is ∙ c.read_command_part.ensures)
    ∙ ap (λ (z : List ℕ). flat_section_read (section_of z)) c.rest-t.ensures

pub returns-in-TimeSignal : goal.returns-in-TimeSignal
returns-in-TimeSignal c =
    of_kind _ _ _ _ _ c.flat_parts-in-TimeSignal.ensures c.in-TimeSignal.is
    ∙ flat_is _ _ (sym c.in-Ok.is ∙ c.read_frame.ensures) _ c.read_flat_header-header.ensures _ (sym c.in-Ok-read_command_part.is ∙ c.read_command_part.ensures)
    ∙ ap (λ (z : List ℕ). flat_section_read (section_of z)) c.rest-t.ensures

pub returns-in-BandwidthReservation : goal.returns-in-BandwidthReservation
returns-in-BandwidthReservation c =
    of_kind _ _ _ _ _ c.flat_parts-in-BandwidthReservation.ensures c.in-BandwidthReservation.is
    ∙ flat_is _ _ (sym c.in-Ok.is ∙ c.read_frame.ensures) _ c.read_flat_header-header.ensures _ (sym c.in-Ok-read_command_part.is ∙ c.read_command_part.ensures)
    ∙ ap (λ (z : List ℕ). flat_section_read (section_of z)) c.rest-t.ensures

pub returns-in-PrivateCommand : goal.returns-in-PrivateCommand
returns-in-PrivateCommand c =
    of_kind _ _ _ _ _ c.flat_parts-in-PrivateCommand.ensures c.in-PrivateCommand.is
    ∙ flat_is _ _ (sym c.in-Ok.is ∙ c.read_frame.ensures) _ c.read_flat_header-header.ensures _ (sym c.in-Ok-read_command_part.is ∙ c.read_command_part.ensures)
    ∙ ap (λ (z : List ℕ). flat_section_read (section_of z)) c.rest-t.ensures

pub returns-in-Err-UnknownType : goal.returns-in-Err-UnknownType
returns-in-Err-UnknownType c =
    c.no_section-in-Err-UnknownType.ensures
    ∙ flat_is _ _ (sym c.in-Ok.is ∙ c.read_frame.ensures) _ c.read_flat_header-header.ensures _ (sym (rw c.in-Err-UnknownType.field-0-is at c.in-Err-UnknownType.is) ∙ c.read_command_part.ensures)
    ∙ ap (λ (z : List ℕ). flat_section_read (section_of z)) c.rest-t.ensures

pub returns-in-Err-Malformed : goal.returns-in-Err-Malformed
returns-in-Err-Malformed c =
    c.no_section-in-Err-Malformed.ensures
    ∙ flat_is _ _ (sym c.in-Ok.is ∙ c.read_frame.ensures) _ c.read_flat_header-header.ensures _ (sym (rw c.in-Err-Malformed.field-0-is at c.in-Err-Malformed.is) ∙ c.read_command_part.ensures)
    ∙ ap (λ (z : List ℕ). flat_section_read (section_of z)) c.rest-t.ensures
