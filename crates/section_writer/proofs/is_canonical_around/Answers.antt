-- `section_writer::is_canonical_around`, return by return.
use Rattle.std.proofs.Common.{Err}
use Prim.Native.Nat.{ℕ}
use mathlib.Core.List.{List}
use mathlib.Core.Path.{◌≡◌, sym, ◌∙◌, ap}
use native.Mathlib.Omega.{arith}
use Rattle.command.specs.declared.SpliceCommand.{SpliceCommand}
use Rattle.header.specs.declared.header.SpliceInfoHeader.{SpliceInfoHeader}
use Rattle.section.specs.Section.{frame_of, section_of}
use Rattle.section.specs.declared.Frame.{Frame}
use Rattle.section.proofs.Framing as frame
use Rattle.section_writer.proofs.Forms.{read_as, is_read, is_unknown, is_malformed, loop_at, other_bits, other_length, spare_bytes, no_spare_byte}
use Rattle.section_writer.proofs.is_canonical_around.Goals as goal
use Rattle.std.proofs.Common.{Ok}

pub overflow_add-end : goal.overflow_add-end
overflow_add-end c =
    let bytes : List ℕ = c.args.section.now in
    let place : Frame = c.args.frame in
    let laid : Ok place ≡ frame_of bytes = c.requires in
    let frame_of_lem : frame.Framed bytes place = frame.framed bytes place laid in
    let f = frame_of_lem in omega (arith, f.size, f.short, f.fits)

pub bounds-section-13 : goal.bounds-section-13
bounds-section-13 c =
    let bytes : List ℕ = c.args.section.now in
    let place : Frame = c.args.frame in
    let laid : Ok place ≡ frame_of bytes = c.requires in
    let frame_of_lem : frame.Framed bytes place = frame.framed bytes place laid in
    let f = frame_of_lem in omega (arith, f.size, f.long, f.fits)

pub slice_bounds-read_command-count : goal.slice_bounds-read_command-count
slice_bounds-read_command-count c =
    let bytes : List ℕ = c.args.section.now in
    let place : Frame = c.args.frame in
    let laid : Ok place ≡ frame_of bytes = c.requires in
    let frame_of_lem : frame.Framed bytes place = frame.framed bytes place laid in
    let f = frame_of_lem in omega (arith, f.size, f.long, f.fits)

pub slice_bounds-read_command-start : goal.slice_bounds-read_command-start
slice_bounds-read_command-start c =
    let bytes : List ℕ = c.args.section.now in
    let place : Frame = c.args.frame in
    let laid : Ok place ≡ frame_of bytes = c.requires in
    let frame_of_lem : frame.Framed bytes place = frame.framed bytes place laid in
    let f = frame_of_lem in omega (arith, f.size, f.long, f.fits)

pub slice_bounds-read_command-end : goal.slice_bounds-read_command-end
slice_bounds-read_command-end c =
    let bytes : List ℕ = c.args.section.now in
    let place : Frame = c.args.frame in
    let laid : Ok place ≡ frame_of bytes = c.requires in
    let frame_of_lem : frame.Framed bytes place = frame.framed bytes place laid in
    let f = frame_of_lem in omega (arith, f.size, f.long, f.fits)

pub returns-in-Err-UnknownType : goal.returns-in-Err-UnknownType
returns-in-Err-UnknownType c =
    let bytes : List ℕ = c.args.section.now in
    let place : Frame = c.args.frame in
    let laid : Ok place ≡ frame_of bytes = c.requires in
    is_unknown bytes place laid (sym c.read_command.ensures ∙ (rw c.in-Err-UnknownType.field-0-is at c.in-Err-UnknownType.is))

pub returns-in-Err-Malformed : goal.returns-in-Err-Malformed
returns-in-Err-Malformed c =
    let bytes : List ℕ = c.args.section.now in
    let place : Frame = c.args.frame in
    let laid : Ok place ≡ frame_of bytes = c.requires in
    is_malformed bytes place laid (sym c.read_command.ensures ∙ (rw c.in-Err-Malformed.field-0-is at c.in-Err-Malformed.is))

pub returns-then-bits-ne3 : goal.returns-then-bits-ne3
returns-then-bits-ne3 c =
    let bytes : List ℕ = c.args.section.now in
    let place : Frame = c.args.frame in
    let laid : Ok place ≡ frame_of bytes = c.requires in
    let read : (x : SpliceInfoHeader) × (d : SpliceCommand) × (section_of bytes ≡ Ok (read_as x d place)) = is_read bytes place laid _ (sym c.read_command.ensures ∙ c.in-Ok.is) in
    let x = read in
    other_bits bytes (read_as x.0 x.1 place) x.2 _ c.bits.ensures c.if-bits-ne3.true

pub overflow_sub-section : goal.overflow_sub-section
overflow_sub-section c =
    let bytes : List ℕ = c.args.section.now in
    let place : Frame = c.args.frame in
    let laid : Ok place ≡ frame_of bytes = c.requires in
    let frame_of_lem : frame.Framed bytes place = frame.framed bytes place laid in
    omega (arith, frame_of_lem.long)

pub returns-then-bits-section : goal.returns-then-bits-section
returns-then-bits-section c =
    let bytes : List ℕ = c.args.section.now in
    let place : Frame = c.args.frame in
    let laid : Ok place ≡ frame_of bytes = c.requires in
    let read : (x : SpliceInfoHeader) × (d : SpliceCommand) × (section_of bytes ≡ Ok (read_as x d place)) = is_read bytes place laid _ (sym c.read_command.ensures ∙ c.in-Ok.is) in
    let x = read in
    other_length bytes (read_as x.0 x.1 place) x.2 _ c.bits.ensures c.if-bits-ne3.false _ c.bits-2.ensures c.if-bits-section.true

pub overflow_add-descriptors : goal.overflow_add-descriptors
overflow_add-descriptors c =
    let bytes : List ℕ = c.args.section.now in
    let place : Frame = c.args.frame in
    let laid : Ok place ≡ frame_of bytes = c.requires in
    let frame_of_lem : frame.Framed bytes place = frame.framed bytes place laid in
    let read : (x : SpliceInfoHeader) × (d : SpliceCommand) × (section_of bytes ≡ Ok (read_as x d place)) = is_read bytes place laid _ (sym c.read_command.ensures ∙ c.in-Ok.is) in
    let x = read in
    let f = frame_of_lem in
    let l = loop_at bytes (read_as x.0 x.1 place) x.2 in
    omega (arith, f.fits, f.short, l.0, l.1)

pub overflow_add-descriptors-2 : goal.overflow_add-descriptors-2
overflow_add-descriptors-2 c =
    let bytes : List ℕ = c.args.section.now in
    let place : Frame = c.args.frame in
    let laid : Ok place ≡ frame_of bytes = c.requires in
    let frame_of_lem : frame.Framed bytes place = frame.framed bytes place laid in
    let read : (x : SpliceInfoHeader) × (d : SpliceCommand) × (section_of bytes ≡ Ok (read_as x d place)) = is_read bytes place laid _ (sym c.read_command.ensures ∙ c.in-Ok.is) in
    let x = read in
    let f = frame_of_lem in
    let l = loop_at bytes (read_as x.0 x.1 place) x.2 in
    omega (arith, f.fits, f.short, l.0, l.1)

pub returns-then-section-descriptors : goal.returns-then-section-descriptors
returns-then-section-descriptors c =
    let bytes : List ℕ = c.args.section.now in
    let place : Frame = c.args.frame in
    let laid : Ok place ≡ frame_of bytes = c.requires in
    let read : (x : SpliceInfoHeader) × (d : SpliceCommand) × (section_of bytes ≡ Ok (read_as x d place)) = is_read bytes place laid _ (sym c.read_command.ensures ∙ c.in-Ok.is) in
    let x = read in
    spare_bytes bytes (read_as x.0 x.1 place) x.2 _ c.bits.ensures c.if-bits-ne3.false _ c.bits-2.ensures c.if-bits-section.false c.if-section-descriptors.true

pub returns : goal.returns
returns c =
    let bytes : List ℕ = c.args.section.now in
    let place : Frame = c.args.frame in
    let laid : Ok place ≡ frame_of bytes = c.requires in
    let read : (x : SpliceInfoHeader) × (d : SpliceCommand) × (section_of bytes ≡ Ok (read_as x d place)) = is_read bytes place laid _ (sym c.read_command.ensures ∙ c.in-Ok.is) in
    let x = read in
    no_spare_byte bytes (read_as x.0 x.1 place) x.2 _ c.bits.ensures c.if-bits-ne3.false _ c.bits-2.ensures c.if-bits-section.false c.if-section-descriptors.false
