-- `descriptor_writer::segmentation::write_tested_segmentation`, answer by answer.
use mathlib.Core.Path.{refl, sym}
use native.Mathlib.Omega.{arith}
use Rattle.descriptor_writer.proofs.Segmenting.{segment_long, segment_short, segment_writes}
use Rattle.descriptor_writer.proofs.segmentation.write_tested_segmentation.Goals as goal

pub returns-then-size-gt-MAX_PAYLOAD : goal.returns-then-size-gt-MAX_PAYLOAD
returns-then-size-gt-MAX_PAYLOAD c =
    let a = c.args in
    record { writable = λ id cs many z e. segment_long a.x id (record { components = cs; eidr = a.eidr }) a.lent.now a.target.now 0 (sym z) refl (omega (arith, c.size_of-size.ensures.1)) _ c.size_of-size.ensures.0 c.if-size-gt-MAX_PAYLOAD.true }

pub returns-then-target-size : goal.returns-then-target-size
returns-then-target-size c =
    let a = c.args in
    record { writable = λ id cs many z e. segment_short a.x id (record { components = cs; eidr = a.eidr }) a.lent.now a.target.now 0 (sym z) refl (omega (arith, c.size_of-size.ensures.1)) _ c.size_of-size.ensures.0 c.if-size-gt-MAX_PAYLOAD.false c.if-target-size.true }

pub returns : goal.returns
returns c =
    let a = c.args in
    record { writable = λ id cs many z e. segment_writes a.x id (record { components = cs; eidr = a.eidr }) a.lent.now a.target.now 0 (sym z) refl (omega (arith, c.size_of-size.ensures.1)) _ c.size_of-size.ensures.0 c.if-size-gt-MAX_PAYLOAD.false _ _ _ _ _ c.if-target-size.false c.cuei-id.ensures c.store_envelope-c.ensures (c.store_segmentation-last.ensures _ e) }
