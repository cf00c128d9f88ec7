-- `section_writer::answer_section`, test by test.
use native.Mathlib.Omega.{arith}
use Rattle.section_writer.proofs.Answers.{refused_for, short_for, wrote_for, short_enough}
use Rattle.section_writer.proofs.answer_section.Goals as goal

pub returns-then-refusal-gt0 : goal.returns-then-refusal-gt0
returns-then-refusal-gt0 c =
    let a = c.args in
    refused_for a.header a.measured a.descriptors.now a.room _ _ c.is_canonical_loop-canonical.ensures c.refusal_of-refusal.ensures c.if-refusal-gt0.true

pub overflow_add-length : goal.overflow_add-length
overflow_add-length c =
    let a = c.args in
    omega (arith, short_enough a.header a.measured a.descriptors.now a.room _ _ c.is_canonical_loop-canonical.ensures c.refusal_of-refusal.ensures c.if-refusal-gt0.false)

pub overflow_add-length-2 : goal.overflow_add-length-2
overflow_add-length-2 c =
    let a = c.args in
    omega (arith, short_enough a.header a.measured a.descriptors.now a.room _ _ c.is_canonical_loop-canonical.ensures c.refusal_of-refusal.ensures c.if-refusal-gt0.false)

pub returns-then-room-length : goal.returns-then-room-length
returns-then-room-length c =
    let a = c.args in
    short_for a.header a.measured a.descriptors.now a.room _ _ c.is_canonical_loop-canonical.ensures c.refusal_of-refusal.ensures c.if-refusal-gt0.false c.if-room-length.true

pub returns : goal.returns
returns c =
    let a = c.args in
    wrote_for a.header a.measured a.descriptors.now a.room _ _ c.is_canonical_loop-canonical.ensures c.refusal_of-refusal.ensures c.if-refusal-gt0.false c.if-room-length.false
