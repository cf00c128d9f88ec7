-- `descriptor::front::read_front`: the byte of flags, and the parts after it in turn.
use Rattle.std.proofs.lemmas.Result.{err_from_is_err_and}
use Prim.Native.Nat.{◌+◌, ◌≤◌}
use native.Mathlib.Omega.{arith}
use lib.ListN.{length}
use Rattle.descriptor.specs.Segmentation.{mode, duration}
use Rattle.descriptor.specs.Private.{mode_read, duration_read, upid_read}
use Rattle.descriptor.proofs.Parts.{told, ends_inside}
use Rattle.descriptor.proofs.Segmentations.{no_flags, no_mode, no_lasting, no_upid, front_is}
use Rattle.descriptor.proofs.front.read_front.Goals as goal

pub returns-then-s-at : goal.returns-then-s-at
returns-then-s-at c = let a = c.args in no_flags a.s.now a.at c.if-s-at.true

pub returns-in_err-moded : goal.returns-in_err-moded
returns-in_err-moded c =
    let p = err_from_is_err_and c.from_residual.result c.from_residual.ensures.1 in
    let a = c.args in
    rw (p.1, p.2) (no_mode a.s.now a.at c.if-s-at.false (c.type_inv.s a.at).fits _ _ (told mode_read _ _ _ c.in_err-moded.was c.read_mode.ensures))

pub read_duration-requires : goal.read_duration-requires
read_duration-requires c =
    let a = c.args in
    let there : a.at + 1 ≤ length a.s.now = omega (arith, c.if-s-at.false) in
    ends_inside (mode _) a.s.now (a.at + 1) _ _ there (told mode_read _ _ _ c.in_ok-moded.was c.read_mode.ensures).1

pub returns-in_err-lasting : goal.returns-in_err-lasting
returns-in_err-lasting c =
    let p = err_from_is_err_and c.from_residual-in_err-lasting.result c.from_residual-in_err-lasting.ensures.1 in
    let a = c.args in
    let g = told mode_read _ _ _ c.in_ok-moded.was c.read_mode.ensures in
    rw (p.1, p.2) (no_lasting a.s.now a.at c.if-s-at.false (c.type_inv.s a.at).fits _ _ g.1 _ _ (told duration_read _ _ _ c.in_err-lasting.was c.read_duration.ensures))

pub read_written_upid-requires : goal.read_written_upid-requires
read_written_upid-requires c =
    let a = c.args in
    let there : a.at + 1 ≤ length a.s.now = omega (arith, c.if-s-at.false) in
    let moded = ends_inside (mode _) a.s.now (a.at + 1) _ _ there (told mode_read _ _ _ c.in_ok-moded.was c.read_mode.ensures).1 in
    ends_inside (duration _) a.s.now _ _ _ moded (told duration_read _ _ _ c.in_ok-lasting.was c.read_duration.ensures)

pub returns-in_err-written : goal.returns-in_err-written
returns-in_err-written c =
    let p = err_from_is_err_and c.from_residual-in_err-written.result c.from_residual-in_err-written.ensures.1 in
    let a = c.args in
    let g = told mode_read _ _ _ c.in_ok-moded.was c.read_mode.ensures in
    let h = told duration_read _ _ _ c.in_ok-lasting.was c.read_duration.ensures in
    rw (p.1, p.2) (no_upid a.s.now a.at c.if-s-at.false (c.type_inv.s a.at).fits _ _ g.1 _ _ h _ _ (told upid_read _ _ _ c.in_err-written.was c.read_written_upid.ensures))

pub returns : goal.returns
returns c =
    let a = c.args in
    let g = told mode_read _ _ _ c.in_ok-moded.was c.read_mode.ensures in
    let h = told duration_read _ _ _ c.in_ok-lasting.was c.read_duration.ensures in
    let w = told upid_read _ _ _ c.in_ok-written.was c.read_written_upid.ensures in
    (g.0, front_is a.s.now a.at c.if-s-at.false (c.type_inv.s a.at).fits _ _ g.1 _ _ h _ c.restrictions.ensures _ _ w)
