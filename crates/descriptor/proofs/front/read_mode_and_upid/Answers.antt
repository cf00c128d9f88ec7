-- `descriptor::front::read_mode_and_upid`: the same parts in turn.
use Prim.Native.Nat.{◌+◌, ◌≤◌}
use mathlib.Core.Path.{refl}
use native.Mathlib.Omega.{arith}
use lib.ListN.{length}
use Rattle.descriptor.specs.Segmentation.{mode, duration}
use Rattle.descriptor.specs.Private.{mode_read, duration_read, upid_read}
use Rattle.descriptor.proofs.Parts.{told, ends_inside}
use Rattle.descriptor.proofs.Segmentations.{no_flags, no_mode, no_lasting, no_upid, front_is}
use Rattle.descriptor.proofs.front.read_mode_and_upid.Goals as goal

pub returns-then-s-at : goal.returns-then-s-at
returns-then-s-at c = let a = c.args in (0, 0, no_flags a.s.now a.at c.if-s-at.true)

pub returns-in-Err : goal.returns-in-Err
returns-in-Err c =
    let a = c.args in
    (_, _, no_mode a.s.now a.at c.if-s-at.false (c.type_inv.s a.at).fits _ _ (told mode_read _ _ _ c.in-Err.is c.read_mode.ensures))

pub read_duration-requires : goal.read_duration-requires
read_duration-requires c =
    let a = c.args in
    let there : a.at + 1 ≤ length a.s.now = omega (arith, c.if-s-at.false) in
    ends_inside (mode _) a.s.now (a.at + 1) _ _ there (told mode_read _ _ _ c.in-Ok.is c.read_mode.ensures).1

pub returns-in-Err-read_duration : goal.returns-in-Err-read_duration
returns-in-Err-read_duration c =
    let a = c.args in
    let g = told mode_read _ _ _ c.in-Ok.is c.read_mode.ensures in
    (_, _, no_lasting a.s.now a.at c.if-s-at.false (c.type_inv.s a.at).fits _ _ g.1 _ _ (told duration_read _ _ _ c.in-Err-read_duration.is c.read_duration.ensures))

pub read_written_upid-requires : goal.read_written_upid-requires
read_written_upid-requires c =
    let a = c.args in
    let there : a.at + 1 ≤ length a.s.now = omega (arith, c.if-s-at.false) in
    let moded = ends_inside (mode _) a.s.now (a.at + 1) _ _ there (told mode_read _ _ _ c.in-Ok.is c.read_mode.ensures).1 in
    ends_inside (duration _) a.s.now _ _ _ moded (told duration_read _ _ _ c.in-Ok-read_duration.is c.read_duration.ensures)

pub returns-in-Err-read_written_upid : goal.returns-in-Err-read_written_upid
returns-in-Err-read_written_upid c =
    let a = c.args in
    let g = told mode_read _ _ _ c.in-Ok.is c.read_mode.ensures in
    let h = told duration_read _ _ _ c.in-Ok-read_duration.is c.read_duration.ensures in
    (_, _, no_upid a.s.now a.at c.if-s-at.false (c.type_inv.s a.at).fits _ _ g.1 _ _ h _ _ (told upid_read _ _ _ c.in-Err-read_written_upid.is c.read_written_upid.ensures))

pub returns : goal.returns
returns c =
    let a = c.args in
    let g = told mode_read _ _ _ c.in-Ok.is c.read_mode.ensures in
    let h = told duration_read _ _ _ c.in-Ok-read_duration.is c.read_duration.ensures in
    let w = told upid_read _ _ _ c.in-Ok-read_written_upid.is c.read_written_upid.ensures in
    (_, g.0, front_is a.s.now a.at c.if-s-at.false (c.type_inv.s a.at).fits _ _ g.1 _ _ h _ refl _ _ w, refl, refl)
