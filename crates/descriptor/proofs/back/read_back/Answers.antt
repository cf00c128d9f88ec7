-- `descriptor::back::read_back`: three bytes, and what is left after them.
use Rattle.std.proofs.lemmas.Result.{err_from_is_err_and}
use Prim.Native.Nat.{◌+◌, ◌≤◌}
use mathlib.Core.Path.{refl}
use native.Mathlib.Omega.{arith}
use lib.ListN.{length}
use Rattle.descriptor.specs.Private.{sub_segments_read}
use Rattle.descriptor.proofs.Backs.{no_counts, back_short, back_is}
use Rattle.descriptor.proofs.Parts.{told}
use Rattle.descriptor.proofs.back.read_back.Goals as goal

pub returns-then-s-at-lt3 : goal.returns-then-s-at-lt3
returns-then-s-at-lt3 c =
    let a = c.args in
    no_counts a.s.now a.at _ refl c.if-s-at-lt3.true c.requires

pub returns-in_err-sub_segments : goal.returns-in_err-sub_segments
returns-in_err-sub_segments c =
    let p = err_from_is_err_and c.from_residual.result c.from_residual.ensures.1 in
    let a = c.args in
    let there : a.at + 3 ≤ length a.s.now = omega (arith, c.if-s-at-lt3.false) in
    rw (p.1, p.2) (back_short a.s.now a.at there _ _ (told sub_segments_read _ _ _ c.in_err-sub_segments.was c.read_sub_segments.ensures))

pub returns : goal.returns
returns c =
    let a = c.args in
    let there : a.at + 3 ≤ length a.s.now = omega (arith, c.if-s-at-lt3.false) in
    let g = told sub_segments_read _ _ _ c.in_ok-sub_segments.was c.read_sub_segments.ensures in
    (g.0, back_is a.s.now a.at there (λ j. (c.type_inv.s j).fits) _ _ _ c.from.ensures g.1)
