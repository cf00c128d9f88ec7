-- `splice_time::read_aligned_time`: by how many bytes are left, and by the first of them.
use Prim.Native.Nat.{◌+◌, ◌≤◌}
use mathlib.Core.Path.{refl}
use native.Mathlib.Omega.{arith}
use lib.ListN.{length}
use Rattle.splice_time.proofs.Times.{none_left, aligned_unspecified, aligned_short, aligned_at}
use Rattle.splice_time.proofs.read_aligned_time.Goals as goal

pub returns-then-s-at : goal.returns-then-s-at
returns-then-s-at c = let a = c.args in none_left a.s.now a.at c.if-s-at.true

pub returns-then-s-at-lt128 : goal.returns-then-s-at-lt128
returns-then-s-at-lt128 c =
    let a = c.args in
    aligned_unspecified a.s.now a.at c.if-s-at.false (c.type_inv.s a.at).fits c.if-s-at-lt128.true

pub returns-then-left-lt5 : goal.returns-then-left-lt5
returns-then-left-lt5 c =
    let a = c.args in
    aligned_short a.s.now a.at c.if-s-at.false (c.type_inv.s a.at).fits c.if-s-at-lt128.false _ refl c.if-left-lt5.true

pub returns : goal.returns
returns c =
    let a = c.args in
    let there : a.at + 5 ≤ length a.s.now = omega (arith, c.if-left-lt5.false, c.if-s-at.false) in
    aligned_at a.s.now a.at c.if-s-at.false (c.type_inv.s a.at).fits c.if-s-at-lt128.false c.time33.result c.time33.ensures there
