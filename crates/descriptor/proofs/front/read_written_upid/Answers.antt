-- `descriptor::front::read_written_upid`: its type and length, and its bytes.
use Prim.Native.Nat.{◌+◌, ◌≤◌}
use mathlib.Core.Path.{refl}
use native.Mathlib.Omega.{arith}
use lib.ListN.{length}
use Rattle.descriptor.proofs.Parts.{no_head, no_bytes, upid_at_lem}
use Rattle.descriptor.proofs.front.read_written_upid.Goals as goal

pub returns-then-left-lt2 : goal.returns-then-left-lt2
returns-then-left-lt2 c =
    let a = c.args in
    no_head a.s.now a.at _ refl c.if-left-lt2.true c.requires

pub returns-then-left-len : goal.returns-then-left-len
returns-then-left-len c =
    let a = c.args in
    let there : a.at + 2 ≤ length a.s.now = omega (arith, c.if-left-lt2.false) in
    no_bytes a.s.now a.at (λ j. (c.type_inv.s j).fits) there _ c.size-len.ensures.0 c.if-left-len.true

pub returns : goal.returns
returns c =
    let a = c.args in
    let there : a.at + 2 ≤ length a.s.now = omega (arith, c.if-left-lt2.false) in
    upid_at_lem a.s.now a.at (λ j. (c.shared_slice_known-2-1.given j).fits) there _ c.size-len.ensures.0 c.if-left-len.false
