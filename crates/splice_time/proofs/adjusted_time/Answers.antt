-- `splice_time::adjusted_time`, by the kind of the time.
use native.Mathlib.Omega.{arith}
use Rattle.splice_time.proofs.Times.{adjust_wide, adjust_none, adjust_late, adjust_at}
use Rattle.splice_time.proofs.adjusted_time.Goals as goal

pub returns-then-pts_adjustment-gt8589934591 : goal.returns-then-pts_adjustment-gt8589934591
returns-then-pts_adjustment-gt8589934591 c = let a = c.args in adjust_wide a.pts_adjustment a.time (omega arith)

pub returns-then-ticks-gt8589934591 : goal.returns-then-ticks-gt8589934591
returns-then-ticks-gt8589934591 c =
    let a = c.args in
    adjust_late a.pts_adjustment (omega arith) a.time _ c.in-At.is (omega arith)

pub returns-in-Immediate : goal.returns-in-Immediate
returns-in-Immediate c =
    let a = c.args in
    adjust_none a.pts_adjustment (omega arith) a.time (rw c.in-Immediate.is) (rw c.in-Immediate.is)

pub returns-in-Unspecified : goal.returns-in-Unspecified
returns-in-Unspecified c =
    let a = c.args in
    adjust_none a.pts_adjustment (omega arith) a.time (rw c.in-Unspecified.is) (rw c.in-Unspecified.is)

pub returns-else-ticks-gt8589934591 : goal.returns-else-ticks-gt8589934591
returns-else-ticks-gt8589934591 c =
    let a = c.args in
    adjust_at a.pts_adjustment (omega arith) a.time _ c.in-At.is (omega arith)
