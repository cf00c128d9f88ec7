-- `adjust::adjust`, by the kind of the time.
use mathlib.Core.Path.{sym}
use native.Mathlib.Omega.{arith}
use Rattle.adjust.proofs.Laws.{adjust_is, adjust_wide, adjust_late}
use Rattle.adjust.proofs.adjust.Goals as goal

-- src/lib.rt:23:9
pub returns-then-adjustment-gt8589934591 : goal.returns-then-adjustment-gt8589934591
returns-then-adjustment-gt8589934591 c =
    let a = c.args in
    sym (adjust_wide a.time a.adjustment (omega arith))

-- src/lib.rt:30:17
pub returns-then-ticks-gt8589934591 : goal.returns-then-ticks-gt8589934591
returns-then-ticks-gt8589934591 c =
    let a = c.args in
    sym (adjust_late a.time a.adjustment (omega arith) (rw c.in-At.is (omega arith)))

-- src/lib.rt:19:1
pub returns-in-Immediate : goal.returns-in-Immediate
returns-in-Immediate c =
    let a = c.args in
    sym (rw c.in-Immediate.is (adjust_is _ a.adjustment (omega arith) (omega arith)))

-- src/lib.rt:19:1
pub returns-in-Unspecified : goal.returns-in-Unspecified
returns-in-Unspecified c =
    let a = c.args in
    sym (rw c.in-Unspecified.is (adjust_is _ a.adjustment (omega arith) (omega arith)))

-- src/lib.rt:19:1
pub returns-else-ticks-gt8589934591 : goal.returns-else-ticks-gt8589934591
returns-else-ticks-gt8589934591 c =
    let a = c.args in
    sym (rw c.in-At.is (adjust_is _ a.adjustment (omega arith) (omega arith)))
