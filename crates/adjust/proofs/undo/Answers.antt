-- `adjust::undo`.
use mathlib.Core.Path.{sym}
use native.Mathlib.Omega.{arith}
use Rattle.adjust.proofs.Laws.{undo_is, undo_wide}
use Rattle.adjust.proofs.undo.Goals as goal

-- src/lib.rt:55:9
pub returns-then-a-gt8589934591 : goal.returns-then-a-gt8589934591
returns-then-a-gt8589934591 c =
    let a = c.args in
    sym (undo_wide a.a (omega arith))

-- src/lib.rt:51:1
pub returns : goal.returns
returns c =
    let a = c.args in
    sym (undo_is a.a (omega arith))
