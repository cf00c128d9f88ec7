-- `adjust::chain`.
use mathlib.Core.Path.{sym}
use native.Mathlib.Omega.{arith}
use Rattle.adjust.proofs.Laws.{chain_is, chain_first, chain_second}
use Rattle.adjust.proofs.chain.Goals as goal

-- src/lib.rt:42:9
pub returns-then-a-gt8589934591 : goal.returns-then-a-gt8589934591
returns-then-a-gt8589934591 c =
    let a = c.args in
    sym (chain_first a.a a.b (omega arith))

-- src/lib.rt:45:9
pub returns-then-b-gt8589934591 : goal.returns-then-b-gt8589934591
returns-then-b-gt8589934591 c =
    let a = c.args in
    sym (chain_second a.a a.b (omega arith) (omega arith))

-- src/lib.rt:38:1
pub returns : goal.returns
returns c =
    let a = c.args in
    sym (chain_is a.a a.b (omega arith) (omega arith))
