-- `table::store::put_byte` meets its contract.
use Prim.Native.Nat.{ℕ, ◌+◌}
use mathlib.Core.Path.{ap, sym, ◌∙◌}
use mathlib.Core.List.{List, [], ◌∷◌}
use native.Mathlib.Omega.{arith}
use lib.ListN.{set}
use Rattle.table.proofs.Stores.{stored_none, stored_nil, stored_front}
use Rattle.table.proofs.store.put_byte.Goals as goal

pub returns-then-at-out : goal.returns-then-at-out
returns-then-at-out c =
    let a = c.args in
    ap (λ (l : List ℕ). set l a.at a.b) (sym (stored_nil a.out.now (a.at + 1))) ∙ stored_front a.out.now a.at a.b [] (omega arith)

pub returns-else-at-out : goal.returns-else-at-out
returns-else-at-out c =
    let a = c.args in
    sym (stored_none a.out.now a.at (a.b ∷ []) (omega arith))
