-- `table::store::put_bytes`: the first i bytes stand in the target.
use Rattle.std.proofs.Common.{ℕ, ◌≡◌, ◌+◌, ◌∷◌, ◌++◌, [], List, length, length-take-le, take, take-suc, take_all, get_or, add-one, ap, sym, ◌∙◌, arith}
use Rattle.table.specs.Lent.{stored}
use Rattle.table.proofs.Stores.{stored_none, stored_nil, stored_behind, length_stored}
use Rattle.table.proofs.store.put_bytes.Goals as goal

kept : (old new src : List ℕ) (at i : ℕ) → new ≡ stored old at (take i src) → length new ≡ length old
kept old new src at i e = ap length e ∙ length_stored old at (take i src)

pub returns-then-out-at : goal.returns-then-out-at
returns-then-out-at c = let a = c.args in sym (stored_none a.out.now a.at a.src.now (omega arith))

pub returns-then-out-at-2 : goal.returns-then-out-at-2
returns-then-out-at-2 c = let a = c.args in sym (stored_none a.out.now a.at a.src.now (omega arith))

pub loop-i-init : goal.loop-i-init
loop-i-init c = let a = c.args in sym (stored_nil a.out.now a.at)

pub bounds-out-at : goal.bounds-out-at
bounds-out-at c = omega (arith, kept _ _ _ _ _ c.loop-i.invariant)

pub loop-i-preserved : goal.loop-i-preserved
loop-i-preserved c =
    let a = c.args in
    let i = c.loop-i.i in
    let n : length (take i a.src.now) ≡ i = length-take-le i a.src.now (omega arith) in
    let t : take (i + 1) a.src.now ≡ take i a.src.now ++ (get_or a.src.now i 0 ∷ []) = rw (add-one i) (take-suc a.src.now i 0 (omega arith)) in
    let f = stored_behind a.out.now a.at (get_or a.src.now i 0) (take i a.src.now) (omega arith) in
    rw (t, c.loop-i.invariant) (rw n at f)

pub returns : goal.returns
returns c = let a = c.args in c.loop-i.invariant ∙ ap (stored a.out.now a.at) (take_all c.loop-i.i a.src.now (omega arith))
