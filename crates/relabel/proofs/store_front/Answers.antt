-- `relabel::store_front`: a copy, and four stores over it.
use Prim.Native.Nat.{ℕ, ◌+◌, ◌*◌}
use mathlib.Core.Path.{refl, ap, ◌∙◌}
use native.Mathlib.Omega.{arith}
use lib.ListN.{length}
use Rattle.table.proofs.Stores.{length_stored}
use Rattle.relabel.proofs.Stores.{takes_small, front_stored}
use Rattle.relabel.proofs.store_front.Goals as goal

pub overflow_add-size-3 : goal.overflow_add-size-3
overflow_add-size-3 c =
    record { fits = omega (arith, c.size-3.ensures.1, takes_small _ _ _ c.requires.1) }

pub store_two-requires-3 : goal.store_two-requires-3
store_two-requires-3 c =
    let l = ap length c.store_one.ensures ∙ length_stored _ _ _ ∙ ap length c.store_two-2.ensures ∙ length_stored _ _ _ ∙ ap length c.store_two.ensures ∙ length_stored _ _ _
    ∙ ap length c.put_bytes.ensures ∙ length_stored _ _ _ in
    (omega (arith, l, c.requires.2), omega (arith, c.size-3.ensures.1, takes_small _ _ _ c.requires.1))

pub returns : goal.returns
returns c =
    let a = c.args in
    front_stored a.section.now a.p a.n c.requires.0 a.target.now _ _ _ _ _ a.upid_type _ _ _ _ _ _ _ c.size.ensures.0 refl refl refl c.size-2.ensures.0 refl
    (ap (λ (v : ℕ). v * 256 + a.n) c.size-3.ensures.0) c.put_bytes.ensures c.store_two.ensures c.store_two-2.ensures c.store_one.ensures c.store_two-3.ensures c.requires.2
