-- `upid::plain::has_text` meets its contract.
use Prim.Native.Nat.{ℕ, ◌≤◌, ◌<◌}
use mathlib.Core.Path.{◌≡◌, refl}
use mathlib.Core.Bool.{true, false}
use mathlib.Core.Logic.{⊎_elim}
use native.Mathlib.Omega.{arith}
use native.Mathlib.Nat.{eq-or-lt_of_le}
use borrow.Author.Tests.{ne_eqb}
use Rattle.upid.specs.Upid.{is_text}
use Rattle.upid.proofs.Laws.{at_number}
use Rattle.upid.proofs.plain.has_text.Goals as goal

none : (k : ℕ) → (k ≡ 2 → ⊥) → (k ≡ 3 → ⊥) → (k ≡ 7 → ⊥) → false ≡ is_text k
unfolding is_text
none k h2 h3 h7 = simp (ne_eqb k 2 h2, ne_eqb k 3 h3, ne_eqb k 7 h7)

two_three : (k : ℕ) → 2 ≤ k → k < 4 → true ≡ is_text k
unfolding is_text
two_three k lo hi =
    let le : k ≤ 3 = omega arith in
    ⊎_elim (λ e. at_number is_text k 3 refl e) (λ l. at_number is_text k 2 refl (omega arith)) (eq-or-lt_of_le le)

pub returns-in_default : goal.returns-in_default
returns-in_default c = none _ (omega arith) (omega arith) (omega arith)

pub returns-in_default-2 : goal.returns-in_default-2
returns-in_default-2 c = none _ (omega arith) (omega arith) (λ e. c.in_default.in_default-own.rest.1 e)

pub returns-in-2 : goal.returns-in-2
unfolding is_text
returns-in-2 c = at_number is_text _ 7 refl c.in-2.is

pub returns-in-2-2 : goal.returns-in-2-2
returns-in-2-2 c = two_three _ c.in-2.if-upid_type-lt2-own.false c.in-2.if-upid_type-lt4-own.true
