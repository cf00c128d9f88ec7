-- `upid::plain::fixed` meets its contract.
use Prim.Native.Nat.{ℕ, ◌≤◌, ◌<◌}
use mathlib.Core.Path.{◌≡◌, refl}
use mathlib.Core.Logic.{⊎_elim, inl, inr}
use native.Mathlib.Omega.{arith}
use borrow.Author.Tests.{ne_eqb}
use native.Mathlib.Nat.{eq-or-lt_of_le}
use Rattle.upid.specs.Upid.{length_of}
use Rattle.upid.proofs.Laws.{at_number}
use Rattle.upid.proofs.plain.fixed.Goals as goal

none : (k : ℕ) → (k ≡ 2 → ⊥) → (k ≡ 3 → ⊥) → (k ≡ 4 → ⊥) → (k ≡ 5 → ⊥) → (k ≡ 6 → ⊥) → (k ≡ 7 → ⊥) → (k ≡ 8 → ⊥) → (k ≡ 10 → ⊥) → 0 ≡ length_of k
unfolding length_of
none k h2 h3 h4 h5 h6 h7 h8 h10 = simp (ne_eqb k 2 h2, ne_eqb k 3 h3, ne_eqb k 4 h4, ne_eqb k 5 h5, ne_eqb k 6 h6, ne_eqb k 7 h7, ne_eqb k 8 h8, ne_eqb k 10 h10)

six_seven : (k : ℕ) → 2 ≤ k → k < 8 → (k ≡ 2 → ⊥) → (k ≡ 3 → ⊥) → (k ≡ 4 → ⊥) → (k ≡ 5 → ⊥) → 12 ≡ length_of k
unfolding length_of
six_seven k lo hi h2 h3 h4 h5 =
    let le : k ≤ 7 = omega arith in
    ⊎_elim (λ e. at_number length_of k 7 refl e) (λ l. at_number length_of k 6 refl (omega arith)) (eq-or-lt_of_le le)

pub returns-in-2 : goal.returns-in-2
unfolding length_of
returns-in-2 c = ⊎_elim (at_number length_of _ 2 refl) (⊎_elim (at_number length_of _ 5 refl) (at_number length_of _ 8 refl)) c.in-2.is

pub returns-in-4 : goal.returns-in-4
unfolding length_of
returns-in-4 c = at_number length_of _ 4 refl c.in-4.is

pub returns-in_default : goal.returns-in_default
returns-in_default c = none _ (omega arith) (omega arith) (omega arith) (omega arith) (omega arith) (omega arith) (omega arith) (omega arith)

pub returns-in_default-2 : goal.returns-in_default-2
returns-in_default-2 c =
    none _ (omega arith) (omega arith) (omega arith) (omega arith) (omega arith) (omega arith)
    (λ e. c.in_default.in_default-own.rest.0.0.1 (inr (inr e)))
    (λ e. c.in_default.in_default-own.rest.0.1 (inr e))

pub returns-in-3 : goal.returns-in-3
unfolding length_of
returns-in-3 c = ⊎_elim (at_number length_of _ 3 refl) (at_number length_of _ 10 refl) c.in-3.is

pub returns-in-3-2 : goal.returns-in-3-2
returns-in-3-2 c =
    six_seven _ c.in-3.if-upid_type-lt2-own.false c.in-3.if-upid_type-lt8-own.true
    (λ e. c.in-3.in_default-own.rest.0.0.1 (inl e))
    (λ e. c.in-3.in_default-own.rest.0.1 (inl e))
    (λ e. c.in-3.in_default-own.rest.1 e)
    (λ e. c.in-3.in_default-own.rest.0.0.1 (inr (inl e)))
