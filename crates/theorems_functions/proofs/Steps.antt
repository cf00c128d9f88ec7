-- A loop that is stepped through has the items that it is defined to have.
--     stepped_items      what the steps answer
--     stepped_over_c     and over C
use Prim.Native.Nat.{ℕ, ◌-◌, ◌≤◌, ◌<◌}
use mathlib.Core.List.{List, [], ◌∷◌}
use mathlib.Core.Path.{◌≡◌, refl, ap, sym, subst, ◌∙◌}
use native.Mathlib.Omega.{arith}
use lib.ListN.{length}
use Rattle.c_items.specs.FlatItem.{refusal_in, values_in, flat_step}
use Rattle.c_items.specs.declared.steps.FlatStep.{FlatStep}
use Rattle.canonical_form.specs.Same.{Pairs}
use Rattle.canonical_form.specs.Same.Pairs.{over, pair}
use Rattle.descriptor_loop.proofs.Lists.{rest, rest_end, rest_more, items_rest}
use Rattle.descriptor_loop.proofs.Steps.{step_end, turn, goes_on_lem, forward}
use Rattle.descriptor_loop.specs.Items.{step_of, Listed, listed, items_of, unless_end}
use Rattle.descriptor_loop.specs.declared.Step.{Step}
use Rattle.table.specs.Lent.{filled_to}
use Rattle.upid.proofs.Laws.{by_cases}
use Rattle.theorems_functions.specs.Calls.{Stepped}
use Rattle.theorems_functions.specs.Calls.Stepped.{ended, then}
use Rattle.theorems_functions.specs.Flat.{FlatListed, SteppedC, item_refusal, item_values, SameItem}
use Rattle.std.proofs.Common.{Ok, Err, Some, None, Option, Result}
use Rattle.descriptor.specs.declared.Descriptor.{Descriptor}
use Rattle.descriptor_loop.specs.declared.ItemRefusal.{ItemRefusal}

module _ (loop : List ℕ) (fits : length loop ≤ 4076) (Steps : ℕ → Step → Type 0) (so : (offset : ℕ) (st : Step) → Steps offset st → st ≡ step_of loop offset) where
  -- a step inside the loop is no end
  pub not_end : (offset : ℕ) → offset < length loop → (step_of loop offset).item ≡ None → ⊥
  not_end offset inside e =
      let z : unless_end (step_of loop offset).item (listed loop offset ∷ []) ≡ listed loop offset ∷ [] = goes_on_lem loop offset fits inside (listed loop offset ∷ []) in
      let n : ◌≡◌ {A = ℕ} 0 1 = ap length (rw e at z) in
      omega arith

  pub stepped_are : {offset : ℕ} {xs : List Listed} → Stepped Steps offset xs → xs ≡ rest loop fits offset
  stepped_are {offset = offset} (ended st s e) =
      let same : (step_of loop offset).item ≡ None = ap (λ (t : Step). t.item) (sym (so offset st s)) ∙ e in
      by_cases offset (length loop)
      (λ inside. absurd (not_end offset inside same))
      (λ past. sym (rest_end loop fits offset past))
  stepped_are {offset = offset} (then st {xs = xs} s e w) =
      let z : st ≡ step_of loop offset = so offset st s in
      let after : xs ≡ rest loop fits (step_of loop offset).next = stepped_are w ∙ ap (λ (t : Step). rest loop fits t.next) z in
      by_cases offset (length loop)
      (λ inside. ap (λ (t : Step). record { offset = offset; used = t.next - offset; step = t } ∷ xs) z ∙ ap (λ (ys : List Listed). listed loop offset ∷ ys) after ∙ sym (rest_more loop fits offset inside))
      (λ past. absurd (e (ap (λ (t : Step). t.item) (z ∙ step_end loop offset fits past))))

  pub stepped_items : {xs : List Listed} → Stepped Steps 0 xs → xs ≡ items_of loop
  stepped_items w = stepped_are w ∙ sym (items_rest loop fits)

-- ---- over C

pub item_refusal_lem : (x : Option (Result Descriptor ItemRefusal)) → refusal_in x ≡ item_refusal x
unfolding refusal_in
item_refusal_lem None = refl
item_refusal_lem (Some (Err r)) = refl
item_refusal_lem (Some (Ok d)) = refl

pub item_values_lem : (x : Option (Result Descriptor ItemRefusal)) → values_in x ≡ filled_to 3 0 (item_values x)
unfolding values_in
item_values_lem None = refl
item_values_lem (Some (Err r)) = refl
item_values_lem (Some (Ok d)) = refl

module _ (loop : List ℕ) (fits : length loop ≤ 4076) (Steps : ℕ → FlatStep → Type 0) (so : (offset : ℕ) (f : FlatStep) → Steps offset f → f ≡ flat_step (step_of loop offset)) where
  next_is : (offset : ℕ) (f : FlatStep) → Steps offset f → f.next ≡ (step_of loop offset).next
  unfolding flat_step
  next_is offset f d = ap (λ (v : FlatStep). v.next) (so offset f d)

  same_item : (offset : ℕ) (f : FlatStep) → offset < length loop → Steps offset f → SameItem (record { offset = offset; step = f }) (listed loop offset)
  unfolding flat_step
  same_item offset f inside d =
      let g : offset < (step_of loop offset).next = forward inside (turn loop offset fits inside) in
      record { starts = refl; ends = omega (arith, next_is offset f d); refusal = ap (λ (v : FlatStep). v.refusal) (so offset f d) ∙ item_refusal_lem (step_of loop offset).item }

  pub stepped_over_c : {offset : ℕ} {xs : List FlatListed} → SteppedC Steps (length loop) offset xs → Pairs SameItem xs (rest loop fits offset)
  stepped_over_c {offset = offset} (SteppedC.ended past) = rw (rest_end loop fits offset past) over
  stepped_over_c {offset = offset} (SteppedC.then f {xs = xs} inside d w) =
      let after : Pairs SameItem xs (rest loop fits (step_of loop offset).next) = subst (λ (k : ℕ). Pairs SameItem xs (rest loop fits k)) (next_is offset f d) (stepped_over_c w) in
      rw (rest_more loop fits offset inside) (pair (same_item offset f inside d) after)

  pub stepped_items_over_c : {xs : List FlatListed} → SteppedC Steps (length loop) 0 xs → Pairs SameItem xs (items_of loop)
  stepped_items_over_c w = rw (items_rest loop fits) (stepped_over_c w)
