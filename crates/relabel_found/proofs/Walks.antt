-- The walk over the heads of a loop.
--     next_is         where an item ends that stands there whole
--     begins-..       one turn of the walk
--     among           the item that begins there is one of the loop's
--     found-..        whether the item is found
--     head_is         the place of the UPID's head, of its parts
use Prim.Native.Nat.{ℕ, zero, suc, ◌+◌, ◌*◌, ◌-◌, ◌/◌, ◌%◌, ◌≤◌, ◌<◌}
use mathlib.Core.Bool.{Bool, true, false, ◌||◌}
use mathlib.Core.List.{List, [], ◌∷◌, ◌++◌}
use mathlib.Core.Path.{◌≡◌, refl, ap, sym, ◌∙◌}
use native.Mathlib.Omega.{arith}
use lib.Dec.{eqb}
use lib.ListN.{length, get_or}
use borrow.Author.Tests.{eq-eqb, ne_eqb, eqb-true}
use Rattle.table.proofs.Lists.{zero_one}
use Rattle.descriptor_loop.proofs.Lists.{rest, rest_end, rest_more, items_rest}
use Rattle.descriptor_loop.proofs.Steps.{step_small, step_complete, turn, forward, within}
use Rattle.descriptor_loop.specs.Items.{complete_at, step_of, Listed, listed, items_of}
use Rattle.descriptor_loop.specs.declared.Step.{Step}
use Rattle.upid.proofs.Laws.{by_cases}
use Rattle.relabel_found.specs.Found.{begins, is_active, found}
use Rattle.relabel_payload.specs.Payload.{upid_head}
use Rattle.table.specs.Bits.{pick}

complete_next : (loop : List ℕ) (offset L : ℕ) → (complete_at loop offset L).next ≡ offset + (L + 2)
unfolding complete_at
complete_next loop offset L = refl

module _ (loop : List ℕ) (offset : ℕ) (fits : length loop ≤ 4076) (inside : offset < length loop) (L : ℕ) (is : L ≡ get_or loop (offset + 1) 0)
    (six : 6 ≤ length loop - offset) (there : L + 2 ≤ length loop - offset) (right : L ≤ 254) where
  pub next_is : offset + (L + 2) ≡ (step_of loop offset).next
  next_is =
      by_cases L 4
      (λ h. sym (ap (λ (s : Step). s.next) (step_small loop offset fits inside L is six there right h)))
      (λ h. sym (ap (λ (s : Step). s.next) (step_complete loop offset fits inside L is six there right h) ∙ complete_next loop offset L))

module _ (loop : List ℕ) (fits : length loop ≤ 4076) where
  -- what begins later does not begin here
  later : (n offset at : ℕ) → length loop - at ≤ n → offset < at → begins (rest loop fits at) offset ≡ false
  unfolding begins
  later zero offset at h l = ap (λ (xs : List Listed). begins xs offset) (rest_end loop fits at (omega arith))
  later (suc n) offset at h l =
      by_cases at (length loop)
      (λ inside.
      let f : at < (step_of loop at).next = forward inside (turn loop at fits inside) in
      ap (λ (xs : List Listed). begins xs offset) (rest_more loop fits at inside)
      ∙ ap (λ (b : Bool). b || begins (rest loop fits (step_of loop at).next) offset) (ne_eqb at offset (λ z. omega (arith, z)))
      ∙ later n offset (step_of loop at).next (omega arith) (omega arith))
      (λ past. ap (λ (xs : List Listed). begins xs offset) (rest_end loop fits at past))

  abbrev pub Begins : ℕ → ℕ → Type 0
  Begins offset at = begins (items_of loop) offset ≡ begins (rest loop fits at) offset

  pub begins_first : (offset : ℕ) → Begins offset 0
  begins_first offset = ap (λ (xs : List Listed). begins xs offset) (items_rest loop fits)

  pub begins_next : (offset at : ℕ) → at < length loop → at < offset → Begins offset at → Begins offset (step_of loop at).next
  unfolding begins
  begins_next offset at inside l e =
      e ∙ ap (λ (xs : List Listed). begins xs offset) (rest_more loop fits at inside)
      ∙ ap (λ (b : Bool). b || begins (rest loop fits (step_of loop at).next) offset) (ne_eqb at offset (λ z. omega (arith, z)))

  pub begins_here : (offset at : ℕ) → at < length loop → offset ≤ at → Begins offset at → eqb at offset ≡ begins (items_of loop) offset
  unfolding begins
  begins_here offset at inside h e =
      by_cases offset at
      (λ l. ne_eqb at offset (λ z. omega (arith, z)) ∙ sym (e ∙ later (length loop) offset at (omega arith) l))
      (λ g.
      let z : at ≡ offset = omega arith in
      eq-eqb at offset z
      ∙ sym (e ∙ ap (λ (xs : List Listed). begins xs offset) (rest_more loop fits at inside)
      ∙ ap (λ (b : Bool). b || begins (rest loop fits (step_of loop at).next) offset) (eq-eqb at offset z)))

  pub begins_past : (offset at : ℕ) → length loop ≤ at → Begins offset at → false ≡ begins (items_of loop) offset
  unfolding begins
  begins_past offset at h e = sym (e ∙ ap (λ (xs : List Listed). begins xs offset) (rest_end loop fits at h))

  pub goes_forward : (at : ℕ) → at < length loop → (at < (step_of loop at).next) × ((step_of loop at).next ≤ length loop)
  goes_forward at inside = (forward inside (turn loop at fits inside), within (turn loop at fits inside))

-- the items before the one that begins at an offset, and those after it
pub record Among (xs : List Listed) (x : Listed) : Type 0 where
  pub lead : List Listed
  pub tail : List Listed
  pub is : xs ≡ lead ++ (x ∷ tail)

module _ (loop : List ℕ) (offset : ℕ) (fits : length loop ≤ 4076) where
  among_rest : (n at : ℕ) → length loop - at ≤ n → begins (rest loop fits at) offset ≡ true → Among (rest loop fits at) (listed loop offset)
  unfolding begins
  among_rest zero at h e = let z : rest loop fits at ≡ [] = rest_end loop fits at (omega arith) in zero_one cc
  among_rest (suc n) at h e =
      by_cases at (length loop)
      (λ inside.
      let f : at < (step_of loop at).next = forward inside (turn loop at fits inside) in
      let m = rest_more loop fits at inside in
      go at m (among_rest n (step_of loop at).next (omega arith)) (eqb at offset) refl (ap (λ (xs : List Listed). begins xs offset) (sym m) ∙ e))
      (λ past. let z : rest loop fits at ≡ [] = rest_end loop fits at past in zero_one cc)
    where
      go : (at : ℕ) → rest loop fits at ≡ listed loop at ∷ rest loop fits (step_of loop at).next
          → (begins (rest loop fits (step_of loop at).next) offset ≡ true → Among (rest loop fits (step_of loop at).next) (listed loop offset))
          → (b : Bool) → eqb at offset ≡ b → b || begins (rest loop fits (step_of loop at).next) offset ≡ true → Among (rest loop fits at) (listed loop offset)
      go at m again true e h =
          record { lead = []; tail = rest loop fits (step_of loop at).next; is = m ∙ ap (λ (o : ℕ). listed loop o ∷ rest loop fits (step_of loop at).next) (eqb-true at offset e) }
      go at m again false e h =
          let a = again h in
          record { lead = listed loop at ∷ a.lead; tail = a.tail; is = m ∙ ap (λ (xs : List Listed). listed loop at ∷ xs) a.is }

  pub among : begins (items_of loop) offset ≡ true → Among (items_of loop) (listed loop offset)
  among e =
      rw (items_rest loop fits) (among_rest (length loop) 0 (omega arith) (rw (items_rest loop fits) at e))

module _ (loop : List ℕ) (offset : ℕ) where
  pub found_some : begins (items_of loop) offset ≡ true → is_active (step_of loop offset).item ≡ found loop offset
  unfolding found
  found_some h = rw h

pub head_is : (s : List ℕ) (flags count a b : ℕ) → flags ≡ get_or s 5 0 → count ≡ get_or s 6 0 → a ≡ pick (eqb (flags / 128 % 2) 1) 0 (1 + count * 6) → b ≡ pick (eqb (flags / 64 % 2) 1) 5 0
    → 6 + (a + b) ≡ upid_head s
unfolding upid_head
head_is s flags count a b ef ec ea eb = rw (ea, eb, ef, ec)
