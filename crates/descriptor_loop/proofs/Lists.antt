-- Laws of the list of a loop's items.
--     from_any                 any number of steps from the count of the bytes left on gives the same items
--     rest_end, rest_more      the items from an offset on
--     items_rest, items_none   all of them
--     walked                   the items, one turn after the other
--     few_items                how many there can be
use Prim.Native.Nat.{ℕ, zero, suc, ◌+◌, ◌*◌, ◌-◌, ◌≤◌, ◌<◌}
use mathlib.Core.Path.{◌≡◌, refl, sym, ap, ◌∙◌}
use mathlib.Core.List.{List, [], ◌∷◌}
use native.Mathlib.Omega.{arith}
use lib.ListN.{length}
use borrow.Author.Tests.{lt-ltb, le-ltb}
use Rattle.upid.proofs.Laws.{by_cases}
use Rattle.descriptor_loop.specs.Items.{step_of, Listed, listed, items_from, items_of, count_of}
use Rattle.descriptor_loop.specs.declared.Step.{Step}
use Rattle.descriptor_loop.proofs.Steps.{step_end, Turn, ends, goes, turn, goes_on_lem, forward, within}
use Rattle.std.proofs.Common.{Ok}

module _ (loop : List ℕ) (fits : length loop ≤ 4076) where
  from_end : (n offset : ℕ) → length loop ≤ offset → items_from n loop offset ≡ []
  unfolding items_from
  from_end zero offset h = refl
  from_end (suc n) offset h = rw (step_end loop offset fits h)

  from_more : (n offset : ℕ) → offset < length loop → items_from (suc n) loop offset ≡ listed loop offset ∷ items_from n loop (step_of loop offset).next
  unfolding items_from
  from_more n offset inside = goes_on_lem loop offset fits inside (listed loop offset ∷ items_from n loop (step_of loop offset).next)

  pub from_any : (n m offset : ℕ) → length loop - offset ≤ n → length loop - offset ≤ m → items_from n loop offset ≡ items_from m loop offset
  from_any zero m offset hn hm = from_end zero offset (omega arith) ∙ sym (from_end m offset (omega arith))
  from_any (suc n) zero offset hn hm = from_end (suc n) offset (omega arith) ∙ sym (from_end zero offset (omega arith))
  from_any (suc n) (suc m) offset hn hm =
      by_cases offset (length loop)
      (λ inside.
      let f : offset < (step_of loop offset).next = forward inside (turn loop offset fits inside) in
      let after : items_from n loop (step_of loop offset).next ≡ items_from m loop (step_of loop offset).next =
      from_any n m (step_of loop offset).next (omega arith) (omega arith) in
      rw (from_more n offset inside, from_more m offset inside, after))
      (λ h. from_end (suc n) offset h ∙ sym (from_end (suc m) offset h))

  -- ---- the items from an offset on

  abbrev pub rest : ℕ → List Listed
  rest offset = items_from (length loop - offset) loop offset

  pub rest_end : (offset : ℕ) → length loop ≤ offset → rest offset ≡ []
  rest_end offset h = from_end (length loop - offset) offset h

  pub rest_more : (offset : ℕ) → offset < length loop → rest offset ≡ listed loop offset ∷ rest (step_of loop offset).next
  rest_more offset inside =
      let f : offset < (step_of loop offset).next = forward inside (turn loop offset fits inside) in
      let n : length loop - offset ≡ suc (length loop - suc offset) = omega arith in
      let after : items_from (length loop - suc offset) loop (step_of loop offset).next ≡ rest (step_of loop offset).next =
      from_any (length loop - suc offset) (length loop - (step_of loop offset).next) (step_of loop offset).next (omega arith) (omega arith) in
      ap (λ (k : ℕ). items_from k loop offset) n ∙ from_more (length loop - suc offset) offset inside ∙ ap (λ (xs : List Listed). listed loop offset ∷ xs) after

  pub items_rest : items_of loop ≡ rest 0
  unfolding items_of
  items_rest = rw (le-ltb _ _ fits) (from_any (length loop) (length loop - 0) 0 (omega arith) (omega arith))

pub items_none : (loop : List ℕ) → 4076 < length loop → items_of loop ≡ []
unfolding items_of
items_none loop h = rw (lt-ltb _ _ h)

-- ---- one turn after the other

pub data Walked (loop : List ℕ) : ℕ → List Listed → Type 0 where
  stop : Walked loop (length loop) []
  step : {offset next : ℕ} {xs : List Listed} → offset < length loop → (step_of loop offset).next ≡ next → Turn loop offset next → Walked loop next xs
      → Walked loop offset (listed loop offset ∷ xs)

-- nothing follows the loop's end
pub at_end : {loop : List ℕ} {at : ℕ} {xs : List Listed} → Walked loop at xs → at ≡ length loop → xs ≡ []
at_end stop e = refl
at_end (step inside f t w) e = absurd (omega arith)

module _ (loop : List ℕ) (fits : length loop ≤ 4076) where
  walk : (n offset : ℕ) → length loop - offset ≤ n → offset ≤ length loop → Walked loop offset (rest loop fits offset)
  walk zero offset h w =
      let e : offset ≡ length loop = omega arith in
      rw (rest_end loop fits offset (omega arith), e) stop
  walk (suc n) offset h w =
      by_cases offset (length loop)
      (λ inside.
      let t : Turn loop offset (step_of loop offset).next = turn loop offset fits inside in
      let f : offset < (step_of loop offset).next = forward inside t in
      rw (rest_more loop fits offset inside) (step inside refl t (walk n (step_of loop offset).next (omega arith) (within t))))
      (λ l.
      let e : offset ≡ length loop = omega arith in
      rw (rest_end loop fits offset l, e) stop)

  pub walked : Walked loop 0 (items_of loop)
  walked = rw (items_rest loop fits) (walk (length loop) 0 (omega arith) (omega arith))

-- ---- how many

module _ (loop : List ℕ) where
  pub counted_none : length loop ≤ 4076 → 0 + length (items_from (length loop - 0) loop 0) ≡ length (items_of loop)
  counted_none fits = omega (arith, ap length (items_rest loop fits))

  -- a step, with its answer
  module _ (offset : ℕ) (s : Step) (fits : length loop ≤ 4076) (inside : offset < length loop) (e : s ≡ step_of loop offset) where
    pub step_forward : (offset < s.next) × (s.next ≤ length loop)
    step_forward = rw e (forward inside (turn loop offset fits inside), within (turn loop offset fits inside))

  pub counted_one : (offset count : ℕ) (s : Step) → length loop ≤ 4076 → offset < length loop → s ≡ step_of loop offset
      → count + length (items_from (length loop - offset) loop offset) ≡ length (items_of loop)
      → count + 1 + length (items_from (length loop - s.next) loop s.next) ≡ length (items_of loop)
  counted_one offset count s fits inside e h = rw e (omega (arith, ap length (rest_more loop fits offset inside)))

  pub counted_all : (offset count : ℕ) → length loop ≤ 4076 → length loop ≤ offset
      → count + length (items_from (length loop - offset) loop offset) ≡ length (items_of loop) → Ok count ≡ count_of loop
  unfolding count_of
  counted_all offset count fits past h =
      let n : count ≡ length (items_of loop) = omega (arith, ap length (rest_end loop fits offset past)) in
      rw (le-ltb _ _ fits, n)

few_from : {loop : List ℕ} {offset : ℕ} {xs : List Listed} (m : ℕ) → Walked loop offset xs → length loop - offset ≤ m → 4 ≤ m → 2 * length xs + 2 ≤ m
few_from m stop h four = omega arith
few_from m (step inside e (ends x) w) h four = omega (arith, ap length (at_end w refl))
few_from m (step inside e (goes L s) w) h four =
    let again = few_from (m - 2) w (omega (arith, s.six)) (omega (arith, s.six)) in
    omega (arith, s.six)

pub few_items : (loop : List ℕ) → length (items_of loop) ≤ 2037
few_items loop =
    by_cases 4076 (length loop)
    (λ h. rw (items_none loop h) (omega arith))
    (λ fits. omega (arith, few_from 4076 (walked loop fits) (omega arith) (omega arith)))
