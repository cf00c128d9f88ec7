-- Laws of one step.
--     step_long .. step_complete    the definition, clause by clause
--     clause                     each step is by one of the clauses
--     turn                       a step inside a loop ends it by an ending rule, or goes past an item that stands there whole
use Prim.Native.Nat.{ℕ, ◌+◌, ◌-◌, ◌≤◌, ◌<◌}
use mathlib.Core.Path.{◌≡◌, refl}
use mathlib.Core.List.{List, []}
use native.Mathlib.Omega.{arith}
use lib.ListN.{length, take, drop, get_or, length-drop, length-take}
use lib.Seq.{get_or-drop}
use borrow.Author.Tests.{lt-ltb, le-ltb, le-leb, lt-leb}
use Rattle.table.specs.declared.View.{View}
use Rattle.upid.proofs.Laws.{by_cases}
use Rattle.upid.specs.Cover.{All, none}
use Rattle.upid.specs.declared.Refusal.TheVariants.{InputTooLong}
use Rattle.descriptor.proofs.Insides.{read_inside}
use Rattle.descriptor_loop.specs.Cover.{Ends, few, over, full, TakesRest}
use Rattle.descriptor_loop.specs.Items.{short, without_identifier, item_at, read_at, complete_at, step_of, unless_end, Listed}
use Rattle.table.specs.Lent.{shifted}
use Rattle.descriptor_loop.specs.Place.{views_of}
use Rattle.descriptor_loop.specs.declared.ItemRefusal.{ItemRefusal}
use Rattle.descriptor_loop.specs.declared.ItemRefusal.TheVariants.{InvalidDescriptorLength, Other}
use Rattle.descriptor_loop.specs.declared.Step.{Step}
use Rattle.descriptor_loop.proofs.Places.{all_into, all_map, item_views}
use Rattle.std.proofs.Common.{Ok, Err, Some, None, Result}
use Rattle.descriptor.specs.declared.Descriptor.{Descriptor}
use Rattle.upid.specs.declared.Refusal.{Refusal}

module _ (loop : List ℕ) (offset : ℕ) where
  pub step_long : 4076 < length loop → step_of loop offset ≡ without_identifier (Some (Err (Other InputTooLong))) (length loop)
  unfolding step_of
  step_long h = rw (lt-ltb _ _ h)

  module _ (fits : length loop ≤ 4076) where
    pub step_end : length loop ≤ offset → step_of loop offset ≡ without_identifier None (length loop)
    unfolding step_of
    step_end h = rw (le-ltb _ _ fits, le-leb _ _ h)

    module _ (inside : offset < length loop) where
      pub step_few : length loop - offset < 6 → step_of loop offset ≡ without_identifier (short 2 0) (length loop)
      unfolding step_of
      step_few h = rw (le-ltb _ _ fits, lt-leb _ _ inside, lt-ltb _ _ h)

      -- the length L
      module _ (L : ℕ) (is : L ≡ get_or loop (offset + 1) 0) (six : 6 ≤ length loop - offset) where
        pub step_over : length loop - offset < L + 2 → step_of loop offset ≡ without_identifier (short (L + 2) 0) (length loop)
        unfolding step_of
        step_over h = rw (le-ltb _ _ fits, lt-leb _ _ inside, le-ltb _ _ six, ← is, lt-ltb _ _ h)

        module _ (there : L + 2 ≤ length loop - offset) where
          pub step_full : 254 < L → step_of loop offset ≡ without_identifier (Some (Err InvalidDescriptorLength)) (length loop)
          unfolding step_of
          step_full h = rw (le-ltb _ _ fits, lt-leb _ _ inside, le-ltb _ _ six, ← is, le-ltb _ _ there, lt-ltb _ _ h)

          module _ (right : L ≤ 254) where
            pub step_small : L < 4 → step_of loop offset ≡ without_identifier (short 6 (L + 2)) (offset + (L + 2))
            unfolding step_of
            step_small h = rw (le-ltb _ _ fits, lt-leb _ _ inside, le-ltb _ _ six, ← is, le-ltb _ _ there, le-ltb _ _ right, lt-ltb _ _ h)

            pub step_complete : 4 ≤ L → step_of loop offset ≡ complete_at loop offset L
            unfolding step_of
            step_complete h = rw (le-ltb _ _ fits, lt-leb _ _ inside, le-ltb _ _ six, ← is, le-ltb _ _ there, le-ltb _ _ right, le-ltb _ _ h)

-- ---- each step is by one of these clauses

-- an item of L bytes after its head stands at the offset: at least 6 bytes are left, it fits, and L is at most 254
pub record Stands (loop : List ℕ) (offset L : ℕ) : Type 0 where
  pub fits : length loop ≤ 4076
  pub is : L ≡ get_or loop (offset + 1) 0
  pub six : offset + 6 ≤ length loop
  pub there : offset + (L + 2) ≤ length loop
  pub right : L ≤ 254

pub data Clause (loop : List ℕ) (offset : ℕ) : Step → Type 0 where
  long : 4076 < length loop → Clause loop offset (without_identifier (Some (Err (Other InputTooLong))) (length loop))
  ended : length loop ≤ offset → Clause loop offset (without_identifier None (length loop))
  last : (r : ItemRefusal) → views_of (Some (Err r)) ≡ [] → Ends (drop offset loop) → Clause loop offset (without_identifier (Some (Err r)) (length loop))
  small : (L : ℕ) → Stands loop offset L → Clause loop offset (without_identifier (short 6 (L + 2)) (offset + (L + 2)))
  entire : (L : ℕ) → Stands loop offset L → 4 ≤ L → Clause loop offset (complete_at loop offset L)

module _ (loop : List ℕ) (offset : ℕ) where
  left_is : length (drop offset loop) ≡ length loop - offset
  left_is = length-drop offset loop

  second : get_or (drop offset loop) 1 0 ≡ get_or loop (offset + 1) 0
  second = get_or-drop offset loop 1 0

  module _ (fits : length loop ≤ 4076) (inside : offset < length loop) (six : 6 ≤ length loop - offset) where
    fitting : (L : ℕ) → L ≡ get_or loop (offset + 1) 0 → L + 2 ≤ length loop - offset → Clause loop offset (step_of loop offset)
    fitting L is there =
        by_cases 254 L
        (λ h.
        let e : Ends (drop offset loop) = full (omega (arith, left_is, second)) (omega (arith, second)) in
        rw (step_full loop offset fits inside L is six there h) (last InvalidDescriptorLength refl e))
        (λ right.
        let s : Stands loop offset L = record { fits = fits; is = is; six = omega arith; there = omega arith; right = right } in
        by_cases L 4
        (λ h. rw (step_small loop offset fits inside L is six there right h) (small L s))
        (λ h. rw (step_complete loop offset fits inside L is six there right h) (entire L s h)))

    heads : (L : ℕ) → L ≡ get_or loop (offset + 1) 0 → Clause loop offset (step_of loop offset)
    heads L is =
        by_cases (length loop - offset) (L + 2)
        (λ h.
        let e : Ends (drop offset loop) = over (omega (arith, left_is)) (omega (arith, left_is, second)) in
        rw (step_over loop offset fits inside L is six h) (last _ refl e))
        (λ there. fitting L is there)

  begun : length loop ≤ 4076 → offset < length loop → Clause loop offset (step_of loop offset)
  begun fits inside =
      by_cases (length loop - offset) 6
      (λ h.
      let e : Ends (drop offset loop) = few (omega (arith, left_is)) (omega (arith, left_is)) in
      rw (step_few loop offset fits inside h) (last _ refl e))
      (λ six. heads fits inside six (get_or loop (offset + 1) 0) refl)

  pub clause : Clause loop offset (step_of loop offset)
  clause =
      by_cases 4076 (length loop)
      (λ h. rw (step_long loop offset h) (long h))
      (λ fits. by_cases offset (length loop) (begun fits) (λ h. rw (step_end loop offset fits h) (ended h)))

-- ---- a step inside a loop

-- where it goes: to the loop's end, by an ending rule, or past an item that stands there whole
pub data Turn (loop : List ℕ) (offset : ℕ) : ℕ → Type 0 where
  ends : Ends (drop offset loop) → Turn loop offset (length loop)
  goes : (L : ℕ) → Stands loop offset L → Turn loop offset (offset + (L + 2))

no_end : (base : ℕ) (d : Result Descriptor Refusal) (xs : List Listed) → unless_end (item_at base d) xs ≡ xs
no_end base (Ok d) xs = refl
no_end base (Err r) xs = refl

module _ (loop : List ℕ) (offset : ℕ) (fits : length loop ≤ 4076) (inside : offset < length loop) where
  turn_by_lem : {s : Step} → Clause loop offset s → Turn loop offset s.next
  unfolding complete_at
  turn_by_lem (long h) = absurd (omega arith)
  turn_by_lem (ended h) = absurd (omega arith)
  turn_by_lem (last r v e) = ends e
  turn_by_lem (small L s) = goes L s
  turn_by_lem (entire L s h) = goes L s

  goes_on_by : {s : Step} → Clause loop offset s → (xs : List Listed) → unless_end s.item xs ≡ xs
  unfolding complete_at
  goes_on_by (long h) xs = refl
  goes_on_by (ended h) xs = absurd (omega arith)
  goes_on_by (last r v e) xs = refl
  goes_on_by (small L s) xs = refl
  goes_on_by (entire L s h) xs = no_end (offset + 6) (read_at loop offset L) xs

  pub turn : Turn loop offset (step_of loop offset).next
  turn = turn_by_lem (clause loop offset)

  -- it does not say that the loop has ended
  pub goes_on_lem : (xs : List Listed) → unless_end (step_of loop offset).item xs ≡ xs
  goes_on_lem = goes_on_by (clause loop offset)

pub forward : {loop : List ℕ} {offset next : ℕ} → offset < length loop → Turn loop offset next → offset < next
forward inside (ends e) = inside
forward inside (goes L s) = omega arith

pub within : {loop : List ℕ} {offset next : ℕ} → Turn loop offset next → next ≤ length loop
within (ends e) = omega arith
within (goes L s) = s.there

module _ (loop : List ℕ) (offset : ℕ) (fits : length loop ≤ 4076) where
  pub takes_rest : Ends (drop offset loop) → TakesRest loop (step_of loop offset)
  takes_rest (few a b) =
      let n : length (drop offset loop) ≡ length loop - offset = left_is loop offset in
      record { refusal = _; is = step_few loop offset fits (omega arith) (omega arith) }
  takes_rest (over a b) =
      let n : length (drop offset loop) ≡ length loop - offset = left_is loop offset in
      let L : get_or (drop offset loop) 1 0 ≡ get_or loop (offset + 1) 0 = second loop offset in
      record { refusal = _; is = step_over loop offset fits (omega arith) (get_or loop (offset + 1) 0) refl (omega arith) (omega arith) }
  takes_rest (full a b) =
      let n : length (drop offset loop) ≡ length loop - offset = left_is loop offset in
      let L : get_or (drop offset loop) 1 0 ≡ get_or loop (offset + 1) 0 = second loop offset in
      record { refusal = _; is = step_full loop offset fits (omega arith) (get_or loop (offset + 1) 0) refl (omega arith) (omega arith) (omega arith) }

-- ---- the views of an item

-- behind the item's head and identifier, and before the next item
abbrev pub Between : ℕ → ℕ → View → Type 0
Between offset next v = (offset + 6 ≤ v.at) × (v.at + v.len ≤ next)

module _ {loop : List ℕ} {offset : ℕ} where
  payload_views : (L : ℕ) → Stands loop offset L → 4 ≤ L → All (Between offset (offset + (L + 2))) (views_of (item_at (offset + 6) (read_at loop offset L)))
  unfolding read_at
  payload_views L s h =
      let payload : List ℕ = take (L - 4) (drop (offset + 6) loop) in
      let size : length payload ≡ L - 4 = omega (arith, length-take (L - 4) (drop (offset + 6) loop), length-drop (offset + 6) loop, s.there) in
      rw (item_views (offset + 6))
      (all_map (shifted (offset + 6))
      (all_into (λ v i. (omega arith, omega (arith, size, i))) (read_inside (get_or loop offset 0) (take 4 (drop (offset + 2) loop)) payload)))

  pub views_between : {s : Step} → Clause loop offset s → All (Between offset s.next) (views_of s.item)
  unfolding complete_at
  views_between (long h) = none
  views_between (ended h) = none
  views_between (last r v e) = rw v none
  views_between (small L s) = none
  views_between (entire L s h) = payload_views L s h
