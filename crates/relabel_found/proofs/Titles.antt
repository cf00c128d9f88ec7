-- What `is_titled`, `is_complete` and `spots_active` answer, case by case.
use Prim.Native.Nat.{ℕ, ◌+◌, ◌*◌, ◌-◌, ◌/◌, ◌%◌, ◌≤◌, ◌<◌}
use mathlib.Core.Bool.{Bool, true, false}
use mathlib.Core.List.{List, [], ◌∷◌}
use mathlib.Core.Path.{◌≡◌, ap, sym, ◌∙◌}
use native.Mathlib.Omega.{arith}
use lib.Dec.{ltb, eqb}
use lib.ListN.{length, take, drop, get_or}
use lib.Seq.{get_or-take, get_or-drop}
use borrow.Author.Tests.{le-leb, lt-leb, eq-eqb, ne_eqb}
use Rattle.descriptor.specs.Descriptor.{is_cuei}
use Rattle.descriptor_loop.proofs.Lists.{items_none}
use Rattle.descriptor_loop.specs.Items.{items_of}
use Rattle.relabel_payload.specs.Payload.{upid_head}
use Rattle.table.specs.Bits.{pick}
use Rattle.upid.proofs.Laws.{by_cases}
use Rattle.relabel_found.specs.Found.{begins, post_at, titled, complete, spots}

-- ---- `is_titled`

module _ (loop : List ℕ) (offset : ℕ) where
  abbrev id : List ℕ
  id = take 4 (drop (offset + 2) loop)

  pub few_left : length loop - offset < 17 → false ≡ titled loop offset
  unfolding titled
  few_left h =
      by_cases (get_or loop (offset + 1) 0) 15
      (λ l. rw (lt-leb 15 (get_or loop (offset + 1) 0) l))
      (λ g. rw (le-leb 15 (get_or loop (offset + 1) 0) g, lt-leb (offset + (get_or loop (offset + 1) 0 + 2)) (length loop) (omega arith)))

  module _ (l : ℕ) (is : l ≡ get_or loop (offset + 1) 0) where
    pub low : l < 15 → false ≡ titled loop offset
    unfolding titled
    low h = rw (← is, lt-leb 15 l h)

    module _ (long : 15 ≤ l) where
      pub over : length loop - offset < l + 2 → false ≡ titled loop offset
      unfolding titled
      over h = rw (← is, le-leb 15 l long, lt-leb (offset + (l + 2)) (length loop) (omega arith))

      module _ (there : l + 2 ≤ length loop - offset) where
        fits : offset + (l + 2) ≤ length loop
        fits = omega arith

        pub full : 254 < l → false ≡ titled loop offset
        unfolding titled
        full h = rw (← is, le-leb 15 l long, le-leb (offset + (l + 2)) (length loop) fits, lt-leb l 254 h)

        module _ (right : l ≤ 254) where
          pub other_tag : (get_or loop offset 0 ≡ 2 → ⊥) → false ≡ titled loop offset
          unfolding titled
          other_tag h = rw (← is, le-leb 15 l long, le-leb (offset + (l + 2)) (length loop) fits, le-leb l 254 right, ne_eqb (get_or loop offset 0) 2 h)

          pub by_identifier : get_or loop offset 0 ≡ 2 → (b : Bool) → b ≡ is_cuei id → b ≡ titled loop offset
          unfolding titled
          by_identifier h b e = e ∙ rw (← is, le-leb 15 l long, le-leb (offset + (l + 2)) (length loop) fits, le-leb l 254 right, eq-eqb (get_or loop offset 0) 2 h)

  -- the identifier, byte by byte
  byte_of : (i p : ℕ) → i < 4 → offset + 2 + i ≡ p → get_or id i 0 ≡ get_or loop p 0
  byte_of i p h e = get_or-take 4 (drop (offset + 2) loop) i 0 h ∙ get_or-drop (offset + 2) loop i 0 ∙ ap (λ (j : ℕ). get_or loop j 0) e

  pub cuei_in : (a b c d : ℕ) → a ≡ get_or loop (offset + 2) 0 → b ≡ get_or loop (offset + 3) 0 → c ≡ get_or loop (offset + 4) 0 → d ≡ get_or loop (offset + 5) 0
      → is_cuei (a ∷ (b ∷ (c ∷ (d ∷ [])))) ≡ is_cuei id
  unfolding is_cuei
  cuei_in a b c d ea eb ec ed =
      let x : get_or id 0 0 ≡ a = byte_of 0 (offset + 2) (omega arith) (omega arith) ∙ sym ea in
      let y : get_or id 1 0 ≡ b = byte_of 1 (offset + 3) (omega arith) (omega arith) ∙ sym eb in
      let z : get_or id 2 0 ≡ c = byte_of 2 (offset + 4) (omega arith) (omega arith) ∙ sym ec in
      let w : get_or id 3 0 ≡ d = byte_of 3 (offset + 5) (omega arith) (omega arith) ∙ sym ed in
      rw (x, y, z, w)

-- ---- `is_complete`

pub head_low : (pay : List ℕ) → ((k : ℕ) → get_or pay k 0 < 256) → (6 ≤ upid_head pay) × (upid_head pay ≤ 1542)
unfolding upid_head
head_low pay bytes =
    let a = mode_low (eqb (get_or pay 5 0 / 128 % 2) 1) in
    let b = duration_low (eqb (get_or pay 5 0 / 64 % 2) 1) in
    (omega arith, omega arith)
  where
    mode_low : (b : Bool) → pick b 0 (1 + get_or pay 6 0 * 6) ≤ 1531
    mode_low true = omega arith
    mode_low false = omega (arith, bytes 6)

    duration_low : (b : Bool) → pick b 5 0 ≤ 5
    duration_low true = omega arith
    duration_low false = omega arith

module _ (pay : List ℕ) where
  no_room : length pay < post_at pay + 3 → false ≡ complete pay
  unfolding complete
  no_room h = rw (lt-leb (post_at pay + 3) (length pay) h)

  pub too_short : length pay < 11 → false ≡ complete pay
  unfolding upid_head
  too_short h = no_room (omega arith)

  module _ (head : ℕ) (eh : head ≡ upid_head pay) where
    pub no_back : length pay < head + 5 → false ≡ complete pay
    no_back h = no_room (omega (arith, eh))

    module _ (len : ℕ) (el : len ≡ get_or pay (head + 1) 0) where
      post_is : post_at pay ≡ head + 2 + len
      post_is = ap (λ (q : ℕ). q + 2 + get_or pay (q + 1) 0) (sym eh) ∙ ap (λ (n : ℕ). head + 2 + n) (sym el)

      module _ (room : head + 5 ≤ length pay) where
        pub no_bytes : length pay - (head + 5) < len → false ≡ complete pay
        no_bytes h = no_room (omega (arith, post_is))

        module _ (there : len ≤ length pay - (head + 5)) where
          all_fits : post_at pay + 3 ≤ length pay
          all_fits = omega (arith, post_is)

          pub one_more : length pay - (head + 5) ≡ len + 1 → false ≡ complete pay
          unfolding complete
          one_more h = rw (le-leb (post_at pay + 3) (length pay) all_fits, eq-eqb (length pay) (post_at pay + 4) (omega (arith, post_is)))

          pub by_cancel : (length pay - (head + 5) ≡ len + 1 → ⊥) → (b : Bool) → b ≡ ltb (get_or pay 4 0) 128 → b ≡ complete pay
          unfolding complete
          by_cancel h b e = e ∙ rw (le-leb (post_at pay + 3) (length pay) all_fits, ne_eqb (length pay) (post_at pay + 4) (λ z. h (omega (arith, post_is, z))))

-- ---- `spots_active`

module _ (loop : List ℕ) (offset : ℕ) where
  pub spots_long : 4076 < length loop → false ≡ spots loop offset
  unfolding spots begins
  spots_long h = rw (items_none loop h)

  pub spots_none : begins (items_of loop) offset ≡ false → false ≡ spots loop offset
  unfolding spots
  spots_none h = rw h

  pub spots_other : begins (items_of loop) offset ≡ true → titled loop offset ≡ false → false ≡ spots loop offset
  unfolding spots
  spots_other h t = rw (h, t)

  pub spots_complete : begins (items_of loop) offset ≡ true → titled loop offset ≡ true → (l : ℕ) → l ≡ get_or loop (offset + 1) 0 → (b : Bool)
      → b ≡ complete (take (offset + 2 + l - (offset + 6)) (drop (offset + 6) loop)) → b ≡ spots loop offset
  unfolding spots
  spots_complete h t l is b e =
      let z : offset + 2 + l - (offset + 6) ≡ get_or loop (offset + 1) 0 - 4 = omega (arith, is) in
      e ∙ ap (λ (n : ℕ). complete (take n (drop (offset + 6) loop))) z ∙ rw (h, t)
