-- Tables over bytes of which a part is replaced.
--     swap        a table that ended before the place reads the same whatever stands there
--     shift       a table without views that starts after the place reads the same, moved
--     swap_form, shift_form    and is canonical where it was
--     ends_at     a table that takes whole bytes ends where a byte begins
use Prim.Native.Nat.{ℕ, zero, suc, ◌+◌, ◌*◌, ◌-◌, ◌/◌, ◌%◌, ◌≤◌}
use mathlib.Core.Bool.{Bool, true, false, ◌&&◌}
use mathlib.Core.List.{List, ◌++◌}
use mathlib.Core.Path.{◌≡◌, refl, ap, ap₂, sym, ◌∙◌}
use native.Mathlib.Omega.{arith}
use lib.Dec.{leb}
use lib.ListN.{length, take, drop, length-append, length-drop}
use lib.Seq.{drop-append-le, take-append-le, drop-append-add}
use borrow.Author.Tests.{leb-true, leb-false, le-leb, lt-leb}
use Rattle.table.specs.Bits.{pick, num, field}
use Rattle.table.specs.Table.{Table, done, uint, view, left, must, inside, list, Answer, got, short, parse, canonical}
use Rattle.table.proofs.Laws.{field_there, view_there}
use Rattle.table.proofs.Longer.{Blind}

-- ---- what ended before the place

pub forward : {X : Type 0} (t : Table X) (bs : List ℕ) (at : ℕ) (x : X) (m : ℕ) → parse t bs at ≡ got x m → at ≤ m
forward (done y) bs at x m e = let z : at ≡ m = cc in omega arith
forward (uint w p k) bs at x m e =
    let i = field_there w p k bs at x m e in
    omega (arith, forward (k (field bs at w)) bs (at + w) x m i.1)
forward (view n p k) bs at x m e =
    let i = view_there n p k bs at x m e in
    omega (arith, forward (k (at / 8)) bs (at + n * 8) x m i.1)
forward (left p k) bs at x m e = forward (k ((length bs - at) / 8)) bs at x m e
forward (must b t) bs at x m e = forward t bs at x m e

field_same : (pre r other : List ℕ) (at w : ℕ) → at + w ≤ length pre → field (pre ++ r) at w ≡ field (pre ++ other) at w
field_same pre r other at w h = ap (num 0) (before r ∙ sym (before other))
  where
    before : (l : List ℕ) → take w (drop at (pre ++ l)) ≡ take w (drop at pre)
    before l = ap (take w) (drop-append-le at pre l (omega arith)) ∙ take-append-le w (drop at pre) l (omega (arith, length-drop at pre))

pub swap : {X : Type 0} (t : Table X) → Blind t → (pre r other : List ℕ) (at : ℕ) (x : X) (m : ℕ) → parse t (pre ++ r) at ≡ got x m → m ≤ length pre → parse t (pre ++ other) at ≡ got x m
swap (done y) b pre r other at x m e h = e
swap (uint w p k) b pre r other at x m e h =
    let i = field_there w p k (pre ++ r) at x m e in
    let f : at + w ≤ m = forward (k (field (pre ++ r) at w)) (pre ++ r) (at + w) x m i.1 in
    let g : leb (at + w) (length (pre ++ other)) ≡ true = le-leb (at + w) (length (pre ++ other)) (omega (arith, length-append pre other)) in
    ap₂ (λ (t : Bool) (v : ℕ). pick t (parse (k v) (pre ++ other) (at + w)) (short (w / 8) ((length (pre ++ other) - at) / 8))) g (sym (field_same pre r other at w (omega arith)))
    ∙ swap (k (field (pre ++ r) at w)) (b (field (pre ++ r) at w)) pre r other (at + w) x m i.1 h
swap (view n p k) b pre r other at x m e h =
    let i = view_there n p k (pre ++ r) at x m e in
    let f : at + n * 8 ≤ m = forward (k (at / 8)) (pre ++ r) (at + n * 8) x m i.1 in
    let g : leb (at + n * 8) (length (pre ++ other)) ≡ true = le-leb (at + n * 8) (length (pre ++ other)) (omega (arith, length-append pre other)) in
    ap (λ (t : Bool). pick t (parse (k (at / 8)) (pre ++ other) (at + n * 8)) (short 1 0)) g
    ∙ swap (k (at / 8)) (b (at / 8)) pre r other (at + n * 8) x m i.1 h
swap (left p k) b pre r other at x m e h = absurd b
swap (must c t) b pre r other at x m e h = swap t b pre r other at x m e h

pub swap_form : {X : Type 0} (t : Table X) → Blind t → (pre r other : List ℕ) (at : ℕ) (x : X) (m : ℕ) → parse t (pre ++ r) at ≡ got x m → m ≤ length pre
    → canonical t (pre ++ other) at ≡ canonical t (pre ++ r) at
swap_form (done y) b pre r other at x m e h = refl
swap_form (uint w p k) b pre r other at x m e h =
    let i = field_there w p k (pre ++ r) at x m e in
    let f : at + w ≤ m = forward (k (field (pre ++ r) at w)) (pre ++ r) (at + w) x m i.1 in
    ap (λ (v : ℕ). canonical (k v) (pre ++ other) (at + w)) (sym (field_same pre r other at w (omega arith)))
    ∙ swap_form (k (field (pre ++ r) at w)) (b (field (pre ++ r) at w)) pre r other (at + w) x m i.1 h
swap_form (view n p k) b pre r other at x m e h = swap_form (k (at / 8)) (b (at / 8)) pre r other (at + n * 8) x m (view_there n p k (pre ++ r) at x m e).1 h
swap_form (left p k) b pre r other at x m e h = absurd b
swap_form (must c t) b pre r other at x m e h = ap (λ (d : Bool). c && d) (swap_form t b pre r other at x m e h)

-- ---- what starts after the place

abbrev pub Sightless : {X : Type 0} → Table X → Type 0
Sightless (done y) = Unit {0}
Sightless (uint w p k) = (v : ℕ) → Sightless (k v)
Sightless (view n p k) = ⊥
Sightless (left p k) = (m : ℕ) → Sightless (k m)
Sightless (must b t) = Sightless t

pub sightless_inside : {X Y : Type 0} (t : Table Y) (q : X → Y) (k : Y → Table X) → Sightless t → ((y : Y) → Sightless (k y)) → Sightless (inside t q k)
sightless_inside (done y) q k h g = g y
sightless_inside (uint w p f) q k h g = λ v. sightless_inside (f v) q k (h v) g
sightless_inside (view n p f) q k h g = absurd h
sightless_inside (left p f) q k h g = λ m. sightless_inside (f m) q k (h m) g
sightless_inside (must b t) q k h g = sightless_inside t q k h g

pub sightless_pick : {X : Type 0} (b : Bool) (t u : Table X) → Sightless t → Sightless u → Sightless (pick b t u)
sightless_pick true t u h g = h
sightless_pick false t u h g = g

abbrev pub later : {X : Type 0} → ℕ → Answer X → Answer X
later n (got x m) = got x (n + m)
later n (short e a) = short e a

module _ (pre r : List ℕ) where
  leb_there : (n : ℕ) → leb (length pre + n) (length (pre ++ r)) ≡ leb n (length r)
  leb_there n = go (leb n (length r)) refl
    where
      go : (t : Bool) → leb n (length r) ≡ t → leb (length pre + n) (length (pre ++ r)) ≡ t
      go true e = le-leb (length pre + n) (length (pre ++ r)) (omega (arith, leb-true n (length r) e, length-append pre r))
      go false e = lt-leb (length pre + n) (length (pre ++ r)) (omega (arith, leb-false n (length r) e, length-append pre r))

  field_there_too : (at w : ℕ) → field (pre ++ r) (length pre + at) w ≡ field r at w
  field_there_too at w = ap (λ (l : List ℕ). num 0 (take w l)) (drop-append-add pre r at)

  left_there : (at : ℕ) → (length (pre ++ r) - (length pre + at)) / 8 ≡ (length r - at) / 8
  left_there at = let z : length (pre ++ r) - (length pre + at) ≡ length r - at = omega (arith, length-append pre r) in ap (λ (n : ℕ). n / 8) z

  later_pick : {X : Type 0} (t : Bool) (a : Answer X) (e c : ℕ) → later (length pre) (pick t a (short e c)) ≡ pick t (later (length pre) a) (short e c)
  later_pick true a e c = refl
  later_pick false a e c = refl

  pub shift : {X : Type 0} (t : Table X) → Sightless t → (at : ℕ) → parse t (pre ++ r) (length pre + at) ≡ later (length pre) (parse t r at)
  shift (done y) h at = refl
  shift (uint w p k) h at =
      let z : length pre + at + w ≡ length pre + (at + w) = omega arith in
      ap (λ (n : ℕ). pick (leb n (length (pre ++ r))) (parse (k (field (pre ++ r) (length pre + at) w)) (pre ++ r) n) (short (w / 8) ((length (pre ++ r) - (length pre + at)) / 8))) z
      ∙ ap₂ (λ (t : Bool) (v : ℕ). pick t (parse (k v) (pre ++ r) (length pre + (at + w))) (short (w / 8) ((length (pre ++ r) - (length pre + at)) / 8))) (leb_there (at + w)) (field_there_too at w)
      ∙ ap₂ (λ (a : Answer _) (n : ℕ). pick (leb (at + w) (length r)) a (short (w / 8) n)) (shift (k (field r at w)) (h (field r at w)) (at + w)) (left_there at)
      ∙ sym (later_pick (leb (at + w) (length r)) (parse (k (field r at w)) r (at + w)) (w / 8) ((length r - at) / 8))
  shift (view n p k) h at = absurd h
  shift (left p k) h at =
      ap (λ (n : ℕ). parse (k n) (pre ++ r) (length pre + at)) (left_there at) ∙ shift (k ((length r - at) / 8)) (h ((length r - at) / 8)) at
  shift (must b t) h at = shift t h at

  pub shift_form : {X : Type 0} (t : Table X) → Sightless t → (at : ℕ) → canonical t (pre ++ r) (length pre + at) ≡ canonical t r at
  shift_form (done y) h at = refl
  shift_form (uint w p k) h at =
      let z : length pre + at + w ≡ length pre + (at + w) = omega arith in
      ap₂ (λ (v n : ℕ). canonical (k v) (pre ++ r) n) (field_there_too at w) z ∙ shift_form (k (field r at w)) (h (field r at w)) (at + w)
  shift_form (view n p k) h at = absurd h
  shift_form (left p k) h at =
      ap (λ (n : ℕ). canonical (k n) (pre ++ r) (length pre + at)) (left_there at) ∙ shift_form (k ((length r - at) / 8)) (h ((length r - at) / 8)) at
  shift_form (must b t) h at = ap (λ (c : Bool). b && c) (shift_form t h at)

-- ---- where a byte begins

-- from a bit that is `a` past a byte's first, to one that is e past it
abbrev pub EndsAt : {X : Type 0} → Table X → ℕ → ℕ → Type 0
EndsAt (done y) a e = a ≡ e
EndsAt (uint w p k) a e = (v : ℕ) → EndsAt (k v) ((a + w) % 8) e
EndsAt (view n p k) a e = (at : ℕ) → EndsAt (k at) a e
EndsAt (left p k) a e = (m : ℕ) → EndsAt (k m) a e
EndsAt (must b t) a e = EndsAt t a e

pub ends_at : {X : Type 0} (t : Table X) (a e : ℕ) → EndsAt t a e → (bs : List ℕ) (at : ℕ) (x : X) (m : ℕ) → at % 8 ≡ a → parse t bs at ≡ got x m → m % 8 ≡ e
ends_at (done y) a e h bs at x m i p = let z : at ≡ m = cc in ap (λ (n : ℕ). n % 8) (sym z) ∙ i ∙ h
ends_at (uint w p k) a e h bs at x m i q =
    let j = field_there w p k bs at x m q in
    ends_at (k (field bs at w)) ((a + w) % 8) e (h (field bs at w)) bs (at + w) x m (omega arith) j.1
ends_at (view n p k) a e h bs at x m i q =
    let j = view_there n p k bs at x m q in
    ends_at (k (at / 8)) a e (h (at / 8)) bs (at + n * 8) x m (omega arith) j.1
ends_at (left p k) a e h bs at x m i q = ends_at (k ((length bs - at) / 8)) a e (h ((length bs - at) / 8)) bs at x m i q
ends_at (must b t) a e h bs at x m i q = ends_at t a e h bs at x m i q

pub ends_inside : {X Y : Type 0} (t : Table Y) (q : X → Y) (k : Y → Table X) (a c e : ℕ) → EndsAt t a c → ((y : Y) → EndsAt (k y) c e) → EndsAt (inside t q k) a e
ends_inside (done y) q k a c e h g = let z : a ≡ c = h in rw z (g y)
ends_inside (uint w p f) q k a c e h g = λ v. ends_inside (f v) q k ((a + w) % 8) c e (h v) g
ends_inside (view n p f) q k a c e h g = λ at. ends_inside (f at) q k a c e (h at) g
ends_inside (left p f) q k a c e h g = λ m. ends_inside (f m) q k a c e (h m) g
ends_inside (must b t) q k a c e h g = ends_inside t q k a c e h g

pub ends_pick : {X : Type 0} (b : Bool) (t u : Table X) (a e : ℕ) → EndsAt t a e → EndsAt u a e → EndsAt (pick b t u) a e
ends_pick true t u a e h g = h
ends_pick false t u a e h g = g

pub ends_list : {Y : Type 0} (n : ℕ) (d : Y) (t : Table Y) (a : ℕ) → EndsAt t a a → EndsAt (list n d t) a a
unfolding list
ends_list zero d t a h = refl
ends_list (suc n) d t a h = ends_inside t _ _ a a a h λ y. ends_inside (list n d t) _ _ a a a (ends_list n d t a h) λ ys. refl
