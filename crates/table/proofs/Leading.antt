-- Where a value's own fields lead: the fact `ends` that a structure owes.
--     leads_in, leads_done                        a table inside another, and its end
--     leads_number, leads_flag, leads_ones,
--     leads_part, leads_remaining, leads_list     the tables that others are made of
use Prim.Native.Nat.{ℕ, ◌+◌, ◌*◌, ◌-◌, ◌/◌, ◌^◌}
use mathlib.Core.Bool.{Bool, true, false}
use mathlib.Core.List.{List, [], ◌∷◌}
use mathlib.Core.Path.{◌≡◌, refl, ap, sym, subst, ◌∙◌}
use native.Mathlib.Omega.{arith}
use lib.ListN.{length, get_or, drop}
use borrow.Author.Tests.{eq-eqb}
use Rattle.table.specs.Table.{Table, done, inside, number, bit, reserved, part, remaining, list, uimsbf, flag, ones}
use Rattle.table.specs.Writing.{Walk, walk}
use Rattle.table.specs.declared.View.{View}
use Rattle.table.proofs.Telling.{Each}
use Rattle.table.proofs.Walks.{past, Tight, past_append, tight_append, joined, walk_inside}

-- x, written from bit `at` on, leads to y by the canonical form and ends before bit a; m bits come after it
abbrev Lead : {X : Type 0} → Walk X → X → ℕ → ℕ → ℕ → Type 0
Lead w y at a m = (w.value ≡ y) × (w.writable ≡ true) × (past w.fields at ≡ a) × Tight w.fields at m

abbrev pub Leads : {X : Type 0} → Table X → X → X → ℕ → ℕ → ℕ → Type 0
Leads t x y at a m = Lead (walk t x at) y at a m

pub leads_done : {X : Type 0} (x y z : X) (at a m : ℕ) → z ≡ y → at ≡ a → Leads (done z) x y at a m
leads_done x y z at a m e f = (e, refl, f, tt)

lead_join : {X Y : Type 0} (w : Walk Y) (f : Y → ℕ → Walk X) (y : X) (z : Y) (at b a m : ℕ) → Lead w z at b (a - b + m) → Lead (f z b) y b a m
    → Lead (joined w (λ u. f u (past w.fields at))) y at a m
lead_join w f y z at b a m g h =
    let e : f w.value (past w.fields at) ≡ f z b = rw (g.0, g.2) in
    let k : Lead (f w.value (past w.fields at)) y (past w.fields at) a m = rw (e, g.2) h in (
      k.0,
      rw g.1 k.1,
      past_append w.fields (f w.value (past w.fields at)).fields at ∙ k.2,
      tight_append w.fields (f w.value (past w.fields at)).fields at m (rw (k.2, g.2) g.3) k.3,
    )

-- an inner table that ends before bit b, the outer one before bit a
pub leads_in : {X Y : Type 0} (t : Table Y) (q : X → Y) (k : Y → Table X) (x y : X) (z : Y) (at b a m : ℕ)
    → Leads t (q x) z at b (a - b + m) → Leads (k z) x y b a m → Leads (inside t q k) x y at a m
leads_in t q k x y z at b a m g h = rw (walk_inside t q k x at) (lead_join (walk t (q x) at) (λ u c. walk (k u) x c) y z at b a m g h)

pub leads_number : {X : Type 0} (w : ℕ) (p : X → ℕ) (k : ℕ → Table X) (x y : X) (at a m : ℕ) → Leads (k (p x)) x y (at + w) a m → Leads (uimsbf w p k) x y at a m
unfolding number
leads_number w p k x y at a m h = h

leads_bit : (b : Bool) (at m : ℕ) → Leads bit b b at (at + 1) m
unfolding bit
leads_bit true at m = (refl, refl, refl, tt)
leads_bit false at m = (refl, refl, refl, tt)

pub leads_flag : {X : Type 0} (p : X → Bool) (k : Bool → Table X) (x y : X) (at a m : ℕ) → Leads (k (p x)) x y (at + 1) a m → Leads (flag p k) x y at a m
leads_flag p k x y at a m h = leads_in bit p k x y (p x) at (at + 1) a m (leads_bit (p x) at _) h

pub leads_ones : {X : Type 0} (w : ℕ) (t : Table X) (x y : X) (at a m : ℕ) → Leads t x y (at + w) a m → Leads (ones w t) x y at a m
unfolding reserved
leads_ones w t x y at a m h = (h.0, rw (eq-eqb (2 ^ w - 1) (2 ^ w - 1) refl) h.1, h.2, h.3)

pub leads_part : {X : Type 0} (n : ℕ) (q : X → View) (k : View → Table X) (x y : X) (at a m : ℕ)
    → Leads (k (record { at = at / 8; len = n })) x y (at + n * 8) a m → Leads (inside (part n) q k) x y at a m
unfolding part
leads_part n q k x y at a m h = h

-- as many bytes are left as x says
pub leads_remaining : {X : Type 0} (p : X → ℕ) (k : ℕ → Table X) (x y : X) (at a m : ℕ) → p x ≡ (a + m - at) / 8
    → Leads (k (p x)) x y at a m → Leads (inside remaining p k) x y at a m
unfolding remaining
leads_remaining p k x y at a m e h = (h.0, h.1, h.2, (e ∙ ap (λ (b : ℕ). (b + m - at) / 8) (sym h.2), h.3))

-- the bits of a list whose element y has u y
abbrev pub total : {Y : Type 0} → (Y → ℕ) → List Y → ℕ
total u [] = 0
total u (y ∷ ys) = u y + total u ys

pub leads_list : {Y : Type 0} (d : Y) (t : Table Y) (u : Y → ℕ) (ys : List Y) → Each (λ y. (at m : ℕ) → Leads t y y at (at + u y) m) ys
    → (at m : ℕ) → Leads (list (length ys) d t) ys ys at (at + total u ys) m
unfolding list
leads_list d t u [] f at m = leads_done [] [] [] at (at + 0) m refl (omega arith)
leads_list d t u (y ∷ ys) f at m =
    let e : at + u y + total u ys ≡ at + (u y + total u ys) = omega arith in
    leads_in t (λ ys. get_or ys 0 d) _ (y ∷ ys) (y ∷ ys) y at (at + u y) (at + (u y + total u ys)) m (f.0 at _)
    (leads_in (list (length ys) d t) (drop 1) _ (y ∷ ys) (y ∷ ys) ys (at + u y) (at + (u y + total u ys)) (at + (u y + total u ys)) m
    (subst (λ (b : ℕ). Leads (list (length ys) d t) ys ys (at + u y) b (at + (u y + total u ys) - (at + (u y + total u ys)) + m)) e (leads_list d t u ys f.1 (at + u y) _))
    (leads_done (y ∷ ys) (y ∷ ys) (y ∷ ys) _ _ m refl refl))
