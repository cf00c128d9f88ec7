-- Times and adjustments: what was not refused, and what follows from the words of specs/Adjustments.antt alone.
use Prim.Native.Nat.{ℕ, ◌+◌, ◌-◌, ◌%◌, ◌^◌, ◌<◌, ◌≤◌}
use mathlib.Core.Bool.{Bool, true, false}
use mathlib.Core.Path.{◌≡◌, refl, ap, sym, ◌∙◌}
use native.Mathlib.Nat.{add_comm}
use native.Mathlib.Omega.{arith}
use lib.Dec.{eqb, ltb}
use borrow.Author.Tests.{eq-eqb, ne_eqb, lt-ltb, le-ltb, ltb-true, ltb-false, eqb-true, eqb-false}
use Rattle.adjust.proofs.Laws.{adjust_is, adjust_wide, adjust_late, chain_is, chain_first, chain_second, undo_is}
use Rattle.adjust.specs.Adjust.{moved_by, adjust_of, chain_of, undo_of}
use Rattle.c_adjust.specs.FlatAdjust.{flat_moved, flat_adjustment}
use Rattle.c_adjust.specs.declared.FlatAdjustment.{FlatAdjustment}
use Rattle.c_section.specs.Flat.{flat_adjusted}
use Rattle.c_section.specs.declared.headers.FlatAdjusted.{FlatAdjusted}
use Rattle.scte35.specs.FlatNumber.{time_handed}
use Rattle.splice_time.proofs.Times as times
use Rattle.splice_time.specs.Time.{ticks, adjusted_of, too_large}
use Rattle.splice_time.specs.declared.SpliceTime.{SpliceTime}
use Rattle.splice_time.specs.declared.SpliceTime.TheVariants.{Unspecified, At}
use Rattle.table.proofs.Lists.{zero_one}
use Rattle.table.specs.Bits.{pick}
use Rattle.theorems_requests.specs.Adjustments.{TimeOverC, ChainedOverC, Back}
use Rattle.std.proofs.Common.{Ok, Err, Result}
use Rattle.splice_time.specs.declared.TooLarge.{TooLarge}

-- ---- what was not refused

pub moved_so : (t u : SpliceTime) (a : ℕ) → adjust_of t a ≡ Ok u → (a < 2 ^ 33) × (ticks t < 2 ^ 33) × (moved_by a t ≡ u)
unfolding adjust_of
moved_so t u a = go (ltb a (2 ^ 33)) refl (ltb (ticks t) (2 ^ 33)) refl
  where
    go : (f : Bool) → ltb a (2 ^ 33) ≡ f → (g : Bool) → ltb (ticks t) (2 ^ 33) ≡ g
        → pick f (pick g (Ok (moved_by a t)) (Err too_large)) (Err too_large) ≡ Ok u → (a < 2 ^ 33) × (ticks t < 2 ^ 33) × (moved_by a t ≡ u)
    go true f true g e = (ltb-true a (2 ^ 33) f, ltb-true (ticks t) (2 ^ 33) g, cc)
    go true f false g e = zero_one cc
    go false f g k e = zero_one cc

pub chained_so : (a b c : ℕ) → chain_of a b ≡ Ok c → (a < 2 ^ 33) × (b < 2 ^ 33) × ((a + b) % 8589934592 ≡ c)
unfolding chain_of
chained_so a b c = go (ltb a (2 ^ 33)) refl (ltb b (2 ^ 33)) refl
  where
    go : (f : Bool) → ltb a (2 ^ 33) ≡ f → (g : Bool) → ltb b (2 ^ 33) ≡ g
        → pick f (pick g (Ok ((a + b) % 8589934592)) (Err too_large)) (Err too_large) ≡ Ok c → (a < 2 ^ 33) × (b < 2 ^ 33) × ((a + b) % 8589934592 ≡ c)
    go true f true g e = (ltb-true a (2 ^ 33) f, ltb-true b (2 ^ 33) g, cc)
    go true f false g e = zero_one cc
    go false f g k e = zero_one cc

pub chain_either : (a b : ℕ) → chain_of a b ≡ chain_of b a
unfolding chain_of
chain_either a b = go (ltb a (2 ^ 33)) (ltb b (2 ^ 33))
  where
    go : (f g : Bool) → pick f (pick g (Ok ((a + b) % 8589934592)) (Err too_large)) (Err too_large)
        ≡ pick g (pick f (Ok ((b + a) % 8589934592)) (Err too_large)) (Err too_large)
    go true true = ap (λ (n : ℕ). Ok (n % 8589934592)) (add_comm a b)
    go true false = refl
    go false true = refl
    go false false = refl

pub undone : (a : ℕ) → a < 2 ^ 33 → (u : ℕ) × (undo_of a ≡ Ok u) × Back a u
undone a h = let u = (8589934592 - a) % 8589934592 in (u, undo_is a h, record { fits = omega arith; back = omega arith })

-- ---- over C: the words of a time and of adjustments

handed_at : (kind ticks : ℕ) → kind ≡ 3 → time_handed kind ticks ≡ At ticks
handed_at kind ticks e = rw (eq-eqb kind 3 e)

handed_other : (kind ticks : ℕ) → (kind ≡ 3 → ⊥) → ticks < 2 ^ 33 → time_handed kind ticks ≡ Unspecified
handed_other kind ticks n h = rw (ne_eqb kind 3 n, lt-ltb ticks (2 ^ 33) h)

handed_late : (kind ticks : ℕ) → 2 ^ 33 ≤ ticks → time_handed kind ticks ≡ At ticks
handed_late kind ticks h = go (eqb kind 3) (ltb ticks (2 ^ 33)) (le-ltb ticks (2 ^ 33) h)
  where
    go : (b f : Bool) → f ≡ false → pick b (At ticks) (pick f Unspecified (At ticks)) ≡ At ticks
    go true f e = refl
    go false f e = rw e

module _ (kind ticks a : ℕ) where
  pub moves_over_c : TimeOverC kind kind ticks a (flat_moved kind (adjust_of (time_handed kind ticks) a))
  unfolding flat_moved
  moves_over_c = record {
    specified = λ e h k. ap (λ (t : SpliceTime). flat_moved kind (adjust_of t a)) (handed_at kind ticks e) ∙ ap (flat_moved kind) (adjust_is (At ticks) a k h);
    stays = λ n h k. ap (λ (t : SpliceTime). flat_moved kind (adjust_of t a)) (handed_other kind ticks n h) ∙ ap (flat_moved kind) (adjust_is Unspecified a k (omega arith));
    late = λ k h. ap (λ (t : SpliceTime). flat_moved kind (adjust_of t a)) (handed_late kind ticks h) ∙ ap (flat_moved kind) (adjust_late (At ticks) a k h);
    wide = λ k. ap (flat_moved kind) (adjust_wide (time_handed kind ticks) a k);
  }

  pub adjusts_over_c : TimeOverC 0 kind ticks a (flat_adjusted (adjusted_of (time_handed kind ticks) a))
  unfolding flat_adjusted
  adjusts_over_c = record {
    specified = λ e h k. ap (λ (t : SpliceTime). flat_adjusted (adjusted_of t a)) (handed_at kind ticks e) ∙ ap flat_adjusted (sym (times.adjust_at a k (At ticks) ticks refl h));
    stays = λ n h k. ap (λ (t : SpliceTime). flat_adjusted (adjusted_of t a)) (handed_other kind ticks n h) ∙ ap flat_adjusted (times.adjusted_none a k).0;
    late = λ k h. ap (λ (t : SpliceTime). flat_adjusted (adjusted_of t a)) (handed_late kind ticks h) ∙ ap flat_adjusted ((times.adjusted_wide ticks a).1 k h);
    wide = λ k. ap flat_adjusted ((times.adjusted_wide ticks a).0 k (time_handed kind ticks));
  }

pub chains_over_c : (a b : ℕ) → ChainedOverC a b (flat_adjustment (chain_of a b))
unfolding flat_adjustment
chains_over_c a b = record {
  one = λ h k. ap flat_adjustment (chain_is a b h k);
  first_wide = λ h. ap flat_adjustment (chain_first a b h);
  second_wide = λ h k. ap flat_adjustment (chain_second a b h k);
}

pub undoes_over_c : (a : ℕ) → a < 2 ^ 33 → ((flat_adjustment (undo_of a)).refusal ≡ 0) × Back a (flat_adjustment (undo_of a)).adjustment
unfolding flat_adjustment
undoes_over_c a h = let u = undone a h in rw u.1 (refl, u.2)

pub adjustment_over_c : (x : Result ℕ TooLarge) (f : FlatAdjustment) → f ≡ flat_adjustment x → f.refusal ≡ 0 → x ≡ Ok f.adjustment
unfolding flat_adjustment
adjustment_over_c (Ok a) f e z = ap Ok (sym (ap (λ (v : FlatAdjustment). v.adjustment) e))
adjustment_over_c (Err too_large) f e z = let q : f.refusal ≡ 32 = ap (λ (v : FlatAdjustment). v.refusal) e in absurd (omega (arith, q, z))

-- ---- what follows from the words alone

abbrev time : ℕ → FlatAdjusted
time n = record { refusal = 0; kind = 3; ticks = n }

-- a time that is not refused had numbers of 33 bits
pub not_wide : {other kind ticks a : ℕ} {f : FlatAdjusted} → TimeOverC other kind ticks a f → f.refusal ≡ 0 → (ticks < 2 ^ 33) × (a < 2 ^ 33)
not_wide {ticks = ticks} {a = a} {f = f} m e = go (ltb a (2 ^ 33)) refl (ltb ticks (2 ^ 33)) refl
  where
    go : (x : Bool) → ltb a (2 ^ 33) ≡ x → (y : Bool) → ltb ticks (2 ^ 33) ≡ y → (ticks < 2 ^ 33) × (a < 2 ^ 33)
    go true x true y = (ltb-true ticks (2 ^ 33) y, ltb-true a (2 ^ 33) x)
    go true x false y =
        let z : f.refusal ≡ 32 = ap (λ (v : FlatAdjusted). v.refusal) (m.late (ltb-true a (2 ^ 33) x) (ltb-false ticks (2 ^ 33) y)) in
        absurd (omega (arith, z, e))
    go false x b y = let z : f.refusal ≡ 32 = ap (λ (v : FlatAdjusted). v.refusal) (m.wide (ltb-false a (2 ^ 33) x)) in absurd (omega (arith, z, e))

-- of a specified time both functions answer the same; of another only the kind differs
pub one_time : {other another kind ticks a : ℕ} {f g : FlatAdjusted} → TimeOverC other kind ticks a f → TimeOverC another kind ticks a g
    → (kind ≡ 3 → f ≡ g) × (f.refusal ≡ g.refusal) × (f.ticks ≡ g.ticks)
one_time {kind = kind} {ticks = ticks} {a = a} {f = f} {g = g} m n = go (ltb a (2 ^ 33)) refl (ltb ticks (2 ^ 33)) refl (eqb kind 3) refl
  where
    same : f ≡ g → (kind ≡ 3 → f ≡ g) × (f.refusal ≡ g.refusal) × (f.ticks ≡ g.ticks)
    same e = (λ k. e, ap (λ (v : FlatAdjusted). v.refusal) e, ap (λ (v : FlatAdjusted). v.ticks) e)

    go : (x : Bool) → ltb a (2 ^ 33) ≡ x → (y : Bool) → ltb ticks (2 ^ 33) ≡ y → (z : Bool) → eqb kind 3 ≡ z → (kind ≡ 3 → f ≡ g) × (f.refusal ≡ g.refusal) × (f.ticks ≡ g.ticks)
    go false x y h z k = let l = ltb-false a (2 ^ 33) x in same (m.wide l ∙ sym (n.wide l))
    go true x false h z k = let l = ltb-true a (2 ^ 33) x in let t = ltb-false ticks (2 ^ 33) h in same (m.late l t ∙ sym (n.late l t))
    go true x true h true k =
        let l = ltb-true a (2 ^ 33) x in let t = ltb-true ticks (2 ^ 33) h in let i = eqb-true kind 3 k in same (m.specified i t l ∙ sym (n.specified i t l))
    go true x true h false k =
        let l = ltb-true a (2 ^ 33) x in
        let t = ltb-true ticks (2 ^ 33) h in
        let i = eqb-false kind 3 k in
        let p = m.stays i t l in
        let q = n.stays i t l in (
          λ e. absurd (i e),
          ap (λ (v : FlatAdjusted). v.refusal) p ∙ sym (ap (λ (v : FlatAdjusted). v.refusal) q),
          ap (λ (v : FlatAdjusted). v.ticks) p ∙ sym (ap (λ (v : FlatAdjusted). v.ticks) q),
        )

-- by a and then by b, of a specified time, is once by their chain
pub twice_specified : {o q r kind ticks a b : ℕ} {f g h : FlatAdjusted} {c : FlatAdjustment} → kind ≡ 3 → TimeOverC o kind ticks a f → f.refusal ≡ 0
    → TimeOverC q f.kind f.ticks b g → g.refusal ≡ 0 → ChainedOverC a b c → TimeOverC r kind ticks c.adjustment h → h ≡ g
twice_specified {kind = kind} {ticks = ticks} {a = a} {b = b} {f = f} {g = g} {h = h} {c = c} three m e n d chained once =
    let l = not_wide m e in
    let k = not_wide n d in
    let first : f ≡ time ((ticks + a) % 8589934592) = m.specified three l.0 l.1 in
    let second : g ≡ time ((f.ticks + b) % 8589934592) = n.specified (ap (λ (v : FlatAdjusted). v.kind) first) k.0 k.1 in
    let moved : f.ticks ≡ (ticks + a) % 8589934592 = ap (λ (v : FlatAdjusted). v.ticks) first in
    let sum : c.adjustment ≡ (a + b) % 8589934592 = ap (λ (v : FlatAdjustment). v.adjustment) (chained.one l.1 k.1) in
    let fits : c.adjustment < 2 ^ 33 = omega (arith, sum) in
    let same : (ticks + c.adjustment) % 8589934592 ≡ (f.ticks + b) % 8589934592 = rw (moved, sum) (sums ticks a b) in
    once.specified three l.0 fits ∙ ap time same ∙ sym second
  where
    sums : (t x y : ℕ) → (t + (x + y) % 8589934592) % 8589934592 ≡ ((t + x) % 8589934592 + y) % 8589934592
    sums t x y = omega arith

-- and of a time that is not, its kind stays each time
pub twice_other : {kind ticks a b : ℕ} {f g h : FlatAdjusted} {c : FlatAdjustment} → (kind ≡ 3 → ⊥) → TimeOverC kind kind ticks a f → f.refusal ≡ 0
    → TimeOverC f.kind f.kind f.ticks b g → g.refusal ≡ 0 → ChainedOverC a b c → TimeOverC kind kind ticks c.adjustment h → h ≡ g
twice_other {kind = kind} {ticks = ticks} {a = a} {b = b} {f = f} {g = g} {h = h} {c = c} none m e n d chained once =
    let l = not_wide m e in
    let k = not_wide n d in
    let first : f ≡ record { refusal = 0; kind = kind; ticks = 0 } = m.stays none l.0 l.1 in
    let its : f.kind ≡ kind = ap (λ (v : FlatAdjusted). v.kind) first in
    let sum : c.adjustment ≡ (a + b) % 8589934592 = ap (λ (v : FlatAdjustment). v.adjustment) (chained.one l.1 k.1) in
    let fits : c.adjustment < 2 ^ 33 = omega (arith, sum) in
    once.stays none l.0 fits ∙ ap (λ (x : ℕ). record { refusal = 0; kind = x; ticks = 0 }) (sym its) ∙ sym (n.stays (λ z. none (sym its ∙ z)) k.0 k.1)

-- by a and then by what takes it back
pub back_specified : {o q kind ticks a u : ℕ} {f g : FlatAdjusted} → kind ≡ 3 → TimeOverC o kind ticks a f → f.refusal ≡ 0 → Back a u
    → TimeOverC q f.kind f.ticks u g → g ≡ record { refusal = 0; kind = 3; ticks = ticks }
back_specified {ticks = ticks} {a = a} {u = u} {f = f} three m e w n =
    let l = not_wide m e in
    let first : f ≡ time ((ticks + a) % 8589934592) = m.specified three l.0 l.1 in
    let moved : f.ticks ≡ (ticks + a) % 8589934592 = ap (λ (v : FlatAdjusted). v.ticks) first in
    let fits : f.ticks < 2 ^ 33 = omega (arith, moved) in
    n.specified (ap (λ (v : FlatAdjusted). v.kind) first) fits w.fits ∙ ap time (ap (λ (x : ℕ). (x + u) % 8589934592) moved ∙ sums ticks a u l.0 w.back)
  where
    sums : (t x y : ℕ) → t < 8589934592 → (x + y) % 8589934592 ≡ 0 → ((t + x) % 8589934592 + y) % 8589934592 ≡ t
    sums t x y h z = omega (arith, z)
