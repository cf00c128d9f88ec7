-- How a table made of tables tells its fields: the fact `tells` that a structure owes.
--     tells_in                                 a table inside another
--     tells_number, tells_flag, tells_ones,
--     tells_part, tells_remaining, tells_list  the tables that others are made of
use Prim.Native.Nat.{ℕ, zero, suc, ◌+◌, ◌*◌, ◌/◌, ◌%◌, ◌^◌, ◌<◌}
use mathlib.Core.Bool.{Bool, true, false}
use mathlib.Core.List.{List, [], ◌∷◌}
use mathlib.Core.Path.{◌≡◌, refl, ap, sym, ◌∙◌}
use native.Mathlib.Omega.{arith}
use lib.ListN.{length, get_or, drop}
use borrow.Author.Tests.{eqb-true}
use Rattle.table.specs.Bits.{pick}
use Rattle.table.specs.Table.{Table, done, uint, view, left, must, inside, flag_number, number, bit, reserved, part, remaining, list, uimsbf, flag, ones}
use Rattle.table.specs.declared.View.{View}
use Rattle.table.proofs.Laws.{Tells}

pub tells_mono : {X : Type 0} (t : Table X) (at : ℕ) (P Q : ℕ → X → Type 0) → ((a : ℕ) (y : X) → P a y → Q a y) → Tells t at P → Tells t at Q
tells_mono (done y) at P Q g f = g at y f
tells_mono (uint w p k) at P Q g f =
    λ v h. tells_mono (k v) (at + w) (λ a y. P a y × (p y ≡ v)) (λ a y. Q a y × (p y ≡ v)) (λ a y z. (g a y z.0, z.1)) (f v h)
tells_mono (view n p k) at P Q g f =
    (f.0, tells_mono (k (at / 8)) (at + n * 8) (λ a y. P a y × (p y ≡ at / 8)) (λ a y. Q a y × (p y ≡ at / 8)) (λ a y z. (g a y z.0, z.1)) f.1)
tells_mono (left p k) at P Q g f =
    λ m. tells_mono (k m) at (λ a y. P a y × (p y ≡ m)) (λ a y. Q a y × (p y ≡ m)) (λ a y z. (g a y z.0, z.1)) (f m)
tells_mono (must b t) at P Q g f = λ e. tells_mono t at P Q g (f e)

-- the outer table after the inner one's reading y: it is found again in the outer reading
abbrev Onward : {X Y : Type 0} → (X → Y) → (Y → Table X) → (ℕ → X → Type 0) → ℕ → Y → Type 0
Onward q k P a y = Tells (k y) a (λ b x. P b x × (q x ≡ y))

-- with one more thing told of the inner reading
onward_more : {X Y : Type 0} (q : X → Y) (k : Y → Table X) (P : ℕ → X → Type 0) (p : Y → ℕ) (v a : ℕ) (y : Y)
    → Onward q k P a y × (p y ≡ v) → Onward q k (λ b x. P b x × (p (q x) ≡ v)) a y
onward_more q k P p v a y z =
    tells_mono (k y) a (λ b x. P b x × (q x ≡ y)) (λ b x. (P b x × (p (q x) ≡ v)) × (q x ≡ y)) (λ b x u. ((u.0, ap p u.1 ∙ z.1), u.1)) z.0

tells_inside : {X Y : Type 0} (t : Table Y) (q : X → Y) (k : Y → Table X) (at : ℕ) (P : ℕ → X → Type 0) → Tells t at (Onward q k P) → Tells (inside t q k) at P
tells_inside (done y) q k at P f = tells_mono (k y) at (λ b x. P b x × (q x ≡ y)) P (λ a x z. z.0) f
tells_inside (uint w p g) q k at P f = λ v h.
    tells_inside (g v) q k (at + w) (λ b x. P b x × (p (q x) ≡ v))
    (tells_mono (g v) (at + w) (λ a y. Onward q k P a y × (p y ≡ v)) (Onward q k (λ b x. P b x × (p (q x) ≡ v))) (onward_more q k P p v) (f v h))
tells_inside (view n p g) q k at P f = (
  f.0,
  tells_inside (g (at / 8)) q k (at + n * 8) (λ b x. P b x × (p (q x) ≡ at / 8))
      (tells_mono (g (at / 8)) (at + n * 8) (λ a y. Onward q k P a y × (p y ≡ at / 8)) (Onward q k (λ b x. P b x × (p (q x) ≡ at / 8))) (onward_more q k P p (at / 8)) f.1),
)
tells_inside (left p g) q k at P f = λ v.
    tells_inside (g v) q k at (λ b x. P b x × (p (q x) ≡ v))
    (tells_mono (g v) at (λ a y. Onward q k P a y × (p y ≡ v)) (Onward q k (λ b x. P b x × (p (q x) ≡ v))) (onward_more q k P p v) (f v))
tells_inside (must b t) q k at P f = λ e. tells_inside t q k at P (f e)

-- a table inside another, of whose reading G is told
pub tells_in : {X Y : Type 0} (t : Table Y) (q : X → Y) (k : Y → Table X) (at : ℕ) (G : ℕ → Y → Type 0) (P : ℕ → X → Type 0)
    → Tells t at G → ((a : ℕ) (y : Y) → G a y → Tells (k y) a (λ b x. P b x × (q x ≡ y))) → Tells (inside t q k) at P
tells_in t q k at G P f g = tells_inside t q k at P (tells_mono t at G (Onward q k P) g f)

pub tells_number : {X : Type 0} (w : ℕ) (p : X → ℕ) (k : ℕ → Table X) (at : ℕ) (P : ℕ → X → Type 0)
    → ((v : ℕ) → v < 2 ^ w → Tells (k v) (at + w) (λ a y. P a y × (p y ≡ v))) → Tells (uimsbf w p k) at P
unfolding number
tells_number w p k at P f = f

pub tells_flag : {X : Type 0} (p : X → Bool) (k : Bool → Table X) (at : ℕ) (P : ℕ → X → Type 0)
    → ((b : Bool) → Tells (k b) (at + 1) (λ a y. P a y × (p y ≡ b))) → Tells (flag p k) at P
unfolding bit
tells_flag p k at P f zero h = tells_mono (k false) (at + 1) _ _ (λ a y z. (z.0, ap flag_number z.1)) (f false)
tells_flag p k at P f (suc zero) h = tells_mono (k true) (at + 1) _ _ (λ a y z. (z.0, ap flag_number z.1)) (f true)
tells_flag p k at P f (suc (suc v)) h = absurd (omega arith)

-- the same by its two cases
pub tells_either : {X : Type 0} (p : X → Bool) (k : Bool → Table X) (at : ℕ) (P : ℕ → X → Type 0)
    → Tells (k true) (at + 1) (λ a y. P a y × (p y ≡ true)) → Tells (k false) (at + 1) (λ a y. P a y × (p y ≡ false)) → Tells (flag p k) at P
tells_either p k at P f g = tells_flag p k at P go
  where
    go : (b : Bool) → Tells (k b) (at + 1) (λ a y. P a y × (p y ≡ b))
    go true = f
    go false = g

pub tells_pick : {X : Type 0} (b : Bool) (t u : Table X) (at : ℕ) (P : ℕ → X → Type 0) → (b ≡ true → Tells t at P) → (b ≡ false → Tells u at P) → Tells (pick b t u) at P
tells_pick true t u at P f g = f refl
tells_pick false t u at P f g = g refl

pub tells_ones : {X : Type 0} (w : ℕ) (t : Table X) (at : ℕ) (P : ℕ → X → Type 0) → Tells t (at + w) P → Tells (ones w t) at P
unfolding reserved
tells_ones w t at P f v h e = tells_mono t (at + w) _ _ (λ a y z. (z, sym (eqb-true _ _ e))) f

pub tells_part : {X : Type 0} (n : ℕ) (q : X → View) (k : View → Table X) (at : ℕ) (P : ℕ → X → Type 0) → at % 8 ≡ 0
    → Tells (k (record { at = at / 8; len = n })) (at + n * 8) (λ a y. P a y × (q y ≡ record { at = at / 8; len = n })) → Tells (inside (part n) q k) at P
unfolding part
tells_part n q k at P e f = (e, tells_mono (k (record { at = at / 8; len = n })) (at + n * 8) _ _ (λ a y z. (z.0, ap (λ (v : View). v.at) z.1)) f)

pub tells_remaining : {X : Type 0} (p : X → ℕ) (k : ℕ → Table X) (at : ℕ) (P : ℕ → X → Type 0)
    → ((m : ℕ) → Tells (k m) at (λ a y. P a y × (p y ≡ m))) → Tells (inside remaining p k) at P
unfolding remaining
tells_remaining p k at P f = f

-- G holds of each
abbrev pub Each : {Y : Type 0} → (Y → Type 0) → List Y → Type 0
Each G [] = Unit {0}
Each G (y ∷ ys) = G y × Each G ys

-- a list of whole bytes
abbrev pub Listed : {Y : Type 0} → (Y → Type 0) → ℕ → ℕ → List Y → Type 0
Listed G n a ys = (a % 8 ≡ 0) × (length ys ≡ n) × Each G ys

pub tells_list : {Y : Type 0} (n : ℕ) (d : Y) (t : Table Y) (G : Y → Type 0) → ((at : ℕ) → at % 8 ≡ 0 → Tells t at (λ a y. (a % 8 ≡ 0) × G y))
    → (at : ℕ) → at % 8 ≡ 0 → Tells (list n d t) at (Listed G n)
unfolding list
tells_list zero d t G f at e = (e, refl, tt)
tells_list (suc n) d t G f at e =
    tells_in t (λ ys. get_or ys 0 d) _ at _ _ (f at e)
    (λ a y g. tells_in (list n d t) (drop 1) _ a _ _ (tells_list n d t G f a g.0) (λ b ys h. (((h.0, ap suc h.1, (g.1, h.2)), refl), refl)))
