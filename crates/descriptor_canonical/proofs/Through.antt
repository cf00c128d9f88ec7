-- A table that is read and canonical, field by field: its test is that of the first field, and then that of the rest. s are the bytes, `at` the bit.
--     through_number, through_flag, ..     a field: its bits are there, and then the rest
--     through_ones                         reserved bits are there, and are 1
--     through_in, through_list             an inner table, and a list
use Prim.Native.Nat.{ℕ, suc, ◌+◌, ◌*◌, ◌-◌, ◌/◌, ◌^◌, ◌≤◌}
use mathlib.Core.Bool.{Bool, true, false, ◌&&◌}
use mathlib.Core.List.{List, [], ◌∷◌}
use mathlib.Core.Path.{◌≡◌, refl, ap, ap₂, sym, ◌∙◌}
use native.Mathlib.Omega.{arith}
use lib.Dec.{leb, eqb}
use lib.ListN.{length, drop, get_or}
use borrow.Author.Tests.{leb-true, le-leb, eqb-true, eq-eqb}
use Rattle.table.specs.Bits.{pick, bits_of, field}
use Rattle.table.specs.Table.{Table, must, inside, number, bit, reserved, part, remaining, list, uimsbf, flag, ones, Answer, got, short, parse, canonical, takes_all, canonical_by}
use Rattle.table.specs.declared.View.{View}
use Rattle.table.proofs.Bits.{length_bits}
use Rattle.table.proofs.Lists.{and_true}
use Rattle.table.proofs.Steps.{takes_in, lacks_in, canonical_inside}

abbrev pub joined : {Y : Type 0} → (Y → ℕ → Bool) → Answer Y → Bool → Bool
joined f (got y m) c = c && f y m
joined f (short e a) c = false

-- t is read from bit `at` on, it is canonical, and f holds of the reading and of the bit after it
abbrev pub through : {Y : Type 0} → Table Y → List ℕ → ℕ → (Y → ℕ → Bool) → Bool
through t bs at f = joined f (parse t bs at) (canonical t bs at)

pull : {Y : Type 0} (f : Y → ℕ → Bool) (r : Answer Y) (a b : Bool) → joined f r (a && b) ≡ a && joined f r b
pull f (got y m) true b = refl
pull f (got y m) false b = refl
pull f (short e x) true b = refl
pull f (short e x) false b = refl

there : {Y : Type 0} (f : Y → ℕ → Bool) (r : Answer Y) (a c : Bool) (x y : ℕ) → joined f (pick a r (short x y)) c ≡ a && joined f r c
there f r true c x y = refl
there f r false c x y = refl

-- ---- by its table alone
pub by_through : {X : Type 0} (t : Table X) (s : List ℕ) → canonical_by t s ≡ through t (bits_of s) 0 (λ x m. eqb m (length s * 8))
unfolding canonical_by
by_through t s = go (parse t (bits_of s) 0) (canonical t (bits_of s) 0)
  where
    turn : (a c : Bool) → a && c ≡ c && a
    turn true true = refl
    turn true false = refl
    turn false true = refl
    turn false false = refl

    go : {X : Type 0} (r : Answer X) (c : Bool) → takes_all r s && c ≡ joined (λ x m. eqb m (length s * 8)) r c
    go (got x m) c = turn (eqb m (length s * 8)) c
    go (short e a) c = refl

-- ---- inner tables
pub through_in : {X Y : Type 0} (t : Table Y) (q : X → Y) (k : Y → Table X) (bs : List ℕ) (at : ℕ) (f : X → ℕ → Bool)
    → through (inside t q k) bs at f ≡ through t bs at (λ y m. through (k y) bs m f)
through_in {X} {Y} t q k bs at f = go (parse t bs at) refl
  where
    go : (r : Answer Y) → parse t bs at ≡ r → joined f (parse (inside t q k) bs at) (canonical (inside t q k) bs at) ≡ joined (λ y m. through (k y) bs m f) r (canonical t bs at)
    go (got y m) e =
        ap₂ (joined f) (takes_in t q k bs at y m e) (canonical_inside t q k bs at y m e)
        ∙ pull f (parse (k y) bs m) (canonical t bs at) (canonical (k y) bs m)
    go (short d a) e = ap (λ (r : Answer X). joined f r (canonical (inside t q k) bs at)) (lacks_in t q k bs at d a e)

-- the same test of what follows
pub through_same : {Y : Type 0} (t : Table Y) (bs : List ℕ) (at : ℕ) (f g : Y → ℕ → Bool) → ((y : Y) (m : ℕ) → f y m ≡ g y m) → through t bs at f ≡ through t bs at g
through_same {Y} t bs at f g h = go (parse t bs at) (canonical t bs at)
  where
    go : (r : Answer Y) (c : Bool) → joined f r c ≡ joined g r c
    go (got y m) c = ap (λ (b : Bool). c && b) (h y m)
    go (short e a) c = refl

pub through_must : {X : Type 0} (b : Bool) (t : Table X) (bs : List ℕ) (at : ℕ) (f : X → ℕ → Bool) → through (must b t) bs at f ≡ b && through t bs at f
through_must b t bs at f = pull f (parse t bs at) b (canonical t bs at)

pub through_list : {Y : Type 0} (n : ℕ) (d : Y) (t : Table Y) (bs : List ℕ) (at : ℕ) (f : List Y → ℕ → Bool)
    → through (list (suc n) d t) bs at f ≡ through t bs at (λ y m. through (list n d t) bs m (λ ys k. f (y ∷ ys) k))
unfolding list
through_list n d t bs at f =
    through_in t (λ ys. get_or ys 0 d) _ bs at f
    ∙ through_same t bs at _ _ (λ y m. through_in (list n d t) (drop 1) _ bs m f)

pub through_none : {Y : Type 0} (d : Y) (t : Table Y) (bs : List ℕ) (at : ℕ) (f : List Y → ℕ → Bool) → through (list 0 d t) bs at f ≡ f [] at
unfolding list
through_none d t bs at f = refl

-- ---- fields
module _ {X : Type 0} (s : List ℕ) (at : ℕ) (f : X → ℕ → Bool) where
  pub through_number : (w : ℕ) (p : X → ℕ) (k : ℕ → Table X)
      → through (uimsbf w p k) (bits_of s) at f ≡ leb (at + w) (length s * 8) && through (k (field (bits_of s) at w)) (bits_of s) (at + w) f
  unfolding number
  through_number w p k =
      there f (parse (k (field (bits_of s) at w)) (bits_of s) (at + w)) (leb (at + w) (length (bits_of s))) _ _ _
      ∙ ap (λ (n : ℕ). leb (at + w) n && through (k (field (bits_of s) at w)) (bits_of s) (at + w) f) (length_bits s)

  pub through_flag : (p : X → Bool) (k : Bool → Table X)
      → through (flag p k) (bits_of s) at f ≡ leb (at + 1) (length s * 8) && through (k (eqb (field (bits_of s) at 1) 1)) (bits_of s) (at + 1) f
  unfolding bit
  through_flag p k =
      there f (parse (k (eqb (field (bits_of s) at 1) 1)) (bits_of s) (at + 1)) (leb (at + 1) (length (bits_of s))) _ _ _
      ∙ ap (λ (n : ℕ). leb (at + 1) n && through (k (eqb (field (bits_of s) at 1) 1)) (bits_of s) (at + 1) f) (length_bits s)

  pub through_ones : (w : ℕ) (t : Table X)
      → through (ones w t) (bits_of s) at f ≡ leb (at + w) (length s * 8) && (eqb (field (bits_of s) at w) (2 ^ w - 1) && through t (bits_of s) (at + w) f)
  unfolding reserved
  through_ones w t =
      let b : Bool = eqb (field (bits_of s) at w) (2 ^ w - 1) in
      there f (parse t (bits_of s) (at + w)) (leb (at + w) (length (bits_of s))) _ _ _
      ∙ ap₂ (λ (n : ℕ) (c : Bool). leb (at + w) n && c) (length_bits s) (pull f (parse t (bits_of s) (at + w)) b (canonical t (bits_of s) (at + w)))

  pub through_part : (n : ℕ) (q : X → View) (k : View → Table X)
      → through (inside (part n) q k) (bits_of s) at f ≡ leb (at + n * 8) (length s * 8) && through (k (record { at = at / 8; len = n })) (bits_of s) (at + n * 8) f
  unfolding part
  through_part n q k =
      there f (parse (k (record { at = at / 8; len = n })) (bits_of s) (at + n * 8)) (leb (at + n * 8) (length (bits_of s))) _ _ _
      ∙ ap (λ (m : ℕ). leb (at + n * 8) m && through (k (record { at = at / 8; len = n })) (bits_of s) (at + n * 8) f) (length_bits s)

  pub through_remaining : (p : X → ℕ) (k : ℕ → Table X) → through (inside remaining p k) (bits_of s) at f ≡ through (k ((length s * 8 - at) / 8)) (bits_of s) at f
  unfolding remaining
  through_remaining p k = ap (λ (n : ℕ). through (k ((n - at) / 8)) (bits_of s) at f) (length_bits s)

-- ---- tests in a row
-- a test that a later one implies
pub implied : (a x : Bool) → (x ≡ true → a ≡ true) → a && x ≡ x
implied true x h = refl
implied false true h = h refl
implied false false h = refl

-- what follows a test that holds
pub guarded : (a x y : Bool) → (a ≡ true → x ≡ y) → a && x ≡ a && y
guarded true x y h = h refl
guarded false x y h = refl

-- two tests that hold together
pub same_test : (a b : Bool) → (a ≡ true → b ≡ true) → (b ≡ true → a ≡ true) → a ≡ b
same_test true b f g = sym (f refl)
same_test false true f g = g refl
same_test false false f g = refl

pub under : (a : Bool) {x y : Bool} → x ≡ y → a && x ≡ a && y
under a e = ap (λ (b : Bool). a && b) e

pub over : {a b : Bool} → a ≡ b → (x : Bool) → a && x ≡ b && x
over e x = ap (λ (b : Bool). b && x) e

-- bits that are there where later ones are
pub drops : (a b n : ℕ) (x : Bool) → a ≤ b → leb a n && (leb b n && x) ≡ leb b n && x
drops a b n x h = implied (leb a n) (leb b n && x) (λ e. le-leb a n (omega (arith, h, leb-true b n (and_true (leb b n) x e).0)))

-- bits and bytes
pub leb_bytes : (a k n : ℕ) → a ≡ k * 8 → leb a (n * 8) ≡ leb k n
leb_bytes a k n z =
    same_test (leb a (n * 8)) (leb k n)
    (λ e. le-leb k n (omega (arith, z, leb-true a (n * 8) e)))
    (λ e. le-leb a (n * 8) (omega (arith, z, leb-true k n e)))

pub eqb_bytes : (a k n : ℕ) → a ≡ k * 8 → eqb a (n * 8) ≡ eqb n k
eqb_bytes a k n z =
    same_test (eqb a (n * 8)) (eqb n k)
    (λ e. eq-eqb n k (omega (arith, z, eqb-true a (n * 8) e)))
    (λ e. eq-eqb a (n * 8) (omega (arith, z, eqb-true n k e)))

-- a table that ends there
pub ends_there : (a b n : ℕ) → a ≤ b → leb a n && eqb b n ≡ eqb b n
ends_there a b n h = implied (leb a n) (eqb b n) (λ e. le-leb a n (omega (arith, h, eqb-true b n e)))
