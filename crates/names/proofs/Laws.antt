-- Laws of every table, each proved once.
use Prim.Native.Nat.{ℕ, ◌≤◌}
use mathlib.Core.Bool.{Bool, true, false, ◌&&◌, cond as pick}
use mathlib.Core.List.{List, [], ◌∷◌}
use mathlib.Core.Logic.{◌⊎◌, ⊎_elim}
use mathlib.Core.Option.{none, some}
use mathlib.Core.Path.{◌≡◌, refl, ap, sym, ◌∙◌}
use native.Mathlib.Omega.{arith}
use lib.Dec.{eqb}
use lib.ListN.{length}
use borrow.Author.Tests.{eqb-true, eq-eqb, ne_eqb}
use Rattle.names.specs.Numbering.{Numbering, number_in, class_in, named, name_of, or, value_of, writable}

and_left : (a b : Bool) → (a && b) ≡ true → a ≡ true
and_left true b e = refl
and_left false b e = e

and_right : (a b : Bool) → (a && b) ≡ true → b ≡ true
and_right true b e = e
and_right false b e = let z : ◌≡◌ {A = ℕ} 0 1 = cc in absurd (omega arith)

-- ---- a number that no name has
module _ {A : Type 0} (number : A → ℕ) (n : ℕ) where
  -- what is known behind the keys of a `match` that has every name
  abbrev pub Missed : Type 0 → List A → Type 0
  Missed N [] = N
  Missed N (x ∷ xs) = Missed (N × (n ≡ number x → ⊥)) xs

  missed : (N : Type 0) (xs : List A) → Missed N xs → N × (name_of number xs n ≡ none)
  missed N [] m = (m, refl)
  missed N (x ∷ xs) m =
      let r = missed (N × (n ≡ number x → ⊥)) xs m in
      (r.0.0, rw (ne_eqb n (number x) r.0.1) r.1)

  pub unnamed : (xs : List A) → Missed (Unit {0}) xs → none ≡ name_of number xs n
  unnamed xs m = sym (missed (Unit {0}) xs m).1

-- ---- what an enum owes
-- a name: its own number stands for it
abbrev pub Name : {A : Type 0} → Numbering A → A → Type 0
Name T x = (value_of T (number_in T x) ≡ x) × (class_in T x ≡ named)

-- a value that carries its number: it is the one of its class
abbrev pub Carried : {A : Type 0} → Numbering A → A → Type 0
Carried T x = (class_in T x ≡ named → ⊥) × (class_in T (T.others (number_in T x)) ≡ class_in T x → T.others (number_in T x) ≡ x)

abbrev pub all_named : {A : Type 0} → (A → ℕ) → List A → Bool
all_named class [] = true
all_named class (x ∷ xs) = eqb (class x) named && all_named class xs

-- `tag` counts the variants in the order of the declaration, the names first
pub record Sound {A : Type 0} (T : Numbering A) (tag : A → ℕ) : Type 0 where
  pub carries : (n : ℕ) → number_in T (T.others n) ≡ n
  pub listed : all_named (class_in T) T.names ≡ true
  pub split : (x : A) → Name T x ⊎ (Carried T x × (length T.names ≤ tag x))

-- ---- what every enum then has
pub record Inverse {A : Type 0} (number : A → ℕ) (value : ℕ → A) (writable : A → Bool) : Type 0 where
  -- the number of what a number stands for is that number, and what it stands for is writable
  pub there : (n : ℕ) → number (value n) ≡ n
  pub is_writable : (n : ℕ) → writable (value n) ≡ true
  -- a value is writable exactly when it is what its own number stands for
  pub back : (x : A) → writable x ≡ true → value (number x) ≡ x
  pub only : (x : A) → value (number x) ≡ x → writable x ≡ true
  -- no two writable values have one number, and no two numbers one value
  pub one_value : (x y : A) → writable x ≡ true → writable y ≡ true → number x ≡ number y → x ≡ y
  pub one_number : (m n : ℕ) → value m ≡ value n → m ≡ n

module _ {A : Type 0} (number : A → ℕ) (n : ℕ) (y : A) where
  found : number y ≡ n → (xs : List A) → number (or (name_of number xs n) y) ≡ n
  found e [] = e
  found e (x ∷ xs) = go (eqb n (number x)) refl (found e xs)
    where
      go : (b : Bool) → eqb n (number x) ≡ b → number (or (name_of number xs n) y) ≡ n
          → number (or (pick b (some x) (name_of number xs n)) y) ≡ n
      go true t r = sym (eqb-true n (number x) t)
      go false t r = r

  left_over : (class : A → ℕ) (xs : List A) → all_named class xs ≡ true → (class (or (name_of number xs n) y) ≡ named → ⊥)
      → or (name_of number xs n) y ≡ y
  left_over class [] t h = refl
  left_over class (x ∷ xs) t h =
      go (eqb n (number x)) h (left_over class xs (and_right (eqb (class x) named) (all_named class xs) t))
    where
      go : (b : Bool) → (class (or (pick b (some x) (name_of number xs n)) y) ≡ named → ⊥)
          → ((class (or (name_of number xs n) y) ≡ named → ⊥) → or (name_of number xs n) y ≡ y)
          → or (pick b (some x) (name_of number xs n)) y ≡ y
      go true k r = absurd (k (eqb-true (class x) named (and_left (eqb (class x) named) (all_named class xs) t)))
      go false k r = r k

module _ {A : Type 0} (T : Numbering A) (tag : A → ℕ) (s : Sound T tag) where
  carried_back : (x : A) → Carried T x → writable T x ≡ true → value_of T (number_in T x) ≡ x
  carried_back x c f =
      let n = number_in T x in
      let k : class_in T (value_of T n) ≡ class_in T x = eqb-true (class_in T (value_of T n)) (class_in T x) f in
      let l : value_of T n ≡ T.others n =
      left_over (number_in T) n (T.others n) (class_in T) T.names s.listed (λ e. c.0 (sym k ∙ e)) in
      l ∙ c.1 (sym (ap (class_in T) l) ∙ k)

  gives_writable : (x : A) → value_of T (number_in T x) ≡ x → writable T x ≡ true
  gives_writable x e = ap (λ y. eqb (class_in T y) (class_in T x)) e ∙ eq-eqb (class_in T x) (class_in T x) refl

  number_there : (n : ℕ) → number_in T (value_of T n) ≡ n
  number_there n = found (number_in T) n (T.others n) (s.carries n) T.names

  writable_back : (x : A) → writable T x ≡ true → value_of T (number_in T x) ≡ x
  writable_back x f = ⊎_elim (λ m. m.0) (λ c. carried_back x c.0 f) (s.split x)

  pub inverse : Inverse (number_in T) (value_of T) (writable T)
  inverse =
      record {
        there = number_there;
        is_writable = λ n. gives_writable (value_of T n) (ap (value_of T) (number_there n));
        back = writable_back;
        only = gives_writable;
        one_value = λ x y f g e. sym (writable_back x f) ∙ ap (value_of T) e ∙ writable_back y g;
        one_number = λ m n e. sym (number_there m) ∙ ap (number_in T) e ∙ number_there n;
      }
