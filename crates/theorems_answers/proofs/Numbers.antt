-- What is answered of a named number over C goes by the numbers that have a name: one law for every table of names, and one for the numbers that are else
-- refused.
use Prim.Native.Nat.{ℕ}
use mathlib.Core.Bool.{Bool, true, false}
use mathlib.Core.List.{List, [], ◌∷◌, map}
use mathlib.Core.Option.{some}
use mathlib.Core.Path.{◌≡◌, refl, ap, ap₂, sym, ◌∙◌}
use lib.Dec.{eqb}
use borrow.Author.Tests.{eqb-true}
use Rattle.names.specs.Flags.{Answer, gives, or_12}
use Rattle.names.specs.Numbering.{Numbering, number_in, class_in, named, name_of, or, value_of}
use Rattle.names.proofs.FlagLaws.{Flags}
use Rattle.names.proofs.Laws.{all_named, Inverse}
use Rattle.scte35.specs.FlatNumber.{flat_name, flat_answer}
use Rattle.table.specs.Bits.{pick}
use Rattle.table.proofs.Lists.{and_true}
use Rattle.theorems_answers.specs.Numbers.{among, classed, or_twelve, Numbered, Flagged}

module _ {A : Type 0} (T : Numbering A) (n : ℕ) where
  -- class 0 where a name has the number, and else that of the value which carries it
  by_name : (xs : List A) → all_named (class_in T) xs ≡ true
      → class_in T (or (name_of (number_in T) xs n) (T.others n)) ≡ pick (among n (map (number_in T) xs)) 0 (class_in T (T.others n))
  by_name [] e = refl
  by_name (x ∷ xs) e =
      let a = and_true (eqb (class_in T x) named) (all_named (class_in T) xs) e in
      go (eqb n (number_in T x)) (eqb-true (class_in T x) named a.0) (by_name xs a.1)
    where
      go : (b : Bool) → class_in T x ≡ 0 → class_in T (or (name_of (number_in T) xs n) (T.others n)) ≡ pick (among n (map (number_in T) xs)) 0 (class_in T (T.others n))
          → class_in T (or (pick b (some x) (name_of (number_in T) xs n)) (T.others n)) ≡ pick (pick b true (among n (map (number_in T) xs))) 0 (class_in T (T.others n))
      go true c r = c
      go false c r = r

  pub name_classed : (names : List ℕ) (other : ℕ) → all_named (class_in T) T.names ≡ true → map (number_in T) T.names ≡ names → class_in T (T.others n) ≡ other
      → number_in T (value_of T n) ≡ n → flat_name T.entry (value_of T n) ≡ classed names other n
  name_classed names other listed e o there =
      ap₂ (λ (c k : ℕ). record { refusal = 0; class = c; number = k }) (by_name T.names listed ∙ ap₂ (λ (ks : List ℕ) (c : ℕ). pick (among n ks) 0 c) e o) there

pub flag_answered : {A : Type 0} (number : A → ℕ) (xs : List A) (n : ℕ) → flat_answer number (or_12 (name_of number xs n)) ≡ or_twelve (map number xs) n
flag_answered number [] n = refl
flag_answered number (x ∷ xs) n = go (eqb n (number x)) refl (flag_answered number xs n)
  where
    go : (b : Bool) → eqb n (number x) ≡ b → flat_answer number (or_12 (name_of number xs n)) ≡ or_twelve (map number xs) n
        → flat_answer number (or_12 (pick b (some x) (name_of number xs n)))
        ≡ pick (pick b true (among n (map number xs))) (record { refusal = 0; class = 0; number = n }) (record { refusal = 12; class = 0; number = 0 })
    go true e r = ap (λ (k : ℕ). record { refusal = 0; class = 0; number = k }) (sym (eqb-true n (number x) e))
    go false e r = r

-- ---- in Rattle

pub numbered : {A : Type 0} {number : A → ℕ} {value : ℕ → A} {writable : A → Bool} {From : ℕ → A → Type 0} {Id : A → ℕ → Type 0} {Writable : A → Bool → Type 0} → Inverse number value writable
    → ((n : ℕ) (x : A) → From n x → x ≡ value n) → ((x : A) (k : ℕ) → Id x k → k ≡ number x) → ((x : A) (b : Bool) → Writable x b → b ≡ writable x) → Numbered From Id Writable
numbered {number = number} {value = value} laws from id is = record {
  number = λ n k x f i. id x k i ∙ ap number (from n x f) ∙ laws.there n;
  own = λ x y k w i f. from k y f ∙ ap value (id x k i) ∙ laws.back x (sym (is x true w));
  only = λ x k b i f w. is x b w ∙ laws.only x (sym (from k x f ∙ ap value (id x k i)));
}

pub flagged : {A : Type 0} {number : A → ℕ} {of : ℕ → Answer A} {count : ℕ} {From : ℕ → Answer A → Type 0} {Number : A → ℕ → Type 0} → Flags number of count
    → ((n : ℕ) (r : Answer A) → From n r → r ≡ of n) → ((x : A) (k : ℕ) → Number x k → k ≡ number x) → Flagged From Number count
flagged {of = of} laws from id = record {
  number = λ n k x f i. id x k i ∙ laws.there n x (sym (from n (gives x) f));
  own = λ x k r i f. from k r f ∙ ap of (id x k i) ∙ laws.back x;
  refused = λ n r f h. from n r f ∙ laws.refused n h;
}
