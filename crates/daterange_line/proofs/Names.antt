-- Names among the attributes of a line.
--     earlier_is       the search before a place answers whether one of the attributes before it has the name
--     repeats_after    a name that stands before it already, attribute by attribute, is a repeated name of the list
use Prim.Native.Nat.{ℕ, zero, suc, ◌+◌, ◌≤◌, ◌<◌}
use mathlib.Core.Bool.{Bool, true, false, ◌||◌, or-false}
use mathlib.Core.List.{List, [], ◌∷◌, ◌++◌, append_assoc}
use mathlib.Core.Path.{◌≡◌, refl, ap, sym, ◌∙◌}
use native.Mathlib.Omega.{arith}
use lib.Dec.{eqb}
use lib.ListN.{length, take, drop, length-append}
use lib.Seq.{drop-drop}
use borrow.Author.Tests.{eq-eqb, ne_eqb, eqb-true, eqb-false, lt-ltb}
use Rattle.table.proofs.Lists.{and_true}
use Rattle.attribute_list.specs.Grammar.{all, Attribute, valid, text_of}
use Rattle.attribute_list.specs.Cutting.{same, cut_of, end_of, some_cut}
use Rattle.daterange_line.specs.Reading.{named, repeats}
use Rattle.daterange_line.specs.Private.{earlier}
use Rattle.attribute_list.proofs.Completes.{Exact, cut_exact, is_quoted, sized}
use Rattle.daterange_line.proofs.Searches.{earlier_end}

-- the text of attributes that each have a comma behind them
unfoldable pub followed : List Attribute → List ℕ
followed [] = []
followed (a ∷ l) = text_of a ++ (0x2C ∷ followed l)

pub followed_length : (l : List Attribute) → length l ≤ length (followed l)
unfolding followed
followed_length [] = omega arith
followed_length (a ∷ l) = omega (arith, length-append (text_of a) (0x2C ∷ followed l), followed_length l)

pub followed_more : (l : List Attribute) (a : Attribute) → followed (l ++ (a ∷ [])) ≡ followed l ++ (text_of a ++ (0x2C ∷ []))
unfolding followed
followed_more [] a = refl
followed_more (b ∷ l) a = rw (followed_more l a) (sym (append_assoc (text_of b) (0x2C ∷ followed l) (text_of a ++ (0x2C ∷ []))))

-- these attributes stand before a place
pub record Before (line : List ℕ) (from at : ℕ) (l : List Attribute) : Type 0 where
  pub each : all valid l ≡ true
  pub text : drop from line ≡ followed l ++ drop at line
  pub place : at ≡ from + length (followed l)

module _ (line : List ℕ) (end : ℕ) (name : List ℕ) where
  earlier_cut : (m : ℕ) (at n : ℕ) (q : Bool) (k : ℕ) → at < end → cut_of (drop at line) ≡ some_cut n q k
      → earlier (suc m) line end name at ≡ same (take n (drop at line)) name || earlier m line end name (at + (end_of n q k + 1))
  unfolding earlier
  earlier_cut m at n q k h e = rw (lt-ltb at end h, e)

  pub earlier_is : (l : List Attribute) (m at : ℕ) → length l ≤ m → Before line at end l → earlier m line end name at ≡ named name l
  unfolding followed named
  earlier_is [] m at h b = earlier_end line end name at m (omega (arith, b.place))
  earlier_is (a ∷ l) zero at h b = absurd (omega arith)
  earlier_is (a ∷ l) (suc m) at h b =
      let both = and_true (valid a) (all valid l) b.each in
      let t = followed l ++ drop end line in
      let n = length a.name in
      let q = is_quoted a.value in
      let k = sized a.value in
      let x : Exact a (0x2C ∷ t) = cut_exact a (0x2C ∷ t) both.0 refl in
      let s : drop at line ≡ text_of a ++ (0x2C ∷ t) = b.text ∙ append_assoc (text_of a) (0x2C ∷ followed l) (drop end line) in
      let c : cut_of (drop at line) ≡ some_cut n q k = ap cut_of s ∙ x.cut in
      let z : take n (drop at line) ≡ a.name = ap (take n) s ∙ ap (λ (y : Attribute). y.name) x.is in
      let d : drop (at + (end_of n q k + 1)) line ≡ t =
      sym (drop-drop (end_of n q k + 1) at line) ∙ ap (drop (end_of n q k + 1)) s ∙ sym (drop-drop 1 (end_of n q k) (text_of a ++ (0x2C ∷ t))) ∙ ap (drop 1) x.rest in
      let p : end ≡ at + (end_of n q k + 1) + length (followed l) = omega (arith, b.place, length-append (text_of a) (0x2C ∷ followed l), x.size) in
      let g : at < end = omega arith in
      earlier_cut m at n q k g c ∙ rw (z, earlier_is l m (at + (end_of n q k + 1)) (omega arith) (record { each = both.1; text = d; place = p }))

-- ---- repeated names

eqb_comm : (x y : ℕ) → eqb x y ≡ eqb y x
eqb_comm x y = go (eqb x y) refl
  where
    go : (t : Bool) → eqb x y ≡ t → t ≡ eqb y x
    go true e = sym (eq-eqb y x (sym (eqb-true x y e)))
    go false e = sym (ne_eqb y x (λ f. eqb-false x y e (sym f)))

pub same_comm : (a b : List ℕ) → same a b ≡ same b a
unfolding same
same_comm [] [] = refl
same_comm [] (y ∷ b) = refl
same_comm (x ∷ a) [] = refl
same_comm (x ∷ a) (y ∷ b) = rw (eqb_comm x y, same_comm a b)

or_swap : (n s c m : Bool) → (n || s) || (c || m) ≡ (n || c) || (s || m)
or_swap true s c m = refl
or_swap false true true m = refl
or_swap false true false m = refl
or_swap false false c m = refl

or_assoc : (a b c : Bool) → a || (b || c) ≡ (a || b) || c
or_assoc true b c = refl
or_assoc false b c = refl

pub named_more : (name : List ℕ) (l : List Attribute) (a : Attribute) → named name (l ++ (a ∷ [])) ≡ named name l || same a.name name
unfolding named
named_more name [] a = or-false (same a.name name)
named_more name (b ∷ l) a = rw (named_more name l a) (or_assoc (same b.name name) (named name l) (same a.name name))

-- a name that stands before it already
unfoldable pub repeats_after : List Attribute → List Attribute → Bool
repeats_after seen [] = false
repeats_after seen (a ∷ l) = named a.name seen || repeats_after (seen ++ (a ∷ [])) l

unfoldable clash : List Attribute → List Attribute → Bool
clash seen [] = false
clash seen (a ∷ l) = named a.name seen || clash seen l

clash_none : (l : List Attribute) → clash [] l ≡ false
unfolding clash named
clash_none [] = refl
clash_none (a ∷ l) = clash_none l

clash_more : (seen : List Attribute) (a : Attribute) (l : List Attribute) → clash (seen ++ (a ∷ [])) l ≡ clash seen l || named a.name l
unfolding clash named
clash_more seen a [] = refl
clash_more seen a (b ∷ l) =
    rw (named_more b.name seen a, clash_more seen a l, same_comm a.name b.name) (or_swap (named b.name seen) (same b.name a.name) (clash seen l) (named a.name l))

after_clash : (seen l : List Attribute) → repeats_after seen l ≡ clash seen l || repeats l
unfolding repeats_after clash repeats
after_clash seen [] = refl
after_clash seen (a ∷ l) = rw (after_clash (seen ++ (a ∷ [])) l, clash_more seen a l) (go (named a.name seen) (clash seen l) (named a.name l) (repeats l))
  where
    go : (n c m r : Bool) → n || ((c || m) || r) ≡ (n || c) || (m || r)
    go true c m r = refl
    go false true m r = refl
    go false false m r = refl

pub repeats_after_lem : (l : List Attribute) → repeats_after [] l ≡ repeats l
repeats_after_lem l = after_clash [] l ∙ rw (clash_none l)
