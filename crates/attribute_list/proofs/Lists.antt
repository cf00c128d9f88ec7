-- The list of attributes of a text.
--     attributes_sound     what the cutting finds is a list by the grammar, with that text
--     attributes_exact     a list by the grammar is found from its text
use Prim.Native.Nat.{ℕ, zero, suc, ◌+◌, ◌≤◌, ◌<◌}
use mathlib.Core.Bool.{Bool, true, false}
use mathlib.Core.List.{List, [], ◌∷◌, ◌++◌}
use mathlib.Core.Path.{◌≡◌, refl, ap, sym, ◌∙◌}
use native.Mathlib.Omega.{arith}
use lib.Dec.{eqb, eqb-suc-zero}
use lib.ListN.{length, take, drop, length-append, take-append-drop}
use lib.Seq.{drop-drop}
use borrow.Author.Tests.{eqb-true, eqb-false}
use Rattle.table.specs.Bits.{pick}
use Rattle.table.proofs.Lists.{and_true, zero_one}
use Rattle.attribute_list.specs.Grammar.{all, Attribute, valid, value_text, text_of, later_text, list_text, tag, Line}
use Rattle.attribute_list.specs.Cutting.{same, closed, cut_of, end_of, attribute_in, consed, attributes_by, attributes_from, attributes_of}
use Rattle.attribute_list.specs.declared.cutting.Cut.{Cut}
use Rattle.attribute_list.proofs.Completes.{Complete, Sound, cut_sound, Exact, cut_exact, is_quoted, sized}
use Rattle.std.specs.Prelude.{Option, Some, None}

pub record Listed (l : List Attribute) (s : List ℕ) : Type 0 where
  pub some : 0 < length l
  pub each : all valid l ≡ true
  pub text : list_text l ≡ s

-- ---- a list and its text

pub later_list : (l : List Attribute) → 0 < length l → later_text l ≡ 0x2C ∷ list_text l
unfolding later_text list_text
later_list [] h = absurd (omega arith)
later_list (a ∷ l) h = refl

pub comma : (r : List ℕ) → closed r ≡ true → eqb (length r) 0 ≡ false → r ≡ 0x2C ∷ drop 1 r
comma [] c e = absurd (eqb-false 0 0 e refl)
comma (x ∷ r) c e = ap (λ (y : ℕ). y ∷ r) (eqb-true x 0x2C c)

pub no_bytes : (r : List ℕ) → length r ≡ 0 → r ≡ []
no_bytes [] e = refl
no_bytes (x ∷ r) e = absurd (omega arith)

-- ---- what is found is by the grammar

last_sound : (s : List ℕ) (n : ℕ) (q : Bool) (k : ℕ) → Complete s n q k → eqb (length (drop (end_of n q k) s)) 0 ≡ true → Listed (attribute_in s n q k ∷ []) s
unfolding later_text list_text
last_sound s n q k w e =
    record {
      some = omega arith;
      each = rw w.good;
      text = ap (λ (r : List ℕ). text_of (attribute_in s n q k) ++ r) (sym (no_bytes (drop (end_of n q k) s) (eqb-true (length (drop (end_of n q k) s)) 0 e))) ∙ w.text;
    }

more_sound : (s : List ℕ) (n : ℕ) (q : Bool) (k : ℕ) → Complete s n q k → eqb (length (drop (end_of n q k) s)) 0 ≡ false
    → (l : List Attribute) → Listed l (drop (end_of n q k + 1) s) → Listed (attribute_in s n q k ∷ l) s
unfolding list_text
more_sound s n q k w e l h =
    let r = drop (end_of n q k) s in
    let t : r ≡ 0x2C ∷ drop (end_of n q k + 1) s = comma r w.shut e ∙ ap (λ (x : List ℕ). 0x2C ∷ x) (drop-drop 1 (end_of n q k) s) in
    record {
      some = omega arith;
      each = rw (w.good, h.each);
      text = ap (λ (x : List ℕ). text_of (attribute_in s n q k) ++ x) (later_list l h.some ∙ ap (λ (x : List ℕ). 0x2C ∷ x) h.text ∙ sym t) ∙ w.text;
    }

consed_some : (a : Attribute) (o : Option (List Attribute)) (l : List Attribute) (P : List Attribute → Type 0)
    → ((m : List Attribute) → o ≡ Some m → P (a ∷ m)) → consed a o ≡ Some l → P l
consed_some a None l P h e = zero_one cc
consed_some a (Some m) l P h e = let f : a ∷ m ≡ l = cc in rw (← f) (h m refl)

by_sound : (n : ℕ) (s : List ℕ) (c : Option Cut) → Sound s c → ((t : List ℕ) (m : List Attribute) → attributes_from n t ≡ Some m → Listed m t)
    → (l : List Attribute) → attributes_by (attributes_from n) s c ≡ Some l → Listed l s
by_sound n s None w h l e = zero_one cc
by_sound n s (Some c) w h l e = go (eqb (length (drop (end_of c.name c.quoted c.value) s)) 0) refl e
  where
    go : (t : Bool) → eqb (length (drop (end_of c.name c.quoted c.value) s)) 0 ≡ t
        → pick t (Some (attribute_in s c.name c.quoted c.value ∷ [])) (consed (attribute_in s c.name c.quoted c.value) (attributes_from n (drop (end_of c.name c.quoted c.value + 1) s))) ≡ Some l → Listed l s
    go true z f = let g : attribute_in s c.name c.quoted c.value ∷ [] ≡ l = cc in rw (← g) (last_sound s c.name c.quoted c.value w z)
    go false z f =
        consed_some (attribute_in s c.name c.quoted c.value) (attributes_from n (drop (end_of c.name c.quoted c.value + 1) s)) l (λ (x : List Attribute). Listed x s)
        (λ x i. more_sound s c.name c.quoted c.value w z x (h (drop (end_of c.name c.quoted c.value + 1) s) x i)) f

pub attributes_sound : (n : ℕ) (s : List ℕ) (l : List Attribute) → attributes_from n s ≡ Some l → Listed l s
unfolding attributes_from
attributes_sound zero s l e = zero_one cc
attributes_sound (suc n) s l e = by_sound n s (cut_of s) (cut_sound s) (attributes_sound n) l e

-- ---- a list by the grammar is found

pub attributes_step : (a : Attribute) (r : List ℕ) (n : ℕ) → Exact a r
    → attributes_from (suc n) (text_of a ++ r) ≡ pick (eqb (length r) 0) (Some (a ∷ [])) (consed a (attributes_from n (drop 1 r)))
unfolding attributes_from
attributes_step a r n x =
    let e = end_of (length a.name) (is_quoted a.value) (sized a.value) in
    let d : drop (e + 1) (text_of a ++ r) ≡ drop 1 r = sym (drop-drop 1 e (text_of a ++ r)) ∙ ap (drop 1) x.rest in
    rw (x.cut, d, x.rest, x.is)

pub attributes_exact : (l : List Attribute) (n : ℕ) → length l ≤ n → 0 < length l → all valid l ≡ true → attributes_from n (list_text l) ≡ Some l
unfolding later_text list_text
attributes_exact [] n h s v = absurd (omega arith)
attributes_exact (a ∷ l) zero h s v = absurd (omega arith)
attributes_exact (a ∷ []) (suc n) h s v = attributes_step a [] n (cut_exact a [] (and_true (valid a) true v).0 refl)
attributes_exact (a ∷ (b ∷ l)) (suc n) h s v =
    let both = and_true (valid a) (all valid (b ∷ l)) v in
    let r = text_of b ++ later_text l in
    attributes_step a (0x2C ∷ r) n (cut_exact a (0x2C ∷ r) both.0 refl)
    ∙ rw (eqb-suc-zero (length r), attributes_exact (b ∷ l) n (omega arith) (omega arith) both.1)

-- ---- a line

pub same_true : (a b : List ℕ) → same a b ≡ true → a ≡ b
unfolding same
same_true [] [] e = refl
same_true [] (y ∷ b) e = zero_one cc
same_true (x ∷ a) [] e = zero_one cc
same_true (x ∷ a) (y ∷ b) e =
    let both = and_true (eqb x y) (same a b) e in
    let f : x ≡ y = eqb-true x y both.0 in
    let g : a ≡ b = same_true a b both.1 in
    cc

pub line_sound : (line : List ℕ) (l : List Attribute) → attributes_of line ≡ Some l → Line l line
unfolding attributes_of
line_sound line l e = go (same (take 17 line) tag) refl e
  where
    go : (t : Bool) → same (take 17 line) tag ≡ t → pick t (attributes_from (length line) (drop 17 line)) None ≡ Some l → Line l line
    go false z f = zero_one cc
    go true z f =
        let h = attributes_sound (length line) (drop 17 line) l f in
        let g : tag ≡ take 17 line = sym (same_true (take 17 line) tag z) in
        record { some = h.some; each = h.each; text = ap (λ (x : List ℕ). tag ++ x) h.text ∙ ap (λ (x : List ℕ). x ++ drop 17 line) g ∙ take-append-drop 17 line }

-- each attribute takes a byte at least
text_some : (a : Attribute) → 0 < length (text_of a)
unfolding text_of
text_some a = omega (arith, length-append a.name (0x3D ∷ value_text a.value))

later_length : (l : List Attribute) → length l ≤ length (later_text l)
unfolding later_text
later_length [] = omega arith
later_length (a ∷ l) = omega (arith, length-append (text_of a) (later_text l), later_length l)

list_length : (l : List Attribute) → length l ≤ length (list_text l)
unfolding list_text
list_length [] = omega arith
list_length (a ∷ l) = omega (arith, length-append (text_of a) (later_text l), later_length l, text_some a)

pub line_exact : (line : List ℕ) (l : List Attribute) → Line l line → attributes_of line ≡ Some l
unfolding attributes_of same
line_exact line l h =
    rw (← h.text)
    (attributes_exact l (length (tag ++ list_text l)) (omega (arith, length-append tag (list_text l), list_length l)) h.some h.each)
