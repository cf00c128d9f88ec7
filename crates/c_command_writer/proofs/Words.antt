-- Words, one after the other, and the places of an array.
use Prim.Native.Nat.{ℕ, zero, suc, ◌+◌, ◌-◌, ◌*◌, ◌/◌, ◌^◌, ◌<◌, ◌≤◌}
use mathlib.Core.Bool.{Bool, true, false, ◌&&◌}
use mathlib.Core.List.{List, [], ◌∷◌, ◌++◌}
use mathlib.Core.Path.{◌≡◌, refl, ap, sym, ◌∙◌}
use native.Mathlib.Nat.{sub-zero, zero-sub, suc-sub-suc, zero-add, add-zero, add_comm, zero-mul, suc-mul, div-eq_of_lt, div-add-mod', mod-lt}
use native.Mathlib.Omega.{arith}
use lib.Dec.{eqb, ltb, leb, leb-suc-zero}
use lib.ListN.{length, get_or, drop, replicate}
use lib.Pow.{pow_pos, pow_mono}
use lib.Seq.{drop-drop, get_or-drop, paste, take_all}
use Rattle.std.specs.List.{list_all, enumerate_from, range_with_len}
use borrow.Author.Tests.{ltb-true, ltb-false, lt-ltb, le-ltb, eq-eqb, ne_eqb}
use Rattle.bit_stores.specs.Written.{answer_of, later_of}
use Rattle.table.specs.Bits.{pick}
use Rattle.table.specs.Writing.{Made, made, refused}
use Rattle.c_command_writer.specs.Private.{lower}
use Rattle.c_command_writer.specs.Words.{within, same, places_of, each_place, refusal_of, lowest, no_less, flat_written}
use Rattle.std.proofs.Common.{Ok, Err, Result}

-- ---- a width
pub within_64 : (width x : ℕ) → x < 2 ^ 64 → 64 ≤ width → true ≡ ltb x (2 ^ width)
within_64 width x h g = let m : 2 ^ 64 ≤ 2 ^ width = pow_mono {i = 64} {j = width} g in sym (lt-ltb x (2 ^ width) (omega arith))

pub within_shift : (width x : ℕ) → eqb (x / 2 ^ width) 0 ≡ ltb x (2 ^ width)
within_shift width x = go (ltb x (2 ^ width)) refl
  where
    over : 2 ^ width ≤ x → x / 2 ^ width ≡ 0 → ⊥
    over h e = omega (arith, rw e at (div-add-mod' x (2 ^ width)), mod-lt x (pow_pos width), zero-mul (2 ^ width))

    go : (b : Bool) → ltb x (2 ^ width) ≡ b → eqb (x / 2 ^ width) 0 ≡ b
    go true e = eq-eqb (x / 2 ^ width) 0 (div-eq_of_lt (ltb-true x (2 ^ width) e))
    go false e = ne_eqb (x / 2 ^ width) 0 (over (ltb-false x (2 ^ width) e))

-- ---- a loop of tests: what is left says what the whole says
module _ (overall left test next : Bool) (inv : left ≡ overall) (step : left ≡ test && next) where
  pub turn : test ≡ true → next ≡ overall
  turn e = sym (step ∙ rw e) ∙ inv

  pub stop : test ≡ false → false ≡ overall
  stop e = sym (step ∙ rw e) ∙ inv

pub and_unit : (b : Bool) → b ≡ b && true
and_unit true = refl
and_unit false = refl

-- ---- the words' own refusal, test by test
pub first_wide : (a b c : Bool) → a ≡ false → 32 ≡ refusal_of (a && b) c
first_wide a b c e = rw e

pub second_wide : (a b c : Bool) → a ≡ true → b ≡ false → 32 ≡ refusal_of (a && b) c
second_wide a b c e f = rw (e, f)

pub first_other : (a b c d : Bool) → a ≡ true → b ≡ true → c ≡ false → 33 ≡ refusal_of (a && b) (c && d)
first_other a b c d e f g = rw (e, f, g)

pub second_other : (a b c d : Bool) → a ≡ true → b ≡ true → c ≡ true → d ≡ false → 33 ≡ refusal_of (a && b) (c && d)
second_other a b c d e f g h = rw (e, f, g, h)

pub no_refusal : (a b c d : Bool) → a ≡ true → b ≡ true → c ≡ true → d ≡ true → 0 ≡ refusal_of (a && b) (c && d)
no_refusal a b c d e f g h = rw (e, f, g, h)

pub both_fit : (a b c : Bool) → a ≡ true → b ≡ true → c ≡ false → 33 ≡ refusal_of (a && b) c
both_fit a b c e f g = rw (e, f, g)

pub all_own : (a b c : Bool) → a ≡ true → b ≡ true → c ≡ true → 0 ≡ refusal_of (a && b) c
all_own a b c e f g = rw (e, f, g)

pub refusal_small : (a b : Bool) → refusal_of a b ≤ 33
refusal_small true true = omega arith
refusal_small true false = omega arith
refusal_small false true = omega arith
refusal_small false false = omega arith

-- ---- the lower refusal: that of a target without bytes, or the words' own
pub lower_36 : (n : ℕ) (m : Made) → n ≤ 36 → lower n (answer_of m []) ≡ lowest n m
unfolding answer_of
lower_36 n (refused k) h = refl
lower_36 n (made b) h = go (leb (length b) 0)
  where
    go : (t : Bool) → lower n (pick t (Ok (length b)) (Err 36)) ≡ n
    go true = refl
    go false = rw (le-ltb 36 n h)

module _ (n : ℕ) (m : Made) (target : List ℕ) where
  pub refused_words : (x : Result ℕ ℕ) → 0 < n → n ≤ 36 → x ≡ answer_of m [] → record { refusal = lower n x; length = 0 } ≡ flat_written (answer_of (no_less n m) target)
  unfolding answer_of flat_written no_less
  refused_words x h g e = rw (ne_eqb n 0 (λ z. omega arith), e, lower_36 n m g)

  pub refused_target : 0 < n → target ≡ later_of (no_less n m) target
  unfolding later_of no_less
  refused_target h = rw (ne_eqb n 0 (λ z. omega arith))

  pub taken_words : n ≡ 0 → m ≡ no_less n m
  unfolding no_less
  taken_words e = rw e

-- ---- words
pub word_drop : (words : List ℕ) (i : ℕ) → get_or (drop i words) 0 0 ≡ get_or words i 0
word_drop words i = get_or-drop i words 0 0 ∙ ap (λ (k : ℕ). get_or words k 0) (add-zero i)

pub word_drop_two : (words : List ℕ) → get_or (drop 1 (drop 1 words)) 0 0 ≡ get_or words 2 0
word_drop_two words = ap (λ (l : List ℕ). get_or l 0 0) (drop-drop 1 1 words) ∙ word_drop words 2

-- each word beside its place is what the whole says
pub all_within : (widths words : List ℕ) (n : ℕ) → list_all (λ (p : ℕ × ℕ). ltb (get_or words p.0 0) (2 ^ p.1)) (enumerate_from n widths) ≡ within widths (drop n words)
unfolding within
all_within [] words n = refl
all_within (w ∷ widths) words n = rw (word_drop words n, drop-drop 1 n words) (ap (λ (b : Bool). ltb (get_or words n 0) (2 ^ w) && b) (all_within widths words (n + 1)))

pub all_same : (own words : List ℕ) (n : ℕ) → list_all (λ (p : ℕ × ℕ). eqb (get_or words p.0 0) p.1) (enumerate_from n own) ≡ same own (drop n words)
unfolding same
all_same [] words n = refl
all_same (x ∷ own) words n = rw (word_drop words n, drop-drop 1 n words) (ap (λ (b : Bool). eqb (get_or words n 0) x && b) (all_same own words (n + 1)))

-- ---- four words at a time
and_four : (p q r s rest : Bool) → p && (q && (r && (s && rest))) ≡ (p && (q && (r && (s && true)))) && rest
and_four false q r s rest = refl
and_four true false r s rest = refl
and_four true true false s rest = refl
and_four true true true false rest = refl
and_four true true true true rest = refl

drop_three : (words : List ℕ) → drop 1 (drop 1 (drop 1 words)) ≡ drop 3 words
drop_three words = ap (drop 1) (drop-drop 1 1 words) ∙ drop-drop 1 2 words

drop_four : (words : List ℕ) (at : ℕ) → drop 1 (drop 1 (drop 1 (drop 1 (drop at words)))) ≡ drop (at + 4) words
drop_four words at = ap (drop 1) (drop_three (drop at words)) ∙ drop-drop 1 3 (drop at words) ∙ drop-drop 4 at words

word_drop_three : (words : List ℕ) → get_or (drop 1 (drop 1 (drop 1 words))) 0 0 ≡ get_or words 3 0
word_drop_three words = ap (λ (l : List ℕ). get_or l 0 0) (drop_three words) ∙ word_drop words 3

pub within_four : (a b c d : ℕ) (words : List ℕ) → within (a ∷ b ∷ c ∷ d ∷ []) words ≡ ltb (get_or words 0 0) (2 ^ a) && (ltb (get_or words 1 0) (2 ^ b) && (ltb (get_or words 2 0) (2 ^ c) && (ltb (get_or words 3 0) (2 ^ d) && true)))
unfolding within
within_four a b c d words = rw (word_drop words 1, word_drop_two words, word_drop_three words)

pub within_next : (a b c d : ℕ) (rest words : List ℕ) (at : ℕ) → within (a ∷ b ∷ c ∷ d ∷ rest) (drop at words) ≡ within (a ∷ b ∷ c ∷ d ∷ []) (drop at words) && within rest (drop (at + 4) words)
unfolding within
within_next a b c d rest words at =
    let l = drop at words in
    rw (← drop_four words at) (and_four (ltb (get_or l 0 0) (2 ^ a)) (ltb (get_or (drop 1 l) 0 0) (2 ^ b)) (ltb (get_or (drop 1 (drop 1 l)) 0 0) (2 ^ c)) (ltb (get_or (drop 1 (drop 1 (drop 1 l))) 0 0) (2 ^ d)) (within rest (drop 1 (drop 1 (drop 1 (drop 1 l))))))

pub within_last : (a : ℕ) (words : List ℕ) (at : ℕ) → ltb (get_or words at 0) (2 ^ a) ≡ within (a ∷ []) (drop at words)
unfolding within
within_last a words at = rw (word_drop words at) (and_unit (ltb (get_or words at 0) (2 ^ a)))

pub same_four : (a b c d : ℕ) (words : List ℕ) → same (a ∷ b ∷ c ∷ d ∷ []) words ≡ eqb (get_or words 0 0) a && (eqb (get_or words 1 0) b && (eqb (get_or words 2 0) c && (eqb (get_or words 3 0) d && true)))
unfolding same
same_four a b c d words = rw (word_drop words 1, word_drop_two words, word_drop_three words)

pub same_next : (a b c d : ℕ) (rest words : List ℕ) (at : ℕ) → same (a ∷ b ∷ c ∷ d ∷ rest) (drop at words) ≡ same (a ∷ b ∷ c ∷ d ∷ []) (drop at words) && same rest (drop (at + 4) words)
unfolding same
same_next a b c d rest words at =
    let l = drop at words in
    rw (← drop_four words at) (and_four (eqb (get_or l 0 0) a) (eqb (get_or (drop 1 l) 0 0) b) (eqb (get_or (drop 1 (drop 1 l)) 0 0) c) (eqb (get_or (drop 1 (drop 1 (drop 1 l))) 0 0) d) (same rest (drop 1 (drop 1 (drop 1 (drop 1 l))))))

pub same_last : (a : ℕ) (words : List ℕ) (at : ℕ) → eqb (get_or words at 0) a ≡ same (a ∷ []) (drop at words)
unfolding same
same_last a words at = rw (word_drop words at) (and_unit (eqb (get_or words at 0) a))

-- ---- places
pub each_more : (test : List ℕ → Bool) (k n : ℕ) (words : List ℕ) (i : ℕ) → i < n → each_place test k (n - i) words ≡ test words && each_place test k (n - (i + 1)) (drop k words)
unfolding each_place
each_more test k n words i h = let e : n - i ≡ suc (n - (i + 1)) = omega arith in rw e

pub each_end : (test : List ℕ → Bool) (k n : ℕ) (words : List ℕ) (i : ℕ) → n ≤ i → each_place test k (n - i) words ≡ true
unfolding each_place
each_end test k n words i h = let e : n - i ≡ 0 = omega arith in rw e

-- the places from a word on, by their numbers
pub all_places : (test : List ℕ → Bool) (k at n i : ℕ) (words : List ℕ) → list_all (λ (m : ℕ). test (drop (at + m * k) words)) (range_with_len i n) ≡ each_place test k n (drop (at + i * k) words)
unfolding each_place
all_places test k at zero i words = refl
all_places test k at (suc n) i words =
    let e : at + (i + 1) * k ≡ at + i * k + k = omega arith in
    let p : drop (at + (i + 1) * k) words ≡ drop k (drop (at + i * k) words) = rw e (sym (drop-drop k (at + i * k) words)) in
    ap (λ (b : Bool). test (drop (at + i * k) words) && b) (all_places test k at n (i + 1) words ∙ ap (each_place test k n) p)

pub places_length : {A : Type 0} (f : List ℕ → A) (k n : ℕ) (words : List ℕ) → length (places_of f k n words) ≡ n
unfolding places_of
places_length f k zero words = refl
places_length f k (suc n) words = ap suc (places_length f k n (drop k words))

pub places_at : {A : Type 0} (f : List ℕ → A) (k n : ℕ) (words : List ℕ) (i : ℕ) (z : A) → i < n → f (drop (i * k) words) ≡ get_or (places_of f k n words) i z
unfolding places_of
places_at f k zero words i z h = absurd (omega arith)
places_at f k (suc n) words zero z h = rw (zero-mul k)
places_at f k (suc n) words (suc i) z h =
    let e : suc i * k ≡ k + i * k = suc-mul i k ∙ add_comm (i * k) k in
    ap (λ (m : ℕ). f (drop m words)) e ∙ ap f (sym (drop-drop (i * k) k words)) ∙ places_at f k n (drop k words) i z (omega arith)

-- ---- an array that is blank past what stands in it
drop_replicate : {A : Type 0} (i n : ℕ) (a : A) → drop i (replicate n a) ≡ replicate (n - i) a
drop_replicate zero n a = rw sub-zero
drop_replicate (suc i) zero a = rw zero-sub
drop_replicate (suc i) (suc n) a = rw suc-sub-suc (drop_replicate i n a)

pub filled_front : {A : Type 0} (size : ℕ) (z : A) (out s : List A) (i n : ℕ) → length s ≡ n → n ≡ i → out ≡ paste (replicate size z) 0 s i → out ≡ s ++ replicate (size - length s) z
filled_front size z out s i n l e p = p ∙ rw (← e, zero-add n, take_all n s (omega arith), drop_replicate n size z, l)

-- ---- a writer of words, over the value that they make
pub later_nil : (m : Made) → later_of m [] ≡ []
unfolding later_of
later_nil (made []) = refl
later_nil (made (x ∷ b)) = rw (leb-suc-zero (length b))
later_nil (refused k) = refl

module _ (overall m : Made) (n : ℕ) (target : List ℕ) (x : Result ℕ ℕ) (is : no_less n m ≡ overall) where
  pub words_refused : 0 < n → n ≤ 36 → x ≡ answer_of m [] → (record { refusal = lower n x; length = 0 } ≡ flat_written (answer_of overall target)) × (target ≡ later_of overall target)
  words_refused h g e = rw (← is) (refused_words n m target x h g e, refused_target n m target h)

  pub words_taken : (later : List ℕ) → n ≤ 0 → x ≡ answer_of m target → later ≡ later_of m target → (flat_written x ≡ flat_written (answer_of overall target)) × (later ≡ later_of overall target)
  words_taken later h e f =
      let z : m ≡ overall = taken_words n m target (omega arith) ∙ is in
      (ap flat_written (e ∙ ap (λ (w : Made). answer_of w target) z), f ∙ ap (λ (w : Made). later_of w target) z)
