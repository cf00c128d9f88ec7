-- Bytes that pass a test from the front on, and equal runs of bytes.
--     same_is            std's test of equal slices
--     all-prefix_len     all bytes pass
--     all_first          those that stand before the first that doesn't pass
--     prefix_len-all     bytes that pass, before one that doesn't
use Prim.Native.Nat.{ℕ, suc, ◌+◌}
use mathlib.Core.Bool.{Bool, true, false, not, cond, ◌&&◌, and-false}
use mathlib.Core.List.{List, [], ◌∷◌, ◌++◌}
use mathlib.Core.Path.{◌≡◌, refl, ap, sym, ◌∙◌}
use native.Mathlib.Omega.{arith}
use lib.Dec.{leb, eqb, leb-suc-suc, leb-suc-zero}
use lib.ListN.{length, take}
use lib.Pointwise.{pointwise}
use borrow.Author.Tests.{not-true}
use Rattle.std.specs.List.{prefix_len}
use Rattle.std.specs.Prelude.{nat_eq}
use Rattle.table.proofs.Lists.{and_true}
use Rattle.attribute_list.specs.Grammar.{all}
use Rattle.attribute_list.specs.Cutting.{same}

-- ---- equal runs

pub same_is : (a b : List ℕ) → pointwise nat_eq a b ≡ same a b
unfolding same
same_is [] [] = refl
same_is [] (y ∷ b) = refl
same_is (x ∷ a) [] = refl
same_is (x ∷ a) (y ∷ b) = rw (same_is a b)

pub same_length : (a b : List ℕ) → (length a ≡ length b → ⊥) → same a b ≡ false
unfolding same
same_length [] [] n = absurd (n refl)
same_length [] (y ∷ b) n = refl
same_length (x ∷ a) [] n = refl
same_length (x ∷ a) (y ∷ b) n = rw (same_length a b (λ e. n (ap suc e))) (and-false (eqb x y))

-- ---- what passes from the front on

one_more : (n : ℕ) → 1 + n ≡ suc n
one_more n = omega arith

pub all-prefix_len : (p : ℕ → Bool) (s : List ℕ) → all p s ≡ leb (length s) (prefix_len p s)
all-prefix_len p [] = refl
all-prefix_len p (x ∷ s) = go (p x) (all-prefix_len p s)
  where
    go : (t : Bool) → all p s ≡ leb (length s) (prefix_len p s) → t && all p s ≡ leb (suc (length s)) (cond t (1 + prefix_len p s) 0)
    go true e = rw one_more (e ∙ sym (leb-suc-suc (length s) (prefix_len p s)))
    go false e = sym (leb-suc-zero (length s))

pub all_first : (p : ℕ → Bool) (s : List ℕ) → all p (take (prefix_len p s) s) ≡ true
all_first p [] = refl
all_first p (x ∷ s) = go (p x) refl (all_first p s)
  where
    go : (t : Bool) → p x ≡ t → all p (take (prefix_len p s) s) ≡ true → all p (take (cond t (1 + prefix_len p s) 0) (x ∷ s)) ≡ true
    go true e h = rw (one_more (prefix_len p s), e, h)
    go false e h = refl

-- at the end, or at a byte that doesn't pass
abbrev pub stops : (ℕ → Bool) → List ℕ → Bool
stops p [] = true
stops p (x ∷ s) = not (p x)

pub prefix_len-all : (p : ℕ → Bool) (b r : List ℕ) → all p b ≡ true → stops p r ≡ true → prefix_len p (b ++ r) ≡ length b
prefix_len-all p [] [] h e = refl
prefix_len-all p [] (y ∷ r) h e = rw (not-true (p y) e)
prefix_len-all p (x ∷ b) r h e = let both = and_true (p x) (all p b) h in rw (both.0, prefix_len-all p b r both.1 e, one_more (length b))
