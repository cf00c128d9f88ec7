-- Hexadecimal digits: their values, the bytes of a run of them pair by pair, and stores of these.
use Prim.Native.Nat.{ℕ, zero, suc, ◌+◌, ◌-◌, ◌*◌, ◌/◌, ◌%◌, ◌≤◌, ◌<◌}
use mathlib.Core.Bool.{Bool, true, false, ◌&&◌, ◌||◌}
use mathlib.Core.List.{List, [], ◌∷◌, ◌++◌, append_assoc}
use mathlib.Core.Logic.{◌⊎◌, ⊎_elim, inl, inr}
use mathlib.Core.Path.{◌≡◌, refl, ap, ◌∙◌}
use native.Mathlib.Numerals.{add-one}
use native.Mathlib.Omega.{arith}
use lib.Dec.{leb}
use lib.ListN.{length, take, get_or, set}
use lib.Seq.{length-take-le, take-suc, take_all}
use borrow.Author.Tests.{le-leb, lt-leb, leb-true}
use Rattle.table.specs.Lent.{stored}
use Rattle.table.proofs.Lists.{and_true, and_assoc}
use Rattle.table.proofs.Stores.{stored_behind}
use Rattle.attribute_list.specs.Grammar.{within, hex_byte, all}
use Rattle.daterange_line.specs.Reading.{digit_of, octets}

within_both : (low high b : ℕ) → within low high b ≡ true → (low ≤ b) × (b ≤ high)
within_both low high b e = let both = and_true (leb low b) (leb b high) e in (leb-true low b both.0, leb-true b high both.1)

pub hex_range : (d : ℕ) → hex_byte d ≡ true → ((0x41 ≤ d) × (d ≤ 0x46)) ⊎ ((0x30 ≤ d) × (d ≤ 0x39))
unfolding hex_byte
hex_range d e = go (within 0x41 0x46 d) refl e
  where
    go : (t : Bool) → within 0x41 0x46 d ≡ t → t || within 0x30 0x39 d ≡ true → ((0x41 ≤ d) × (d ≤ 0x46)) ⊎ ((0x30 ≤ d) × (d ≤ 0x39))
    go true h e = inl (within_both 0x41 0x46 d h)
    go false h e = inr (within_both 0x30 0x39 d e)

pub digit_is : (d : ℕ) → hex_byte d ≡ true → (d % 16 + d / 64 * 9 ≡ digit_of d) × (d % 16 + d / 64 * 9 < 16)
digit_is d e = ⊎_elim high low (hex_range d e)
  where
    high : (0x41 ≤ d) × (d ≤ 0x46) → (d % 16 + d / 64 * 9 ≡ digit_of d) × (d % 16 + d / 64 * 9 < 16)
    high h = (rw (le-leb 0x41 d h.0) (omega arith), omega arith)

    low : (0x30 ≤ d) × (d ≤ 0x39) → (d % 16 + d / 64 * 9 ≡ digit_of d) × (d % 16 + d / 64 * 9 < 16)
    low h = (rw (lt-leb 0x41 d (omega arith)) (omega arith), omega arith)

pub all_at : (p : ℕ → Bool) (s : List ℕ) (i : ℕ) → all p s ≡ true → i < length s → p (get_or s i 0) ≡ true
all_at p [] i e h = absurd (omega arith)
all_at p (x ∷ s) zero e h = (and_true (p x) (all p s) e).0
all_at p (x ∷ s) (suc i) e h = all_at p s i (and_true (p x) (all p s) e).1 (omega arith)

all_append : (p : ℕ → Bool) (a b : List ℕ) → all p (a ++ b) ≡ all p a && all p b
all_append p [] b = refl
all_append p (x ∷ a) b = rw (all_append p a b) (and_assoc (p x) (all p a) (all p b))

-- one byte more
pub all_next : (p : ℕ → Bool) (s : List ℕ) (i : ℕ) → i < length s → all p (take (i + 1) s) ≡ all p (take i s) && p (get_or s i 0)
all_next p s i h = rw (add-one i, take-suc s i 0 h, all_append p (take i s) (get_or s i 0 ∷ []), and_true_right (p (get_or s i 0)))
  where
    and_true_right : (b : Bool) → b && true ≡ b
    and_true_right true = refl
    and_true_right false = refl

pub all_none : (p : ℕ → Bool) (s : List ℕ) → true ≡ all p (take 0 s)
all_none p s = refl

-- ---- bytes of digits

octets_append : (a b : List ℕ) (i : ℕ) → length a ≡ i + i → octets (a ++ b) ≡ octets a ++ octets b
unfolding octets
octets_append [] b i e = refl
octets_append (x ∷ []) b i e = absurd (omega arith)
octets_append (x ∷ (y ∷ a)) b i e = ap (λ (t : List ℕ). (digit_of x * 16 + digit_of y) ∷ t) (octets_append a b (i - 1) (omega arith))

pub octets_length : (a : List ℕ) (i : ℕ) → length a ≡ i + i → length (octets a) ≡ i
unfolding octets
octets_length [] i e = omega arith
octets_length (x ∷ []) i e = absurd (omega arith)
octets_length (x ∷ (y ∷ a)) i e = omega (arith, octets_length a (i - 1) (omega arith))

module _ (s : List ℕ) (i : ℕ) (h : i * 2 + 1 < length s) where
  two_more : take ((i + 1) * 2) s ≡ take (i * 2) s ++ (get_or s (i * 2) 0 ∷ (get_or s (i * 2 + 1) 0 ∷ []))
  two_more =
      let e : (i + 1) * 2 ≡ suc (suc (i * 2)) = omega arith in
      let f : suc (i * 2) ≡ i * 2 + 1 = omega arith in
      ap (λ (n : ℕ). take n s) e
      ∙ take-suc s (suc (i * 2)) 0 (omega arith)
      ∙ rw (take-suc s (i * 2) 0 (omega arith), f) (append_assoc (take (i * 2) s) (get_or s (i * 2) 0 ∷ []) (get_or s (i * 2 + 1) 0 ∷ []))

  first_length : length (take (i * 2) s) ≡ i + i
  first_length = length-take-le (i * 2) s (omega arith) ∙ omega arith

  pub octets_more : octets (take ((i + 1) * 2) s) ≡ octets (take (i * 2) s) ++ ((digit_of (get_or s (i * 2) 0) * 16 + digit_of (get_or s (i * 2 + 1) 0)) ∷ [])
  unfolding octets
  octets_more = ap octets two_more ∙ octets_append (take (i * 2) s) (get_or s (i * 2) 0 ∷ (get_or s (i * 2 + 1) 0 ∷ [])) i first_length

  pub octets_store : (t : List ℕ) (v : ℕ) → i < length t → v ≡ digit_of (get_or s (i * 2) 0) * 16 + digit_of (get_or s (i * 2 + 1) 0)
      → set (stored t 0 (octets (take (i * 2) s))) i v ≡ stored t 0 (octets (take ((i + 1) * 2) s))
  octets_store t v l e =
      let b = octets (take (i * 2) s) in
      let n : length b ≡ i = octets_length (take (i * 2) s) i first_length in
      let z : 0 + length b ≡ i = omega arith in
      rw (octets_more, ← e) (rw z at (stored_behind t 0 v b (omega arith)))

pub octets_all : (s : List ℕ) (i : ℕ) → length s % 2 ≡ 0 → length s / 2 ≤ i → octets (take (i * 2) s) ≡ octets s
octets_all s i e h = ap octets (take_all (i * 2) s (omega arith))
