-- Two linear maps on bits that agree on each power of 2 agree: the test over the powers is computed.
--     Linear f        f of a xor is the xor of f's
--     agree           two linear maps that agree on 2 ^ i for each i below k agree below 2 ^ k
use mathlib.Core.Path.{◌≡◌, refl, sym, ap, ap₂, ◌∙◌, subst}
use mathlib.Core.Bool.{Bool, true, ◌&&◌}
use Rattle.std.proofs.Common.{inl, inr}
use Prim.Native.Nat.{ℕ, zero, suc, ◌*◌, ◌/◌, ◌%◌, ◌^◌, ◌<◌}
use native.Mathlib.Nat.{mod-lt, lt-suc_self, one-mul, zero-mul}
use native.Mathlib.Numerals.{one-add}
use native.Mathlib.Omega.{arith}
use lib.Arith.{lt-one}
use lib.Dec.{eqb}
use Rattle.std.proofs.lemmas.Bool.{and_parts, cases_eq, eqb-true}
use lib.Pow.{pow_pos, split, shr_lt}
use lib.Bits.{bit_xor, xor_shr, xor_mod, xor_shifted}
use Rattle.crc.proofs.Xor.{xor_shl, xor_swap}

pub record Linear (f : ℕ → ℕ) : Type 0 where
  pub at : (a b : ℕ) → f (bit_xor a b) ≡ bit_xor (f a) (f b)

-- ---- what is linear

pub same_lin : Linear (λ x. x)
same_lin = record { at = λ a b. refl }

pub xor_lin : {f g : ℕ → ℕ} → Linear f → Linear g → Linear (λ x. bit_xor (f x) (g x))
xor_lin {f} {g} p q = record { at = λ a b. ap₂ bit_xor (p.at a b) (q.at a b) ∙ xor_swap (f a) (f b) (g a) (g b) }

pub after_lin : {f g : ℕ → ℕ} → Linear f → Linear g → Linear (λ x. g (f x))
after_lin {f} {g} p q = record { at = λ a b. ap g (p.at a b) ∙ q.at (f a) (f b) }

pub shr_lin : {f : ℕ → ℕ} → Linear f → (k : ℕ) → Linear (λ x. f x / 2 ^ k)
shr_lin p k = after_lin {g = λ x. x / 2 ^ k} p (record { at = λ a b. xor_shr a b k })

pub mod_lin : {f : ℕ → ℕ} → Linear f → (k : ℕ) → Linear (λ x. f x % 2 ^ k)
mod_lin p k = after_lin {g = λ x. x % 2 ^ k} p (record { at = λ a b. xor_mod a b k })

pub times_lin : {f : ℕ → ℕ} → Linear f → (k : ℕ) → Linear (λ x. f x * 2 ^ k)
times_lin p k = after_lin {g = λ x. x * 2 ^ k} p (record { at = λ a b. xor_shl a b k })

-- a shift to the left in w bits
pub shl_lin : {f : ℕ → ℕ} → (w : ℕ) → Linear f → (k : ℕ) → Linear (λ x. f x * 2 ^ k % 2 ^ w)
shl_lin w p k = mod_lin (times_lin p k) w

-- ---- a test that passes at every number below n

abbrev pub all_below : (ℕ → Bool) → ℕ → Bool
all_below f zero = true
all_below f (suc n) = f n && all_below f n

pub below : (f : ℕ → Bool) (n : ℕ) → all_below f n ≡ true → (k : ℕ) → k < n → f k ≡ true
below f zero t k h = absurd (omega arith)
below f (suc n) t k h =
    let parts = and_parts (f n) (all_below f n) t in
    elim (cases_eq k n) [ inl e ↦ rw e parts.0 | inr e ↦ below f n parts.1 k (omega arith) ]

-- ---- linear maps that agree on the powers of 2

module _ (f g : ℕ → ℕ) (p : Linear f) (q : Linear g) (z : f 0 ≡ g 0) where
  -- at a power of 2, taken or not
  digit : (n h : ℕ) → h < 2 → f n ≡ g n → f (h * n) ≡ g (h * n)
  digit n zero l e = ap f (zero-mul n) ∙ z ∙ sym (ap g (zero-mul n))
  digit n (suc zero) l e = ap f (one-mul n) ∙ e ∙ sym (ap g (one-mul n))
  digit n (suc (suc h)) l e = absurd (omega arith)

  from : (k : ℕ) → ((i : ℕ) → i < k → f (2 ^ i) ≡ g (2 ^ i)) → (x : ℕ) → x < 2 ^ k → f x ≡ g x
  from zero t x l = ap f (lt-one l) ∙ z ∙ sym (ap g (lt-one l))
  from (suc k) t x l =
      let hi : ℕ = x / 2 ^ k in
      let lo : ℕ = x % 2 ^ k in
      let m : lo < 2 ^ k = mod-lt x (pow_pos k) in
      let e : x ≡ bit_xor (hi * 2 ^ k) lo = sym (xor_shifted hi k lo m ∙ split x k) in
      ap f e ∙ p.at (hi * 2 ^ k) lo
      ∙ ap₂ bit_xor (digit (2 ^ k) hi (shr_lt 1 k (subst (λ (n : ℕ). x < 2 ^ n) (sym (one-add k)) l)) (t k (lt-suc_self k))) (from k (λ i h. t i (omega arith)) lo m)
      ∙ sym (ap g e ∙ q.at (hi * 2 ^ k) lo)

  abbrev pub test : ℕ → Bool
  test i = eqb (f (2 ^ i)) (g (2 ^ i))

  pub agree : (k : ℕ) → all_below test k ≡ true → (x : ℕ) → x < 2 ^ k → f x ≡ g x
  agree k t = from k (λ i h. eqb-true (f (2 ^ i)) (g (2 ^ i)) (below test k t i h))
