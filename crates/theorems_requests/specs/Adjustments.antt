-- What Q-2 and Q-12 ask of a time and of adjustments, in the numbers that are handed in and come back: no word of the definitions that the contracts name.
use Rattle.std.specs.Prelude.{ℕ, ◌+◌, ◌%◌, ◌^◌, ◌<◌, ◌≤◌, List, [], ◌∷◌, ◌≡◌, Ok, Err, Some, None, Option, Result}
use Rattle.c_adjust.specs.declared.FlatAdjustment.{FlatAdjustment}
use Rattle.c_section.specs.declared.headers.FlatAdjusted.{FlatAdjusted}
use Rattle.splice_time.specs.declared.SpliceTime.{SpliceTime}
use Rattle.splice_time.specs.declared.SpliceTime.TheVariants.{Immediate, Unspecified, At}
use Rattle.splice_time.specs.declared.TooLarge.{TooLarge}
use Rattle.splice_time.specs.Time.{too_large}

-- ---- a time

-- moved by a
pub record MovedBy (t : SpliceTime) (a : ℕ) (m : Result SpliceTime TooLarge) : Type 0 where
  -- Q-2: "the sum's remainder modulo 8,589,934,592"
  pub specified : (n : ℕ) → t ≡ At n → n < 2 ^ 33 → a < 2 ^ 33 → m ≡ Ok (At ((n + a) % 8589934592))
  -- "An unspecified or immediate time stays so."
  pub unspecified : t ≡ Unspecified → a < 2 ^ 33 → m ≡ Ok Unspecified
  pub immediate : t ≡ Immediate → a < 2 ^ 33 → m ≡ Ok Immediate
  -- "Refusals: 32 for a number of 2^33 or more."
  pub late : (n : ℕ) → t ≡ At n → a < 2 ^ 33 → 2 ^ 33 ≤ n → m ≡ Err too_large
  pub wide : 2 ^ 33 ≤ a → m ≡ Err too_large

-- under pts_adjustment p: the same of a time that is specified; "otherwise none"
pub record AdjustedUnder (t : SpliceTime) (p : ℕ) (x : Result (Option ℕ) TooLarge) : Type 0 where
  pub specified : (n : ℕ) → t ≡ At n → n < 2 ^ 33 → p < 2 ^ 33 → x ≡ Ok (Some ((n + p) % 8589934592))
  pub unspecified : t ≡ Unspecified → p < 2 ^ 33 → x ≡ Ok None
  pub immediate : t ≡ Immediate → p < 2 ^ 33 → x ≡ Ok None
  pub late : (n : ℕ) → t ≡ At n → p < 2 ^ 33 → 2 ^ 33 ≤ n → x ≡ Err too_large
  pub wide : 2 ^ 33 ≤ p → x ≡ Err too_large

-- Over C a time is its kind, 3 where it is specified, and its ticks; `other` is the kind that is answered of a time of another kind.
pub record TimeOverC (other kind ticks a : ℕ) (f : FlatAdjusted) : Type 0 where
  pub specified : kind ≡ 3 → ticks < 2 ^ 33 → a < 2 ^ 33 → f ≡ record { refusal = 0; kind = 3; ticks = (ticks + a) % 8589934592 }
  pub stays : (kind ≡ 3 → ⊥) → ticks < 2 ^ 33 → a < 2 ^ 33 → f ≡ record { refusal = 0; kind = other; ticks = 0 }
  pub late : a < 2 ^ 33 → 2 ^ 33 ≤ ticks → f ≡ record { refusal = 32; kind = 0; ticks = 0 }
  pub wide : 2 ^ 33 ≤ a → f ≡ record { refusal = 32; kind = 0; ticks = 0 }

-- ---- adjustments

-- two as one
pub record ChainedBy (a b : ℕ) (x : Result ℕ TooLarge) : Type 0 where
  pub one : a < 2 ^ 33 → b < 2 ^ 33 → x ≡ Ok ((a + b) % 8589934592)
  pub first_wide : 2 ^ 33 ≤ a → x ≡ Err too_large
  pub second_wide : a < 2 ^ 33 → 2 ^ 33 ≤ b → x ≡ Err too_large

pub record ChainedOverC (a b : ℕ) (f : FlatAdjustment) : Type 0 where
  pub one : a < 2 ^ 33 → b < 2 ^ 33 → f ≡ record { refusal = 0; adjustment = (a + b) % 8589934592 }
  pub first_wide : 2 ^ 33 ≤ a → f ≡ record { refusal = 32; adjustment = 0 }
  pub second_wide : a < 2 ^ 33 → 2 ^ 33 ≤ b → f ≡ record { refusal = 32; adjustment = 0 }

-- u takes a back: by a and by u together nothing is moved
pub record Back (a u : ℕ) : Type 0 where
  pub fits : u < 2 ^ 33
  pub back : (a + u) % 8589934592 ≡ 0

pub record UndoneBy (a : ℕ) (x : Result ℕ TooLarge) : Type 0 where
  pub one : a < 2 ^ 33 → (u : ℕ) × (x ≡ Ok u) × Back a u
  pub wide : 2 ^ 33 ≤ a → x ≡ Err too_large

pub record UndoneOverC (a : ℕ) (f : FlatAdjustment) : Type 0 where
  pub one : a < 2 ^ 33 → (f.refusal ≡ 0) × Back a f.adjustment
  pub wide : 2 ^ 33 ≤ a → f ≡ record { refusal = 32; adjustment = 0 }

-- ---- "Cues pass two or three splicers": boxes one behind the other, of which none refuses

-- a time through each of them; `Adjusts t a m` is what a box may answer
pub data Through (Adjusts : SpliceTime → ℕ → Result SpliceTime TooLarge → Type 0) : SpliceTime → List ℕ → SpliceTime → Type 0 where
  out : {t : SpliceTime} → Through Adjusts t [] t
  box : {t u v : SpliceTime} {a : ℕ} {l : List ℕ} → Adjusts t a (Ok u) → Through Adjusts u l v → Through Adjusts t (a ∷ l) v

-- "replace a chain by a single box": their adjustments, from s on, as one
pub data Single (Chains : ℕ → ℕ → Result ℕ TooLarge → Type 0) : ℕ → List ℕ → ℕ → Type 0 where
  all : {s : ℕ} → Single Chains s [] s
  next : {s c r a : ℕ} {l : List ℕ} → Chains s a (Ok c) → Single Chains c l r → Single Chains s (a ∷ l) r
