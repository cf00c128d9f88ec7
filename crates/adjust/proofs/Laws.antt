-- The adjustments, case by case; and the sums behind them.
use Prim.Native.Nat.{ℕ, ◌+◌, ◌-◌, ◌%◌, ◌^◌, ◌<◌, ◌≤◌}
use mathlib.Core.Path.{◌≡◌}
use native.Mathlib.Omega.{arith}
use borrow.Author.Tests.{lt-ltb, le-ltb}
use Rattle.splice_time.specs.Time.{ticks, too_large}
use Rattle.splice_time.specs.declared.SpliceTime.{SpliceTime}
use Rattle.adjust.specs.Adjust.{moved_by, adjust_of, chain_of, undo_of}
use Rattle.std.proofs.Common.{Ok, Err}

pub adjust_is : (t : SpliceTime) (a : ℕ) → a < 2 ^ 33 → ticks t < 2 ^ 33 → adjust_of t a ≡ Ok (moved_by a t)
unfolding adjust_of
adjust_is t a h k = rw (lt-ltb a (2 ^ 33) h, lt-ltb (ticks t) (2 ^ 33) k)

pub adjust_wide : (t : SpliceTime) (a : ℕ) → 2 ^ 33 ≤ a → adjust_of t a ≡ Err too_large
unfolding adjust_of
adjust_wide t a h = rw (le-ltb a (2 ^ 33) h)

pub adjust_late : (t : SpliceTime) (a : ℕ) → a < 2 ^ 33 → 2 ^ 33 ≤ ticks t → adjust_of t a ≡ Err too_large
unfolding adjust_of
adjust_late t a h k = rw (lt-ltb a (2 ^ 33) h, le-ltb (ticks t) (2 ^ 33) k)

pub chain_is : (a b : ℕ) → a < 2 ^ 33 → b < 2 ^ 33 → chain_of a b ≡ Ok ((a + b) % 8589934592)
unfolding chain_of
chain_is a b h k = rw (lt-ltb a (2 ^ 33) h, lt-ltb b (2 ^ 33) k)

pub chain_first : (a b : ℕ) → 2 ^ 33 ≤ a → chain_of a b ≡ Err too_large
unfolding chain_of
chain_first a b h = rw (le-ltb a (2 ^ 33) h)

pub chain_second : (a b : ℕ) → a < 2 ^ 33 → 2 ^ 33 ≤ b → chain_of a b ≡ Err too_large
unfolding chain_of
chain_second a b h k = rw (lt-ltb a (2 ^ 33) h, le-ltb b (2 ^ 33) k)

pub undo_is : (a : ℕ) → a < 2 ^ 33 → undo_of a ≡ Ok ((8589934592 - a) % 8589934592)
unfolding undo_of
undo_is a h = rw (lt-ltb a (2 ^ 33) h)

pub undo_wide : (a : ℕ) → 2 ^ 33 ≤ a → undo_of a ≡ Err too_large
unfolding undo_of
undo_wide a h = rw (le-ltb a (2 ^ 33) h)

-- ---- remainders of sums
pub mod_twice : (x b : ℕ) → (x % 8589934592 + b) % 8589934592 ≡ (x + b) % 8589934592
mod_twice x b = omega arith

pub mod_late : (x b : ℕ) → (x + b % 8589934592) % 8589934592 ≡ (x + b) % 8589934592
mod_late x b = omega arith

pub mod_back : (t a : ℕ) → t < 8589934592 → a < 8589934592 → ((t + a) % 8589934592 + (8589934592 - a) % 8589934592) % 8589934592 ≡ t
mod_back t a h k = omega arith

pub mod_only : (a u : ℕ) → a < 8589934592 → u < 8589934592 → (a + u) % 8589934592 ≡ 0 → (8589934592 - a) % 8589934592 ≡ u
mod_only a u h k e = omega (arith, e)
