-- What a writer answers and leaves, case by case.
--     refused, short, wrote     the answer
--     kept-.., later-..         the target's later bytes
use Prim.Native.Nat.{ℕ, ◌<◌, ◌≤◌}
use mathlib.Core.List.{List, ◌++◌}
use mathlib.Core.Path.{◌≡◌, refl, ap, ◌∙◌}
use native.Mathlib.Nat.{zero-add}
use native.Mathlib.Omega.{arith}
use lib.ListN.{length, drop}
use borrow.Author.Tests.{le-leb, lt-leb}
use Rattle.table.specs.Lent.{stored}
use Rattle.table.specs.Writing.{Made, made, refused}
use Rattle.table.proofs.Stores.{stored_fits}
use Rattle.bit_stores.specs.Written.{answer_of, later_of, refusal_in, bytes_in}
use Rattle.std.proofs.Common.{Ok, Err}

-- ---- what was made, by its refusal
pub refusal_refused : (m : Made) (n : ℕ) → refusal_in m ≡ n → 0 < n → m ≡ refused n
refusal_refused (made b) n e h = absurd (omega arith)
refusal_refused (refused k) n e h = ap refused e

pub refusal_made : (m : Made) (b : List ℕ) → m ≡ made b → (refusal_in m ≡ 0) × (bytes_in m ≡ b)
unfolding bytes_in
refusal_made m b e = rw e (refl, refl)

-- ---- the answer and the target's later bytes
module _ (m : Made) (target : List ℕ) where
  pub refused_answer : (n : ℕ) → m ≡ refused n → (Err n ≡ answer_of m target) × (target ≡ later_of m target)
  unfolding answer_of later_of
  refused_answer n e = rw e (refl, refl)

  pub short_answer : (b : List ℕ) → m ≡ made b → length target < length b → (Err 36 ≡ answer_of m target) × (target ≡ later_of m target)
  unfolding answer_of later_of
  short_answer b e h = rw (e, lt-leb _ _ h) (refl, refl)

  pub wrote_answer : (b : List ℕ) → m ≡ made b → length b ≤ length target → (Ok (length b) ≡ answer_of m target) × (stored target 0 b ≡ later_of m target)
  unfolding answer_of later_of
  wrote_answer b e h =
      let z : stored target 0 b ≡ b ++ drop (length b) target = stored_fits target 0 b (omega arith) ∙ ap (λ (n : ℕ). b ++ drop n target) (zero-add (length b)) in
      rw (e, le-leb _ _ h) (refl, z)
