-- `upid::text::next` meets its contract, arm by arm.
use Prim.Native.Nat.{ℕ, suc, ◌-◌, ◌≤◌, ◌<◌}
use mathlib.Core.Path.{◌≡◌, ap}
use mathlib.Core.List.{[], ◌∷◌}
use native.Mathlib.Omega.{arith}
use lib.ListN.{replicate}
use Rattle.upid.specs.Text.{tail, step}
use Rattle.upid.proofs.Ranges.{hit, over, under}
use Rattle.upid.proofs.text.next.Goals as goal

-- the tails that are left after the last byte but one, and after an earlier one
no_more : (n : ℕ) → n ≤ 1 → replicate (n - 1) tail ≡ []
no_more n h = let e : n - 1 ≡ 0 = omega arith in rw e

one_less : (n : ℕ) → 1 < n → replicate (n - 1) tail ≡ tail ∷ replicate (n - 1 - 1) tail
one_less n h = let e : n - 1 ≡ suc (n - 1 - 1) = omega arith in ap (λ (k : ℕ). replicate k tail) e

pub returns-then-b-low : goal.returns-then-b-low
unfolding step
returns-then-b-low c = rw (c.in-Want.is, under _ _ _ c.if-b-low.true)

pub returns-then-high-b : goal.returns-then-high-b
unfolding step
returns-then-high-b c = rw (c.in-Want.is, over _ _ _ c.if-high-b.true)

pub returns-in-Between : goal.returns-in-Between
unfolding step
returns-in-Between c = rw c.in-Between.is c.first.ensures

pub returns-then-more-le1 : goal.returns-then-more-le1
unfolding step
returns-then-more-le1 c = rw (c.in-Want.is, hit _ _ _ c.if-b-low.false c.if-high-b.false, no_more _ c.if-more-le1.true)

pub returns-else-more-le1 : goal.returns-else-more-le1
unfolding step
returns-else-more-le1 c = rw (c.in-Want.is, hit _ _ _ c.if-b-low.false c.if-high-b.false, one_less _ c.if-more-le1.false)

pub returns-in-Broken : goal.returns-in-Broken
unfolding step
returns-in-Broken c = rw c.in-Broken.is
