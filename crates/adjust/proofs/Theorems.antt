-- 02, Q-12: a chain of adjustments can be replaced by a single one. For times and adjustments below 8,589,934,592.
use Prim.Native.Nat.{ℕ, ◌+◌, ◌-◌, ◌%◌, ◌^◌, ◌<◌, ◌≤◌}
use mathlib.Core.List.{List, [], ◌∷◌}
use mathlib.Core.Path.{◌≡◌, refl, ap, sym, ◌∙◌}
use native.Mathlib.Nat.{add_comm, add_assoc, add-zero, mod-eq_of_lt, mod-lt}
use native.Mathlib.Omega.{arith}
use Rattle.splice_time.specs.Time.{ticks, adjusted_of}
use Rattle.splice_time.proofs.Times.{adjust_at}
use Rattle.splice_time.specs.declared.SpliceTime.{SpliceTime}
use Rattle.splice_time.specs.declared.SpliceTime.TheVariants.{Immediate, Unspecified, At}
use Rattle.adjust.specs.Adjust.{moved_by, adjust_of, chain_of, undo_of, number_of}
use Rattle.adjust.specs.Chains.{and_then, through, sum, Each33, Reordered}
use Rattle.adjust.proofs.Laws.{adjust_is, adjust_wide, adjust_late, chain_is, undo_is, mod_twice, mod_late, mod_back, mod_only}
use Rattle.std.proofs.Common.{Ok, Some, Result}
use Rattle.splice_time.specs.declared.TooLarge.{TooLarge}

-- ---- a time that was moved has 33 bits
moved_fits : (t : SpliceTime) (a : ℕ) → ticks (moved_by a t) < 2 ^ 33
moved_fits Immediate a = omega arith
moved_fits Unspecified a = omega arith
moved_fits (At t) a = mod-lt (t + a) (omega arith)

moved_twice : (t : SpliceTime) (a b : ℕ) → moved_by b (moved_by a t) ≡ moved_by ((a + b) % 8589934592) t
moved_twice Immediate a b = refl
moved_twice Unspecified a b = refl
moved_twice (At t) a b = ap At (mod_twice (t + a) b ∙ ap (λ (x : ℕ). x % 8589934592) (add_assoc t a b) ∙ sym (mod_late t (a + b)))

remainder_fits : (n : ℕ) → n % 8589934592 < 2 ^ 33
remainder_fits n = mod-lt n (omega arith)

-- "adjusting by a and then by b is proved equal to adjusting once by the remainder of a + b"
pub a_and_then_b_is_once_by_their_sum : (t : SpliceTime) (a b : ℕ) → ticks t < 2 ^ 33 → a < 2 ^ 33 → b < 2 ^ 33
    → and_then (adjust_of t a) b ≡ adjust_of t ((a + b) % 8589934592)
a_and_then_b_is_once_by_their_sum t a b h k l =
    ap (λ (m : Result SpliceTime TooLarge). and_then m b) (adjust_is t a k h)
    ∙ adjust_is (moved_by a t) b l (moved_fits t a)
    ∙ ap Ok (moved_twice t a b)
    ∙ sym (adjust_is t ((a + b) % 8589934592) (remainder_fits (a + b)) h)

-- "in either order"
pub b_and_then_a_is_the_same : (t : SpliceTime) (a b : ℕ) → ticks t < 2 ^ 33 → a < 2 ^ 33 → b < 2 ^ 33 → and_then (adjust_of t b) a ≡ and_then (adjust_of t a) b
b_and_then_a_is_the_same t a b h k l =
    a_and_then_b_is_once_by_their_sum t b a h l k
    ∙ ap (λ (n : ℕ). adjust_of t (n % 8589934592)) (add_comm b a)
    ∙ sym (a_and_then_b_is_once_by_their_sum t a b h k l)

-- and that one adjustment is what `chain` answers
pub the_chain_is_that_adjustment : (a b : ℕ) → a < 2 ^ 33 → b < 2 ^ 33 → chain_of a b ≡ Ok ((a + b) % 8589934592)
the_chain_is_that_adjustment = chain_is

-- "adjusting by 0 changes nothing"
pub by_zero_nothing_changes : (t : SpliceTime) → ticks t < 2 ^ 33 → adjust_of t 0 ≡ Ok t
by_zero_nothing_changes t h = adjust_is t 0 (omega arith) h ∙ ap Ok (same t h)
  where
    same : (t : SpliceTime) → ticks t < 2 ^ 33 → moved_by 0 t ≡ t
    same Immediate h = refl
    same Unspecified h = refl
    same (At t) h = ap At (ap (λ (x : ℕ). x % 8589934592) (add-zero t) ∙ mod-eq_of_lt h)

-- "each adjustment has one that takes it back"
pub undone_is_as_before : (t : SpliceTime) (a u : ℕ) → ticks t < 2 ^ 33 → a < 2 ^ 33 → undo_of a ≡ Ok u → and_then (adjust_of t a) u ≡ Ok t
undone_is_as_before t a u h k e =
    let v : u ≡ (8589934592 - a) % 8589934592 = let f = sym e ∙ undo_is a k in cc in
    rw v (ap (λ (m : Result SpliceTime TooLarge). and_then m ((8589934592 - a) % 8589934592)) (adjust_is t a k h)
    ∙ adjust_is (moved_by a t) ((8589934592 - a) % 8589934592) (remainder_fits (8589934592 - a)) (moved_fits t a)
    ∙ ap Ok (back t h))
  where
    back : (t : SpliceTime) → ticks t < 2 ^ 33 → moved_by ((8589934592 - a) % 8589934592) (moved_by a t) ≡ t
    back Immediate h = refl
    back Unspecified h = refl
    back (At t) h = ap At (mod_back t a h k)

pub each_adjustment_can_be_undone : (a : ℕ) → a < 2 ^ 33 → (u : ℕ) × (undo_of a ≡ Ok u) × (u < 2 ^ 33)
each_adjustment_can_be_undone a h = ((8589934592 - a) % 8589934592, undo_is a h, remainder_fits (8589934592 - a))

-- and only one: whatever takes a back from one specified time is what `undo` answers
pub only_one_takes_it_back : (t a u : ℕ) → t < 2 ^ 33 → a < 2 ^ 33 → u < 2 ^ 33 → and_then (adjust_of (At t) a) u ≡ Ok (At t) → undo_of a ≡ Ok u
only_one_takes_it_back t a u h k l e =
    let f : adjust_of (At t) ((a + u) % 8589934592) ≡ Ok (At t) = sym (a_and_then_b_is_once_by_their_sum (At t) a u h k l) ∙ e in
    let g : Ok (At ((t + (a + u) % 8589934592) % 8589934592)) ≡ Ok (At t) = sym (adjust_is (At t) ((a + u) % 8589934592) (remainder_fits (a + u)) h) ∙ f in
    let n : (t + (a + u) % 8589934592) % 8589934592 ≡ t = cc in
    undo_is a k ∙ ap Ok (mod_only a u k l (overall t a u h k l n))
  where
    overall : (t a u : ℕ) → t < 8589934592 → a < 8589934592 → u < 8589934592 → (t + (a + u) % 8589934592) % 8589934592 ≡ t → (a + u) % 8589934592 ≡ 0
    overall t a u h k l n = omega (arith, n)

-- ---- a chain of any length: adjusting by each of a list in turn is adjusting once by the remainder of their sum
through_is : (t : SpliceTime) (l : List ℕ) → ticks t < 2 ^ 33 → Each33 l → through (Ok t) l ≡ adjust_of t (sum l % 8589934592)
through_is t [] h e = sym (by_zero_nothing_changes t h)
through_is t (a ∷ later) h e =
    ap (λ (m : Result SpliceTime TooLarge). through m later) (adjust_is t a e.0 h)
    ∙ through_is (moved_by a t) later (moved_fits t a) e.1
    ∙ adjust_is (moved_by a t) (sum later % 8589934592) (remainder_fits (sum later)) (moved_fits t a)
    ∙ ap Ok (moved_twice t a (sum later % 8589934592) ∙ ap (λ (n : ℕ). moved_by n t) (mod_late a (sum later)))
    ∙ sym (adjust_is t ((a + sum later) % 8589934592) (remainder_fits (a + sum later)) h)

pub a_chain_is_once_by_its_sum : (t : SpliceTime) (l : List ℕ) → ticks t < 2 ^ 33 → Each33 l → through (Ok t) l ≡ adjust_of t (sum l % 8589934592)
a_chain_is_once_by_its_sum = through_is

sum_of : {l r : List ℕ} → Reordered l r → sum l ≡ sum r
sum_of Reordered.none = refl
sum_of (Reordered.kept {a} p) = ap (λ (n : ℕ). a + n) (sum_of p)
sum_of (Reordered.exchanged {a} {b} {l}) = omega arith
sum_of (Reordered.joined p q) = sum_of p ∙ sum_of q

each_of : {l r : List ℕ} → Reordered l r → Each33 l → Each33 r
each_of Reordered.none e = e
each_of (Reordered.kept p) e = (e.0, each_of p e.1)
each_of Reordered.exchanged e = (e.1.0, (e.0, e.1.1))
each_of (Reordered.joined p q) e = each_of q (each_of p e)

-- "in any order of the list"
pub a_chain_in_any_order : (t : SpliceTime) (l r : List ℕ) → Reordered l r → ticks t < 2 ^ 33 → Each33 l → through (Ok t) l ≡ through (Ok t) r
a_chain_in_any_order t l r p h e = through_is t l h e ∙ ap (λ (n : ℕ). adjust_of t (n % 8589934592)) (sum_of p) ∙ sym (through_is t r h (each_of p e))

-- ---- what it means for a cue: under pts_adjustment `chain p a` the adjusted time of a specified time is the one under p, adjusted by a
pub the_header_and_the_time_agree : (t p a : ℕ) → t < 2 ^ 33 → p < 2 ^ 33 → a < 2 ^ 33
    → (adjusted_of (At t) p ≡ Ok (Some ((t + p) % 8589934592)))
    × (adjusted_of (At t) ((p + a) % 8589934592) ≡ Ok (Some (((t + p) % 8589934592 + a) % 8589934592)))
the_header_and_the_time_agree t p a h k l = (
  sym (adjust_at p k (At t) t refl h),
  sym (adjust_at ((p + a) % 8589934592) (remainder_fits (p + a)) (At t) t refl h)
      ∙ ap (λ x. Ok (Some x)) (mod_late t (p + a) ∙ ap (λ (x : ℕ). x % 8589934592) (sym (add_assoc t p a)) ∙ sym (mod_twice (t + p) a)),
)

-- ---- "An unspecified or immediate time stays so."
pub no_time_stays_so : (a : ℕ) → a < 2 ^ 33 → (adjust_of Unspecified a ≡ Ok Unspecified) × (adjust_of Immediate a ≡ Ok Immediate)
no_time_stays_so a h = (adjust_is Unspecified a h (omega arith), adjust_is Immediate a h (omega arith))

-- ---- "Refusals: 32 for a number of 2^33 or more", and nothing else
pub numbers_of_34_bits_are_refused : (t : SpliceTime) (a : ℕ) → (2 ^ 33 ≤ a → number_of (adjust_of t a) ≡ 32) × (a < 2 ^ 33 → 2 ^ 33 ≤ ticks t → number_of (adjust_of t a) ≡ 32)
    × (a < 2 ^ 33 → ticks t < 2 ^ 33 → number_of (adjust_of t a) ≡ 0)
numbers_of_34_bits_are_refused t a =
    (λ h. ap number_of (adjust_wide t a h), λ h k. ap number_of (adjust_late t a h k), λ h k. ap number_of (adjust_is t a h k))
