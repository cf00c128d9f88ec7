-- An array filled from its first place on with the elements of a list, of which it holds as many.
use Prim.Native.Nat.{ℕ, zero, suc, ◌+◌, ◌≤◌, ◌<◌}
use mathlib.Core.Path.{◌≡◌, sym, ap, ◌∙◌, subst}
use mathlib.Core.List.{List, append-nil, map}
use mathlib.Core.Logic.{⊎_elim}
use native.Mathlib.Nat.{zero-add}
use native.Mathlib.Numerals.{add-one}
use native.Mathlib.Omega.{arith}
use lib.ListN.{length, length-map, get_or-map, drop_of_length-le, set, get_or}
use lib.Seq.{paste, paste-suc, take_all}
use denote.Param.Members.{Mut, Called}
use Rattle.std.specs.Array.{IsFromFnResultFrom, IsFromFnResult}
use Rattle.std.proofs.lemmas.Bool.{cases_lt}
use Rattle.std.proofs.lemmas.List.{same_lists, get_or_default}

-- one element more
pub filled_turn : {A : Type 0} (base s out : List A) (i : ℕ) (x z : A) → i < length base → i < length s → x ≡ get_or s i z → out ≡ paste base 0 s i → set out i x ≡ paste base 0 s (i + 1)
filled_turn base s out i x z h g e p =
    let q : 0 + i < length base = omega (arith, zero-add i) in
    rw (p, e, add-one) (ap (λ (k : ℕ). set (paste base 0 s i) k (get_or s i z)) (sym (zero-add i)) ∙ paste-suc base 0 s i z q g)

-- all of them
pub filled_all : {A : Type 0} (base s out : List A) (i : ℕ) → length s ≤ i → length base ≤ i → out ≡ paste base 0 s i → out ≡ s
filled_all base s out i h g p =
    let q : length base ≤ 0 + i = omega (arith, zero-add i) in
    p ∙ rw (drop_of_length-le base q, take_all i s h) (append-nil s)

-- an array of what a function gives at each index is a list, if each call gives that list's element and leaves the function as it was
module _ {F A : Type 0} (g : Mut F (ℕ × Unit {0}) A) (f : F) (n : ℕ) (ys xs : List A) (l : length xs ≡ n)
    (gives : (i : ℕ) (y : A) (q : F) → i < n → Called g f (i, tt) y q → ((z : A) × (y ≡ get_or xs i z)) × (q ≡ f)) where
  made_at : (i m : ℕ) → i + m ≡ n → IsFromFnResultFrom g f ys i m → (k : ℕ) (d : A) → i ≤ k → k < n → get_or ys k d ≡ get_or xs k d
  made_at i zero e w k d a b = absurd (omega arith)
  made_at i (suc m) e w k d a b =
      let c = gives i w.1 w.0 (omega arith) w.3 in
      let here : get_or ys i d ≡ get_or xs i d = w.2.1 d ∙ c.0.1 ∙ get_or_default xs i c.0.0 d (omega arith) in
      let rest : IsFromFnResultFrom g f ys (i + 1) m = subst (λ (s : F). IsFromFnResultFrom g s ys (i + 1) m) c.1 w.4 in
      ⊎_elim (λ h. made_at (i + 1) m (omega arith) rest k d (omega arith) b) (λ h. let e : k ≡ i = omega arith in rw e here) (cases_lt i k)

  pub made : IsFromFnResult g f ys n → ys ≡ xs
  made w = same_lists ys xs (w.long ∙ sym l) (λ k d h. made_at 0 n (zero-add n) w.each k d (omega arith) (omega (arith, w.long)))

-- the same with what a function makes of each element of an array
pub made_map : {F A B : Type 0} (g : Mut F (ℕ × Unit {0}) B) (f : F) (n : ℕ) (h : A → B) (xs : List A) (ys : List B) → length xs ≡ n
    → ((i : ℕ) (y : B) (q : F) → i < n → Called g f (i, tt) y q → ((z : A) × (y ≡ h (get_or xs i z))) × (q ≡ f)) → IsFromFnResult g f ys n → ys ≡ map h xs
made_map g f n h xs ys l gives =
    made g f n ys (map h xs) (length-map xs h ∙ l) (λ i y q a k. let c = gives i y q a k in ((h c.0.0, c.0.1 ∙ sym (get_or-map h xs i c.0.0)), c.1))
