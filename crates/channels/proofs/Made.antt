-- An array made by a function of the index, by std's `array::from_fn`.
use Rattle.std.proofs.Common.{◌≡◌, ℕ, zero, suc, ◌+◌, ◌<◌, List, get_or, subst, ◌∙◌, add-zero, arith}
use Rattle.std.specs.Array.{IsFromFnResult, IsFromFnResultFrom}
use Rattle.std.specs.Fn.{Called}
use denote.Param.Members.{Mut}

-- what a function that calls leave as it is answers at each index below m
module _ {F B : Type 0} (g : Mut F (ℕ × Unit {0}) B) (f : F) (h : ℕ → B) (m : ℕ) where
  abbrev pub Gives : Type 0
  Gives = (x : ℕ) (y : B) (q : F) → x < m → Called g f (x, tt) y q → (q ≡ f) × (y ≡ h x)

  made_from : (ys : List B) (i n k : ℕ) (d : B) → Gives → i + n ≡ m → IsFromFnResultFrom g f ys i n → k < n → get_or ys (i + k) d ≡ h (i + k)
  made_from ys i zero k d s e r l = absurd (omega arith)
  made_from ys i (suc n) zero d s e (q, y, a, c, r) l = rw add-zero (a.1 d ∙ (s i y q (omega arith) c).1)
  made_from ys i (suc n) (suc k) d s e (q, y, a, c, r) l =
      let o : i + suc k ≡ (i + 1) + k = omega arith in
      rw o (made_from ys (i + 1) n k d s (omega arith) (subst (λ (x : F). IsFromFnResultFrom g x ys (i + 1) n) (s i y q (omega arith) c).0 r) (omega arith))

  pub made_at : (ys : List B) (k : ℕ) (d : B) → Gives → IsFromFnResult g f ys m → k < m → get_or ys k d ≡ h k
  made_at ys k d s r l =
      let o : 0 + k ≡ k = omega arith in
      rw o at (made_from ys 0 m k d s (omega arith) r.each l)
