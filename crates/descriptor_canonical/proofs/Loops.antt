-- A loop of canonical descriptors, one after the other.
--     from_any                       any number from the count of the bytes on says the same
--     loop_first                     the first descriptor, and those after it
--     loop_few, loop_over, ..        what the walk answers: what is left says what the whole says
use Prim.Native.Nat.{ℕ, zero, suc, ◌+◌, ◌-◌, ◌<◌, ◌≤◌}
use mathlib.Core.Bool.{Bool, true, false, not, ◌&&◌}
use mathlib.Core.List.{List, [], ◌∷◌}
use mathlib.Core.Path.{◌≡◌, refl, ap, sym, ◌∙◌}
use native.Mathlib.Omega.{arith}
use lib.Dec.{leb}
use lib.ListN.{length, get_or, take, drop, length-take, length-drop, drop_of_length-le}
use lib.Seq.{drop-drop, get_or-drop, get_or-take}
use borrow.Author.Tests.{lt-leb, ne_eqb, not-true, not-false}
use Rattle.canonical_form.specs.Descriptor.{canonical_descriptor, canonical_from, canonical_loop}

pub from_any : (n m : ℕ) (l : List ℕ) → length l ≤ n → length l ≤ m → canonical_from n l ≡ canonical_from m l
unfolding canonical_from
from_any zero zero [] h k = refl
from_any zero (suc m) [] h k = refl
from_any (suc n) zero [] h k = refl
from_any (suc n) (suc m) [] h k = refl
from_any zero m (b ∷ bs) h k = absurd (omega arith)
from_any (suc n) zero (b ∷ bs) h k = absurd (omega arith)
from_any (suc n) (suc m) (b ∷ bs) h k =
    let t : ℕ = get_or (b ∷ bs) 1 0 + 2 in
    let d = length-drop t (b ∷ bs) in
    ap (λ (x : Bool). canonical_descriptor (take t (b ∷ bs)) && x) (from_any n m (drop t (b ∷ bs)) (omega (arith, d)) (omega (arith, d)))

pub loop_first : (l : List ℕ) → 0 < length l → canonical_loop l ≡ canonical_descriptor (take (get_or l 1 0 + 2) l) && canonical_loop (drop (get_or l 1 0 + 2) l)
unfolding canonical_loop canonical_from
loop_first [] h = absurd (omega arith)
loop_first (b ∷ bs) h =
    let t : ℕ = get_or (b ∷ bs) 1 0 + 2 in
    let d = length-drop t (b ∷ bs) in
    ap (λ (x : Bool). canonical_descriptor (take t (b ∷ bs)) && x) (from_any (length bs) (length (drop t (b ∷ bs))) (drop t (b ∷ bs)) (omega (arith, d)) (omega arith))

-- bytes that are no descriptor
too_few : (l : List ℕ) → length l < 6 → canonical_descriptor l ≡ false
unfolding canonical_descriptor
too_few l h = rw (lt-leb 6 (length l) h)

other_length : (l : List ℕ) → (get_or l 1 0 + 2 ≡ length l → ⊥) → canonical_descriptor l ≡ false
unfolding canonical_descriptor
other_length l h = rw (ne_eqb (get_or l 1 0 + 2) (length l) h) (go (leb 6 (length l)))
  where
    go : (a : Bool) → a && false ≡ false
    go true = refl
    go false = refl

module _ (s : List ℕ) (at : ℕ) (inside : at < length s) (t : ℕ) (et : t ≡ get_or s (at + 1) 0 + 2) (inv : canonical_loop (drop at s) ≡ canonical_loop s) where
  left : length (drop at s) ≡ length s - at
  left = length-drop at s

  size : get_or (drop at s) 1 0 + 2 ≡ t
  size = ap (λ (n : ℕ). n + 2) (get_or-drop at s 1 0) ∙ sym et

  first : canonical_loop (drop at s) ≡ canonical_descriptor (take t (drop at s)) && canonical_loop (drop (at + t) s)
  first =
      loop_first (drop at s) (omega (arith, left))
      ∙ ap (λ (n : ℕ). canonical_descriptor (take n (drop at s)) && canonical_loop (drop n (drop at s))) size
      ∙ ap (λ (l : List ℕ). canonical_descriptor (take t (drop at s)) && canonical_loop l) (drop-drop t at s)

  stopped : canonical_descriptor (take t (drop at s)) ≡ false → false ≡ canonical_loop s
  stopped e = sym (first ∙ ap (λ (b : Bool). b && canonical_loop (drop (at + t) s)) e) ∙ inv

  pub loop_few : length s - at < 6 → false ≡ canonical_loop s
  loop_few h = stopped (too_few (take t (drop at s)) (omega (arith, length-take t (drop at s), left)))

  pub loop_over : length s - at < t → false ≡ canonical_loop s
  loop_over h =
      let l : length (take t (drop at s)) < t = omega (arith, length-take t (drop at s), left) in
      let g : get_or (take t (drop at s)) 1 0 + 2 ≡ t = ap (λ (n : ℕ). n + 2) (get_or-take t (drop at s) 1 0 (omega (arith, et))) ∙ size in
      stopped (other_length (take t (drop at s)) (λ e. absurd (omega (arith, e, g, l))))

  module _ (r : Bool) (er : r ≡ canonical_descriptor (take (at + t - at) (drop at s))) where
    test : canonical_descriptor (take t (drop at s)) ≡ r
    test = let e : t ≡ at + t - at = omega arith in ap (λ (n : ℕ). canonical_descriptor (take n (drop at s))) e ∙ sym er

    pub loop_spoilt : not r ≡ true → false ≡ canonical_loop s
    loop_spoilt e = stopped (test ∙ not-true r e)

    pub loop_turn : not r ≡ false → canonical_loop (drop (at + t) s) ≡ canonical_loop s
    loop_turn e =
        let d : canonical_descriptor (take t (drop at s)) ≡ true = test ∙ not-false r e in
        sym (first ∙ ap (λ (b : Bool). b && canonical_loop (drop (at + t) s)) d) ∙ inv

pub loop_end : (s : List ℕ) (at : ℕ) → length s ≤ at → canonical_loop (drop at s) ≡ canonical_loop s → true ≡ canonical_loop s
unfolding canonical_loop canonical_from
loop_end s at h inv = sym (ap canonical_loop (drop_of_length-le s h)) ∙ inv
