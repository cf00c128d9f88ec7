-- Bytes as hexadecimal digits, and stores of these.
use Prim.Native.Nat.{ℕ, ◌+◌, ◌*◌, ◌/◌, ◌%◌, ◌≤◌, ◌<◌}
use mathlib.Core.List.{List, [], ◌∷◌, ◌++◌, append_assoc}
use mathlib.Core.Path.{◌≡◌, refl, ap, ◌∙◌}
use native.Mathlib.Numerals.{add-one}
use native.Mathlib.Omega.{arith}
use lib.ListN.{length, take, get_or, set, length-append}
use lib.Seq.{length-take-le, take-suc}
use Rattle.table.specs.Lent.{stored}
use Rattle.table.proofs.Stores.{stored_behind}
use Rattle.daterange_writer.specs.Writing.{hex_digit, hex_of}

pub hex_append : (a b : List ℕ) → hex_of (a ++ b) ≡ hex_of a ++ hex_of b
unfolding hex_of
hex_append [] b = refl
hex_append (x ∷ a) b = rw (hex_append a b)

pub hex_length : (s : List ℕ) → length (hex_of s) ≡ length s * 2
unfolding hex_of
hex_length [] = refl
hex_length (x ∷ s) = omega (arith, hex_length s)

module _ (s : List ℕ) (i : ℕ) (h : i < length s) where
  hex_more : hex_of (take (i + 1) s) ≡ hex_of (take i s) ++ (hex_digit (get_or s i 0 / 16) ∷ (hex_digit (get_or s i 0 % 16) ∷ []))
  unfolding hex_of
  hex_more =
      let e : take (i + 1) s ≡ take i s ++ (get_or s i 0 ∷ []) = rw (add-one i) (take-suc s i 0 h) in
      ap hex_of e ∙ hex_append (take i s) (get_or s i 0 ∷ [])

  pub hex_store : (t : List ℕ) (at x y : ℕ) → at + length s * 2 ≤ length t → x ≡ hex_digit (get_or s i 0 / 16) → y ≡ hex_digit (get_or s i 0 % 16)
      → set (set (stored t at (hex_of (take i s))) (at + i * 2) x) (at + i * 2 + 1) y ≡ stored t at (hex_of (take (i + 1) s))
  hex_store t at x y l e f =
      let b = hex_of (take i s) in
      let n : length b ≡ i * 2 = hex_length (take i s) ∙ ap (λ (k : ℕ). k * 2) (length-take-le i s (omega arith)) in
      let m : length (b ++ (x ∷ [])) ≡ i * 2 + 1 = length-append b (x ∷ []) ∙ omega arith in
      let p : at + (i * 2 + 1) ≡ at + i * 2 + 1 = omega arith in
      let g : set (stored t at b) (at + i * 2) x ≡ stored t at (b ++ (x ∷ [])) = rw n at (stored_behind t at x b (omega arith)) in
      let k : set (stored t at (b ++ (x ∷ []))) (at + (i * 2 + 1)) y ≡ stored t at ((b ++ (x ∷ [])) ++ (y ∷ [])) = rw m at (stored_behind t at y (b ++ (x ∷ [])) (omega arith)) in
      rw (hex_more, ← e, ← f, g, ← p, k, append_assoc b (x ∷ []) (y ∷ []))
