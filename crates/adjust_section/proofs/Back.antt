-- Moved twice is moved once; and moved to where it was, it is the section again.
use Prim.Native.Nat.{ℕ, ◌+◌, ◌*◌, ◌-◌, ◌/◌, ◌%◌, ◌^◌, ◌<◌, ◌≤◌}
use mathlib.Core.List.{List, [], ◌∷◌, ◌++◌, append_assoc}
use mathlib.Core.Path.{◌≡◌, ap, ap₂, sym, ◌∙◌}
use native.Mathlib.Omega.{arith}
use lib.ListN.{length, get_or, take, drop}
use lib.Pow.{high}
use lib.Seq.{length-take-le, take_at, get_or-append-add, drop-cons}
use Rattle.crc.specs.Crc.{crc_of, crc_bytes_of}
use Rattle.crc.proofs.Laws.{crc_last}
use Rattle.table.specs.Bits.{bits_of, field, big_endian}
use Rattle.table.proofs.Reading.{five_bytes}
use Rattle.adjust_section.specs.Adjusted.{adjustment_in, with_adjustment, body_with, section_with}
use Rattle.adjust_section.proofs.Parts.{behind, length_behind, length_body, length_section, mended, new_is, old_is, new_behind}

-- ---- moved twice
first_byte : (b p : ℕ) → b < 256 → p < 2 ^ 33 → (b / 2 * 8589934592 + p) / 4294967296 % 256 / 2 ≡ b / 2
first_byte b p h k = omega arith

module _ (p q : ℕ) (s : List ℕ) (long : 18 ≤ length s) (byte : get_or s 4 0 < 256) (narrow : p < 2 ^ 33) where
  front : take 4 (section_with p s) ≡ take 4 s
  front = ap (take 4) (new_is p s long) ∙ take_at (take 4 s) _ 4 (length-take-le 4 s (omega arith))

  pub seven_bits : get_or (section_with p s) 4 0 / 2 ≡ get_or s 4 0 / 2
  seven_bits =
      let r = with_adjustment (get_or s 4 0) p ++ (behind s ++ mended p s long) in
      let l : length (take 4 s) ≡ 4 = length-take-le 4 s (omega arith) in
      let o : 4 ≡ length (take 4 s) + 0 = omega arith in
      let e : get_or (section_with p s) 4 0 ≡ get_or r 0 0 = ap₂ (λ (x : List ℕ) (k : ℕ). get_or x k 0) (new_is p s long) o ∙ get_or-append-add (take 4 s) r 0 0 in
      ap (λ (n : ℕ). n / 2) e ∙ first_byte (get_or s 4 0) p byte narrow

  rest : behind (section_with p s) ≡ behind s
  rest = ap₂ (λ (n : ℕ) (l : List ℕ). take (n - 13) l) (length_section p s long) (new_behind p s long) ∙ take_at (behind s) (mended p s long) (length s - 13) (length_behind s long)

  body_twice : body_with q (section_with p s) ≡ body_with q s
  unfolding body_with
  body_twice =
      ap₂ (λ (l r : List ℕ). l ++ r) front
      (ap₂ (λ (l r : List ℕ). l ++ r) (ap (λ (n : ℕ). big_endian 5 (n * 8589934592 + q)) seven_bits) rest)

  pub moved_twice : section_with q (section_with p s) ≡ section_with q s
  unfolding section_with
  moved_twice = ap (λ (l : List ℕ). l ++ crc_bytes_of l) body_twice

-- ---- moved to where it was
-- the byte x of a number that has h before it and r behind it
digit : (k h x r : ℕ) → x < 256 → r < 2 ^ k → ((h * 256 + x) * 2 ^ k + r) / 2 ^ k % 256 ≡ x
digit k h x r b l = ap (λ (n : ℕ). n % 256) (high (h * 256 + x) k l) ∙ omega arith

five : (a b c d e f : ℕ) → a < 256 → b < 256 → c < 256 → d < 256 → e < 256 → a % 2 * 4294967296 + b * 16777216 + c * 65536 + d * 256 + e ≡ f
    → big_endian 5 (a / 2 * 8589934592 + f) ≡ a ∷ (b ∷ (c ∷ (d ∷ (e ∷ []))))
five a b c d e f ha hb hc hd he is = digits (a / 2 * 8589934592 + f) (omega (arith, is))
  where
    digits : (n : ℕ) → n ≡ a * 4294967296 + b * 16777216 + c * 65536 + d * 256 + e → big_endian 5 n ≡ a ∷ (b ∷ (c ∷ (d ∷ (e ∷ []))))
    digits n w =
        let o₁ : n ≡ (0 * 256 + a) * 4294967296 + (b * 16777216 + c * 65536 + d * 256 + e) = omega (arith, w) in
        let o₂ : n ≡ (a * 256 + b) * 16777216 + (c * 65536 + d * 256 + e) = omega (arith, w) in
        let o₃ : n ≡ ((a * 256 + b) * 256 + c) * 65536 + (d * 256 + e) = omega (arith, w) in
        let o₄ : n ≡ (((a * 256 + b) * 256 + c) * 256 + d) * 256 + e = omega (arith, w) in
        let o₅ : n ≡ ((((a * 256 + b) * 256 + c) * 256 + d) * 256 + e) * 1 + 0 = omega (arith, w) in
        let z₁ : n / 4294967296 % 256 ≡ a = ap (λ (k : ℕ). k / 4294967296 % 256) o₁ ∙ digit 32 0 a _ ha (omega arith) in
        let z₂ : n / 16777216 % 256 ≡ b = ap (λ (k : ℕ). k / 16777216 % 256) o₂ ∙ digit 24 a b _ hb (omega arith) in
        let z₃ : n / 65536 % 256 ≡ c = ap (λ (k : ℕ). k / 65536 % 256) o₃ ∙ digit 16 (a * 256 + b) c _ hc (omega arith) in
        let z₄ : n / 256 % 256 ≡ d = ap (λ (k : ℕ). k / 256 % 256) o₄ ∙ digit 8 ((a * 256 + b) * 256 + c) d _ hd he in
        let z₅ : n / 1 % 256 ≡ e = ap (λ (k : ℕ). k / 1 % 256) o₅ ∙ digit 0 (((a * 256 + b) * 256 + c) * 256 + d) e 0 he (omega arith) in
        rw (z₁, z₂, z₃, z₄, z₅)

module _ (s : List ℕ) (long : 18 ≤ length s) (byte : (k : ℕ) → get_or s k 0 < 256) where
  four_bytes : take 4 (drop 5 s) ≡ get_or s 5 0 ∷ (get_or s 6 0 ∷ (get_or s 7 0 ∷ (get_or s 8 0 ∷ [])))
  four_bytes =
      ap (take 4) (drop-cons s 5 0 (omega arith)) ∙ ap (λ (l : List ℕ). get_or s 5 0 ∷ take 3 l) (drop-cons s 6 0 (omega arith))
      ∙ ap (λ (l : List ℕ). get_or s 5 0 ∷ (get_or s 6 0 ∷ take 2 l)) (drop-cons s 7 0 (omega arith))
      ∙ ap (λ (l : List ℕ). get_or s 5 0 ∷ (get_or s 6 0 ∷ (get_or s 7 0 ∷ take 1 l))) (drop-cons s 8 0 (omega arith))

  same_five : with_adjustment (get_or s 4 0) (adjustment_in s) ≡ get_or s 4 0 ∷ take 4 (drop 5 s)
  unfolding adjustment_in
  same_five =
      five (get_or s 4 0) (get_or s 5 0) (get_or s 6 0) (get_or s 7 0) (get_or s 8 0) (field (bits_of s) 39 33) (byte 4) (byte 5) (byte 6) (byte 7) (byte 8) (five_bytes s 4 (omega arith) byte)
      ∙ ap (λ (l : List ℕ). get_or s 4 0 ∷ l) (sym four_bytes)

  old_body : s ≡ body_with (adjustment_in s) s ++ drop (length s - 4) s
  unfolding body_with
  old_body =
      let m = with_adjustment (get_or s 4 0) (adjustment_in s) in
      let r = drop (length s - 4) s in
      old_is s long ∙ ap (λ (l : List ℕ). take 4 s ++ (l ++ (behind s ++ r))) (sym same_five)
      ∙ ap (λ (l : List ℕ). take 4 s ++ l) (sym (append_assoc m (behind s) r)) ∙ sym (append_assoc (take 4 s) (m ++ behind s) r)

  body_is : body_with (adjustment_in s) s ≡ take (length s - 4) s
  body_is =
      sym (ap (take (length s - 4)) old_body ∙ take_at (body_with (adjustment_in s) s) (drop (length s - 4) s) (length s - 4) (length_body (adjustment_in s) s long))

  pub moved_to_its_own : crc_of s ≡ 0 → section_with (adjustment_in s) s ≡ s
  unfolding section_with
  moved_to_its_own right = ap (λ (l : List ℕ). l ++ crc_bytes_of l) body_is ∙ sym (crc_last s (length s - 4) (omega arith) byte right)
