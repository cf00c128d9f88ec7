-- The parts of a section with another pts_adjustment: its length, its bytes and its bits.
use Prim.Native.Nat.{ℕ, suc, ◌+◌, ◌*◌, ◌-◌, ◌/◌, ◌^◌, ◌<◌, ◌≤◌}
use mathlib.Core.List.{List, ◌∷◌, ◌++◌, append_assoc}
use mathlib.Core.Path.{◌≡◌, refl, ap, ap₂, sym, ◌∙◌}
use native.Mathlib.Omega.{arith}
use lib.ListN.{length, get_or, take, drop, length-append, length-drop, take-append-drop, get_or-append}
use lib.Seq.{length-take-le, take-append-le, drop-append-le, drop_at, drop-drop, drop-cons, get_or-drop, get_or-take}
use Rattle.crc.specs.Crc.{crc_bytes_of}
use Rattle.table.specs.Bits.{num, bits_of_num, bits_of, field}
use Rattle.table.proofs.Bits.{all_num, length_num, length_bits, bits_split, bits_join, bits_append, bytes_num}
use Rattle.table.proofs.Fields.{bits_bytes, field_num}
use Rattle.adjust_section.specs.Adjusted.{with_adjustment, body_with, section_with}

-- what stands between pts_adjustment and the CRC
abbrev pub behind : List ℕ → List ℕ
behind s = take (length s - 13) (drop 9 s)

pub length_behind : (s : List ℕ) → 18 ≤ length s → length (behind s) ≡ length s - 13
length_behind s h = length-take-le (length s - 13) (drop 9 s) (omega (arith, length-drop 9 s))

module _ (p : ℕ) (s : List ℕ) (long : 18 ≤ length s) where
  pub length_body : length (body_with p s) ≡ length s - 4
  unfolding body_with
  length_body =
      let m = with_adjustment (get_or s 4 0) p in
      length-append (take 4 s) (m ++ behind s) ∙ omega (arith, length-take-le 4 s (omega arith), length-append m (behind s), length_behind s long)

  pub length_section : length (section_with p s) ≡ length s
  unfolding section_with
  length_section = length-append (body_with p s) (crc_bytes_of (body_with p s)) ∙ omega (arith, length_body)

  abbrev pub mended : List ℕ
  mended = crc_bytes_of (body_with p s)

  pub new_is : section_with p s ≡ take 4 s ++ (with_adjustment (get_or s 4 0) p ++ (behind s ++ mended))
  unfolding body_with section_with
  new_is = append_assoc (take 4 s) (with_adjustment (get_or s 4 0) p ++ behind s) mended ∙ ap (λ (l : List ℕ). take 4 s ++ l) (append_assoc (with_adjustment (get_or s 4 0) p) (behind s) mended)

-- the old one in the same parts
pub old_is : (s : List ℕ) → 18 ≤ length s → s ≡ take 4 s ++ ((get_or s 4 0 ∷ take 4 (drop 5 s)) ++ (behind s ++ drop (length s - 4) s))
old_is s long =
    let five : take 5 (drop 4 s) ≡ get_or s 4 0 ∷ take 4 (drop 5 s) = ap (take 5) (drop-cons s 4 0 (omega arith)) in
    let o : 9 + (length s - 13) ≡ length s - 4 = omega arith in
    let rest : drop 9 s ≡ behind s ++ drop (length s - 4) s =
    sym (take-append-drop (length s - 13) (drop 9 s)) ∙ ap (λ (l : List ℕ). behind s ++ l) (drop-drop (length s - 13) 9 s ∙ ap (λ (n : ℕ). drop n s) o) in
    sym (take-append-drop 4 s)
    ∙ ap (λ (l : List ℕ). take 4 s ++ l) (sym (take-append-drop 5 (drop 4 s)) ∙ ap₂ (λ (l r : List ℕ). l ++ r) five (drop-drop 5 4 s ∙ rest))

-- ---- bits: 39 that stay, 33, and the rest
join_bits : (f m r h x : List ℕ) → bits_of m ≡ h ++ x → bits_of (f ++ (m ++ r)) ≡ (bits_of f ++ h) ++ (x ++ bits_of r)
join_bits f m r h x e =
    bits_append f (m ++ r) ∙ ap (λ (l : List ℕ). bits_of f ++ l) (bits_append m r ∙ ap (λ (l : List ℕ). l ++ bits_of r) e ∙ append_assoc h x (bits_of r))
    ∙ sym (append_assoc (bits_of f) h (x ++ bits_of r))

middle_bits : (b p : ℕ) → p < 2 ^ 33 → bits_of (with_adjustment b p) ≡ bits_of_num 7 (b / 2) ++ bits_of_num 33 p
middle_bits b p h =
    let n = b / 2 * 8589934592 + p in
    ap bits_of (sym (bytes_num 5 n)) ∙ bits_bytes 5 (bits_of_num 40 n) (all_num 40 n) (length_num 40 n) ∙ sym (bits_join 7 33 (b / 2) p h)

byte_bits : (b : ℕ) (l : List ℕ) → bits_of (b ∷ l) ≡ bits_of_num 7 (b / 2) ++ (bits_of_num 1 b ++ bits_of l)
byte_bits b l = ap (λ (x : List ℕ). x ++ bits_of l) (bits_split 7 1 b) ∙ append_assoc (bits_of_num 7 (b / 2)) (bits_of_num 1 b) (bits_of l)

run_same : (h r : List ℕ) (at w : ℕ) → at + w ≤ length h → take w (drop at (h ++ r)) ≡ take w (drop at h)
run_same h r at w l = ap (take w) (drop-append-le at h r (omega arith)) ∙ take-append-le w (drop at h) r (omega (arith, length-drop at h))

field_front : (h r : List ℕ) (at w : ℕ) → at + w ≤ length h → field (h ++ r) at w ≡ field h at w
field_front h r at w l = ap (num 0) (run_same h r at w l)

field_back : (h x r : List ℕ) (n k at w : ℕ) → length h ≡ n → length x ≡ k → field (h ++ (x ++ r)) (n + k + at) w ≡ field r at w
field_back h x r n k at w en ek =
    ap (λ (l : List ℕ). num 0 (take w l))
    (sym (drop-drop at (n + k) (h ++ (x ++ r))) ∙ ap (drop at) (sym (drop-drop k n (h ++ (x ++ r))) ∙ ap (drop k) (drop_at h (x ++ r) n en) ∙ drop_at x r k ek))

module _ (s : List ℕ) (long : 18 ≤ length s) where
  abbrev staying : List ℕ
  staying = bits_of (take 4 s) ++ bits_of_num 7 (get_or s 4 0 / 2)

  abbrev leaving : List ℕ
  leaving = bits_of_num 1 (get_or s 4 0) ++ bits_of (take 4 (drop 5 s))

  length_staying : length staying ≡ 39
  length_staying = length-append (bits_of (take 4 s)) (bits_of_num 7 (get_or s 4 0 / 2)) ∙ omega (arith, length_bits (take 4 s), length-take-le 4 s (omega arith))

  length_leaving : length leaving ≡ 33
  length_leaving =
      length-append (bits_of_num 1 (get_or s 4 0)) (bits_of (take 4 (drop 5 s)))
      ∙ omega (arith, length_bits (take 4 (drop 5 s)), length-take-le 4 (drop 5 s) (omega (arith, length-drop 5 s)))

  old_bits : bits_of s ≡ staying ++ (leaving ++ bits_of (behind s ++ drop (length s - 4) s))
  old_bits =
      ap bits_of (old_is s long)
      ∙ join_bits (take 4 s) (get_or s 4 0 ∷ take 4 (drop 5 s)) (behind s ++ drop (length s - 4) s) _ _ (byte_bits (get_or s 4 0) (take 4 (drop 5 s)))

  module _ (p : ℕ) (narrow : p < 2 ^ 33) where
    new_bits : bits_of (section_with p s) ≡ staying ++ (bits_of_num 33 p ++ bits_of (behind s ++ mended p s long))
    new_bits = ap bits_of (new_is p s long) ∙ join_bits (take 4 s) (with_adjustment (get_or s 4 0) p) (behind s ++ mended p s long) _ _ (middle_bits (get_or s 4 0) p narrow)

    pub front_same : (at w : ℕ) → at + w ≤ 39 → field (bits_of (section_with p s)) at w ≡ field (bits_of s) at w
    front_same at w h =
        ap (λ (l : List ℕ). field l at w) new_bits ∙ field_front staying _ at w (omega (arith, length_staying))
        ∙ sym (ap (λ (l : List ℕ). field l at w) old_bits ∙ field_front staying _ at w (omega (arith, length_staying)))

    pub moved_is : field (bits_of (section_with p s)) 39 33 ≡ p
    moved_is =
        ap (λ (l : List ℕ). field l 39 33) (new_bits ∙ sym (append_assoc staying (bits_of_num 33 p) (bits_of (behind s ++ mended p s long))))
        ∙ field_num staying (bits_of (behind s ++ mended p s long)) 39 33 p length_staying narrow

    behind_field : (r : List ℕ) (at w : ℕ) → at + w ≤ (length s - 13) * 8 → field (bits_of (behind s ++ r)) at w ≡ field (bits_of (behind s)) at w
    behind_field r at w h =
        ap (λ (l : List ℕ). field l at w) (bits_append (behind s) r) ∙ field_front (bits_of (behind s)) (bits_of r) at w (omega (arith, length_bits (behind s), length_behind s long))

    pub back_same : (at w : ℕ) → at + w ≤ (length s - 13) * 8 → field (bits_of (section_with p s)) (72 + at) w ≡ field (bits_of s) (72 + at) w
    back_same at w h =
        ap (λ (l : List ℕ). field l (72 + at) w) new_bits ∙ field_back staying (bits_of_num 33 p) _ 39 33 at w length_staying (length_num 33 p) ∙ behind_field (mended p s long) at w h
        ∙ sym (ap (λ (l : List ℕ). field l (72 + at) w) old_bits ∙ field_back staying leaving _ 39 33 at w length_staying length_leaving ∙ behind_field (drop (length s - 4) s) at w h)

-- ---- bytes: four that stay, five, and the rest
drop_nine : (f m r : List ℕ) → length f ≡ 4 → length m ≡ 5 → drop 9 (f ++ (m ++ r)) ≡ r
drop_nine f m r ef em = sym (drop-drop 5 4 (f ++ (m ++ r))) ∙ ap (drop 5) (drop_at f (m ++ r) 4 ef) ∙ drop_at m r 5 em

module _ (p : ℕ) (s : List ℕ) (long : 18 ≤ length s) where
  four : length (take 4 s) ≡ 4
  four = length-take-le 4 s (omega arith)

  pub new_behind : drop 9 (section_with p s) ≡ behind s ++ mended p s long
  new_behind = ap (drop 9) (new_is p s long) ∙ drop_nine (take 4 s) (with_adjustment (get_or s 4 0) p) (behind s ++ mended p s long) four refl

  old_behind : drop 9 s ≡ behind s ++ drop (length s - 4) s
  old_behind =
      ap (drop 9) (old_is s long)
      ∙ drop_nine (take 4 s) (get_or s 4 0 ∷ take 4 (drop 5 s)) (behind s ++ drop (length s - 4) s) four (ap suc (length-take-le 4 (drop 5 s) (omega (arith, length-drop 5 s))))

  -- a run of bytes behind pts_adjustment
  behind_run : (l r : List ℕ) (at n : ℕ) → drop 9 l ≡ behind s ++ r → at + n ≤ length s - 13 → take n (drop (9 + at) l) ≡ take n (drop at (behind s))
  behind_run l r at n e h =
      ap (take n) (sym (drop-drop at 9 l) ∙ ap (drop at) e) ∙ run_same (behind s) r at n (omega (arith, length_behind s long))

  pub run_kept : (at n : ℕ) → at + n ≤ length s - 13 → take n (drop (9 + at) (section_with p s)) ≡ take n (drop (9 + at) s)
  run_kept at n h = behind_run (section_with p s) (mended p s long) at n new_behind h ∙ sym (behind_run s (drop (length s - 4) s) at n old_behind h)

  behind_byte : (l r : List ℕ) (k : ℕ) → drop 9 l ≡ behind s ++ r → k < length s - 13 → get_or l (9 + k) 0 ≡ get_or (behind s) k 0
  behind_byte l r k e h = sym (get_or-drop 9 l k 0) ∙ ap (λ (x : List ℕ). get_or x k 0) e ∙ get_or-append (behind s) r 0 k (omega (arith, length_behind s long))

  pub byte_kept : (k : ℕ) → k < length s - 13 → get_or (section_with p s) (9 + k) 0 ≡ get_or s (9 + k) 0
  byte_kept k h = behind_byte (section_with p s) (mended p s long) k new_behind h ∙ sym (behind_byte s (drop (length s - 4) s) k old_behind h)

  pub first_kept : (k : ℕ) → k < 4 → get_or (section_with p s) k 0 ≡ get_or s k 0
  first_kept k h =
      let e : (r : List ℕ) → get_or (take 4 s ++ r) k 0 ≡ get_or s k 0 = λ r. get_or-append (take 4 s) r 0 k (omega (arith, four)) ∙ get_or-take 4 s k 0 h in
      ap (λ (l : List ℕ). get_or l k 0) (new_is p s long) ∙ e _
