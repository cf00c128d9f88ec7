-- Fields of bits in terms of each other and of bytes.
--     field_bits, field_below, field_num     a field that is there: its bits, its bound; and one that was written
--     field_add, field_byte, field_end       a field in two parts, one byte more, nothing more
--     bits_bytes                             the bits of bytes that were made of bits
use Prim.Native.Nat.{ℕ, zero, suc, ◌+◌, ◌*◌, ◌/◌, ◌%◌, ◌^◌, ◌<◌, ◌≤◌}
use mathlib.Core.List.{List, [], ◌∷◌, ◌++◌, append_assoc}
use mathlib.Core.Path.{◌≡◌, refl, ap, sym, ◌∙◌}
use native.Mathlib.Nat.{add-zero, zero-add, mul-one, pow-suc, add-mul, mul_assoc, add_assoc, mul_comm, mod-eq_of_lt}
use native.Mathlib.Omega.{arith}
use lib.ListN.{length, get_or, take, drop, length-drop, take-append-drop, drop_of_length-le}
use lib.Pow.{high, low}
use lib.Seq.{take-add, drop-drop, drop-cons, drop_at, take_at, length-take-le}
use Rattle.table.specs.Bits.{num, bits_of_num, bits_of, field, bytes_n, bytes_of}
use Rattle.table.proofs.Bits.{AllBits, all_bits, all_drop, all_take, length_bits, length_num, num_of, num_byte, num_back, num_below, bits_from}

module _ (bs : List ℕ) (at w : ℕ) (bits : AllBits bs) (there : at + w ≤ length bs) where
  taken : length (take w (drop at bs)) ≡ w
  taken = length-take-le w (drop at bs) (omega (arith, length-drop at bs))

  pub field_bits : bits_of_num w (field bs at w) ++ drop (at + w) bs ≡ drop at bs
  field_bits =
      let e : bits_of_num w (field bs at w) ≡ take w (drop at bs) = rw taken at (num_back (take w (drop at bs)) 0 (all_take w (drop at bs) (all_drop at bs bits))).0 in
      rw (e, ← drop-drop w at bs) (take-append-drop w (drop at bs))

  pub field_below : field bs at w < 2 ^ w
  field_below = rw taken at (num_below (take w (drop at bs)) (all_take w (drop at bs) (all_drop at bs bits)))

pub field_num : (pre r : List ℕ) (at w v : ℕ) → length pre ≡ at → v < 2 ^ w → field (pre ++ bits_of_num w v ++ r) at w ≡ v
field_num pre r at w v e h =
    rw (append_assoc, drop_at pre (bits_of_num w v ++ r) at e, take_at (bits_of_num w v) r w (length_num w v))
    (num_of w v ∙ mod-eq_of_lt h)

-- ---- bits to bytes and back
bits_bytes_n : (n : ℕ) (l : List ℕ) → AllBits l → length l ≡ n * 8 → bits_of (bytes_n n l) ≡ l
bits_bytes_n zero [] k e = refl
bits_bytes_n zero (a ∷ l) k e = absurd (omega arith)
bits_bytes_n (suc n) l k e =
    ap (λ (t : List ℕ). bits_of_num 8 (field l 0 8) ++ t) (bits_bytes_n n (drop 8 l) (all_drop 8 l k) (length-drop 8 l ∙ omega arith))
    ∙ field_bits l 0 8 k (omega arith)

pub bits_bytes : (n : ℕ) (l : List ℕ) → AllBits l → length l ≡ n * 8 → bits_of (bytes_of l) ≡ l
bits_bytes n l k e =
    let b : length l / 8 ≡ n = omega arith in
    ap (λ (m : ℕ). bits_of (bytes_n m l)) b ∙ bits_bytes_n n l k e

-- ---- a field in parts
num_append : (l r : List ℕ) (acc : ℕ) → num acc (l ++ r) ≡ num (num acc l) r
num_append [] r acc = refl
num_append (b ∷ l) r acc = num_append l r (acc * 2 + b)

num_from : (l : List ℕ) (acc : ℕ) → num acc l ≡ acc * 2 ^ length l + num 0 l
num_from [] acc = simp (mul-one, add-zero)
num_from (b ∷ l) acc =
    num_from l (acc * 2 + b)
    ∙ simp (add-mul, mul_assoc, add_assoc, pow-suc, mul_comm 2 (2 ^ length l))
    (ap (λ (x : ℕ). acc * (2 ^ length l * 2) + x) (sym (num_from l b) ∙ ap (λ (x : ℕ). num x l) (sym (zero-add b))))

-- m bits and k after them
pub field_add : (bs : List ℕ) (a m k : ℕ) → a + m + k ≤ length bs → field bs a (m + k) ≡ field bs a m * 2 ^ k + field bs (a + m) k
field_add bs a m k h =
    ap (num 0) (take-add m k (drop a bs)) ∙ num_append (take m (drop a bs)) (take k (drop m (drop a bs))) 0
    ∙ num_from (take k (drop m (drop a bs))) (field bs a m)
    ∙ rw (drop-drop m a bs, length-take-le k (drop (a + m) bs) (omega (arith, length-drop (a + m) bs)))

-- no bit is left
pub field_end : (bs : List ℕ) (a m k : ℕ) → length bs ≤ a + m → field bs a (m + k) ≡ field bs a m
field_end bs a m k h =
    ap (num 0) (take-add m k (drop a bs)) ∙ num_append (take m (drop a bs)) (take k (drop m (drop a bs))) 0
    ∙ rw (drop-drop m a bs, drop_of_length-le bs h, take_nil k)
  where
    take_nil : (k : ℕ) → ◌≡◌ {A = List ℕ} (take k []) []
    take_nil zero = refl
    take_nil (suc k) = refl

module _ (s : List ℕ) (q : ℕ) (inside : q < length s) (byte : get_or s q 0 < 256) where
  -- a whole byte
  pub byte_field : field (bits_of s) (q * 8) 8 ≡ get_or s q 0
  byte_field =
      ap (λ (l : List ℕ). num 0 (take 8 l)) (bits_from q s ∙ ap bits_of (drop-cons s q 0 inside))
      ∙ num_byte 0 (get_or s q 0) [] byte ∙ omega arith

  -- w bits of a byte, of which j stand before them and k after them
  pub field_in : (j w k : ℕ) → j + w + k ≡ 8 → field (bits_of s) (q * 8 + j) w ≡ get_or s q 0 / 2 ^ k % 2 ^ w
  field_in j w k e =
      let room : q * 8 + j + w + k ≤ length (bits_of s) = omega (arith, length_bits s) in
      let overall : field (bits_of s) (q * 8) (j + w + k) ≡ get_or s q 0 = ap (field (bits_of s) (q * 8)) e ∙ byte_field in
      sym (ap (λ (x : ℕ). x / 2 ^ k % 2 ^ w) (sym overall ∙ field_add (bits_of s) (q * 8) (j + w) k (omega arith))
      ∙ ap (λ (x : ℕ). x % 2 ^ w) (high (field (bits_of s) (q * 8) (j + w)) k (field_below (bits_of s) (q * 8 + (j + w)) k (all_bits s) (omega arith)))
      ∙ ap (λ (x : ℕ). x % 2 ^ w) (field_add (bits_of s) (q * 8) j w (omega arith))
      ∙ low (field (bits_of s) (q * 8) j) w (field_below (bits_of s) (q * 8 + j) w (all_bits s) (omega arith)))

  -- and those bits after m others
  pub field_more : (a m j w k : ℕ) → a + m ≡ q * 8 + j → j + w + k ≡ 8 → field (bits_of s) a (m + w) ≡ field (bits_of s) a m * 2 ^ w + get_or s q 0 / 2 ^ k % 2 ^ w
  field_more a m j w k e f =
      field_add (bits_of s) a m w (omega (arith, length_bits s))
      ∙ ap (λ (x : ℕ). field (bits_of s) a m * 2 ^ w + field (bits_of s) x w) e
      ∙ ap (λ (x : ℕ). field (bits_of s) a m * 2 ^ w + x) (field_in j w k f)

  -- one byte more
  pub field_byte : (a m : ℕ) → a + m ≡ q * 8 → field (bits_of s) a (m + 8) ≡ field (bits_of s) a m * 256 + get_or s q 0
  field_byte a m e =
      field_more a m 0 8 0 (omega arith) refl ∙ ap (λ (x : ℕ). field (bits_of s) a m * 256 + x) (let z : get_or s q 0 / 1 % 256 ≡ get_or s q 0 = omega arith in z)
