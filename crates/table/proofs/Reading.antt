-- What the functions that read numbers rest on.
--     field_lt, field_exact      a field is below 2 ^ w, so 64 bits hold one of at most 64
--     bits_are                   what `bits` answers of at most 64 bits
--     turn_bits, turn_byte, turn_none     a turn of the loops that read
--     shift_in                   w bits more behind a number that is kept modulo 2 ^ 64
use Prim.Native.Nat.{ℕ, ◌+◌, ◌*◌, ◌-◌, ◌/◌, ◌%◌, ◌^◌, ◌<◌, ◌≤◌}
use mathlib.Core.List.{List}
use mathlib.Core.Path.{◌≡◌, refl, ap, ap₂, sym, ◌∙◌}
use native.Mathlib.Nat.{zero-add, add-zero, one-mul, div-one, mod-eq_of_lt, mod-lt, mul-mod_left}
use native.Mathlib.Omega.{arith}
use lib.ListN.{length, get_or, take, drop, length-take}
use lib.Pow.{pow_pos, pow_mono, mod-pow-add, mod-mod-pow, shl-shr, high, low}
use Rattle.table.specs.Bits.{num, bits_of, field}
use Rattle.table.proofs.Bits.{all_bits, all_take, all_drop, length_bits, num_below}
use Rattle.table.proofs.Fields.{field_in, field_more, field_byte, field_end}

pub field_lt : (s : List ℕ) (at w : ℕ) → field (bits_of s) at w < 2 ^ w
field_lt s at w =
    let l = take w (drop at (bits_of s)) in
    let h : num 0 l < 2 ^ length l = num_below l (all_take w (drop at (bits_of s)) (all_drop at (bits_of s) (all_bits s))) in
    let m : 2 ^ length l ≤ 2 ^ w = pow_mono (omega (arith, length-take w (drop at (bits_of s)))) in
    omega arith

pub field_exact : (s : List ℕ) (at w : ℕ) → w ≤ 64 → field (bits_of s) at w % 2 ^ 64 ≡ field (bits_of s) at w
field_exact s at w h =
    let m : 2 ^ w ≤ 2 ^ 64 = pow_mono h in
    mod-eq_of_lt (omega (arith, field_lt s at w))

-- what `bits` answers of at most 64 bits
pub bits_are : (s : List ℕ) (at w v : ℕ) → w ≤ 64 → v ≡ field (bits_of s) at w % 2 ^ 64 → (v ≡ field (bits_of s) at w) × (v < 2 ^ w)
bits_are s at w v h e =
    let f : v ≡ field (bits_of s) at w = e ∙ field_exact s at w h in
    (f, rw f (field_lt s at w))

pub shift_in : (f w d : ℕ) → w ≤ 64 → d < 2 ^ w → f % 2 ^ 64 * 2 ^ w % 2 ^ 64 + d ≡ (f * 2 ^ w + d) % 2 ^ 64
shift_in f w d h l =
    let k = 64 - w in
    let e : 64 ≡ k + w = omega arith in
    let a : f % 2 ^ 64 * 2 ^ w % 2 ^ (k + w) ≡ f % 2 ^ k * 2 ^ w =
    mod-pow-add (f % 2 ^ 64 * 2 ^ w) k w
    ∙ ap₂ (λ (x y : ℕ). x % 2 ^ k * 2 ^ w + y) (shl-shr (f % 2 ^ 64) w) (mul-mod_left (f % 2 ^ 64) (2 ^ w))
    ∙ add-zero (f % 2 ^ 64 % 2 ^ k * 2 ^ w)
    ∙ ap (λ (x : ℕ). x * 2 ^ w) (ap (λ (x : ℕ). f % 2 ^ x % 2 ^ k) (let z : 64 ≡ w + k = omega arith in z) ∙ mod-mod-pow f w k) in
    let b : (f * 2 ^ w + d) % 2 ^ (k + w) ≡ f % 2 ^ k * 2 ^ w + d =
    mod-pow-add (f * 2 ^ w + d) k w ∙ ap₂ (λ (x y : ℕ). x % 2 ^ k * 2 ^ w + y) (high f w l) (low f w l) in
    ap (λ (x : ℕ). f % 2 ^ 64 * 2 ^ w % 2 ^ x + d) e ∙ ap (λ (x : ℕ). x + d) a ∙ sym (ap (λ (x : ℕ). (f * 2 ^ w + d) % 2 ^ x) e ∙ b)

-- past the last bit
pub field_none : (s : List ℕ) (at w : ℕ) → length s * 8 ≤ at → 0 ≡ field (bits_of s) at w
field_none s at w h = sym (ap (field (bits_of s) at) (sym (zero-add w)) ∙ field_end (bits_of s) at 0 w (omega (arith, length_bits s)))

-- the first bit of a byte
pub first_bit : (s : List ℕ) (i x : ℕ) → i < length s → x ≡ get_or s i 0 → x < 256 → x / 128 ≡ field (bits_of s) (i * 8) 1
first_bit s i x there is byte =
    let e : get_or s i 0 / 2 ^ 7 % 2 ^ 1 ≡ x / 128 = omega arith in
    sym (ap (λ (p : ℕ). field (bits_of s) p 1) (sym (add-zero (i * 8))) ∙ field_in s i there (rw (← is) byte) 0 1 7 refl ∙ e)

-- the last bit of a byte
pub last_bit : (s : List ℕ) (i : ℕ) → i < length s → get_or s i 0 < 256 → get_or s i 0 % 2 ≡ field (bits_of s) (i * 8 + 7) 1
last_bit s i h b = sym (field_in s i h b 7 1 0 refl ∙ ap (λ (x : ℕ). x % 2) (div-one (get_or s i 0)))

-- the last bit of a byte and the four bytes behind it, each by its power of 256
pub five_bytes : (s : List ℕ) (i : ℕ) → i + 5 ≤ length s → ((j : ℕ) → get_or s j 0 < 256)
    → get_or s i 0 % 2 * 4294967296 + get_or s (i + 1) 0 * 16777216 + get_or s (i + 2) 0 * 65536 + get_or s (i + 3) 0 * 256 + get_or s (i + 4) 0 ≡ field (bits_of s) (i * 8 + 7) 33
five_bytes s i h byte =
    let p = i * 8 + 7 in
    let a = last_bit s i (omega arith) (byte i) in
    let b : field (bits_of s) p 9 ≡ field (bits_of s) p 1 * 256 + get_or s (i + 1) 0 = field_byte s (i + 1) (omega arith) (byte (i + 1)) p 1 (omega arith) in
    let c : field (bits_of s) p 17 ≡ field (bits_of s) p 9 * 256 + get_or s (i + 2) 0 = field_byte s (i + 2) (omega arith) (byte (i + 2)) p 9 (omega arith) in
    let d : field (bits_of s) p 25 ≡ field (bits_of s) p 17 * 256 + get_or s (i + 3) 0 = field_byte s (i + 3) (omega arith) (byte (i + 3)) p 17 (omega arith) in
    let e : field (bits_of s) p 33 ≡ field (bits_of s) p 25 * 256 + get_or s (i + 4) 0 = field_byte s (i + 4) (omega arith) (byte (i + 4)) p 25 (omega arith) in
    omega (arith, a, b, c, d, e)

-- a mask of n bits, as code works it out
pub mask : (n : ℕ) → n ≤ 8 → 1 * 2 ^ n % 2 ^ 64 ≡ 2 ^ n
mask n h =
    let m : 2 ^ n ≤ 2 ^ 8 = pow_mono {i = n} {j = 8} h in
    rw one-mul (mod-eq_of_lt (omega arith))

-- ---- a turn of the loops that read: m bits of the field from bit p on are behind, and stand in v
module _ (s : List ℕ) (p m i v b : ℕ) (inside : i < length s) (byte : get_or s i 0 < 256) (is : b ≡ get_or s i 0) (so_far : v ≡ field (bits_of s) p m % 2 ^ 64) where
  -- n bits of byte i, of which `behind` are behind already
  pub turn_bits : (behind n : ℕ) → behind + n ≤ 8 → i * 8 + behind ≡ p + m
      → v * 2 ^ n % 2 ^ 64 + b / 2 ^ (8 - behind - n) % (1 * 2 ^ n % 2 ^ 64) ≡ field (bits_of s) p (m + n) % 2 ^ 64
  turn_bits behind n h e =
      let k = 8 - behind - n in
      let low : get_or s i 0 / 2 ^ k % 2 ^ n < 2 ^ n = mod-lt _ (pow_pos n) in
      rw (mask n (omega arith), is, so_far)
      (shift_in (field (bits_of s) p m) n (get_or s i 0 / 2 ^ k % 2 ^ n) (omega arith) low
      ∙ ap (λ (x : ℕ). x % 2 ^ 64) (sym (field_more s i inside byte p m behind n k (sym e) (omega arith))))

  -- the whole byte i
  pub turn_byte : i * 8 ≡ p + m → v * 2 ^ 8 % 2 ^ 64 + b ≡ field (bits_of s) p (m + 8) % 2 ^ 64
  turn_byte e =
      rw (is, so_far)
      (shift_in (field (bits_of s) p m) 8 (get_or s i 0) (omega arith) byte ∙ ap (λ (x : ℕ). x % 2 ^ 64) (sym (field_byte s i inside byte p m (sym e))))

-- with `ahead` of w bits ahead, and no byte left, all is read
pub turn_none : (s : List ℕ) (p w ahead i v : ℕ) → ahead ≤ w → length s ≤ i → i * 8 ≤ p + (w - ahead) → v ≡ field (bits_of s) p (w - ahead) % 2 ^ 64 → v ≡ field (bits_of s) p w % 2 ^ 64
turn_none s p w ahead i v h l e is =
    let z : w - ahead + ahead ≡ w = omega arith in
    is ∙ ap (λ (x : ℕ). x % 2 ^ 64) (sym (field_end (bits_of s) p (w - ahead) ahead (omega (arith, length_bits s))) ∙ ap (field (bits_of s) p) z)
