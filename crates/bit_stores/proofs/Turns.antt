-- What `put_across` rests on: the arithmetic of one byte, and one turn of its loop.
use Prim.Native.Nat.{ℕ, ◌+◌, ◌*◌, ◌-◌, ◌/◌, ◌%◌, ◌^◌, ◌<◌, ◌≤◌}
use mathlib.Core.List.{List, ◌++◌}
use mathlib.Core.Path.{◌≡◌, refl, ap, ap₂, sym, ◌∙◌}
use native.Mathlib.Nat.{mod-lt, mod-eq_of_lt, div-eq_of_lt, zero-mod}
use native.Mathlib.Omega.{arith}
use lib.ListN.{length, get_or, set}
use lib.Pow.{pow_pos, pow_mono, shl_exact, split, shr-shr}
use Rattle.bit_stores.specs.Private.{with_bits}
use Rattle.table.specs.Bits.{bits_of_num, bits_of, big_endian, AllBytes}
use Rattle.table.specs.Lent.{stored}
use Rattle.table.specs.Cursor.{place, cursor_at}
use Rattle.table.specs.declared.cursor.Cursor.{Cursor}
use Rattle.table.proofs.Bits.{all_num, length_num, length_bits, length_big_endian, bits_split}
use Rattle.table.proofs.Reading.{mask}
use Rattle.table.proofs.Steppings.{Settled}
use Rattle.bit_stores.specs.Pen.{penned, pen_after, Pens}
use Rattle.bit_stores.proofs.Penned.{penned_none, penned_append, penned_byte, penned_stored, low_bits, mixed_lt, bits_number, all_number}
use borrow.Author.Tests.{le-leb, lt-leb}

-- no bit stands above the 64th
pub no_digits : (v k n : ℕ) → v < 2 ^ 64 → 64 ≤ k → 0 ≡ v / 2 ^ k % 2 ^ n
no_digits v k n h l =
    let m : 2 ^ 64 ≤ 2 ^ k = pow_mono l in
    sym (ap (λ (x : ℕ). x % 2 ^ n) (div-eq_of_lt (omega arith)) ∙ zero-mod (2 ^ n))

-- ---- a byte with n of its bits anew, as code works it out
module _ (b j n x : ℕ) (byte : b < 256) (room : j + n ≤ 8) (narrow : x < 2 ^ n) where
  pub mixed : b / 2 ^ (8 - j) * 2 ^ (8 - j) % 2 ^ 64 + (x * 2 ^ (8 - j - n) % 2 ^ 64 + b % (1 * 2 ^ (8 - j - n) % 2 ^ 64)) ≡ with_bits b j n x
  unfolding with_bits
  mixed =
      let k = 8 - j - n in
      let h : b / 2 ^ (8 - j) * 2 ^ (8 - j) % 2 ^ 64 ≡ b / 2 ^ (8 - j) * 2 ^ (8 - j) = mod-eq_of_lt (omega (arith, split b (8 - j))) in
      rw (h, shl_exact n k 64 narrow (omega arith), mask k (omega arith))

  pub mixed_byte : with_bits b j n x < 256
  unfolding with_bits
  mixed_byte =
      let k = 8 - j - n in
      let z : 8 - j ≡ n + k = omega arith in
      mixed_lt b j n k x byte (omega arith) narrow _ (ap (λ (m : ℕ). b / 2 ^ m * 2 ^ m + (x * 2 ^ k + b % 2 ^ k)) z)

-- ---- what the loop knows of its place
pub inside_is : (q j p w ahead len : ℕ) → ahead ≤ w → 0 < ahead → q * 8 + j ≡ p + (w - ahead) → p + w ≤ len * 8 → q < len
inside_is q j p w ahead len h k e l = omega arith

pub turned : (p w ahead n len : ℕ) → n ≤ ahead → ahead ≤ w → p + w ≤ len → p + (w - ahead) + n ≤ len
turned p w ahead n len h k l = omega arith

pub ends_at : (q j p w : ℕ) → j < 8 → q * 8 + j ≡ p + w → (q ≡ (p + w) / 8) × (j ≡ (p + w) % 8)
ends_at q j p w h e = (omega arith, omega arith)

-- ---- a turn: of the number v, `behind` bits are stored from bit p on, and n of the `ahead` bits follow in byte q, of which j stand before them
module _ (t out : List ℕ) (p behind ahead v : ℕ) (so_far : out ≡ penned t p (bits_of_num behind (v / 2 ^ ahead))) where
  pub turn : (q j n y : ℕ) → AllBytes out → q < length out → get_or out q 0 < 256 → y ≡ with_bits (get_or out q 0) j n (v / 2 ^ (ahead - n) % 2 ^ n)
      → n ≤ ahead → j + n ≤ 8 → q * 8 + j ≡ p + behind → p + behind + n ≤ length t * 8 → set out q y ≡ penned t p (bits_of_num (behind + n) (v / 2 ^ (ahead - n)))
  turn q j n y a i h is le e at fits =
      let x = v / 2 ^ (ahead - n) in
      let b = bits_of_num behind (v / 2 ^ ahead) in
      let z : ahead - n + n ≡ ahead = omega arith in
      let two : b ++ bits_of_num n x ≡ bits_of_num (behind + n) x =
      ap (λ (m : ℕ). bits_of_num behind m ++ bits_of_num n x) (ap (λ (m : ℕ). v / 2 ^ m) (sym z) ∙ sym (shr-shr v (ahead - n) n)) ∙ sym (bits_split behind n x) in
      let k : length b ≡ behind = length_num behind (v / 2 ^ ahead) in
      ap (set out q) is ∙ penned_byte out q a i j n (x % 2 ^ n) h e (mod-lt x (pow_pos n))
      ∙ ap₂ (λ (m : ℕ) (l : List ℕ). penned out m l) at (low_bits n x)
      ∙ ap₂ (λ (o : List ℕ) (m : ℕ). penned o (p + m) (bits_of_num n x)) so_far (sym k)
      ∙ penned_append t p b (bits_of_num n x) (all_num behind (v / 2 ^ ahead)) (omega (arith, length_num n x))
      ∙ ap (penned t p) two

-- ---- the answers
module _ (t : List ℕ) (c : Cursor) (b : List ℕ) where
  pub pens_none : length t * 8 < c.byte * 8 + c.bit + length b → Pens t c b t c
  unfolding place pen_after
  pens_none h = record { bytes = sym (penned_none t (c.byte * 8 + c.bit) b h); cursor = rw (lt-leb _ _ h) }

  pub pens_all : (u : List ℕ) (q j : ℕ) → c.byte * 8 + c.bit + length b ≤ length t * 8 → u ≡ penned t (c.byte * 8 + c.bit) b
      → q ≡ (c.byte * 8 + c.bit + length b) / 8 → j ≡ (c.byte * 8 + c.bit + length b) % 8 → Pens t c b u (record { byte = q; bit = j })
  unfolding place pen_after cursor_at
  pens_all u q j h e f g = record { bytes = e; cursor = rw (le-leb _ _ h, f, g) }

-- the same place, said by another cursor
pub pens_from : (t : List ℕ) (c d : Cursor) (b u : List ℕ) (e : Cursor) → place d ≡ place c → place c + length b ≤ length t * 8 → Pens t d b u e → Pens t c b u e
unfolding pen_after
pens_from t c d b u e s h p =
    let z : place d + length b ≤ length t * 8 = omega arith in
    record { bytes = p.bytes ∙ ap (λ (m : ℕ). penned t m b) s; cursor = p.cursor ∙ rw (le-leb _ _ z, le-leb _ _ h, s) }

-- whole bytes from a byte's first bit on
pub pens_stored : (t : List ℕ) (c : Cursor) (b : List ℕ) (at : ℕ) → AllBytes t → AllBytes b → at * 8 ≡ c.byte * 8 + c.bit → c.byte * 8 + c.bit + length b * 8 ≤ length t * 8
    → Pens t c (bits_of b) (stored t at b) (record { byte = at + length b; bit = 0 })
pens_stored t c b at a k e h =
    let n = length_bits b in
    let z : at + length b ≤ length t = omega arith in
    pens_all t c (bits_of b) (stored t at b) (at + length b) 0 (omega arith)
    (sym (penned_stored t at b a k z) ∙ ap (λ (m : ℕ). penned t m (bits_of b)) e) (omega arith) (omega arith)

-- a number of n bytes
pub pens_number : (t : List ℕ) (at n v : ℕ) → AllBytes t → at + n ≤ length t
    → Pens t (record { byte = at; bit = 0 }) (bits_of_num (n * 8) v) (stored t at (big_endian n v)) (record { byte = at + n; bit = 0 })
pens_number t at n v a h =
    let l = length_big_endian n v in
    let p = pens_stored t (record { byte = at; bit = 0 }) (big_endian n v) at a (all_number n v) (omega arith) (omega arith) in
    rw (bits_number n v, l) at p

-- so a field of whole bytes at a byte's first bit is stored
pub pens_aligned : (t : List ℕ) (c : Cursor) (w v : ℕ) (u : List ℕ) (e : Cursor) → c.bit ≡ 0 → w % 8 ≡ 0
    → Pens t (record { byte = c.byte; bit = 0 }) (bits_of_num (w / 8 * 8) v) u e → Pens t c (bits_of_num w v) u e
pens_aligned t c w v u e z m p =
    let n : w / 8 * 8 ≡ w = omega arith in
    same _ c _ _ (ap (λ (j : ℕ). record { byte = c.byte; bit = j }) (sym z)) (ap (λ (k : ℕ). bits_of_num k v) n) p
  where
    same : (d c : Cursor) (b r : List ℕ) → d ≡ c → b ≡ r → Pens t d b u e → Pens t c r u e
    same d c b r f g p = rw (← f, ← g) p

-- a cursor whose bit lies in its byte
pub settled_is : (q j : ℕ) → j < 8 → (Settled (record { byte = q; bit = j })) × (place (record { byte = q; bit = j }) ≡ q * 8 + j)
unfolding place cursor_at
settled_is q j h =
    let a : (q * 8 + j) / 8 ≡ q = omega arith in
    let b : (q * 8 + j) % 8 ≡ j = omega arith in
    (rw (a, b), refl)

pub place_is : (c : Cursor) → place c ≡ c.byte * 8 + c.bit
unfolding place
place_is c = refl
