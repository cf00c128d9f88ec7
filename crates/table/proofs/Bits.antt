-- Bits, numbers and bytes, back and forth.
--     num_bits, num_of, num_back     a number and its bits
--     bytes_bits, bits-bytes         bytes and their bits
--     bits_join, bits_split          a field of a + b bits, and one of a bits before one of b
use Prim.Native.Nat.{ℕ, zero, suc, ◌+◌, ◌*◌, ◌/◌, ◌%◌, ◌^◌, ◌<◌, ◌≤◌}
use mathlib.Core.List.{List, [], ◌∷◌, ◌++◌}
use mathlib.Core.Path.{◌≡◌, refl, ap, ap₂, sym, ◌∙◌}
use native.Mathlib.Nat.{pow-suc, add-zero, mul-one, mod-one, mod-eq_of_lt, mod-lt, zero-add, zero-mul, one-mul, add-mul, mul_assoc, add_assoc, add_comm, mul_comm, suc-add, div-one, mul-div_cancel, div-div-eq-div-mul, div-lt_iff_lt-mul}
use native.Mathlib.Numerals.{one-add}
use native.Mathlib.Omega.{arith}
use lib.ListN.{length, get_or, take, drop, length-append, length-take, length-drop}
use lib.Pow.{pow_pos, pow_mono, mod-pow-add, shr-shr, high, low}
use lib.Seq.{take-append-le, drop-append-le}
use Rattle.table.specs.Bits.{num, bits_of_num, bits_of, bytes_n, bytes_of, big_endian, AllBytes}
use Rattle.table.proofs.Lists.{append_nil}

-- ---- all are bits
abbrev pub AllBits : List ℕ → Type 0
AllBits [] = Unit {0}
AllBits (b ∷ bs) = (b < 2) × AllBits bs

half : (n : ℕ) → n % 2 < 2
half n = mod-lt n (omega arith)

pub all_append : (a b : List ℕ) → AllBits a → AllBits b → AllBits (a ++ b)
all_append [] b p q = q
all_append (x ∷ a) b p q = (p.0, all_append a b p.1 q)

pub all_num : (w v : ℕ) → AllBits (bits_of_num w v)
all_num zero v = tt
all_num (suc w) v = (half (v / 2 ^ w), all_num w v)

pub all_bits : (s : List ℕ) → AllBits (bits_of s)
all_bits [] = tt
all_bits (b ∷ s) = all_append (bits_of_num 8 b) (bits_of s) (all_num 8 b) (all_bits s)

pub all_drop : (n : ℕ) (bs : List ℕ) → AllBits bs → AllBits (drop n bs)
all_drop zero bs a = a
all_drop (suc n) [] a = a
all_drop (suc n) (b ∷ bs) a = all_drop n bs a.1

pub all_take : (n : ℕ) (bs : List ℕ) → AllBits bs → AllBits (take n bs)
all_take zero bs a = tt
all_take (suc n) [] a = tt
all_take (suc n) (b ∷ bs) a = (a.0, all_take n bs a.1)

-- ---- lengths
pub length_num : (w v : ℕ) → length (bits_of_num w v) ≡ w
length_num zero v = refl
length_num (suc w) v = ap suc (length_num w v)

pub length_bits : (s : List ℕ) → length (bits_of s) ≡ length s * 8
length_bits [] = refl
length_bits (x ∷ s) = omega (arith, length_bits s)

pub length_bytes_n : (n : ℕ) (l : List ℕ) → length (bytes_n n l) ≡ n
length_bytes_n zero l = refl
length_bytes_n (suc n) l = ap suc (length_bytes_n n (drop 8 l))

pub length_big_endian : (n v : ℕ) → length (big_endian n v) ≡ n
length_big_endian zero v = refl
length_big_endian (suc n) v = ap suc (length_big_endian n v)

-- ---- a number and its bits
push : (w acc v : ℕ) → (acc * 2 + v / 2 ^ w % 2) * 2 ^ w + v % 2 ^ w ≡ acc * 2 ^ suc w + v % 2 ^ suc w
push w acc v =
    shuffle acc (v / 2 ^ w % 2) (2 ^ w) (v % 2 ^ w)
    ∙ ap (λ (x : ℕ). acc * (2 ^ w * 2) + x) (sym (mod-pow-add v 1 w))
    ∙ rw (one-add w, ← pow-suc 2 w)
  where
    shuffle : (acc d P m : ℕ) → (acc * 2 + d) * P + m ≡ acc * (P * 2) + (d * P + m)
    shuffle acc d P m = simp (add-mul, mul_assoc, add_assoc, mul_comm 2 P)

pub num_bits : (w acc v : ℕ) (r : List ℕ) → num acc (bits_of_num w v ++ r) ≡ num (acc * 2 ^ w + v % 2 ^ w) r
num_bits zero acc v r = let e : acc * 2 ^ 0 + v % 2 ^ 0 ≡ acc = simp (mul-one, mod-one, add-zero) in rw e
num_bits (suc w) acc v r = num_bits w (acc * 2 + v / 2 ^ w % 2) v r ∙ ap (λ (x : ℕ). num x r) (push w acc v)

pub num_of : (w v : ℕ) → num 0 (bits_of_num w v) ≡ v % 2 ^ w
num_of w v = ap (num 0) (sym (append_nil (bits_of_num w v))) ∙ num_bits w 0 v [] ∙ simp (zero-mul, zero-add)

pub num_byte : (acc b : ℕ) (r : List ℕ) → b < 256 → num acc (bits_of_num 8 b ++ r) ≡ num (acc * 256 + b) r
num_byte acc b r h = num_bits 8 acc b r ∙ ap (λ (x : ℕ). num (acc * 256 + x) r) (mod-eq_of_lt h)

-- the bits of the number that bits spell
pub num_back : (l : List ℕ) (acc : ℕ) → AllBits l → (bits_of_num (length l) (num acc l) ≡ l) × (num acc l / 2 ^ length l ≡ acc)
num_back [] acc a = (refl, div-one acc)
num_back (b ∷ l) acc a =
    let i = num_back l (acc * 2 + b) a.1 in
    let v = num (acc * 2 + b) l in
    let d : v / 2 ^ length l ≡ acc * 2 + b = i.1 in
    let h : b < 2 = a.0 in
    let lo : v / 2 ^ length l % 2 ≡ b = omega arith in
    let hi : v / 2 ^ length l / 2 ≡ acc = omega arith in
    (ap₂ (λ (x : ℕ) (t : List ℕ). x ∷ t) lo i.0, rw (pow-suc, ← div-div-eq-div-mul) hi)

pub num_below : (l : List ℕ) → AllBits l → num 0 l < 2 ^ length l
num_below l a =
    let e : num 0 l / 2 ^ length l ≡ 0 = (num_back l 0 a).1 in
    rw one-mul at ((div-lt_iff_lt-mul {k = 2 ^ length l} {x = num 0 l} {y = 1} (pow_pos (length l))).0 (omega arith))

bits_mod : (w v : ℕ) → bits_of_num w v ≡ bits_of_num w (v % 2 ^ w)
bits_mod w v = sym (rw (length_num w v) at (num_back (bits_of_num w v) 0 (all_num w v)).0) ∙ rw (num_of w v)

-- a field of a + b bits, and one of a bits before one of b
pub bits_split : (a b v : ℕ) → bits_of_num (a + b) v ≡ bits_of_num a (v / 2 ^ b) ++ bits_of_num b v
bits_split zero b v = rw zero-add
bits_split (suc a) b v =
    rw suc-add (ap₂ (λ (x : ℕ) (l : List ℕ). x ∷ l) (rw (shr-shr, add_comm a b)) (bits_split a b v))

pub bits_join : (a b x y : ℕ) → y < 2 ^ b → bits_of_num a x ++ bits_of_num b y ≡ bits_of_num (a + b) (x * 2 ^ b + y)
bits_join a b x y h =
    sym (bits_split a b (x * 2 ^ b + y)
    ∙ ap₂ (λ (l r : List ℕ). l ++ r) (ap (bits_of_num a) (high x b h)) (bits_mod b (x * 2 ^ b + y) ∙ ap (bits_of_num b) (low x b h)))

-- ---- bytes and their bits
pub bits_append : (a b : List ℕ) → bits_of (a ++ b) ≡ bits_of a ++ bits_of b
bits_append [] b = refl
bits_append (x ∷ a) b = ap (λ (l : List ℕ). bits_of_num 8 x ++ l) (bits_append a b)

pub bits_from : (n : ℕ) (s : List ℕ) → drop (n * 8) (bits_of s) ≡ bits_of (drop n s)
bits_from zero s = refl
bits_from (suc n) [] = let e : suc n * 8 ≡ suc (n * 8 + 7) = omega arith in rw e
bits_from (suc n) (b ∷ s) =
    let e : suc n * 8 ≡ suc (suc (suc (suc (suc (suc (suc (suc (n * 8)))))))) = omega arith in rw e (bits_from n s)

bytes_byte : (n x : ℕ) (r : List ℕ) → bytes_n (suc n) (bits_of_num 8 x ++ r) ≡ (x % 256) ∷ bytes_n n r
bytes_byte n x r = ap (λ (y : ℕ). y ∷ bytes_n n r) (num_of 8 x)

-- bytes of whole bytes' bits, and what follows
bytes_n_append : (n m : ℕ) (l r : List ℕ) → length l ≡ n * 8 → bytes_n (n + m) (l ++ r) ≡ bytes_n n l ++ bytes_n m r
bytes_n_append zero m [] r e = rw zero-add
bytes_n_append zero m (a ∷ l) r e = absurd (omega arith)
bytes_n_append (suc n) m l r e =
    let h : 8 ≤ length l = omega arith in
    rw suc-add
    (ap₂ (λ (x l : List ℕ). num 0 x ∷ l) (take-append-le 8 l r h)
    (ap (λ (t : List ℕ). bytes_n (n + m) t) (drop-append-le 8 l r h)
    ∙ bytes_n_append n m (drop 8 l) r (length-drop 8 l ∙ omega arith)))

pub bytes_append : (n : ℕ) (l r : List ℕ) → length l ≡ n * 8 → bytes_of (l ++ r) ≡ bytes_of l ++ bytes_of r
bytes_append n l r e =
    let a : length (l ++ r) / 8 ≡ n + length r / 8 = omega (arith, length-append l r) in
    let b : length l / 8 ≡ n = omega arith in
    ap (λ (k : ℕ). bytes_n k (l ++ r)) a ∙ bytes_n_append n (length r / 8) l r e ∙ ap (λ (k : ℕ). bytes_n k l ++ bytes_of r) (sym b)

bytes_n_bits : (s : List ℕ) → AllBytes s → bytes_n (length s) (bits_of s) ≡ s
bytes_n_bits [] a = refl
bytes_n_bits (b ∷ s) a =
    bytes_byte (length s) b (bits_of s) ∙ ap₂ (λ (x : ℕ) (l : List ℕ). x ∷ l) (mod-eq_of_lt a.0) (bytes_n_bits s a.1)

pub bytes_bits : (s : List ℕ) → AllBytes s → bytes_of (bits_of s) ≡ s
bytes_bits s a = rw (length_bits s, mul-div_cancel (length s) {n = 8} (omega arith)) (bytes_n_bits s a)

-- the bytes of a number are those of its bits
pub bytes_num : (n v : ℕ) → bytes_n n (bits_of_num (n * 8) v) ≡ big_endian n v
bytes_num zero v = refl
bytes_num (suc n) v =
    let e : suc n * 8 ≡ 8 + n * 8 = omega arith in
    ap (λ (w : ℕ). bytes_n (suc n) (bits_of_num w v)) e ∙ ap (bytes_n (suc n)) (bits_split 8 (n * 8) v)
    ∙ bytes_byte n (v / 2 ^ (n * 8)) (bits_of_num (n * 8) v) ∙ ap (λ (l : List ℕ). v / 2 ^ (n * 8) % 256 ∷ l) (bytes_num n v)

-- what the prover knows of a slice of bytes: all are bytes
pub bytes_all : (s : List ℕ) → ((k : ℕ) → get_or s k 0 < 256) → AllBytes s
bytes_all [] h = tt
bytes_all (b ∷ s) h = (h 0, bytes_all s (λ k. h (suc k)))

-- and so are those that are made of bits
pub all_bytes_n : (n : ℕ) (l : List ℕ) → AllBits l → AllBytes (bytes_n n l)
all_bytes_n zero l a = tt
all_bytes_n (suc n) l a =
    let h : num 0 (take 8 l) < 2 ^ length (take 8 l) = num_below (take 8 l) (all_take 8 l a) in
    let m : 2 ^ length (take 8 l) ≤ 2 ^ 8 = pow_mono {i = length (take 8 l)} {j = 8} (omega (arith, length-take 8 l)) in
    (omega arith, all_bytes_n n (drop 8 l) (all_drop 8 l a))

pub byte_in : (s : List ℕ) → AllBytes s → (k : ℕ) → get_or s k 0 < 256
byte_in [] a k = omega arith
byte_in (b ∷ s) a zero = a.0
byte_in (b ∷ s) a (suc k) = byte_in s a.1 k
