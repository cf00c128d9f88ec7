-- Bits stored into a target.
--     penned_fits, penned_none, length_penned     what is stored where there is room, and where there is none; the target keeps its length
--     penned_append                               bits stored behind others: storing both at once
--     penned_byte, penned_stored, penned_aligned    bits of one byte; whole bytes; whole bytes from the target's first on
--     bits_number                                 the bits of a number's bytes
use Prim.Native.Nat.{ℕ, zero, suc, ◌+◌, ◌*◌, ◌-◌, ◌/◌, ◌%◌, ◌^◌, ◌<◌, ◌≤◌}
use mathlib.Core.Bool.{Bool, true, false}
use mathlib.Core.List.{List, [], ◌∷◌, ◌++◌, append_assoc}
use mathlib.Core.Path.{◌≡◌, refl, ap, ap₂, sym, ◌∙◌}
use native.Mathlib.Nat.{add-zero, zero-add, mod-lt, div-lt_iff_lt-mul}
use native.Mathlib.Omega.{arith}
use lib.Dec.{leb}
use lib.ListN.{length, take, drop, set, get_or, length-append, length-drop, take-append-drop}
use lib.Pow.{pow_pos, pow-add, shr_lt, split, high}
use lib.Seq.{length-take-le, take_at, drop_at, drop-drop, set_split, split_at}
use borrow.Author.Tests.{le-leb, lt-leb, leb-true}
use Rattle.bit_stores.specs.Private.{with_bits}
use Rattle.table.specs.Bits.{pick, bits_of_num, bits_of, bytes_n, bytes_of, big_endian, AllBytes}
use Rattle.table.specs.Lent.{stored}
use Rattle.table.proofs.Bits.{AllBits, all_append, all_num, all_bits, all_take, all_drop, length_num, length_bits, length_bytes_n, bits_append, bits_from, bits_split, bits_join, bytes_bits, bytes_num, bytes_append}
use Rattle.table.proofs.Fields.{bits_bytes}
use Rattle.table.proofs.Lists.{append_nil}
use Rattle.table.proofs.Stores.{stored_fits}
use Rattle.bit_stores.specs.Pen.{penned}

-- ---- where there is room, and where there is none
module _ (t : List ℕ) (at : ℕ) (b : List ℕ) where
  pub penned_fits : at + length b ≤ length t * 8 → penned t at b ≡ bytes_of (take at (bits_of t) ++ b ++ drop (at + length b) (bits_of t))
  unfolding penned
  penned_fits h = rw (le-leb _ _ h)

  pub penned_none : length t * 8 < at + length b → penned t at b ≡ t
  unfolding penned
  penned_none h = rw (lt-leb _ _ h)

  -- what stands before the rest of the target
  front : at + length b ≤ length t * 8 → length (take at (bits_of t) ++ b) ≡ at + length b
  front h =
      let n : at ≤ length (bits_of t) = omega (arith, length_bits t) in
      length-append (take at (bits_of t)) b ∙ ap (λ (n : ℕ). n + length b) (length-take-le at (bits_of t) n)

  overall : at + length b ≤ length t * 8 → length (take at (bits_of t) ++ b ++ drop (at + length b) (bits_of t)) ≡ length t * 8
  overall h =
      length-append (take at (bits_of t) ++ b) (drop (at + length b) (bits_of t))
      ∙ omega (arith, front h, length-drop (at + length b) (bits_of t), length_bits t)

  pub length_penned : length (penned t at b) ≡ length t
  unfolding penned
  length_penned = go (leb (at + length b) (length t * 8)) refl
    where
      go : (c : Bool) → leb (at + length b) (length t * 8) ≡ c → length (pick c (bytes_of (take at (bits_of t) ++ b ++ drop (at + length b) (bits_of t))) t) ≡ length t
      go false e = refl
      go true e =
          let l = take at (bits_of t) ++ b ++ drop (at + length b) (bits_of t) in
          length_bytes_n (length l / 8) l ∙ omega (arith, overall (leb-true _ _ e))

  -- the bits that the target has then
  pub bits_penned : AllBits b → at + length b ≤ length t * 8 → bits_of (penned t at b) ≡ take at (bits_of t) ++ b ++ drop (at + length b) (bits_of t)
  bits_penned k h =
      ap bits_of (penned_fits h)
      ∙ bits_bytes (length t) (take at (bits_of t) ++ b ++ drop (at + length b) (bits_of t))
      (all_append (take at (bits_of t) ++ b) (drop (at + length b) (bits_of t))
      (all_append (take at (bits_of t)) b (all_take at (bits_of t) (all_bits t)) k) (all_drop (at + length b) (bits_of t) (all_bits t)))
      (overall h)

-- ---- one store behind another
pub penned_append : (t : List ℕ) (at : ℕ) (b c : List ℕ) → AllBits b → at + length b + length c ≤ length t * 8
    → penned (penned t at b) (at + length b) c ≡ penned t at (b ++ c)
penned_append t at b c k h =
    let u = penned t at b in
    let m = at + length b in
    let w = bits_of t in
    let n : at + length (b ++ c) ≡ m + length c = omega (arith, length-append b c) in
    let e : bits_of u ≡ take at w ++ b ++ drop m w = bits_penned t at b k (omega arith) in
    let l : length (take at w ++ b) ≡ m = front t at b (omega arith) in
    let f : take m (bits_of u) ≡ take at w ++ b = ap (take m) e ∙ take_at (take at w ++ b) (drop m w) m l in
    let g : drop (m + length c) (bits_of u) ≡ drop (m + length c) w =
    sym (drop-drop (length c) m (bits_of u)) ∙ ap (drop (length c)) (ap (drop m) e ∙ drop_at (take at w ++ b) (drop m w) m l) ∙ drop-drop (length c) m w in
    let r : penned t at (b ++ c) ≡ bytes_of (take at w ++ (b ++ c) ++ drop (m + length c) w) = rw n at (penned_fits t at (b ++ c) (omega arith)) in
    penned_fits u m c (omega (arith, length_penned t at b))
    ∙ rw (f, g, r) (ap (λ (l : List ℕ). bytes_of (l ++ drop (m + length c) w)) (append_assoc (take at w) b c))

pub penned_nil : (t : List ℕ) (at : ℕ) → AllBytes t → penned t at [] ≡ t
unfolding penned
penned_nil t at a = go (leb (at + 0) (length t * 8))
  where
    go : (c : Bool) → pick c (bytes_of (take at (bits_of t) ++ [] ++ drop (at + 0) (bits_of t))) t ≡ t
    go false = refl
    go true = rw (append_nil (take at (bits_of t)), add-zero at, take-append-drop at (bits_of t)) (bytes_bits t a)

-- ---- all are bytes
all_parts : (a b : List ℕ) → AllBytes (a ++ b) → AllBytes a × AllBytes b
all_parts [] b h = (tt, h)
all_parts (x ∷ a) b h = let i = all_parts a b h.1 in ((h.0, i.0), i.1)

all_joined : (a b : List ℕ) → AllBytes a → AllBytes b → AllBytes (a ++ b)
all_joined [] b h k = k
all_joined (x ∷ a) b h k = (h.0, all_joined a b h.1 k)

all_cut : (n : ℕ) (t : List ℕ) → AllBytes t → AllBytes (take n t) × AllBytes (drop n t)
all_cut n t a = all_parts (take n t) (drop n t) (rw (take-append-drop n t) a)

-- ---- bits of one byte
-- bits that take the place of as many others
over : (t pre old post b : List ℕ) (at : ℕ) → bits_of t ≡ pre ++ (old ++ post) → length pre ≡ at → length old ≡ length b → penned t at b ≡ bytes_of (pre ++ (b ++ post))
over t pre old post b at e p o =
    let n : length (bits_of t) ≡ length pre + (length old + length post) = ap length e ∙ simp length-append in
    let f : take at (bits_of t) ≡ pre = ap (take at) e ∙ take_at pre (old ++ post) at p in
    let d : drop (at + length b) (bits_of t) ≡ post =
    sym (drop-drop (length b) at (bits_of t)) ∙ ap (drop (length b)) (ap (drop at) e ∙ drop_at pre (old ++ post) at p) ∙ drop_at old post (length b) o in
    penned_fits t at b (omega (arith, length_bits t)) ∙ rw (f, d) (ap bytes_of (append_assoc pre b post))

-- two numbers side by side
pub beside_lt : (n k x y : ℕ) → x < 2 ^ n → y < 2 ^ k → x * 2 ^ k + y < 2 ^ (n + k)
beside_lt n k x y h l = rw (pow-add 2 n k) ((div-lt_iff_lt-mul {k = 2 ^ k} {x = x * 2 ^ k + y} {y = 2 ^ n} (pow_pos k)).0 (rw (high x k l) h))

-- the low bits of a number are those of its remainder
pub low_bits : (k b : ℕ) → bits_of_num k (b % 2 ^ k) ≡ bits_of_num k b
low_bits k b = bits_join 0 k (b / 2 ^ k) (b % 2 ^ k) (mod-lt b (pow_pos k)) ∙ rw (zero-add k, split b k)

module _ (b j n k x : ℕ) (byte : b < 256) (eight : j + (n + k) ≡ 8) (narrow : x < 2 ^ n) where
  module _ (y : ℕ) (is : y ≡ b / 2 ^ (n + k) * 2 ^ (n + k) + (x * 2 ^ k + b % 2 ^ k)) where
    pub mixed_lt : y < 256
    mixed_lt =
        let h : b / 2 ^ (n + k) < 2 ^ j = shr_lt j (n + k) (rw eight byte) in
        rw is (rw eight at (beside_lt j (n + k) (b / 2 ^ (n + k)) (x * 2 ^ k + b % 2 ^ k) h (beside_lt n k x (b % 2 ^ k) narrow (mod-lt b (pow_pos k)))))

    mixed_bits : bits_of_num 8 y ≡ bits_of_num j (b / 2 ^ (n + k)) ++ (bits_of_num n x ++ bits_of_num k b)
    mixed_bits =
        let l : b % 2 ^ k < 2 ^ k = mod-lt b (pow_pos k) in
        ap₂ (λ (w v : ℕ). bits_of_num w v) (sym eight) is
        ∙ sym (ap (λ (l : List ℕ). bits_of_num j (b / 2 ^ (n + k)) ++ (bits_of_num n x ++ l)) (sym (low_bits k b))
        ∙ ap (λ (l : List ℕ). bits_of_num j (b / 2 ^ (n + k)) ++ l) (bits_join n k x (b % 2 ^ k) l)
        ∙ bits_join j (n + k) (b / 2 ^ (n + k)) (x * 2 ^ k + b % 2 ^ k) (beside_lt n k x (b % 2 ^ k) narrow l))

  old_bits : bits_of_num 8 b ≡ bits_of_num j (b / 2 ^ (n + k)) ++ (bits_of_num n (b / 2 ^ k) ++ bits_of_num k b)
  old_bits =
      ap (λ (w : ℕ). bits_of_num w b) (sym eight) ∙ bits_split j (n + k) b ∙ ap (λ (l : List ℕ). bits_of_num j (b / 2 ^ (n + k)) ++ l) (bits_split n k b)

module _ (t : List ℕ) (q : ℕ) (all : AllBytes t) (inside : q < length t) where
  bits_at : (y : ℕ) → bits_of (take q t ++ (y ∷ drop (suc q) t)) ≡ bits_of (take q t) ++ (bits_of_num 8 y ++ bits_of (drop (suc q) t))
  bits_at y = bits_append (take q t) (y ∷ drop (suc q) t)

  -- n bits of byte q, of which j stand before them and k after them
  byte_penned : (j n k x y : ℕ) → get_or t q 0 < 256 → j + (n + k) ≡ 8 → x < 2 ^ n → y ≡ get_or t q 0 / 2 ^ (n + k) * 2 ^ (n + k) + (x * 2 ^ k + get_or t q 0 % 2 ^ k)
      → set t q y ≡ penned t (q * 8 + j) (bits_of_num n x)
  byte_penned j n k x y h e l is =
      let b = get_or t q 0 in
      let hi = bits_of_num j (b / 2 ^ (n + k)) in
      let pre = bits_of (take q t) in
      let post = bits_of (drop (suc q) t) in
      let parts = all_cut q t all in
      let more = all_cut (suc q) t all in
      let s : set t q y ≡ take q t ++ (y ∷ drop (suc q) t) = set_split t q y inside in
      let ay : AllBytes (set t q y) = rw s (all_joined (take q t) (y ∷ drop (suc q) t) parts.0 (mixed_lt b j n k x h e l y is, more.1)) in
      let new : bits_of (set t q y) ≡ (pre ++ hi) ++ (bits_of_num n x ++ (bits_of_num k b ++ post)) =
      ap bits_of s ∙ bits_at y ∙ ap (λ (l : List ℕ). pre ++ (l ++ post)) (mixed_bits b j n k x h e l y is) ∙ simp append_assoc in
      let old : bits_of t ≡ (pre ++ hi) ++ (bits_of_num n (b / 2 ^ k) ++ (bits_of_num k b ++ post)) =
      ap bits_of (split_at t q 0 inside) ∙ bits_at b ∙ ap (λ (l : List ℕ). pre ++ (l ++ post)) (old_bits b j n k x h e l) ∙ simp append_assoc in
      let p : length (pre ++ hi) ≡ q * 8 + j =
      length-append pre hi ∙ omega (arith, length_bits (take q t), length-take-le q t (omega arith), length_num j (b / 2 ^ (n + k))) in
      sym (over t (pre ++ hi) (bits_of_num n (b / 2 ^ k)) (bits_of_num k b ++ post) (bits_of_num n x) (q * 8 + j) old p (length_num n (b / 2 ^ k) ∙ sym (length_num n x))
      ∙ ap bytes_of (sym new) ∙ bytes_bits (set t q y) ay)

  pub penned_byte : (j n x : ℕ) → get_or t q 0 < 256 → j + n ≤ 8 → x < 2 ^ n → set t q (with_bits (get_or t q 0) j n x) ≡ penned t (q * 8 + j) (bits_of_num n x)
  unfolding with_bits
  penned_byte j n x h e l =
      let k = 8 - j - n in
      let z : 8 - j ≡ n + k = omega arith in
      byte_penned j n k x _ h (omega arith) l (ap (λ (m : ℕ). get_or t q 0 / 2 ^ m * 2 ^ m + (x * 2 ^ k + get_or t q 0 % 2 ^ k)) z)

-- ---- whole bytes
bits_cut : (n : ℕ) (t : List ℕ) → n ≤ length t → take (n * 8) (bits_of t) ≡ bits_of (take n t)
bits_cut n t h =
    ap (take (n * 8)) (ap bits_of (sym (take-append-drop n t)) ∙ bits_append (take n t) (drop n t))
    ∙ take_at (bits_of (take n t)) (bits_of (drop n t)) (n * 8) (length_bits (take n t) ∙ ap (λ (k : ℕ). k * 8) (length-take-le n t h))

pub penned_stored : (t : List ℕ) (at : ℕ) (b : List ℕ) → AllBytes t → AllBytes b → at + length b ≤ length t → penned t (at * 8) (bits_of b) ≡ stored t at b
penned_stored t at b a k h =
    let n : at * 8 + length (bits_of b) ≡ (at + length b) * 8 = omega (arith, length_bits b) in
    let parts = all_cut at t a in
    let more = all_cut (at + length b) t a in
    let s = take at t ++ b ++ drop (at + length b) t in
    let ay : AllBytes s = all_joined (take at t ++ b) (drop (at + length b) t) (all_joined (take at t) b parts.0 k) more.1 in
    let e : bits_of s ≡ bits_of (take at t) ++ bits_of b ++ bits_of (drop (at + length b) t) =
    bits_append (take at t ++ b) (drop (at + length b) t) ∙ ap (λ (l : List ℕ). l ++ bits_of (drop (at + length b) t)) (bits_append (take at t) b) in
    penned_fits t (at * 8) (bits_of b) (omega arith)
    ∙ rw (n, bits_from (at + length b) t, bits_cut at t (omega arith)) (ap bytes_of (sym e) ∙ bytes_bits s ay)
    ∙ sym (stored_fits t at b h)

-- the bytes of a number: their bits, and that they are bytes
pub bits_number : (n v : ℕ) → bits_of (big_endian n v) ≡ bits_of_num (n * 8) v
bits_number n v =
    let l = bits_of_num (n * 8) v in
    let k : length l / 8 ≡ n = omega (arith, length_num (n * 8) v) in
    ap bits_of (sym (bytes_num n v) ∙ ap (λ (j : ℕ). bytes_n j l) (sym k)) ∙ bits_bytes n l (all_num (n * 8) v) (length_num (n * 8) v)

pub all_number : (n v : ℕ) → AllBytes (big_endian n v)
all_number zero v = tt
all_number (suc n) v = (mod-lt (v / 2 ^ (n * 8)) (omega arith), all_number n v)

-- whole bytes from the target's first on
pub penned_aligned : (t : List ℕ) (b : List ℕ) (n : ℕ) → AllBytes t → AllBits b → length b ≡ n * 8 → n ≤ length t → penned t 0 b ≡ bytes_of b ++ drop n t
penned_aligned t b n a k e h =
    penned_fits t 0 b (omega arith)
    ∙ ap (λ (m : ℕ). bytes_of (b ++ drop m (bits_of t))) (zero-add (length b) ∙ e)
    ∙ ap (λ (l : List ℕ). bytes_of (b ++ l)) (bits_from n t)
    ∙ bytes_append n b (bits_of (drop n t)) e
    ∙ ap (λ (l : List ℕ). bytes_of b ++ l) (bytes_bits (drop n t) (all_cut n t a).1)
