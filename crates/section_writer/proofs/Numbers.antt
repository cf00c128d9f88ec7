-- Numbers in whole bytes of a list, written and read by their place.
--     number_at        a number that stands in a list is read there
--     number_bytes     and what is read there are the bytes themselves
--     field_behind     a field of a list, in what is left when bytes are dropped
--     field_front      and in what is kept when bytes are taken
use Prim.Native.Nat.{ℕ, ◌+◌, ◌*◌, ◌/◌, ◌^◌, ◌<◌, ◌≤◌}
use mathlib.Core.List.{List, ◌++◌, append_assoc}
use mathlib.Core.Path.{◌≡◌, ap, sym, ◌∙◌}
use native.Mathlib.Omega.{arith}
use lib.ListN.{length, take, drop, length-drop, take-append-drop}
use lib.Seq.{drop-drop, take_at, drop-append-le, take-append-le, length-take-le}
use Rattle.bit_stores.proofs.Penned.{bits_number}
use Rattle.table.specs.Bits.{num, bits_of_num, bits_of, field, bytes_n, bytes_of, big_endian, AllBytes}
use Rattle.table.proofs.Structure.{bytes_take, bytes_drop}
use Rattle.table.proofs.Bits.{all_bits, length_num, length_bits, bits_append, bits_from, bytes_num, bytes_bits}
use Rattle.table.proofs.Fields.{field_num, field_bits}

pub number_at : (pre r : List ℕ) (q n v : ℕ) → length pre ≡ q → v < 2 ^ (n * 8) → field (bits_of (pre ++ (big_endian n v ++ r))) (q * 8) (n * 8) ≡ v
number_at pre r q n v e h =
    let b : bits_of (pre ++ (big_endian n v ++ r)) ≡ bits_of pre ++ bits_of_num (n * 8) v ++ bits_of r =
    bits_append pre (big_endian n v ++ r) ∙ ap (λ (l : List ℕ). bits_of pre ++ l) (bits_append (big_endian n v) r ∙ ap (λ (l : List ℕ). l ++ bits_of r) (bits_number n v))
    ∙ sym (append_assoc (bits_of pre) (bits_of_num (n * 8) v) (bits_of r)) in
    ap (λ (l : List ℕ). field l (q * 8) (n * 8)) b ∙ field_num (bits_of pre) (bits_of r) (q * 8) (n * 8) v (length_bits pre ∙ ap (λ (k : ℕ). k * 8) e) h

-- ---- bytes of bytes
-- the bits of the first n bytes
take_bits : (n : ℕ) (s : List ℕ) → n ≤ length s → take (n * 8) (bits_of s) ≡ bits_of (take n s)
take_bits n s h =
    ap (λ (l : List ℕ). take (n * 8) (bits_of l)) (sym (take-append-drop n s)) ∙ ap (take (n * 8)) (bits_append (take n s) (drop n s))
    ∙ take_at (bits_of (take n s)) (bits_of (drop n s)) (n * 8) (length_bits (take n s) ∙ ap (λ (k : ℕ). k * 8) (length-take-le n s h))

pub number_bytes : (s : List ℕ) (q n : ℕ) → AllBytes s → q + n ≤ length s → big_endian n (field (bits_of s) (q * 8) (n * 8)) ≡ take n (drop q s)
number_bytes s q n a h =
    let v = field (bits_of s) (q * 8) (n * 8) in
    let l = bits_of_num (n * 8) v in
    let k : length l / 8 ≡ n = omega (arith, length_num (n * 8) v) in
    let f : l ++ drop (q * 8 + n * 8) (bits_of s) ≡ drop (q * 8) (bits_of s) = field_bits (bits_of s) (q * 8) (n * 8) (all_bits s) (omega (arith, length_bits s)) in
    let g : l ≡ bits_of (take n (drop q s)) =
    sym (take_at l (drop (q * 8 + n * 8) (bits_of s)) (n * 8) (length_num (n * 8) v)) ∙ ap (take (n * 8)) (f ∙ bits_from q s) ∙ take_bits n (drop q s) (omega (arith, length-drop q s)) in
    sym (bytes_num n v) ∙ ap (λ (j : ℕ). bytes_n j l) (sym k) ∙ ap bytes_of g ∙ bytes_bits (take n (drop q s)) (bytes_take n (drop q s) (bytes_drop q s a))

-- ---- fields of parts
pub field_behind : (s : List ℕ) (q a w : ℕ) → field (bits_of s) (q * 8 + a) w ≡ field (bits_of (drop q s)) a w
field_behind s q a w = ap (λ (l : List ℕ). num 0 (take w l)) (sym (drop-drop a (q * 8) (bits_of s)) ∙ ap (drop a) (bits_from q s))

pub field_front : (s : List ℕ) (n a w : ℕ) → n ≤ length s → a + w ≤ n * 8 → field (bits_of (take n s)) a w ≡ field (bits_of s) a w
field_front s n a w h k =
    let t = bits_of (take n s) in
    let m : length t ≡ n * 8 = length_bits (take n s) ∙ ap (λ (k : ℕ). k * 8) (length-take-le n s h) in
    let e : bits_of s ≡ t ++ bits_of (drop n s) = ap bits_of (sym (take-append-drop n s)) ∙ bits_append (take n s) (drop n s) in
    sym (ap (λ (l : List ℕ). field l a w) e
    ∙ ap (λ (l : List ℕ). num 0 (take w l)) (drop-append-le a t (bits_of (drop n s)) (omega arith))
    ∙ ap (num 0) (take-append-le w (drop a t) (bits_of (drop n s)) (omega (arith, length-drop a t))))
