-- Reading a table step by step, by bit positions, as the code that reads it does. s are the bytes, `at` the bit.
--     takes-.., lacks-..      a field that is there, and one that is not
--     reads-..                one that was read is there
--     takes_in, lacks_in      an inner table that is read, and one that is not
--     list_turn, list_short   a turn of a list's loop
use Prim.Native.Nat.{ℕ, suc, ◌+◌, ◌*◌, ◌-◌, ◌/◌, ◌^◌, ◌<◌, ◌≤◌}
use mathlib.Core.Bool.{Bool, true, false, ◌&&◌}
use mathlib.Core.List.{List, [], ◌∷◌}
use mathlib.Core.Path.{◌≡◌, refl, ap, sym, ◌∙◌}
use native.Mathlib.Omega.{arith}
use lib.Dec.{leb, eqb}
use lib.ListN.{length, get_or, drop}
use borrow.Author.Tests.{le-leb, lt-leb}
use Rattle.table.specs.Bits.{pick, bits_of, field}
use Rattle.table.specs.Table.{Table, done, uint, view, left, must, inside, flag_number, number, bit, reserved, part, remaining, list, uimsbf, flag, ones, Answer, got, short, parse, canonical}
use Rattle.table.specs.declared.View.{View}
use Rattle.table.proofs.Bits.{length_bits}
use Rattle.table.proofs.Laws.{field_there, view_there}
use Rattle.table.proofs.Lists.{zero_one, and_assoc}

-- ---- a table inside another
-- the answer of the inner table, and then the outer one from where it ended
abbrev pub onward : {X Y : Type 0} → List ℕ → (Y → Table X) → Answer Y → Answer X
onward bs k (got y m) = parse (k y) bs m
onward bs k (short e a) = short e a

onward_pick : {X Y : Type 0} (bs : List ℕ) (k : Y → Table X) (b : Bool) (r : Answer X) (a : Answer Y) (e c : ℕ) → r ≡ onward bs k a
    → pick b r (short e c) ≡ onward bs k (pick b a (short e c))
onward_pick bs k true r a e c h = h
onward_pick bs k false r a e c h = refl

pub parse_inside : {X Y : Type 0} (t : Table Y) (q : X → Y) (k : Y → Table X) (bs : List ℕ) (at : ℕ) → parse (inside t q k) bs at ≡ onward bs k (parse t bs at)
parse_inside (done y) q k bs at = refl
parse_inside (uint w p f) q k bs at = onward_pick bs k (leb (at + w) (length bs)) _ _ _ _ (parse_inside (f (field bs at w)) q k bs (at + w))
parse_inside (view n p f) q k bs at = onward_pick bs k (leb (at + n * 8) (length bs)) _ _ _ _ (parse_inside (f (at / 8)) q k bs (at + n * 8))
parse_inside (left p f) q k bs at = parse_inside (f ((length bs - at) / 8)) q k bs at
parse_inside (must b t) q k bs at = parse_inside t q k bs at

module _ {X Y : Type 0} (t : Table Y) (q : X → Y) (k : Y → Table X) (bs : List ℕ) (at : ℕ) where
  pub takes_in : (y : Y) (m : ℕ) → parse t bs at ≡ got y m → parse (inside t q k) bs at ≡ parse (k y) bs m
  takes_in y m e = parse_inside t q k bs at ∙ ap (onward bs k) e

  pub lacks_in : (x a : ℕ) → parse t bs at ≡ short x a → parse (inside t q k) bs at ≡ short x a
  lacks_in x a e = parse_inside t q k bs at ∙ ap (onward bs k) e

-- an outer table that was read: so was the inner one, with the reading `inner` that ends before bit `seam`
pub record Reads {X Y : Type 0} (t : Table Y) (k : Y → Table X) (bs : List ℕ) (at : ℕ) (x : X) (m : ℕ) : Type 0 where
  pub inner : Y
  pub seam : ℕ
  pub front : parse t bs at ≡ got inner seam
  pub back : parse (k inner) bs seam ≡ got x m

pub reads_in : {X Y : Type 0} (t : Table Y) (q : X → Y) (k : Y → Table X) (bs : List ℕ) (at : ℕ) (x : X) (m : ℕ) → parse (inside t q k) bs at ≡ got x m → Reads t k bs at x m
reads_in {X} {Y} t q k bs at x m e = go (parse t bs at) refl (sym (parse_inside t q k bs at) ∙ e)
  where
    go : (r : Answer Y) → parse t bs at ≡ r → onward bs k r ≡ got x m → Reads t k bs at x m
    go (got y n) p f = record { inner = y; seam = n; front = p; back = f }
    go (short d a) p f = zero_one cc

-- the canonical form of an inner table that is read, and of the outer one from there on
pub canonical_inside : {X Y : Type 0} (t : Table Y) (q : X → Y) (k : Y → Table X) (bs : List ℕ) (at : ℕ) (y : Y) (m : ℕ) → parse t bs at ≡ got y m
    → canonical (inside t q k) bs at ≡ canonical t bs at && canonical (k y) bs m
canonical_inside (done z) q k bs at y m e =
    let i : z ≡ y = cc in
    let j : at ≡ m = cc in
    rw (i, j)
canonical_inside (uint w p f) q k bs at y m e = canonical_inside (f (field bs at w)) q k bs (at + w) y m (field_there w p f bs at y m e).1
canonical_inside (view n p f) q k bs at y m e = canonical_inside (f (at / 8)) q k bs (at + n * 8) y m (view_there n p f bs at y m e).1
canonical_inside (left p f) q k bs at y m e = canonical_inside (f ((length bs - at) / 8)) q k bs at y m e
canonical_inside (must b t) q k bs at y m e = ap (λ (c : Bool). b && c) (canonical_inside t q k bs at y m e) ∙ and_assoc b (canonical t bs at) _

-- a reading ends within the bits
pub parse_bound : {X : Type 0} (t : Table X) (bs : List ℕ) (at : ℕ) (x : X) (m : ℕ) → at ≤ length bs → parse t bs at ≡ got x m → m ≤ length bs
parse_bound (done y) bs at x m h e = let z : at ≡ m = cc in omega arith
parse_bound (uint w p k) bs at x m h e =
    let i = field_there w p k bs at x m e in
    parse_bound (k (field bs at w)) bs (at + w) x m i.0 i.1
parse_bound (view n p k) bs at x m h e =
    let i = view_there n p k bs at x m e in
    parse_bound (k (at / 8)) bs (at + n * 8) x m i.0 i.1
parse_bound (left p k) bs at x m h e = parse_bound (k ((length bs - at) / 8)) bs at x m h e
parse_bound (must b t) bs at x m h e = parse_bound t bs at x m h e

-- ---- the tables that others are made of
module _ {X : Type 0} (s : List ℕ) (at : ℕ) where
  pub takes_number : (w v : ℕ) (p : X → ℕ) (k : ℕ → Table X) → at + w ≤ length s * 8 → v ≡ field (bits_of s) at w
      → parse (uimsbf w p k) (bits_of s) at ≡ parse (k v) (bits_of s) (at + w)
  unfolding number
  takes_number w v p k h e = rw (length_bits s, le-leb (at + w) (length s * 8) h, ← e)

  pub lacks_number : (w : ℕ) (p : X → ℕ) (k : ℕ → Table X) → length s * 8 < at + w → parse (uimsbf w p k) (bits_of s) at ≡ short (w / 8) ((length s * 8 - at) / 8)
  unfolding number
  lacks_number w p k h = rw (length_bits s, lt-leb (at + w) (length s * 8) h)

  pub takes_flag : (b : Bool) (p : X → Bool) (k : Bool → Table X) → at + 1 ≤ length s * 8 → eqb (field (bits_of s) at 1) 1 ≡ b
      → parse (flag p k) (bits_of s) at ≡ parse (k b) (bits_of s) (at + 1)
  unfolding bit
  takes_flag b p k h e = rw (length_bits s, le-leb (at + 1) (length s * 8) h, e)

  pub lacks_flag : (p : X → Bool) (k : Bool → Table X) → length s * 8 < at + 1 → parse (flag p k) (bits_of s) at ≡ short 0 ((length s * 8 - at) / 8)
  unfolding bit
  lacks_flag p k h = rw (length_bits s, lt-leb (at + 1) (length s * 8) h)

  pub takes_ones : (w : ℕ) (t : Table X) → at + w ≤ length s * 8 → parse (ones w t) (bits_of s) at ≡ parse t (bits_of s) (at + w)
  unfolding reserved
  takes_ones w t h = rw (length_bits s, le-leb (at + w) (length s * 8) h)

  pub lacks_ones : (w : ℕ) (t : Table X) → length s * 8 < at + w → parse (ones w t) (bits_of s) at ≡ short (w / 8) ((length s * 8 - at) / 8)
  unfolding reserved
  lacks_ones w t h = rw (length_bits s, lt-leb (at + w) (length s * 8) h)

  pub takes_part : (n : ℕ) (q : X → View) (k : View → Table X) → at + n * 8 ≤ length s * 8
      → parse (inside (part n) q k) (bits_of s) at ≡ parse (k (record { at = at / 8; len = n })) (bits_of s) (at + n * 8)
  unfolding part
  takes_part n q k h = rw (length_bits s, le-leb (at + n * 8) (length s * 8) h)

  pub lacks_part : (n : ℕ) (q : X → View) (k : View → Table X) → length s * 8 < at + n * 8 → parse (inside (part n) q k) (bits_of s) at ≡ short 1 0
  unfolding part
  lacks_part n q k h = rw (length_bits s, lt-leb (at + n * 8) (length s * 8) h)

  pub takes_remaining : (p : X → ℕ) (k : ℕ → Table X) → parse (inside remaining p k) (bits_of s) at ≡ parse (k ((length s * 8 - at) / 8)) (bits_of s) at
  unfolding remaining
  takes_remaining p k = rw (length_bits s)

  -- a field that was read is there
  pub reads_number : (w : ℕ) (p : X → ℕ) (k : ℕ → Table X) (y : X) (m : ℕ) → parse (uimsbf w p k) (bits_of s) at ≡ got y m
      → (at + w ≤ length s * 8) × (parse (k (field (bits_of s) at w)) (bits_of s) (at + w) ≡ got y m)
  unfolding number
  reads_number w p k y m e = rw (length_bits s) at (field_there w p k (bits_of s) at y m e)

  pub reads_flag : (p : X → Bool) (k : Bool → Table X) (y : X) (m : ℕ) → parse (flag p k) (bits_of s) at ≡ got y m
      → (at + 1 ≤ length s * 8) × (parse (k (eqb (field (bits_of s) at 1) 1)) (bits_of s) (at + 1) ≡ got y m)
  unfolding bit
  reads_flag p k y m e = rw (length_bits s) at (field_there 1 (λ x. flag_number (p x)) (λ v. k (eqb v 1)) (bits_of s) at y m e)

  pub reads_ones : (w : ℕ) (t : Table X) (y : X) (m : ℕ) → parse (ones w t) (bits_of s) at ≡ got y m → (at + w ≤ length s * 8) × (parse t (bits_of s) (at + w) ≡ got y m)
  unfolding reserved
  reads_ones w t y m e = rw (length_bits s) at (field_there w (λ x. 2 ^ w - 1) (λ v. must (eqb v (2 ^ w - 1)) t) (bits_of s) at y m e)

  pub reads_part : (n : ℕ) (q : X → View) (k : View → Table X) (y : X) (m : ℕ) → parse (inside (part n) q k) (bits_of s) at ≡ got y m
      → (at + n * 8 ≤ length s * 8) × (parse (k (record { at = at / 8; len = n })) (bits_of s) (at + n * 8) ≡ got y m)
  unfolding part
  reads_part n q k y m e = rw (length_bits s) at (view_there n (λ x. (q x).at) (λ a. k (record { at = a; len = n })) (bits_of s) at y m e)

-- ---- a list, element by element
module _ {Y : Type 0} (n : ℕ) (d : Y) (t : Table Y) (bs : List ℕ) (at : ℕ) where
  -- the first element, and then the others
  pub list_turn : (y : Y) (m : ℕ) → parse t bs at ≡ got y m → parse (list (suc n) d t) bs at ≡ onward bs (λ ys. done (y ∷ ys)) (parse (list n d t) bs m)
  unfolding list
  list_turn y m e = takes_in t (λ ys. get_or ys 0 d) _ bs at y m e ∙ parse_inside (list n d t) (drop 1) _ bs m

  pub list_short : (x a : ℕ) → parse t bs at ≡ short x a → parse (list (suc n) d t) bs at ≡ short x a
  unfolding list
  list_short x a e = lacks_in t (λ ys. get_or ys 0 d) _ bs at x a e

pub list_none : {Y : Type 0} (d : Y) (t : Table Y) (bs : List ℕ) (at : ℕ) → parse (list 0 d t) bs at ≡ got [] at
unfolding list
list_none d t bs at = refl
