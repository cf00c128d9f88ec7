-- Bytes behind the last field: a table that never asks how many bytes are left reads the same whatever follows.
--     goes_on, on_number, tolerates              of bits, and of bytes
--     blind_inside, blind_pick, blind_list       tables that are so
--     viewed_on                                  a view of longer bytes
use Prim.Native.Nat.{ℕ, zero, suc, ◌+◌, ◌*◌, ◌-◌, ◌/◌, ◌≤◌}
use mathlib.Core.Bool.{Bool, true, false}
use mathlib.Core.List.{List, ◌++◌}
use mathlib.Core.Path.{◌≡◌, refl, ap, ◌∙◌}
use native.Mathlib.Omega.{arith}
use lib.Dec.{leb}
use lib.ListN.{length, take, drop, length-append, length-drop}
use lib.Seq.{drop-append-le, take-append-le}
use borrow.Author.Tests.{leb-true, le-leb}
use Rattle.table.specs.Bits.{pick, bits_of, num, field}
use Rattle.table.specs.Lent.{viewed}
use Rattle.table.specs.Table.{Table, done, uint, view, left, must, inside, number, list, uimsbf, got, short, parse}
use Rattle.table.specs.declared.View.{View}
use Rattle.table.proofs.Bits.{bits_append}
use Rattle.table.proofs.Lists.{zero_one}

abbrev pub Blind : {X : Type 0} → Table X → Type 0
Blind (done y) = Unit {0}
Blind (uint w p k) = (v : ℕ) → Blind (k v)
Blind (view n p k) = (at : ℕ) → Blind (k at)
Blind (left p k) = ⊥
Blind (must b t) = Blind t

run_before : (l more : List ℕ) (at n : ℕ) → at + n ≤ length l → take n (drop at (l ++ more)) ≡ take n (drop at l)
run_before l more at n h = ap (take n) (drop-append-le at l more (omega arith)) ∙ take-append-le n (drop at l) more (omega (arith, length-drop at l))

field_before : (bs more : List ℕ) (at w : ℕ) → at + w ≤ length bs → field (bs ++ more) at w ≡ field bs at w
field_before bs more at w h = ap (num 0) (run_before bs more at w h)

room : (bs more : List ℕ) (n : ℕ) → leb n (length bs) ≡ true → leb n (length (bs ++ more)) ≡ true
room bs more n h = le-leb n (length (bs ++ more)) (omega (arith, leb-true n (length bs) h, length-append bs more))

-- a field that is there is there still, and the rest goes on
on_uint : {X : Type 0} (w : ℕ) (p : X → ℕ) (k : ℕ → Table X) (bs more : List ℕ) (at : ℕ) (x : X) (m : ℕ)
    → (parse (k (field bs at w)) bs (at + w) ≡ got x m → parse (k (field bs at w)) (bs ++ more) (at + w) ≡ got x m)
    → (there : Bool) → leb (at + w) (length bs) ≡ there → pick there (parse (k (field bs at w)) bs (at + w)) (short (w / 8) ((length bs - at) / 8)) ≡ got x m
    → parse (uint w p k) (bs ++ more) at ≡ got x m
on_uint w p k bs more at x m f true i e = rw (room bs more (at + w) i, field_before bs more at w (leb-true (at + w) (length bs) i)) (f e)
on_uint w p k bs more at x m f false i e = zero_one cc

on_view : {X : Type 0} (n : ℕ) (p : X → ℕ) (k : ℕ → Table X) (bs more : List ℕ) (at : ℕ) (x : X) (m : ℕ)
    → (parse (k (at / 8)) bs (at + n * 8) ≡ got x m → parse (k (at / 8)) (bs ++ more) (at + n * 8) ≡ got x m)
    → (there : Bool) → leb (at + n * 8) (length bs) ≡ there → pick there (parse (k (at / 8)) bs (at + n * 8)) (short 1 0) ≡ got x m → parse (view n p k) (bs ++ more) at ≡ got x m
on_view n p k bs more at x m f true i e = rw (room bs more (at + n * 8) i) (f e)
on_view n p k bs more at x m f false i e = zero_one cc

pub goes_on_lem : {X : Type 0} (t : Table X) → Blind t → (bs more : List ℕ) (at : ℕ) (x : X) (m : ℕ) → parse t bs at ≡ got x m → parse t (bs ++ more) at ≡ got x m
goes_on_lem (done y) h bs more at x m e = e
goes_on_lem (uint w p k) h bs more at x m e = on_uint w p k bs more at x m (goes_on_lem (k (field bs at w)) (h (field bs at w)) bs more (at + w) x m) (leb (at + w) (length bs)) refl e
goes_on_lem (view n p k) h bs more at x m e = on_view n p k bs more at x m (goes_on_lem (k (at / 8)) (h (at / 8)) bs more (at + n * 8) x m) (leb (at + n * 8) (length bs)) refl e
goes_on_lem (left p k) h bs more at x m e = absurd h
goes_on_lem (must b t) h bs more at x m e = goes_on_lem t h bs more at x m e

-- a number, and then a table that goes on
pub on_number : {X : Type 0} (w : ℕ) (p : X → ℕ) (k : ℕ → Table X) (bs more : List ℕ) (at : ℕ) (x : X) (m : ℕ)
    → ((v : ℕ) → parse (k v) bs (at + w) ≡ got x m → parse (k v) (bs ++ more) (at + w) ≡ got x m)
    → parse (uimsbf w p k) bs at ≡ got x m → parse (uimsbf w p k) (bs ++ more) at ≡ got x m
unfolding number
on_number w p k bs more at x m f e = on_uint w p k bs more at x m (f (field bs at w)) (leb (at + w) (length bs)) refl e

-- of bytes
pub tolerates : {X : Type 0} (t : Table X) → Blind t → (s more : List ℕ) (at : ℕ) (x : X) (m : ℕ) → parse t (bits_of s) at ≡ got x m → parse t (bits_of (s ++ more)) at ≡ got x m
tolerates t h s more at x m e = rw (bits_append s more) (goes_on_lem t h (bits_of s) (bits_of more) at x m e)

-- ---- tables that are so
pub blind_inside : {X Y : Type 0} (t : Table Y) (q : X → Y) (k : Y → Table X) → Blind t → ((y : Y) → Blind (k y)) → Blind (inside t q k)
blind_inside (done y) q k h g = g y
blind_inside (uint w p f) q k h g = λ v. blind_inside (f v) q k (h v) g
blind_inside (view n p f) q k h g = λ at. blind_inside (f at) q k (h at) g
blind_inside (left p f) q k h g = absurd h
blind_inside (must b t) q k h g = blind_inside t q k h g

pub blind_pick : {X : Type 0} (b : Bool) (t u : Table X) → Blind t → Blind u → Blind (pick b t u)
blind_pick true t u h g = h
blind_pick false t u h g = g

pub blind_list : {Y : Type 0} (n : ℕ) (d : Y) (t : Table Y) → Blind t → Blind (list n d t)
unfolding list
blind_list zero d t h = tt
blind_list (suc n) d t h = blind_inside t _ _ h λ y. blind_inside (list n d t) _ _ (blind_list n d t h) λ ys. tt

-- ---- a view
pub viewed_on : (s more : List ℕ) (v : View) → v.at + v.len ≤ length s → viewed (s ++ more) v ≡ viewed s v
unfolding viewed
viewed_on s more v h =
    rw (le-leb (v.at + v.len) (length s) h, le-leb (v.at + v.len) (length (s ++ more)) (omega (arith, length-append s more)))
    (run_before s more v.at v.len h)
