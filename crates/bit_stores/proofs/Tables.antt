-- Stores one behind the other, as a table's fields stand.
--     pens_append, pens_last, pens_nil, ..       a store, and what is stored behind it
--     print_beside                               two numbers side by side: one number
--     fields-..                                 what a value has in a table that begins with a number, a flag, ..
--     goes-..                                   so that field stored, and then the rest of the table, is the table stored
use Prim.Native.Nat.{ℕ, ◌+◌, ◌*◌, ◌-◌, ◌/◌, ◌%◌, ◌^◌, ◌<◌, ◌≤◌}
use mathlib.Core.Bool.{Bool, true, false}
use mathlib.Core.List.{List, [], ◌∷◌, ◌++◌, append_assoc}
use mathlib.Core.Path.{◌≡◌, refl, ap, ap₂, sym, ◌∙◌}
use native.Mathlib.Nat.{mod-lt}
use native.Mathlib.Numerals.{add-one}
use native.Mathlib.Omega.{arith}
use lib.Dec.{eqb}
use lib.ListN.{length, take, drop, get_or, length-append}
use lib.Pow.{pow_pos}
use borrow.Author.Tests.{le-leb}
use lib.Seq.{length-take-le, take-suc}
use Rattle.bit_stores.specs.Private.{Fits, inked}
use Rattle.table.specs.Bits.{bits_of_num, bits_of, AllBytes}
use Rattle.table.specs.Cursor.{place, cursor_at}
use Rattle.table.specs.Table.{Table, inside, number, bit, flag_number, reserved, part, remaining, uimsbf, flag, ones}
use Rattle.table.specs.Writing as writing
use Rattle.table.specs.Writing.{Content, Field, bits, run, rest, walk, contents, print}
use Rattle.table.specs.declared.View.{View}
use Rattle.table.specs.declared.cursor.Cursor.{Cursor}
use Rattle.table.proofs.Bits.{AllBits, all_num, all_bits, bits_append, bits_join, length_bits}
use Rattle.table.proofs.Lists.{append_nil}
use Rattle.table.proofs.Steppings.{Settled, place_of}
use Rattle.table.proofs.Walks.{past, print_bits, walk_inside}
use Rattle.bit_stores.specs.Pen.{penned, pen_after, Pens}
use Rattle.bit_stores.proofs.Penned.{length_penned, penned_append, penned_nil, low_bits}

-- ---- the cursor
after_fits : (t : List ℕ) (c : Cursor) (n : ℕ) → place c + n ≤ length t * 8 → pen_after t c n ≡ cursor_at (place c + n)
unfolding pen_after
after_fits t c n h = rw (le-leb _ _ h)

-- where a store ends
pub pens_place : (t : List ℕ) (c : Cursor) (b u : List ℕ) (d : Cursor) → Fits t c b → Pens t c b u d → (d ≡ cursor_at (place c + length b)) × (place d ≡ place c + length b) × (length u ≡ length t)
pens_place t c b u d h p =
    let e : d ≡ cursor_at (place c + length b) = p.cursor ∙ after_fits t c (length b) h in
    (e, ap place e ∙ place_of (place c + length b), ap length p.bytes ∙ length_penned t (place c) b)

-- ---- a store and what is stored behind it: there is room for the rest; and the rest stored there is all stored
pub record Goes (t : List ℕ) (c : Cursor) (all : List ℕ) (u : List ℕ) (d : Cursor) (more : List ℕ) : Type 0 where
  pub room : Fits u d more
  pub both : (v : List ℕ) (e : Cursor) → Pens u d more v e → Pens t c all v e

pub pens_append : (t : List ℕ) (c : Cursor) (b : List ℕ) (u : List ℕ) (d : Cursor) (r : List ℕ) → AllBits b → Fits t c (b ++ r) → Pens t c b u d → Goes t c (b ++ r) u d r
pens_append t c b u d r k h p =
    let n : length (b ++ r) ≡ length b + length r = length-append b r in
    let f = pens_place t c b u d (omega arith) p in
    let i : place d ≡ place c + length b = f.1 in
    let l : length u ≡ length t = f.2 in
    let m : place d + length r ≡ place c + length (b ++ r) = omega arith in
    record {
      room = omega arith;
      both = λ v e q. record {
        bytes = q.bytes ∙ ap₂ (λ (x : List ℕ) (y : ℕ). penned x y r) p.bytes i ∙ penned_append t (place c) b r k (omega arith);
        cursor = q.cursor ∙ after_fits u d (length r) (omega arith) ∙ ap cursor_at m ∙ sym (after_fits t c (length (b ++ r)) h);
      };
    }

pub pens_last : (t : List ℕ) (c : Cursor) (b : List ℕ) (u : List ℕ) (d : Cursor) → Pens t c b u d → Pens t c (b ++ []) u d
pens_last t c b u d p = rw (append_nil b) p

-- nothing is stored
pub pens_nil : (t : List ℕ) (c : Cursor) → AllBytes t → Settled c → place c ≤ length t * 8 → Pens t c [] t c
pens_nil t c a s h =
    let z : place c + 0 ≡ place c = omega arith in
    record { bytes = sym (penned_nil t (place c) a); cursor = sym (after_fits t c 0 (omega arith) ∙ ap cursor_at z ∙ s) }

-- one byte more of a run
pub pens_byte : (t : List ℕ) (c : Cursor) (s : List ℕ) (i x : ℕ) (u : List ℕ) (d : Cursor) (v : List ℕ) (e : Cursor) → i < length s → x ≡ get_or s i 0 → Fits t c (bits_of s)
    → Pens t c (bits_of (take i s)) u d → Pens u d (bits_of_num 8 x) v e → Pens t c (bits_of (take (i + 1) s)) v e
pens_byte t c s i x u d v e h is f p q =
    let b = bits_of (take i s) in
    let k : bits_of (take (i + 1) s) ≡ b ++ bits_of_num 8 x =
    ap bits_of (ap (λ (n : ℕ). take n s) (add-one i) ∙ take-suc s i 0 h) ∙ bits_append (take i s) (get_or s i 0 ∷ []) ∙ ap (λ (y : ℕ). b ++ bits_of_num 8 y) (sym is) in
    let l : length (b ++ bits_of_num 8 x) ≡ i * 8 + 8 =
    length-append b (bits_of_num 8 x) ∙ omega (arith, length_bits (take i s), length-take-le i s (omega arith)) in
    rw k ((pens_append t c b u d (bits_of_num 8 x) (all_bits (take i s)) (omega (arith, length_bits s)) p).both v e q)

-- the same bits
pub pens_same : (t : List ℕ) (c : Cursor) (b r : List ℕ) (u : List ℕ) (d : Cursor) → b ≡ r → Pens t c b u d → Pens t c r u d
pens_same t c b r u d e p = rw (← e) p

-- ---- the bits of fields
-- two numbers side by side are one
pub print_beside : (a b x y : ℕ) (cs : List Content) → print (writing.number a x ∷ writing.number b y ∷ cs) ≡ print (writing.number (a + b) (x * 2 ^ b + y % 2 ^ b) ∷ cs)
print_beside a b x y cs =
    sym (append_assoc (bits_of_num a x) (bits_of_num b y) (print cs))
    ∙ ap (λ (l : List ℕ). l ++ print cs) (ap (λ (l : List ℕ). bits_of_num a x ++ l) (sym (low_bits b y)) ∙ bits_join a b x (y % 2 ^ b) (mod-lt y (pow_pos b)))

pub ink_append : (lent : List ℕ) (fs gs : List Field) → print (contents lent (fs ++ gs)) ≡ print (contents lent fs) ++ print (contents lent gs)
ink_append lent [] gs = refl
ink_append lent (bits w v ∷ fs) gs =
    ap (λ (l : List ℕ). bits_of_num w v ++ l) (ink_append lent fs gs) ∙ sym (append_assoc (bits_of_num w v) (print (contents lent fs)) (print (contents lent gs)))
ink_append lent (run n from ∷ fs) gs =
    ap (λ (l : List ℕ). bits_of (take n (drop from lent)) ++ l) (ink_append lent fs gs)
    ∙ sym (append_assoc (bits_of (take n (drop from lent))) (print (contents lent fs)) (print (contents lent gs)))
ink_append lent (rest m ∷ fs) gs = ink_append lent fs gs

-- ---- what a value has in a table that begins with ..
module _ {X : Type 0} (x : X) (at : ℕ) where
  pub fields_number : (w : ℕ) (p : X → ℕ) (k : ℕ → Table X) → (walk (uimsbf w p k) x at).fields ≡ bits w (p x) ∷ (walk (k (p x)) x (at + w)).fields
  unfolding number
  fields_number w p k = refl

  pub fields_flag : (p : X → Bool) (k : Bool → Table X) → (walk (flag p k) x at).fields ≡ bits 1 (flag_number (p x)) ∷ (walk (k (p x)) x (at + 1)).fields
  unfolding bit
  fields_flag p k = ap (λ (b : Bool). bits 1 (flag_number (p x)) ∷ (walk (k b) x (at + 1)).fields) (again (p x))
    where
      again : (b : Bool) → eqb (flag_number b) 1 ≡ b
      again true = refl
      again false = refl

  pub fields_ones : (w : ℕ) (t : Table X) → (walk (ones w t) x at).fields ≡ bits w (2 ^ w - 1) ∷ (walk t x (at + w)).fields
  unfolding reserved
  fields_ones w t = refl

  pub fields_part : (n : ℕ) (q : X → View) (k : View → Table X) → (walk (inside (part n) q k) x at).fields ≡ run n (q x).at ∷ (walk (k (record { at = at / 8; len = n })) x (at + n * 8)).fields
  unfolding part
  fields_part n q k = refl

  pub fields_remaining : (p : X → ℕ) (k : ℕ → Table X) → (walk (inside remaining p k) x at).fields ≡ rest (p x) ∷ (walk (k (p x)) x at).fields
  unfolding remaining
  fields_remaining p k = refl

  pub fields_in : {Y : Type 0} (t : Table Y) (q : X → Y) (k : Y → Table X)
      → (walk (inside t q k) x at).fields ≡ (walk t (q x) at).fields ++ (walk (k (walk t (q x) at).value) x (past (walk t (q x) at).fields at)).fields
  fields_in t q k = ap (λ w. w.fields) (walk_inside t q k x at)

-- ---- that field stored, and then the rest
module _ {X : Type 0} (lent : List ℕ) (x : X) (at : ℕ) (t : List ℕ) (c : Cursor) (u : List ℕ) (d : Cursor) where
  pub goes_number : (w : ℕ) (p : X → ℕ) (k : ℕ → Table X) → Fits t c (inked lent (uimsbf w p k) x at) → Pens t c (bits_of_num w (p x)) u d
      → Goes t c (inked lent (uimsbf w p k) x at) u d (inked lent (k (p x)) x (at + w))
  unfolding number
  goes_number w p k h q = pens_append t c (bits_of_num w (p x)) u d (inked lent (k (p x)) x (at + w)) (all_num w (p x)) h q

  pub goes_flag : (p : X → Bool) (k : Bool → Table X) → Fits t c (inked lent (flag p k) x at) → Pens t c (bits_of_num 1 (flag_number (p x))) u d
      → Goes t c (inked lent (flag p k) x at) u d (inked lent (k (p x)) x (at + 1))
  goes_flag p k h q =
      let n = flag_number (p x) in
      let r = inked lent (k (p x)) x (at + 1) in
      let e : inked lent (flag p k) x at ≡ bits_of_num 1 n ++ r = ap (λ fs. print (contents lent fs)) (fields_flag x at p k) in
      rw e (pens_append t c (bits_of_num 1 n) u d r (all_num 1 n) (rw e at h) q)

  pub goes_ones : (w : ℕ) (k : Table X) → Fits t c (inked lent (ones w k) x at) → Pens t c (bits_of_num w (2 ^ w - 1)) u d
      → Goes t c (inked lent (ones w k) x at) u d (inked lent k x (at + w))
  unfolding reserved
  goes_ones w k h q = pens_append t c (bits_of_num w (2 ^ w - 1)) u d (inked lent k x (at + w)) (all_num w (2 ^ w - 1)) h q

  pub goes_part : (n : ℕ) (f : X → View) (k : View → Table X) → Fits t c (inked lent (inside (part n) f k) x at) → Pens t c (bits_of (take n (drop (f x).at lent))) u d
      → Goes t c (inked lent (inside (part n) f k) x at) u d (inked lent (k (record { at = at / 8; len = n })) x (at + n * 8))
  unfolding part
  goes_part n f k h q =
      let b = take n (drop (f x).at lent) in
      pens_append t c (bits_of b) u d (inked lent (k (record { at = at / 8; len = n })) x (at + n * 8)) (all_bits b) h q

  -- a whole table inside another
  pub goes_in : {Y : Type 0} (i : Table Y) (f : X → Y) (k : Y → Table X) → Fits t c (inked lent (inside i f k) x at) → Pens t c (inked lent i (f x) at) u d
      → Goes t c (inked lent (inside i f k) x at) u d (inked lent (k (walk i (f x) at).value) x (past (walk i (f x) at).fields at))
  goes_in i f k h q =
      let fs = (walk i (f x) at).fields in
      let gs = (walk (k (walk i (f x) at).value) x (past fs at)).fields in
      let e : inked lent (inside i f k) x at ≡ print (contents lent fs) ++ print (contents lent gs) =
      ap (λ fs. print (contents lent fs)) (fields_in x at i f k) ∙ ink_append lent fs gs in
      rw e (pens_append t c (print (contents lent fs)) u d (print (contents lent gs)) (print_bits (contents lent fs)) (rw e at h) q)
