-- A table's canonical form field by field, by bit positions. s are the bytes, `at` the bit.
--     stands-..    the field is there as the canonical form asks, and so is what follows it
--     fails-..     what follows it is not
--     lacks-..     the field is missing
--     by_table, not_by_table     what a walk from the first bit on says of the whole payload
use Prim.Native.Nat.{ℕ, suc, ◌+◌, ◌*◌, ◌-◌, ◌^◌, ◌<◌, ◌≤◌}
use mathlib.Core.Bool.{Bool, true, false, ◌&&◌, and-true, and-false}
use mathlib.Core.List.{List}
use mathlib.Core.Path.{◌≡◌, refl, ap, sym, ◌∙◌}
use native.Mathlib.Omega.{arith}
use lib.Dec.{eqb}
use lib.ListN.{length, get_or, drop}
use borrow.Author.Tests.{eq-eqb, ne_eqb, eqb-true, eqb-false}
use Rattle.table.specs.Bits.{bits_of, field}
use Rattle.table.specs.Table.{Table, done, must, inside, number, bit, reserved, list, uimsbf, flag, ones, Answer, got, short, parse, canonical, takes_all, canonical_by}
use Rattle.table.proofs.Steps.{takes_number, takes_flag, takes_ones, reads_number, reads_flag, reads_ones, takes_in, reads_in, canonical_inside}
use Rattle.command_canonical.specs.Private.{Stands, Fails, Told, exact}
use Rattle.std.proofs.Common.{Some, None, Option}

module _ {X : Type 0} (s : List ℕ) (at : ℕ) where
  pub stands_done : (y : X) (m : ℕ) → at ≡ m → Stands (done y) s at m
  stands_done y m e = record { reading = y; reads = ap (got y) e; form = refl }

  -- ---- a number
  module _ (w : ℕ) (p : X → ℕ) (k : ℕ → Table X) where
    pub stands_number : (v m : ℕ) → at + w ≤ length s * 8 → v ≡ field (bits_of s) at w → Stands (k v) s (at + w) m → Stands (uimsbf w p k) s at m
    unfolding number
    stands_number v m h e a = record {
      reading = a.reading;
      reads = takes_number s at w v p k h e ∙ a.reads;
      form = ap (λ (u : ℕ). canonical (k u) (bits_of s) (at + w)) (sym e) ∙ a.form;
    }

    pub fails_number : (v : ℕ) → v ≡ field (bits_of s) at w → Fails (k v) s (at + w) → Fails (uimsbf w p k) s at
    unfolding number
    fails_number v e f = record {
      other = λ x m g.
          ap (λ (u : ℕ). canonical (k u) (bits_of s) (at + w)) (sym e)
          ∙ f.other x m (ap (λ (u : ℕ). parse (k u) (bits_of s) (at + w)) e ∙ (reads_number s at w p k x m g).1);
    }

    pub lacks_number : length s * 8 < at + w → Fails (uimsbf w p k) s at
    lacks_number h = record { other = λ x m g. absurd (omega (arith, (reads_number s at w p k x m g).0)) }

  -- ---- a flag
  module _ (p : X → Bool) (k : Bool → Table X) where
    pub stands_flag : (b : Bool) (m : ℕ) → at + 1 ≤ length s * 8 → eqb (field (bits_of s) at 1) 1 ≡ b → Stands (k b) s (at + 1) m → Stands (flag p k) s at m
    unfolding bit
    stands_flag b m h e a = record {
      reading = a.reading;
      reads = takes_flag s at b p k h e ∙ a.reads;
      form = ap (λ (u : Bool). canonical (k u) (bits_of s) (at + 1)) e ∙ a.form;
    }

    pub fails_flag : (b : Bool) → eqb (field (bits_of s) at 1) 1 ≡ b → Fails (k b) s (at + 1) → Fails (flag p k) s at
    unfolding bit
    fails_flag b e f = record {
      other = λ x m g.
          ap (λ (u : Bool). canonical (k u) (bits_of s) (at + 1)) e
          ∙ f.other x m (ap (λ (u : Bool). parse (k u) (bits_of s) (at + 1)) (sym e) ∙ (reads_flag s at p k x m g).1);
    }

    pub lacks_flag : length s * 8 < at + 1 → Fails (flag p k) s at
    lacks_flag h = record { other = λ x m g. absurd (omega (arith, (reads_flag s at p k x m g).0)) }

  -- ---- reserved bits
  module _ (w : ℕ) (t : Table X) where
    pub stands_ones : (m : ℕ) → at + w ≤ length s * 8 → field (bits_of s) at w ≡ 2 ^ w - 1 → Stands t s (at + w) m → Stands (ones w t) s at m
    unfolding reserved
    stands_ones m h e a = record {
      reading = a.reading;
      reads = takes_ones s at w t h ∙ a.reads;
      form = rw (eq-eqb (field (bits_of s) at w) (2 ^ w - 1) e) a.form;
    }

    -- one of them is 0
    pub fails_one : (field (bits_of s) at w ≡ 2 ^ w - 1 → ⊥) → Fails (ones w t) s at
    unfolding reserved
    fails_one h = record { other = λ x m g. rw (ne_eqb (field (bits_of s) at w) (2 ^ w - 1) h) }

    pub fails_ones : Fails t s (at + w) → Fails (ones w t) s at
    unfolding reserved
    fails_ones f = record { other = λ x m g. rw (f.other x m (reads_ones s at w t x m g).1) (and-false (eqb (field (bits_of s) at w) (2 ^ w - 1))) }

  -- ---- what the canonical form asks besides
  module _ (b : Bool) (t : Table X) where
    pub stands_must : (m : ℕ) → b ≡ true → Stands t s at m → Stands (must b t) s at m
    stands_must m e a = record { reading = a.reading; reads = a.reads; form = rw e a.form }

    pub fails_must : b ≡ false → Fails (must b t) s at
    fails_must e = record { other = λ x m g. rw e }

    pub fails_past : Fails t s at → Fails (must b t) s at
    fails_past f = record { other = λ x m g. rw (f.other x m g) (and-false b) }

-- ---- a table inside another
module _ {X Y : Type 0} (t : Table Y) (q : X → Y) (k : Y → Table X) (s : List ℕ) (at : ℕ) where
  pub fails_in : Fails t s at → Fails (inside t q k) s at
  fails_in f = record {
    other = λ x m g.
        let r = reads_in t q k (bits_of s) at x m g in
        canonical_inside t q k (bits_of s) at r.inner r.seam r.front ∙ rw (f.other r.inner r.seam r.front);
  }

  module _ (n : ℕ) (a : Stands t s at n) where
    pub stands_in : (m : ℕ) → Stands (k a.reading) s n m → Stands (inside t q k) s at m
    stands_in m b = record {
      reading = b.reading;
      reads = takes_in t q k (bits_of s) at a.reading n a.reads ∙ b.reads;
      form = canonical_inside t q k (bits_of s) at a.reading n a.reads ∙ rw a.form b.form;
    }

    pub fails_after : Fails (k a.reading) s n → Fails (inside t q k) s at
    fails_after f = record {
      other = λ x m g.
          canonical_inside t q k (bits_of s) at a.reading n a.reads
          ∙ ap (λ (c : Bool). canonical t (bits_of s) at && c) (f.other x m (sym (takes_in t q k (bits_of s) at a.reading n a.reads) ∙ g))
          ∙ and-false (canonical t (bits_of s) at);
    }

-- ---- a list, element by element
module _ {Y : Type 0} (n : ℕ) (d : Y) (t : Table Y) (s : List ℕ) (at : ℕ) where
  pub fails_first : Fails t s at → Fails (list (suc n) d t) s at
  unfolding list
  fails_first f = fails_in t (λ ys. get_or ys 0 d) _ s at f

  module _ (i : ℕ) (a : Stands t s at i) where
    pub stands_list : (m : ℕ) → Stands (list n d t) s i m → Stands (list (suc n) d t) s at m
    unfolding list
    stands_list m b = stands_in t (λ ys. get_or ys 0 d) _ s at i a m (stands_in (list n d t) (drop 1) _ s i m b m (stands_done s m _ m refl))

    pub fails_list : Fails (list n d t) s i → Fails (list (suc n) d t) s at
    unfolding list
    fails_list f = fails_after t (λ ys. get_or ys 0 d) _ s at i a (fails_in (list n d t) (drop 1) _ s i f)

-- ---- the same from and to another bit that is the same
pub stands_at : {X : Type 0} (t : Table X) (s : List ℕ) (a b m : ℕ) → a ≡ b → Stands t s b m → Stands t s a m
stands_at t s a b m e h = rw e h

pub fails_at : {X : Type 0} (t : Table X) (s : List ℕ) (a b : ℕ) → a ≡ b → Fails t s b → Fails t s a
fails_at t s a b e f = rw e f

-- ---- what a walk answers, case by case
module _ {X : Type 0} (t : Table X) (s : List ℕ) (at : ℕ) (r : Option ℕ) where
  pub told_ends : (n : ℕ) → Told t s at r → r ≡ Some n → Stands t s (at * 8) (n * 8)
  told_ends n h e = rw e at h

  pub told_other : Told t s at r → r ≡ None → Fails t s (at * 8)
  told_other h e = rw e at h

-- ---- the whole payload
same_byte : (l n : ℕ) → eqb l n ≡ eqb (n * 8) (l * 8)
same_byte l n = go (eqb l n) refl
  where
    go : (b : Bool) → eqb l n ≡ b → b ≡ eqb (n * 8) (l * 8)
    go true e = let z : l ≡ n = eqb-true l n e in sym (eq-eqb (n * 8) (l * 8) (omega arith))
    go false e = sym (ne_eqb (n * 8) (l * 8) (λ z. eqb-false l n e (omega arith)))

module _ {X : Type 0} (t : Table X) (s : List ℕ) where
  pub by_table : (n : ℕ) → Stands t s 0 (n * 8) → eqb (length s) n ≡ canonical_by t s
  unfolding canonical_by
  by_table n a = rw (a.reads, a.form) (same_byte (length s) n ∙ sym (and-true (eqb (n * 8) (length s * 8))))

  pub not_by_table : Fails t s 0 → false ≡ canonical_by t s
  unfolding canonical_by
  not_by_table f = go (parse t (bits_of s) 0) refl
    where
      go : (r : Answer X) → parse t (bits_of s) 0 ≡ r → false ≡ takes_all r s && canonical t (bits_of s) 0
      go (got x m) e = rw (f.other x m e) (sym (and-false (eqb m (length s * 8))))
      go (short a b) e = refl

  -- what a walk from the first byte on says of the whole
  pub exact_is : (r : Option ℕ) → Told t s 0 r → exact r (length s) ≡ canonical_by t s
  exact_is (Some n) a = by_table n a
  exact_is None f = not_by_table f
