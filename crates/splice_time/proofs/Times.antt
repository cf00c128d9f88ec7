-- splice_time(): what a reader answers, and its laws as a structure.
use Prim.Native.Nat.{ℕ, ◌+◌, ◌*◌, ◌-◌, ◌/◌, ◌%◌, ◌^◌, ◌<◌, ◌≤◌}
use mathlib.Core.Bool.{Bool, true, false}
use mathlib.Core.List.{List, ◌++◌}
use mathlib.Core.Path.{◌≡◌, refl, ap, sym, ◌∙◌}
use native.Mathlib.Nat.{zero-add, add-zero, mod-eq_of_lt}
use native.Mathlib.Omega.{arith}
use lib.Dec.{eqb, ltb}
use lib.ListN.{length, get_or}
use borrow.Author.Tests.{lt-ltb, le-ltb}
use Rattle.table.specs.Bits.{pick, bits_of, field, AllBytes}
use Rattle.table.specs.Cursor.{place, cursor_at}
use Rattle.table.specs.Table.{done, Answer, got, short, parse, canonical}
use Rattle.table.specs.Writing.{Same, made, make}
use Rattle.table.specs.declared.cursor.Cursor.{Cursor}
use Rattle.table.specs.declared.cursor.Field.{Field}
use Rattle.table.specs.declared.cursor.Short.{Short}
use Rattle.table.proofs.Fields.{field_in}
use Rattle.table.proofs.Laws.{Tells}
use Rattle.table.proofs.Leading.{Leads, leads_done, leads_number, leads_flag, leads_ones}
use Rattle.table.proofs.Lists.{zero_one}
use Rattle.table.proofs.Steppings.{Settled, place_of, settled_at}
use Rattle.table.proofs.Steps.{takes_number, lacks_number, takes_flag, lacks_flag, takes_ones}
use Rattle.table.proofs.Structure as laws
use Rattle.table.proofs.Telling.{tells_number, tells_either, tells_ones}
use Rattle.splice_time.specs.Time.{splice_time, specified, ticks, not_immediate, time_read, adjusted_of, too_large}
use Rattle.splice_time.specs.declared.SpliceTime.{SpliceTime}
use Rattle.splice_time.specs.declared.SpliceTime.TheVariants.{Immediate, Unspecified, At}
use Rattle.std.proofs.Common.{Ok, Err, Some, None}

-- ---- a reader's answer, made and undone
pub time_lacks : (r : Answer SpliceTime) (x : Short) → r ≡ short x.expected x.actual → Err x ≡ time_read r
unfolding time_read
time_lacks r x e = rw e

pub timed_got : (r : Answer SpliceTime) (t : Field SpliceTime Cursor) → Ok t ≡ time_read r → (r ≡ got t.value (place t.next)) × Settled t.next
unfolding time_read
timed_got (got x m) t f =
    let e : t.value ≡ x = cc in
    let c : t.next ≡ cursor_at m = cc in
    (rw (e, c, place_of m), rw c (settled_at m))
timed_got (short e a) t f = zero_one cc

pub timed_lacks : (r : Answer SpliceTime) (x : Short) → Err x ≡ time_read r → r ≡ short x.expected x.actual
unfolding time_read
timed_lacks (got y m) x f = zero_one cc
timed_lacks (short e a) x f = cc

-- ---- a time that starts with byte i
module _ (s : List ℕ) (i : ℕ) where
  pub none_left : length s ≤ i → Err (record { expected = 0; actual = 0 }) ≡ time_read (parse splice_time (bits_of s) (i * 8))
  unfolding splice_time
  none_left h =
      let z : (length s * 8 - i * 8) / 8 ≡ 0 = omega arith in
      time_lacks _ _ (lacks_flag s (i * 8) _ _ (omega arith) ∙ ap (short 0) z)

  module _ (there : i < length s) (byte : get_or s i 0 < 256) where
    first : field (bits_of s) (i * 8) 1 ≡ get_or s i 0 / 128 % 2
    first = ap (λ (p : ℕ). field (bits_of s) p 1) (sym (add-zero (i * 8))) ∙ field_in s i there byte 0 1 7 refl

    pub aligned_unspecified : get_or s i 0 < 128 → Ok (record { value = Unspecified; next = record { byte = i + 1; bit = 0 } }) ≡ time_read (parse splice_time (bits_of s) (i * 8))
    unfolding splice_time time_read cursor_at
    aligned_unspecified h =
        let z : get_or s i 0 / 128 % 2 ≡ 0 = omega arith in
        let b : (i * 8 + 1 + 7) / 8 ≡ i + 1 = omega arith in
        let c : (i * 8 + 1 + 7) % 8 ≡ 0 = omega arith in
        rw (takes_flag s (i * 8) false _ _ (omega arith) (ap (λ (x : ℕ). eqb x 1) (first ∙ z)), takes_ones s (i * 8 + 1) 7 (done Unspecified) (omega arith), b, c)

    module _ (on : 128 ≤ get_or s i 0) where
      set : eqb (field (bits_of s) (i * 8) 1) 1 ≡ true
      set = let z : get_or s i 0 / 128 % 2 ≡ 1 = omega arith in ap (λ (x : ℕ). eqb x 1) (first ∙ z)

      pub aligned_short : (n : ℕ) → n ≡ length s - i → n < 5 → Err (record { expected = 4; actual = n - 1 }) ≡ time_read (parse splice_time (bits_of s) (i * 8))
      unfolding splice_time time_read
      aligned_short n e h =
          let z : (length s * 8 - (i * 8 + 1 + 6)) / 8 ≡ n - 1 = omega arith in
          rw (takes_flag s (i * 8) true _ _ (omega arith) set, takes_ones s (i * 8 + 1) 6 _ (omega arith), lacks_number s (i * 8 + 1 + 6) 33 ticks (λ t. done (At t)) (omega arith), z)

      pub aligned_at : (v : ℕ) → v ≡ field (bits_of s) (i * 8 + 7) 33 → i + 5 ≤ length s
          → Ok (record { value = At v; next = record { byte = i + 5; bit = 0 } }) ≡ time_read (parse splice_time (bits_of s) (i * 8))
      unfolding splice_time time_read cursor_at
      aligned_at v e h =
          let p : i * 8 + 1 + 6 ≡ i * 8 + 7 = omega arith in
          let b : (i * 8 + 1 + 6 + 33) / 8 ≡ i + 5 = omega arith in
          let c : (i * 8 + 1 + 6 + 33) % 8 ≡ 0 = omega arith in
          rw (takes_flag s (i * 8) true _ _ (omega arith) set, takes_ones s (i * 8 + 1) 6 _ (omega arith), takes_number s (i * 8 + 1 + 6) 33 v ticks (λ t. done (At t)) (omega arith) (e ∙ ap (λ (x : ℕ). field (bits_of s) x 33) (sym p)), b, c)

-- ---- the structure
-- from any bit on, at which a byte begins
pub time_tells : (at : ℕ) → at % 8 ≡ 0 → Tells splice_time at (λ a y. (a % 8 ≡ 0) × (not_immediate y ≡ true))
unfolding splice_time
time_tells at e =
    tells_either _ _ at _
    (tells_ones 6 _ (at + 1) _ (tells_number 33 _ _ (at + 1 + 6) _ λ v h. (((let z : (at + 1 + 6 + 33) % 8 ≡ 0 = omega arith in z, refl), refl), refl)))
    (tells_ones 7 _ (at + 1) _ ((let z : (at + 1 + 7) % 8 ≡ 0 = omega arith in z, refl), refl))

abbrev pub time_size : SpliceTime → ℕ
time_size Immediate = 0
time_size Unspecified = 1
time_size (At t) = 5

pub time_leads : (x : SpliceTime) (at m : ℕ) → not_immediate x ≡ true → Leads splice_time x x at (at + time_size x * 8) m
unfolding splice_time
time_leads Immediate at m f = zero_one cc
time_leads Unspecified at m f = leads_flag _ _ _ _ at _ m (leads_ones 7 _ _ _ (at + 1) _ m (leads_done Unspecified _ _ _ _ m refl (omega arith)))
time_leads (At t) at m f = leads_flag _ _ _ _ at _ m (leads_ones 6 _ _ _ (at + 1) _ m (leads_number 33 _ _ _ _ (at + 1 + 6) _ m (leads_done (At t) _ _ _ _ m refl (omega arith))))

abbrev structure : laws.Structure splice_time
structure = record {
  writable = not_immediate;
  size = time_size;
  moved = λ x. x;
  Shape = λ x. Unit {0};
  After = λ m. Unit {0};
  none = tt;
  tells = time_tells 0 refl;
  ends = λ x m h f u. rw zero-add at (time_leads x 0 m f);
}

-- what is written of a time reads as that time, whatever follows, and is canonical
pub time_write_read : (lent : List ℕ) (x : SpliceTime) (b r : List ℕ) → make splice_time (not_immediate x) lent x ≡ made b
    → (parse splice_time (bits_of (b ++ r)) 0 ≡ got x (length b * 8)) × (canonical splice_time (bits_of (b ++ r)) 0 ≡ true)
time_write_read lent x b r e = laws.write_read splice_time structure lent x b r tt e tt

-- canonical bytes are what is written of their reading
pub time_read_write : (s : List ℕ) (x : SpliceTime) → AllBytes s → parse splice_time (bits_of s) 0 ≡ got x (length s * 8) → canonical splice_time (bits_of s) 0 ≡ true
    → make splice_time (not_immediate x) s x ≡ made s
time_read_write s x a e c = laws.read_write_all splice_time structure s x a e c

-- canonical bytes of equal readings are equal
pub time_one : (s r : List ℕ) (x y : SpliceTime) → AllBytes s → AllBytes r → parse splice_time (bits_of s) 0 ≡ got x (length s * 8) → parse splice_time (bits_of r) 0 ≡ got y (length r * 8)
    → canonical splice_time (bits_of s) 0 ≡ true → canonical splice_time (bits_of r) 0 ≡ true → Same splice_time s x r y → s ≡ r
time_one s r x y a b p q c d h = laws.write_one splice_time structure s r x y a b p q c d h

-- ---- the adjusted time, case by case
module _ (adjustment : ℕ) where
  pub adjust_wide : (x : SpliceTime) → 2 ^ 33 ≤ adjustment → Err too_large ≡ adjusted_of x adjustment
  unfolding adjusted_of
  adjust_wide x h = rw (le-ltb adjustment (2 ^ 33) h)

  module _ (narrow : adjustment < 2 ^ 33) where
    pub adjust_none : (x : SpliceTime) → specified x ≡ false → ticks x ≡ 0 → Ok None ≡ adjusted_of x adjustment
    unfolding adjusted_of
    adjust_none x e z = rw (lt-ltb adjustment (2 ^ 33) narrow, z, e)

    pub adjust_late : (x : SpliceTime) (t : ℕ) → x ≡ At t → 2 ^ 33 ≤ t → Err too_large ≡ adjusted_of x adjustment
    unfolding adjusted_of
    adjust_late x t e h = rw (e, lt-ltb adjustment (2 ^ 33) narrow, le-ltb t (2 ^ 33) h)

    pub adjust_at : (x : SpliceTime) (t : ℕ) → x ≡ At t → t < 2 ^ 33 → Ok (Some ((t + adjustment) % 8589934592)) ≡ adjusted_of x adjustment
    unfolding adjusted_of
    adjust_at x t e h = rw (e, lt-ltb adjustment (2 ^ 33) narrow, lt-ltb t (2 ^ 33) h)

-- what is answered has 33 bits
pub adjusted_below : (t : SpliceTime) (adjustment n : ℕ) → adjusted_of t adjustment ≡ Ok (Some n) → n < 2 ^ 33
unfolding adjusted_of
adjusted_below t adjustment n e = go (ltb adjustment (2 ^ 33)) (ltb (ticks t) (2 ^ 33)) (specified t) e
  where
    go : (fits small there : Bool)
        → pick fits (pick small (pick there (Ok (Some ((ticks t + adjustment) % 8589934592))) (Ok None)) (Err too_large)) (Err too_large) ≡ Ok (Some n)
        → n < 2 ^ 33
    go true true true e =
        let k : n ≡ (ticks t + adjustment) % 8589934592 = cc in
        omega (arith, k)
    go true true false e = zero_one cc
    go true false there e = zero_one cc
    go false small there e = zero_one cc

-- where nothing is carried the adjusted time is the sum
pub adjusted_sum : (t adjustment : ℕ) → t + adjustment < 2 ^ 33 → adjusted_of (At t) adjustment ≡ Ok (Some (t + adjustment))
adjusted_sum t adjustment h = sym (adjust_at adjustment (omega arith) (At t) t refl (omega arith)) ∙ ap (λ x. Ok (Some x)) (mod-eq_of_lt h)

pub adjusted_none : (adjustment : ℕ) → adjustment < 2 ^ 33 → (adjusted_of Unspecified adjustment ≡ Ok None) × (adjusted_of Immediate adjustment ≡ Ok None)
adjusted_none adjustment h = (sym (adjust_none adjustment h Unspecified refl refl), sym (adjust_none adjustment h Immediate refl refl))

pub adjusted_wide : (t adjustment : ℕ) → (2 ^ 33 ≤ adjustment → (x : SpliceTime) → adjusted_of x adjustment ≡ Err too_large)
    × (adjustment < 2 ^ 33 → 2 ^ 33 ≤ t → adjusted_of (At t) adjustment ≡ Err too_large)
adjusted_wide t adjustment = (λ h x. sym (adjust_wide adjustment x h), λ h w. sym (adjust_late adjustment h (At t) t refl w))

-- 02's row and its neighbours
pub adjusted_wraps : (adjusted_of (At 8589934591) 1 ≡ Ok (Some 0)) × (adjusted_of (At 8589934591) 0 ≡ Ok (Some 8589934591))
    × (adjusted_of (At 8589934591) 8589934591 ≡ Ok (Some 8589934590))
unfolding adjusted_of
adjusted_wraps = (refl, refl, refl)
