-- The cursor's steps.
--     take_got, take_lacks, pass_got, pass_lacks   what the steps rest on
--     taken_got, taken_lacks, flagged_got, ..      what a step's answer says of the reading, for readers that walk with a cursor
use Prim.Native.Nat.{ℕ, ◌+◌, ◌*◌, ◌-◌, ◌/◌, ◌%◌, ◌^◌, ◌<◌, ◌≤◌}
use mathlib.Core.Bool.{Bool, true, false}
use mathlib.Core.List.{List}
use mathlib.Core.Path.{◌≡◌, refl, ap}
use native.Mathlib.Omega.{arith}
use lib.Dec.{leb, eqb}
use lib.ListN.{length}
use borrow.Author.Tests.{le-leb, lt-leb}
use Rattle.table.specs.Bits.{pick, bits_of, field}
use Rattle.table.specs.Cursor.{place, cursor_at, taken_of, flagged_of, skipped_of, passed_of}
use Rattle.table.specs.Table.{done, Answer, got, short, number, bit, reserved, part, parse}
use Rattle.table.specs.declared.View.{View}
use Rattle.table.specs.declared.cursor.Cursor.{Cursor}
use Rattle.table.specs.declared.cursor.Field.{Field}
use Rattle.table.specs.declared.cursor.Short.{Short}
use Rattle.table.proofs.Bits.{length_bits}
use Rattle.table.proofs.Laws.{field_there}
use Rattle.table.proofs.Lists.{zero_one}
use Rattle.table.proofs.Reading.{field_lt, field_exact}
use Rattle.std.proofs.Common.{Ok, Err}

-- ---- one field, from bit `at` on
module _ (s : List ℕ) (at : ℕ) where
  pub number_there : (w : ℕ) → at + w ≤ length s * 8 → parse (number w) (bits_of s) at ≡ got (field (bits_of s) at w) (at + w)
  unfolding number
  number_there w h = rw (length_bits s, le-leb (at + w) (length s * 8) h)

  pub number_short : (w : ℕ) → length s * 8 < at + w → parse (number w) (bits_of s) at ≡ short (w / 8) ((length s * 8 - at) / 8)
  unfolding number
  number_short w h = rw (length_bits s, lt-leb (at + w) (length s * 8) h)

  pub part_there : (n : ℕ) → at + n * 8 ≤ length s * 8 → parse (part n) (bits_of s) at ≡ got (record { at = at / 8; len = n }) (at + n * 8)
  unfolding part
  part_there n h = rw (length_bits s, le-leb (at + n * 8) (length s * 8) h)

  pub part_short : (n : ℕ) → length s * 8 < at + n * 8 → parse (part n) (bits_of s) at ≡ short 1 0
  unfolding part
  part_short n h = rw (length_bits s, lt-leb (at + n * 8) (length s * 8) h)

-- the same answer with another reading in it
abbrev re : {A B : Type 0} → (A → B) → Answer A → Answer B
re f (got a m) = got (f a) m
re f (short e a) = short e a

re_pick : {A B : Type 0} (f : A → B) (c : Bool) (a : A) (m e n : ℕ) → pick c (got (f a) m) (short e n) ≡ re f (pick c (got a m) (short e n))
re_pick f true a m e n = refl
re_pick f false a m e n = refl

bit_number : (bs : List ℕ) (at : ℕ) → parse bit bs at ≡ re (λ (v : ℕ). eqb v 1) (parse (number 1) bs at)
unfolding bit number
bit_number bs at = re_pick (λ (v : ℕ). eqb v 1) (leb (at + 1) (length bs)) (field bs at 1) (at + 1) 0 ((length bs - at) / 8)

reserved_number : (w : ℕ) (bs : List ℕ) (at : ℕ) → parse (reserved w) bs at ≡ re (λ (v : ℕ). tt) (parse (number w) bs at)
unfolding reserved number
reserved_number w bs at = re_pick (λ (v : ℕ). tt) (leb (at + w) (length bs)) (field bs at w) (at + w) (w / 8) ((length bs - at) / 8)

-- ---- for the steps themselves
module _ (s : List ℕ) (c : Cursor) where
  pub left_is : (n : ℕ) → n ≡ (length s * 8 - (c.byte * 8 + c.bit)) / 8 → n ≡ (length s * 8 - place c) / 8
  unfolding place
  left_is n e = e

  pub take_lacks : (w a : ℕ) → length s * 8 < c.byte * 8 + c.bit + w → a ≡ (length s * 8 - place c) / 8
      → Err (record { expected = w / 8; actual = a }) ≡ taken_of (parse (number w) (bits_of s) (place c))
  unfolding taken_of place
  take_lacks w a h e = rw (number_short s (c.byte * 8 + c.bit) w h, e)

  pub take_got : (w v i j : ℕ) → c.byte * 8 + c.bit + w ≤ length s * 8 → v ≡ field (bits_of s) (c.byte * 8 + c.bit) w % 2 ^ 64
      → i ≡ (c.byte * 8 + c.bit + w) / 8 → j ≡ (c.byte * 8 + c.bit + w) % 8
      → Ok (record { value = v; next = record { byte = i; bit = j } }) ≡ taken_of (parse (number w) (bits_of s) (place c))
  unfolding taken_of place cursor_at
  take_got w v i j h e f g = rw (number_there s (c.byte * 8 + c.bit) w h, e, f, g)

  pub pass_lacks : (n : ℕ) → length s * 8 < c.byte * 8 + c.bit + n * 8
      → Err (record { expected = 1; actual = 0 }) ≡ passed_of (parse (part n) (bits_of s) (place c))
  unfolding passed_of place
  pass_lacks n h = rw (part_short s (c.byte * 8 + c.bit) n h)

  pub pass_got : (n i k j : ℕ) → c.byte * 8 + c.bit + n * 8 ≤ length s * 8 → i ≡ (c.byte * 8 + c.bit) / 8
      → k ≡ (c.byte * 8 + c.bit + n * 8) / 8 → j ≡ (c.byte * 8 + c.bit + n * 8) % 8
      → Ok (record { value = record { at = i; len = n }; next = record { byte = k; bit = j } }) ≡ passed_of (parse (part n) (bits_of s) (place c))
  unfolding passed_of place cursor_at
  pass_got n i k j h e f g = rw (part_there s (c.byte * 8 + c.bit) n h, e, f, g)

-- ---- what a step's answer says of the reading
pub place_of : (at : ℕ) → place (cursor_at at) ≡ at
unfolding place cursor_at
place_of at = omega arith

pub settled_at : (at : ℕ) → cursor_at (place (cursor_at at)) ≡ cursor_at at
settled_at at = ap cursor_at (place_of at)

-- a cursor that a step answers, whose bit lies in its byte
abbrev pub Settled : Cursor → Type 0
Settled c = cursor_at (place c) ≡ c

-- 64 bits hold the number that is read
abbrev Exact : Answer ℕ → Type 0
Exact r = (v m : ℕ) → r ≡ got v m → v % 2 ^ 64 ≡ v

exact : (s : List ℕ) (w at : ℕ) → w ≤ 64 → Exact (parse (number w) (bits_of s) at)
unfolding number
exact s w at h v m e =
    let i = field_there w (λ (v : ℕ). v) done (bits_of s) at v m e in
    let z : field (bits_of s) at w ≡ v = cc in
    rw (← z) (field_exact s at w h)

number_got : (r : Answer ℕ) (n : Field ℕ Cursor) → Exact r → Ok n ≡ taken_of r → (r ≡ got n.value (place n.next)) × Settled n.next
unfolding taken_of
number_got (got v m) n h f =
    let a : n.value ≡ v % 2 ^ 64 = cc in
    let c : n.next ≡ cursor_at m = cc in
    (rw (a, c, place_of m, h v m refl), rw c (settled_at m))
number_got (short e a) n h f = zero_one cc

-- a number of at most 64 bits
pub taken_got : (s : List ℕ) (w at : ℕ) (n : Field ℕ Cursor) → w ≤ 64 → Ok n ≡ taken_of (parse (number w) (bits_of s) at)
    → (parse (number w) (bits_of s) at ≡ got n.value (place n.next)) × Settled n.next
taken_got s w at n h f = number_got (parse (number w) (bits_of s) at) n (exact s w at h) f

pub taken_lt : (s : List ℕ) (w at : ℕ) (n : Field ℕ Cursor) → w ≤ 64 → Ok n ≡ taken_of (parse (number w) (bits_of s) at) → n.value < 2 ^ w
unfolding number
taken_lt s w at n h f =
    let i = field_there w (λ (v : ℕ). v) done (bits_of s) at n.value (place n.next) (taken_got s w at n h f).0 in
    let z : field (bits_of s) at w ≡ n.value = cc in
    rw (← z) (field_lt s at w)

pub taken_lacks : (r : Answer ℕ) (x : Short) → Err x ≡ taken_of r → r ≡ short x.expected x.actual
unfolding taken_of
taken_lacks (got v m) x f = zero_one cc
taken_lacks (short e a) x f = cc

pub flagged_got : (r : Answer Bool) (y : Field Bool Cursor) → Ok y ≡ flagged_of r → (r ≡ got y.value (place y.next)) × Settled y.next
unfolding flagged_of
flagged_got (got b m) y f =
    let v : y.value ≡ b = cc in
    let c : y.next ≡ cursor_at m = cc in
    (rw (v, c, place_of m), rw c (settled_at m))
flagged_got (short e a) y f = zero_one cc

pub flagged_lacks : (r : Answer Bool) (x : Short) → Err x ≡ flagged_of r → r ≡ short x.expected x.actual
unfolding flagged_of
flagged_lacks (got b m) x f = zero_one cc
flagged_lacks (short e a) x f = cc

pub skipped_got : (r : Answer (Unit {0})) (c : Cursor) → Ok c ≡ skipped_of r → (r ≡ got tt (place c)) × Settled c
unfolding skipped_of
skipped_got (got u m) c f =
    let e : c ≡ cursor_at m = cc in
    (rw (e, place_of m), rw e (settled_at m))
skipped_got (short e a) c f = zero_one cc

pub skipped_lacks : (r : Answer (Unit {0})) (x : Short) → Err x ≡ skipped_of r → r ≡ short x.expected x.actual
unfolding skipped_of
skipped_lacks (got u m) x f = zero_one cc
skipped_lacks (short e a) x f = cc

pub passed_got : (r : Answer View) (y : Field View Cursor) → Ok y ≡ passed_of r → (r ≡ got y.value (place y.next)) × Settled y.next
unfolding passed_of
passed_got (got v m) y f =
    let e : y.value ≡ v = cc in
    let c : y.next ≡ cursor_at m = cc in
    (rw (e, c, place_of m), rw c (settled_at m))
passed_got (short e a) y f = zero_one cc

pub passed_lacks : (r : Answer View) (x : Short) → Err x ≡ passed_of r → r ≡ short x.expected x.actual
unfolding passed_of
passed_lacks (got v m) x f = zero_one cc
passed_lacks (short e a) x f = cc

-- ---- for the steps that rest on `take`
flag_re : (r : Answer ℕ) (n : Field ℕ Cursor) → Exact r → Ok n ≡ taken_of r
    → Ok (record { value = eqb n.value 1; next = n.next }) ≡ flagged_of (re (λ (v : ℕ). eqb v 1) r)
unfolding taken_of flagged_of
flag_re (got v m) n h f =
    let a : n.value ≡ v % 2 ^ 64 = cc in
    let c : n.next ≡ cursor_at m = cc in
    rw (a, c, h v m refl)
flag_re (short e a) n h f = zero_one cc

skip_re : (r : Answer ℕ) (n : Field ℕ Cursor) → Ok n ≡ taken_of r → Ok n.next ≡ skipped_of (re (λ (v : ℕ). tt) r)
unfolding taken_of skipped_of
skip_re (got v m) n f = cc
skip_re (short e a) n f = zero_one cc

module _ (s : List ℕ) (at : ℕ) where
  pub flag_got : (n : Field ℕ Cursor) → Ok n ≡ taken_of (parse (number 1) (bits_of s) at)
      → Ok (record { value = eqb n.value 1; next = n.next }) ≡ flagged_of (parse bit (bits_of s) at)
  flag_got n f = rw (bit_number (bits_of s) at) (flag_re (parse (number 1) (bits_of s) at) n (exact s 1 at (omega arith)) f)

  pub flag_lacks : (x : Short) → Err x ≡ taken_of (parse (number 1) (bits_of s) at) → Err x ≡ flagged_of (parse bit (bits_of s) at)
  unfolding flagged_of
  flag_lacks x f = rw (bit_number (bits_of s) at, taken_lacks (parse (number 1) (bits_of s) at) x f)

  pub skip_got : (w : ℕ) (n : Field ℕ Cursor) → Ok n ≡ taken_of (parse (number w) (bits_of s) at) → Ok n.next ≡ skipped_of (parse (reserved w) (bits_of s) at)
  skip_got w n f = rw (reserved_number w (bits_of s) at) (skip_re (parse (number w) (bits_of s) at) n f)

  pub skip_lacks : (w : ℕ) (x : Short) → Err x ≡ taken_of (parse (number w) (bits_of s) at) → Err x ≡ skipped_of (parse (reserved w) (bits_of s) at)
  unfolding skipped_of
  skip_lacks w x f = rw (reserved_number w (bits_of s) at, taken_lacks (parse (number w) (bits_of s) at) x f)
