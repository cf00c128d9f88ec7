-- For readers that walk with a cursor: what a step's answer says of the table from there on. s are the bytes, `at` the bit where the cursor stands.
--     goes-..      the field is there: the reading is that of the rest of the table, from where the next cursor stands
--     stops-..     it is not: refusal 21
use Prim.Native.Nat.{ℕ, ◌≤◌}
use mathlib.Core.Bool.{Bool}
use mathlib.Core.List.{List}
use mathlib.Core.Path.{◌≡◌}
use Rattle.table.specs.Bits.{bits_of}
use Rattle.table.specs.Cursor.{place, taken_of, flagged_of, skipped_of, passed_of}
use Rattle.table.specs.Table.{Table, inside, number, bit, reserved, part, uimsbf, flag, ones, short, parse}
use Rattle.table.specs.declared.View.{View}
use Rattle.table.specs.declared.cursor.Cursor.{Cursor}
use Rattle.table.specs.declared.cursor.Field.{Field}
use Rattle.table.specs.declared.cursor.Short.{Short}
use Rattle.table.proofs.Steppings.{taken_got, taken_lacks, flagged_got, flagged_lacks, skipped_got, skipped_lacks, passed_got, passed_lacks}
use Rattle.table.proofs.Steps.{takes_in, lacks_in}
use Rattle.std.proofs.Common.{Ok, Err}

module _ {X : Type 0} (s : List ℕ) (at : ℕ) where
  pub goes_number : (w : ℕ) (p : X → ℕ) (k : ℕ → Table X) (n : Field ℕ Cursor) → w ≤ 64 → Ok n ≡ taken_of (parse (number w) (bits_of s) at)
      → parse (uimsbf w p k) (bits_of s) at ≡ parse (k n.value) (bits_of s) (place n.next)
  goes_number w p k n h e = takes_in (number w) p k (bits_of s) at n.value (place n.next) (taken_got s w at n h e).0

  pub stops_number : (w : ℕ) (p : X → ℕ) (k : ℕ → Table X) (x : Short) → Err x ≡ taken_of (parse (number w) (bits_of s) at)
      → parse (uimsbf w p k) (bits_of s) at ≡ short x.expected x.actual
  stops_number w p k x e = lacks_in (number w) p k (bits_of s) at x.expected x.actual (taken_lacks (parse (number w) (bits_of s) at) x e)

  pub goes_flag : (p : X → Bool) (k : Bool → Table X) (f : Field Bool Cursor) → Ok f ≡ flagged_of (parse bit (bits_of s) at)
      → parse (flag p k) (bits_of s) at ≡ parse (k f.value) (bits_of s) (place f.next)
  goes_flag p k f e = takes_in bit p k (bits_of s) at f.value (place f.next) (flagged_got (parse bit (bits_of s) at) f e).0

  pub stops_flag : (p : X → Bool) (k : Bool → Table X) (x : Short) → Err x ≡ flagged_of (parse bit (bits_of s) at)
      → parse (flag p k) (bits_of s) at ≡ short x.expected x.actual
  stops_flag p k x e = lacks_in bit p k (bits_of s) at x.expected x.actual (flagged_lacks (parse bit (bits_of s) at) x e)

  pub goes_ones : (w : ℕ) (t : Table X) (c : Cursor) → Ok c ≡ skipped_of (parse (reserved w) (bits_of s) at)
      → parse (ones w t) (bits_of s) at ≡ parse t (bits_of s) (place c)
  goes_ones w t c e = takes_in (reserved w) (λ (x : X). tt) (λ u. t) (bits_of s) at tt (place c) (skipped_got (parse (reserved w) (bits_of s) at) c e).0

  pub stops_ones : (w : ℕ) (t : Table X) (x : Short) → Err x ≡ skipped_of (parse (reserved w) (bits_of s) at)
      → parse (ones w t) (bits_of s) at ≡ short x.expected x.actual
  stops_ones w t x e = lacks_in (reserved w) (λ (x : X). tt) (λ u. t) (bits_of s) at x.expected x.actual (skipped_lacks (parse (reserved w) (bits_of s) at) x e)

  pub goes_part : (n : ℕ) (q : X → View) (k : View → Table X) (r : Field View Cursor) → Ok r ≡ passed_of (parse (part n) (bits_of s) at)
      → parse (inside (part n) q k) (bits_of s) at ≡ parse (k r.value) (bits_of s) (place r.next)
  goes_part n q k r e = takes_in (part n) q k (bits_of s) at r.value (place r.next) (passed_got (parse (part n) (bits_of s) at) r e).0

  pub stops_part : (n : ℕ) (q : X → View) (k : View → Table X) (x : Short) → Err x ≡ passed_of (parse (part n) (bits_of s) at)
      → parse (inside (part n) q k) (bits_of s) at ≡ short x.expected x.actual
  stops_part n q k x e = lacks_in (part n) q k (bits_of s) at x.expected x.actual (passed_lacks (parse (part n) (bits_of s) at) x e)
