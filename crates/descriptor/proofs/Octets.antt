-- Numbers of whole bytes; and those that a byte holds: what a step on one says of the table from there on. s are the bytes, `at` the bit where the cursor stands.
use Prim.Native.Nat.{ℕ, ◌+◌, ◌*◌, ◌^◌, ◌<◌, ◌≤◌}
use mathlib.Core.List.{List}
use mathlib.Core.Path.{◌≡◌, refl, ap, sym, ◌∙◌}
use native.Mathlib.Omega.{arith}
use lib.ListN.{length, get_or}
use lib.Pow.{pow_mono}
use Rattle.table.specs.Bits.{bits_of, field}
use Rattle.table.specs.Cursor.{place, cursor_at, taken_of}
use Rattle.table.specs.Table.{Table, done, number, uimsbf, Answer, got, short, parse}
use Rattle.table.specs.declared.cursor.Cursor.{Cursor}
use Rattle.table.specs.declared.cursor.Field.{Field}
use Rattle.table.specs.declared.cursor.Short.{Short}
use Rattle.table.proofs.Fields.{byte_field, field_byte}
use Rattle.table.proofs.Laws.{field_there}
use Rattle.table.proofs.Lists.{zero_one}
use Rattle.table.proofs.Reading.{field_lt}
use Rattle.table.proofs.Steppings.{place_of, settled_at, Settled, taken_got, taken_lacks}
use Rattle.table.proofs.Steps.{takes_in, lacks_in}
use Rattle.descriptor.specs.Private.{octet_of}
use Rattle.std.proofs.Common.{Ok, Err}

-- the first bit
pub place_start : place (record { byte = 0; bit = 0 }) ≡ 0
unfolding place
place_start = refl

-- ---- numbers of whole bytes
module _ (s : List ℕ) (bytes : (i : ℕ) → get_or s i 0 < 256) (i : ℕ) where
  four_bytes : i + 4 ≤ length s → field (bits_of s) (i * 8) 32 ≡ ((get_or s i 0 * 256 + get_or s (i + 1) 0) * 256 + get_or s (i + 2) 0) * 256 + get_or s (i + 3) 0
  four_bytes h =
      field_byte s (i + 3) (omega arith) (bytes (i + 3)) (i * 8) 24 (omega arith)
      ∙ ap (λ (x : ℕ). x * 256 + get_or s (i + 3) 0)
      (field_byte s (i + 2) (omega arith) (bytes (i + 2)) (i * 8) 16 (omega arith)
      ∙ ap (λ (x : ℕ). x * 256 + get_or s (i + 2) 0)
      (field_byte s (i + 1) (omega arith) (bytes (i + 1)) (i * 8) 8 (omega arith)
      ∙ ap (λ (x : ℕ). x * 256 + get_or s (i + 1) 0) (byte_field s i (omega arith) (bytes i))))

  pub is_four : (a b c d : ℕ) → a ≡ get_or s i 0 → b ≡ get_or s (i + 1) 0 → c ≡ get_or s (i + 2) 0 → d ≡ get_or s (i + 3) 0 → i + 4 ≤ length s
      → (((a * 256 + b) * 256 + c) * 256 + d ≡ field (bits_of s) (i * 8) 32) × (((a * 256 + b) * 256 + c) * 256 + d < 2 ^ 32)
  is_four a b c d ea eb ec ed h =
      (rw (ea, eb, ec, ed) (sym (four_bytes h)), omega (arith, ea, eb, ec, ed, bytes i, bytes (i + 1), bytes (i + 2), bytes (i + 3)))

  pub is_five : (a b : ℕ) → a ≡ field (bits_of s) (i * 8) 32 → b ≡ get_or s (i + 4) 0 → i + 5 ≤ length s → a * 256 + b ≡ field (bits_of s) (i * 8) 40
  is_five a b ea eb h = rw (ea, eb) (sym (field_byte s (i + 4) (omega arith) (bytes (i + 4)) (i * 8) 32 (omega arith)))

-- a reading that ends where a cursor stands
pub placed : {X : Type 0} {x y : X} {c : Cursor} {m : ℕ} → y ≡ x → c ≡ cursor_at m → (got x m ≡ got y (place c)) × Settled c
placed {m = m} e f = (rw (e, f, place_of m), rw f (settled_at m))

-- a number is below 2 ^ w
below : (s : List ℕ) (at w v m : ℕ) → parse (number w) (bits_of s) at ≡ got v m → v < 2 ^ w
unfolding number
below s at w v m e =
    let i = field_there w (λ (v : ℕ). v) done (bits_of s) at v m e in
    let z : field (bits_of s) at w ≡ v = cc in
    rw (← z) (field_lt s at w)

pub taken_below : (s : List ℕ) (at w : ℕ) (n : Field ℕ Cursor) → w ≤ 64 → Ok n ≡ taken_of (parse (number w) (bits_of s) at) → n.value < 2 ^ w
taken_below s at w n h e = below s at w n.value _ (taken_got s w at n h e).0

-- so eight bits hold one of at most eight
pub fits_octet : (s : List ℕ) (at w : ℕ) (n : Field ℕ Cursor) → w ≤ 8 → Ok n ≡ taken_of (parse (number w) (bits_of s) at) → n.value < 256
fits_octet s at w n h e =
    let m : 2 ^ w ≤ 2 ^ 8 = pow_mono h in
    omega (arith, taken_below s at w n (omega arith) e)

-- ---- the answer of `take_octet`
pub octet_is : (s : List ℕ) (at w : ℕ) (n : Field ℕ Cursor) → w ≤ 8 → Ok n ≡ taken_of (parse (number w) (bits_of s) at)
    → Ok (record { value = n.value; next = n.next }) ≡ octet_of (parse (number w) (bits_of s) at)
unfolding octet_of
octet_is s at w n h e = let i = taken_got s w at n (omega arith) e in rw (i.0, i.1)

pub octet_none : (r : Answer ℕ) (x : Short) → Err x ≡ taken_of r → Err x ≡ octet_of r
unfolding octet_of
octet_none r x e = rw (taken_lacks r x e)

-- ---- what it says
pub octet_got : (r : Answer ℕ) (y : Field ℕ Cursor) → Ok y ≡ octet_of r → (r ≡ got y.value (place y.next)) × Settled y.next
unfolding octet_of
octet_got (got v m) y e =
    let x : y.value ≡ v = cc in
    let c : y.next ≡ cursor_at m = cc in
    placed x c
octet_got (short x a) y e = zero_one cc

pub octet_lacks : (r : Answer ℕ) (x : Short) → Err x ≡ octet_of r → r ≡ short x.expected x.actual
unfolding octet_of
octet_lacks (got v m) x e = zero_one cc
octet_lacks (short y a) x e = cc

module _ {X : Type 0} (s : List ℕ) (at : ℕ) (w : ℕ) (p : X → ℕ) (k : ℕ → Table X) where
  pub goes_octet : (n : Field ℕ Cursor) → Ok n ≡ octet_of (parse (number w) (bits_of s) at) → parse (uimsbf w p k) (bits_of s) at ≡ parse (k n.value) (bits_of s) (place n.next)
  goes_octet n e = takes_in (number w) p k (bits_of s) at n.value (place n.next) (octet_got _ n e).0

  pub stops_octet : (x : Short) → Err x ≡ octet_of (parse (number w) (bits_of s) at) → parse (uimsbf w p k) (bits_of s) at ≡ short x.expected x.actual
  stops_octet x e = lacks_in (number w) p k (bits_of s) at x.expected x.actual (octet_lacks _ x e)
