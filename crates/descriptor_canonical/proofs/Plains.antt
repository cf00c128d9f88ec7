-- The payloads of avail, DTMF, time and reserved descriptors: their canonical form by byte places.
use Prim.Native.Nat.{ℕ, ◌+◌, ◌*◌, ◌-◌, ◌/◌, ◌%◌, ◌<◌}
use mathlib.Core.Bool.{Bool, true, ◌&&◌}
use mathlib.Core.List.{List}
use mathlib.Core.Path.{◌≡◌, refl, ap₂, sym, ◌∙◌}
use native.Mathlib.Omega.{arith}
use lib.Dec.{leb, eqb}
use lib.ListN.{length, get_or}
use borrow.Author.Tests.{leb-true, le-leb, eq-eqb, eqb-true}
use Rattle.table.specs.Bits.{bits_of, field}
use Rattle.table.proofs.Fields.{field_in}
use Rattle.descriptor.specs.Plain.{avail, dtmf, time, private_table}
use Rattle.table.specs.Table.{canonical_by}
use Rattle.descriptor_canonical.proofs.Through.{by_through, through_number, through_ones, through_part, through_remaining, guarded, under, over, drops, leb_bytes, eqb_bytes, ends_there, same_test}

pub avail_by : (s : List ℕ) → canonical_by avail s ≡ eqb (length s) 4
unfolding avail
avail_by s = by_through avail s ∙ through_number s 0 _ 32 _ _ ∙ ends_there 32 32 (length s * 8) (omega arith) ∙ eqb_bytes 32 4 (length s) refl

pub time_by : (s : List ℕ) → canonical_by time s ≡ eqb (length s) 12
unfolding time
time_by s =
    let n : ℕ = length s * 8 in
    by_through time s
    ∙ through_number s 0 _ 48 _ _
    ∙ under (leb 48 n) (through_number s 48 _ 32 _ _ ∙ under (leb 80 n) (through_number s 80 _ 16 _ _ ∙ ends_there 96 96 n (omega arith)) ∙ ends_there 80 96 n (omega arith))
    ∙ ends_there 48 96 n (omega arith)
    ∙ eqb_bytes 96 12 (length s) refl

pub private_by : (s : List ℕ) → canonical_by private_table s ≡ true
unfolding private_table
private_by s =
    let n : ℕ = length s * 8 in
    let m : ℕ = (n - 0) / 8 in
    by_through private_table s
    ∙ through_remaining s 0 _ _ _
    ∙ through_part s 0 _ m _ _
    ∙ ap₂ (λ (a b : Bool). a && b) (le-leb (0 + m * 8) n (omega arith)) (eq-eqb (0 + m * 8) n (omega arith))

module _ (s : List ℕ) (byte : (k : ℕ) → get_or s k 0 < 256) where
  chars : (c : ℕ) → leb (16 + c * 8) (length s * 8) && eqb (16 + c * 8) (length s * 8) ≡ eqb (c + 2) (length s)
  chars c =
      ends_there (16 + c * 8) (16 + c * 8) (length s * 8) (omega arith)
      ∙ eqb_bytes (16 + c * 8) (c + 2) (length s) (omega arith)
      ∙ same_test (eqb (length s) (c + 2)) (eqb (c + 2) (length s))
      (λ e. eq-eqb (c + 2) (length s) (sym (eqb-true (length s) (c + 2) e)))
      (λ e. eq-eqb (length s) (c + 2) (sym (eqb-true (c + 2) (length s) e)))

  pub dtmf_by : canonical_by dtmf s ≡ leb 2 (length s) && (eqb (get_or s 1 0 % 32) 31 && eqb (get_or s 1 0 / 32 + 2) (length s))
  unfolding dtmf
  dtmf_by =
      let n : ℕ = length s * 8 in
      let c : ℕ = field (bits_of s) 8 3 in
      let o : ℕ = field (bits_of s) 11 5 in
      by_through dtmf s
      ∙ through_number s 0 _ 8 _ _
      ∙ under (leb 8 n) (through_number s 8 _ 3 _ _ ∙ under (leb 11 n) (through_ones s 11 _ 5 _ ∙ under (leb 16 n) (under (eqb o 31) (through_part s 16 _ c _ _ ∙ chars c))))
      ∙ drops 8 11 n _ (omega arith) ∙ drops 11 16 n _ (omega arith)
      ∙ over (leb_bytes 16 2 (length s) refl) _
      ∙ guarded (leb 2 (length s)) _ _ (λ e.
      let h : 1 < length s = omega (arith, leb-true 2 (length s) e) in
      let a : o ≡ get_or s 1 0 % 32 = field_in s 1 h (byte 1) 3 5 0 refl ∙ omega arith in
      let b : c ≡ get_or s 1 0 / 32 = field_in s 1 h (byte 1) 0 3 5 refl ∙ omega (arith, byte 1) in
      ap₂ (λ (x y : ℕ). eqb x 31 && eqb (y + 2) (length s)) a b)
