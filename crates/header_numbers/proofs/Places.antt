-- The places of a header's numbers: what the reader answers, and what its answers say of the bytes.
use Prim.Native.Nat.{ℕ, ◌+◌, ◌*◌, ◌/◌, ◌%◌, ◌^◌, ◌<◌, ◌≤◌}
use mathlib.Core.Bool.{Bool, true, false}
use mathlib.Core.List.{List}
use mathlib.Core.Path.{◌≡◌, refl, ap, sym, ◌∙◌}
use borrow.Author.Tests.{ltb-true, ltb-false, lt-ltb, le-ltb}
use lib.Dec.{eqb, ltb}
use lib.ListN.{length, get_or}
use lib.Pow.{high, low}
use Rattle.table.specs.Bits.{bits_of, field, pick}
use Rattle.table.proofs.Bits.{length_bits}
use Rattle.table.proofs.Fields.{field_in, field_add}
use Rattle.table.proofs.Lists.{zero_one}
use Rattle.table.proofs.Reading.{field_exact, field_lt}
use Rattle.header_numbers.specs.Numbers.{numbers_in, numbers_read}
use Rattle.header_numbers.specs.declared.HeaderNumbers.{HeaderNumbers}
use Rattle.std.proofs.Common.{Some, None}

-- the six bits after the first of a byte
module _ (s : List ℕ) (i x : ℕ) (there : i < length s) (is : x ≡ get_or s i 0) (byte : x < 256) where
  pub algorithm_of_lem : x / 2 % 64 ≡ field (bits_of s) (i * 8 + 1) 6
  algorithm_of_lem = ap (λ (y : ℕ). y / 2 % 64) is ∙ sym (field_in s i there (rw (← is) byte) 1 6 1 refl)

-- the first m bits of a number of m + k, and the last k
module _ (s : List ℕ) (at m k v : ℕ) (small : m + k ≤ 64) (there : at + m + k ≤ length s * 8) (is : v ≡ field (bits_of s) at (m + k) % 2 ^ 64) where
  parts : v ≡ field (bits_of s) at m * 2 ^ k + field (bits_of s) (at + m) k
  parts = is ∙ field_exact s at (m + k) small ∙ field_add (bits_of s) at m k (rw (length_bits s) there)

  pub high_part : v / 2 ^ k ≡ field (bits_of s) at m
  high_part = ap (λ (x : ℕ). x / 2 ^ k) parts ∙ high (field (bits_of s) at m) k (field_lt s (at + m) k)

  pub low_part : v % 2 ^ k ≡ field (bits_of s) (at + m) k
  low_part = ap (λ (x : ℕ). x % 2 ^ k) parts ∙ low (field (bits_of s) at m) k (field_lt s (at + m) k)

-- ---- what the reader answers
pub too_short : (s : List ℕ) → length s < 11 → None ≡ numbers_read s
unfolding numbers_read
too_short s h = rw (lt-ltb (length s) 11 h)

module _ (s : List ℕ) (v₁ v₂ v₃ v₄ v₅ v₆ v₇ v₈ : ℕ) where
  pub numbers_are : 11 ≤ length s → v₁ ≡ field (bits_of s) 0 8 → v₂ ≡ field (bits_of s) 8 1 → v₃ ≡ field (bits_of s) 9 6 → v₄ ≡ field (bits_of s) 15 33 → v₅ ≡ field (bits_of s) 48 8
      → v₆ ≡ field (bits_of s) 56 12 → v₇ ≡ field (bits_of s) 68 12 → v₈ ≡ field (bits_of s) 80 8
      → Some (record {
        protocol_version = v₁;
        encrypted_packet = eqb v₂ 1;
        encryption_algorithm = v₃;
        pts_adjustment = v₄;
        cw_index = v₅;
        tier = v₆;
        splice_command_length = v₇;
        splice_command_type = v₈;
      }) ≡ numbers_read s
  unfolding numbers_read numbers_in
  numbers_are h e₁ e₂ e₃ e₄ e₅ e₆ e₇ e₈ = rw (le-ltb (length s) 11 h, e₁, e₂, e₃, e₄, e₅, e₆, e₇, e₈)

-- ---- what an answer says
told : (b : Bool) (x n : HeaderNumbers) → Some n ≡ pick b None (Some x) → (b ≡ false) × (n ≡ x)
told true x n e = zero_one cc
told false x n e = (refl, cc)

told_none : (b : Bool) (x : HeaderNumbers) → None ≡ pick b None (Some x) → b ≡ true
told_none true x e = refl
told_none false x e = zero_one cc

pub numbers_told : (s : List ℕ) (n : HeaderNumbers) → Some n ≡ numbers_read s → (11 ≤ length s) × (n ≡ numbers_in s)
unfolding numbers_read
numbers_told s n e = let t = told (ltb (length s) 11) (numbers_in s) n e in (ltb-false (length s) 11 t.0, t.1)

pub none_told : (s : List ℕ) → None ≡ numbers_read s → length s < 11
unfolding numbers_read
none_told s e = ltb-true (length s) 11 (told_none (ltb (length s) 11) (numbers_in s) e)
