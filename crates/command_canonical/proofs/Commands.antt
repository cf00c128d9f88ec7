-- A command by its type.
use Prim.Native.Nat.{ℕ, ◌+◌, ◌*◌, ◌-◌, ◌/◌, ◌<◌, ◌≤◌}
use mathlib.Core.Bool.{Bool, true, false}
use mathlib.Core.List.{List}
use mathlib.Core.Path.{◌≡◌, refl, ap, sym, ◌∙◌}
use native.Mathlib.Omega.{arith}
use lib.Dec.{leb, eqb}
use lib.ListN.{length}
use borrow.Author.Tests.{leb-true, leb-false, eq-eqb, ne_eqb}
use Rattle.command.specs.Command.{private}
use Rattle.command.specs.Insert.{insert}
use Rattle.command.specs.declared.Private.{Private}
use Rattle.splice_time.specs.Time.{splice_time}
use Rattle.table.specs.Bits.{bits_of, field}
use Rattle.table.specs.Table.{number, part, remaining, got, canonical, canonical_by}
use Rattle.table.proofs.Steps.{takes_number, takes_remaining, takes_part}
use Rattle.canonical_form.specs.Command.{canonical_command}
use Rattle.command_canonical.specs.Private.{Stands, Fails}
use Rattle.command_canonical.proofs.Walks.{lacks_number, by_table, not_by_table}

-- ---- a private command: the identifier, and all that follows it
module _ (s : List ℕ) where
  no_identifier : length s < 4 → Fails private s 0
  unfolding private
  no_identifier h = lacks_number s 0 32 _ _ (omega arith)

  -- it has no reserved bit
  no_reserved : canonical private (bits_of s) 0 ≡ true
  unfolding private number remaining part
  no_reserved = refl

  a_private : 4 ≤ length s → Stands private s 0 (length s * 8)
  unfolding private
  a_private h =
      let n = (length s * 8 - 32) / 8 in
      let z : 32 + n * 8 ≡ length s * 8 = omega arith in
      let x : Private = record { identifier = field (bits_of s) 0 32; private_bytes = record { at = 4; len = n } } in
      record {
        reading = x;
        reads = takes_number s 0 32 (field (bits_of s) 0 32) _ _ (omega arith) refl ∙ takes_remaining s 32 _ _ ∙ takes_part s 32 n _ _ (omega arith) ∙ ap (got x) z;
        form = no_reserved;
      }

  is_private : (b : Bool) → leb 4 (length s) ≡ b → b ≡ canonical_by private s
  is_private true e = sym (eq-eqb (length s) (length s) refl) ∙ by_table private s (length s) (a_private (leb-true 4 (length s) e))
  is_private false e = not_by_table private s (no_identifier (leb-false 4 (length s) e))

-- ---- the answers
module _ (command_type : ℕ) (s : List ℕ) where
  pub of_null : command_type ≡ 0x00 → eqb (length s) 0 ≡ canonical_command command_type s
  unfolding canonical_command
  of_null k = rw k

  pub of_insert_lem : (r : Bool) → command_type ≡ 0x05 → r ≡ canonical_by insert s → r ≡ canonical_command command_type s
  unfolding canonical_command
  of_insert_lem r k e = rw k e

  pub of_signal : (r : Bool) → command_type ≡ 0x06 → r ≡ canonical_by splice_time s → r ≡ canonical_command command_type s
  unfolding canonical_command
  of_signal r k e = rw k e

  pub of_reservation : command_type ≡ 0x07 → eqb (length s) 0 ≡ canonical_command command_type s
  unfolding canonical_command
  of_reservation k = rw k

  pub of_private_lem : command_type ≡ 0xff → leb 4 (length s) ≡ canonical_command command_type s
  unfolding canonical_command
  of_private_lem k = rw k (is_private s (leb 4 (length s)) refl)

  pub of_none : (command_type ≡ 0x00 → ⊥) → (command_type ≡ 0x05 → ⊥) → (command_type ≡ 0x06 → ⊥) → (command_type ≡ 0x07 → ⊥) → (command_type ≡ 0xff → ⊥) → false ≡ canonical_command command_type s
  unfolding canonical_command
  of_none a b c d e = rw (ne_eqb command_type 0x00 a, ne_eqb command_type 0x05 b, ne_eqb command_type 0x06 c, ne_eqb command_type 0x07 d, ne_eqb command_type 0xff e)
