-- A private command's laws as a structure.
use Prim.Native.Nat.{ℕ, ◌+◌, ◌*◌, ◌%◌}
use mathlib.Core.Bool.{true}
use mathlib.Core.List.{List, ◌++◌}
use mathlib.Core.Path.{◌≡◌, refl}
use native.Mathlib.Omega.{arith}
use lib.ListN.{length}
use Rattle.table.specs.Bits.{bits_of, AllBytes}
use Rattle.table.specs.Table.{got, parse, canonical}
use Rattle.table.specs.Writing.{Same, made, make}
use Rattle.table.proofs.Laws.{Tells}
use Rattle.table.proofs.Leading.{Leads, leads_done, leads_number, leads_remaining, leads_part}
use Rattle.table.proofs.Structure as laws
use Rattle.table.proofs.Telling.{tells_number, tells_remaining, tells_part}
use Rattle.command.specs.Command.{private}
use Rattle.command.specs.declared.Private.{Private}

-- every field's bytes are whole
tells : Tells private 0 (λ a y. (a % 8 ≡ 0) × (true ≡ true))
unfolding private
tells =
    tells_number 32 _ _ 0 _ λ identifier h.
    tells_remaining _ _ 32 _ λ n.
    tells_part n _ _ 32 _ refl ((((omega arith, refl), refl), refl), refl)

-- its bytes stand after the identifier once it is written
abbrev pub moved : Private → Private
moved x = record { identifier = x.identifier; private_bytes = record { at = 4; len = x.private_bytes.len } }

ends : (x : Private) (m : ℕ) → m ≡ 0 → Leads private x (moved x) 0 ((4 + x.private_bytes.len) * 8) m
unfolding private
ends x m e =
    leads_number 32 _ _ _ _ 0 _ m
    (leads_remaining _ _ _ _ 32 _ m (omega arith)
    (leads_part x.private_bytes.len _ _ _ _ 32 _ m
    (leads_done x _ _ _ _ m refl (omega arith))))

abbrev structure : laws.Structure private
structure = record {
  writable = λ x. true;
  size = λ x. 4 + x.private_bytes.len;
  moved = moved;
  Shape = λ x. Unit {0};
  After = λ m. m ≡ 0;
  none = refl;
  tells = tells;
  ends = λ x m h f u. ends x m u;
}

-- what is written of a private command reads as that command, its view at its new place, and is canonical
pub private_write_read : (lent : List ℕ) (x : Private) (b r : List ℕ) → make private true lent x ≡ made b → length r ≡ 0
    → (parse private (bits_of (b ++ r)) 0 ≡ got (moved x) (length b * 8)) × (canonical private (bits_of (b ++ r)) 0 ≡ true)
private_write_read lent x b r e n = laws.write_read private structure lent x b r tt e (omega arith)

-- and that reading is equal to what was handed in
pub private_write_same : (lent : List ℕ) (x : Private) (b : List ℕ) → AllBytes lent → make private true lent x ≡ made b → Same private b (moved x) lent x
private_write_same lent x b a e = laws.write_same private structure lent x b a tt e

-- bytes are what is written of their reading
pub private_read_write : (s : List ℕ) (x : Private) → AllBytes s → parse private (bits_of s) 0 ≡ got x (length s * 8) → canonical private (bits_of s) 0 ≡ true → make private true s x ≡ made s
private_read_write s x a e c = laws.read_write_all private structure s x a e c

-- bytes of equal readings are equal
pub private_one : (s r : List ℕ) (x y : Private) → AllBytes s → AllBytes r → parse private (bits_of s) 0 ≡ got x (length s * 8) → parse private (bits_of r) 0 ≡ got y (length r * 8)
    → canonical private (bits_of s) 0 ≡ true → canonical private (bits_of r) 0 ≡ true → Same private s x r y → s ≡ r
private_one s r x y a b p q c d h = laws.write_one private structure s r x y a b p q c d h
