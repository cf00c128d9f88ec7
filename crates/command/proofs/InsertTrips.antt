-- An insert's laws as a structure: what is written of it is read again, and the other way round.
use Prim.Native.Nat.{ℕ, ◌*◌}
use mathlib.Core.Bool.{true}
use mathlib.Core.List.{List, ◌++◌}
use mathlib.Core.Path.{◌≡◌}
use lib.ListN.{length}
use Rattle.table.specs.Bits.{bits_of, AllBytes}
use Rattle.table.specs.Table.{got, parse, canonical}
use Rattle.table.specs.Writing.{Same, made, make}
use Rattle.table.proofs.Structure as laws
use Rattle.command.specs.Writable.{writable_insert}
use Rattle.command.specs.Insert.{WithComponents, insert}
use Rattle.command.specs.declared.insert.SpliceInsert.{SpliceInsert}
use Rattle.command.proofs.InsertLeads.{insert_bytes, Counted, insert_ends}
use Rattle.command.proofs.InsertTells.{insert_tells}

abbrev structure : laws.Structure insert
structure = record {
  writable = writable_insert;
  size = insert_bytes;
  moved = λ x. x;
  Shape = Counted;
  After = λ m. Unit {0};
  none = tt;
  tells = insert_tells;
  ends = λ x m h f u. insert_ends x m h f;
}

-- what is written of an insert reads as that insert, whatever follows, and is canonical
pub insert_write_read : (lent : List ℕ) (x : WithComponents SpliceInsert) (b r : List ℕ) → Counted x → make insert (writable_insert x) lent x ≡ made b
    → (parse insert (bits_of (b ++ r)) 0 ≡ got x (length b * 8)) × (canonical insert (bits_of (b ++ r)) 0 ≡ true)
insert_write_read lent x b r h e = laws.write_read insert structure lent x b r h e tt

-- and that reading is equal to what was handed in
pub insert_write_same : (lent : List ℕ) (x : WithComponents SpliceInsert) (b : List ℕ) → AllBytes lent → Counted x → make insert (writable_insert x) lent x ≡ made b → Same insert b x lent x
insert_write_same lent x b a h e = laws.write_same insert structure lent x b a h e

-- canonical bytes are what is written of their reading
pub insert_read_write : (s : List ℕ) (x : WithComponents SpliceInsert) → AllBytes s → parse insert (bits_of s) 0 ≡ got x (length s * 8) → canonical insert (bits_of s) 0 ≡ true
    → make insert (writable_insert x) s x ≡ made s
insert_read_write s x a e c = laws.read_write_all insert structure s x a e c

-- canonical bytes of equal readings are equal
pub insert_one : (s r : List ℕ) (x y : WithComponents SpliceInsert) → AllBytes s → AllBytes r → parse insert (bits_of s) 0 ≡ got x (length s * 8) → parse insert (bits_of r) 0 ≡ got y (length r * 8)
    → canonical insert (bits_of s) 0 ≡ true → canonical insert (bits_of r) 0 ≡ true → Same insert s x r y → s ≡ r
insert_one s r x y a b p q c d h = laws.write_one insert structure s r x y a b p q c d h
