-- For the contracts of private functions and the laws of this crate. No public contract cites this.
use Rattle.std.specs.Prelude.{ℕ, ◌+◌, ◌-◌, ◌*◌, ◌/◌, ◌%◌, ◌^◌, ◌≤◌, List, length}
use Rattle.table.specs.Cursor.{place}
use Rattle.table.specs.Table.{Table}
use Rattle.table.specs.Writing.{walk, contents, print}
use Rattle.table.specs.declared.cursor.Cursor.{Cursor}

-- the bits that a table writes of x from bit `at` on, whose views are of the lent bytes
abbrev pub inked : {X : Type 0} → List ℕ → Table X → X → ℕ → List ℕ
inked lent t x at = print (contents lent (walk t x at).fields)

-- a byte with the number x in n of its bits, of which j stand before them
unfoldable pub with_bits : ℕ → ℕ → ℕ → ℕ → ℕ
with_bits b j n x = b / 2 ^ (8 - j) * 2 ^ (8 - j) + (x * 2 ^ (8 - j - n) + b % 2 ^ (8 - j - n))

-- there is room for these bits from cursor c on
abbrev pub Fits : List ℕ → Cursor → List ℕ → Type 0
Fits target c b = place c + length b ≤ length target * 8
