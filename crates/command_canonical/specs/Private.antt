-- For the contracts of private functions. No public contract cites this.
use Rattle.std.specs.Prelude.{ℕ, ◌*◌, Bool, true, false, List, ◌≡◌, eqb, Some, None, Option}
use Rattle.table.specs.Bits.{bits_of}
use Rattle.table.specs.Table.{Table, got, parse, canonical}

-- from bit `at` on the table's fields are there, as the canonical form asks, and end before bit m
pub record Stands {X : Type 0} (t : Table X) (s : List ℕ) (at m : ℕ) : Type 0 where
  pub reading : X
  pub reads : parse t (bits_of s) at ≡ got reading m
  pub form : canonical t (bits_of s) at ≡ true

-- they are not: one of them is missing, or it is not what the canonical form asks
pub record Fails {X : Type 0} (t : Table X) (s : List ℕ) (at : ℕ) : Type 0 where
  pub other : (x : X) (m : ℕ) → parse t (bits_of s) at ≡ got x m → canonical t (bits_of s) at ≡ false

-- what a walk from byte `at` on answers
abbrev pub Told : {X : Type 0} → Table X → List ℕ → ℕ → Option ℕ → Type 0
Told t s at (Some end) = Stands t s (at * 8) (end * 8)
Told t s at None = Fails t s (at * 8)

-- are the fields all of n bytes?
abbrev pub exact : Option ℕ → ℕ → Bool
exact (Some end) n = eqb n end
exact None n = false
