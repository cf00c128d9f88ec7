-- The flat forms of named numbers, and the time that is handed in.
use Rattle.std.specs.Prelude.{ℕ, ◌^◌, eqb, ltb}
use Rattle.splice_time.specs.declared.SpliceTime.{SpliceTime}
use Rattle.splice_time.specs.declared.SpliceTime.TheVariants.{Unspecified, At}
use Rattle.names.specs.Flags.{Answer, gives, refuses}
use Rattle.names.specs.Numbering.{Entry, named}
use Rattle.table.specs.Bits.{pick}
use Rattle.scte35.specs.declared.numbers.FlatNumber.{FlatNumber}

-- the class (0 named, 1 reserved, 2 private) and the number that a table has of a value
abbrev pub flat_name : {A : Type 0} → (A → Entry) → A → FlatNumber
flat_name entry x = record { refusal = 0; class = (entry x).1; number = (entry x).0 }

-- the number of a value that has a name, or refusal 12
abbrev pub flat_answer : {A : Type 0} → (A → ℕ) → Answer A → FlatNumber
flat_answer number (gives x) = record { refusal = 0; class = named; number = number x }
flat_answer number (refuses refusal values) = record { refusal = refusal; class = 0; number = 0 }

-- a time of kind 3; any other kind is no time, but "a number .. handed in" has to fit its field all the same: as a time it is refused
abbrev pub time_handed : ℕ → ℕ → SpliceTime
time_handed kind ticks = pick (eqb kind 3) (At ticks) (pick (ltb ticks (2 ^ 33)) Unspecified (At ticks))
