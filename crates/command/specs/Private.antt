-- What the private readers of an insert answer, and `insert_read`, which `read_insert` answers. No other public contract cites this.
use Rattle.std.specs.Prelude.{ℕ, ◌/◌, List, [], ◌≡◌, Ok, Err, Result}
use Rattle.table.specs.Table.{Answer, got, short}
use Rattle.std.proofs.lemmas.List.Edits.{sets}
use Rattle.command.specs.Command.{array, count_in}
use Rattle.command.specs.Insert.{WithComponents}
use Rattle.command.specs.declared.components.InsertComponent.{InsertComponent}
use Rattle.command.specs.declared.insert.InsertDetail.{InsertDetail}
use Rattle.command.specs.declared.insert.SpliceInsert.{SpliceInsert}
use Rattle.command.specs.declared.insert.SpliceMode.{SpliceMode}
use Rattle.command.specs.declared.SpliceCommand.{SpliceCommand}
use Rattle.command.specs.declared.CommandRefusal.{CommandRefusal}
use Rattle.table.specs.declared.cursor.Field.{Field}
use Rattle.table.specs.declared.cursor.Short.{Short}

unfoldable pub component_read : Answer InsertComponent → Result (Field InsertComponent ℕ) Short
component_read (got c at) = Ok (record { value = c; next = at / 8 })
component_read (short expected actual) = Err (record { expected = expected; actual = actual })

unfoldable pub skimmed_of : Answer (List InsertComponent) → Result ℕ Short
skimmed_of (got cs at) = Ok (at / 8)
skimmed_of (short expected actual) = Err (record { expected = expected; actual = actual })

unfoldable pub moded_read : Answer (WithComponents SpliceMode) → Result (Field SpliceMode ℕ) Short
moded_read (got m at) = Ok (record { value = m.value; next = at / 8 })
moded_read (short expected actual) = Err (record { expected = expected; actual = actual })

unfoldable pub active_read : Answer (WithComponents InsertDetail) → Result InsertDetail Short
active_read (got i at) = Ok i.value
active_read (short expected actual) = Err (record { expected = expected; actual = actual })

unfoldable pub insert_read : Answer (WithComponents SpliceInsert) → Result SpliceInsert Short
insert_read (got i at) = Ok i.value
insert_read (short expected actual) = Err (record { expected = expected; actual = actual })

-- the list that was read, none where it was not
abbrev pub list_in : Answer (List InsertComponent) → List InsertComponent
list_in (got cs at) = cs
list_in (short expected actual) = []

-- components stored in an array from place i on; blank all of it where they are not read
unfoldable pub filled : List InsertComponent → ℕ → Answer (List InsertComponent) → List InsertComponent
filled places i (got cs at) = sets places i cs
filled places i (short expected actual) = array []

-- a type whose command is not read at once: neither a null's nor a time signal's
abbrev pub Apart : ℕ → Type 0
Apart command_type = (command_type ≡ 0x00 → ⊥) × (command_type ≡ 0x06 → ⊥)

-- how many components a reading says that there are: none where it has no insert
abbrev pub count_read : Result SpliceCommand CommandRefusal → ℕ
count_read (Ok c) = count_in c
count_read (Err CommandRefusal.UnknownType) = 0
count_read (Err CommandRefusal.Malformed) = 0
