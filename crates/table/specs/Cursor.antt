-- What the cursor's steps answer: the reading of one field.
use Rattle.std.specs.Prelude.{ℕ, ◌+◌, ◌*◌, ◌/◌, ◌%◌, ◌^◌, Bool, Ok, Err, Result}
use Rattle.table.specs.Table.{Answer, got, short}
use Rattle.table.specs.declared.View.{View}
use Rattle.table.specs.declared.cursor.Cursor.{Cursor}
use Rattle.table.specs.declared.cursor.Field.{Field}
use Rattle.table.specs.declared.cursor.Short.{Short}

-- the bit at which a cursor stands, and the cursor that stands at a bit
unfoldable pub place : Cursor → ℕ
place c = c.byte * 8 + c.bit

unfoldable pub cursor_at : ℕ → Cursor
cursor_at at = record { byte = at / 8; bit = at % 8 }

-- a number, as far as 64 bits hold it
unfoldable pub taken_of : Answer ℕ → Result (Field ℕ Cursor) Short
taken_of (got v at) = Ok (record { value = v % 2 ^ 64; next = cursor_at at })
taken_of (short expected actual) = Err (record { expected = expected; actual = actual })

unfoldable pub flagged_of : Answer Bool → Result (Field Bool Cursor) Short
flagged_of (got b at) = Ok (record { value = b; next = cursor_at at })
flagged_of (short expected actual) = Err (record { expected = expected; actual = actual })

unfoldable pub skipped_of : Answer (Unit {0}) → Result Cursor Short
skipped_of (got u at) = Ok (cursor_at at)
skipped_of (short expected actual) = Err (record { expected = expected; actual = actual })

unfoldable pub passed_of : Answer View → Result (Field View Cursor) Short
passed_of (got v at) = Ok (record { value = v; next = cursor_at at })
passed_of (short expected actual) = Err (record { expected = expected; actual = actual })
