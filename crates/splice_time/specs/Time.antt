-- splice_time() and the adjusted time. 01, "Commands".
use Rattle.std.specs.Prelude.{ℕ, ◌+◌, ◌%◌, ◌^◌, Bool, true, false, not, ltb, Ok, Err, Some, None, Option, Result}
use Rattle.table.specs.Bits.{pick}
use Rattle.table.specs.Cursor.{cursor_at}
use Rattle.table.specs.Table.{Table, done, uimsbf, flag, ones, Answer, got, short}
use Rattle.splice_time.specs.declared.SpliceTime.{SpliceTime}
use Rattle.splice_time.specs.declared.SpliceTime.TheVariants.{Immediate, Unspecified, At}
use Rattle.table.specs.declared.cursor.Cursor.{Cursor}
use Rattle.table.specs.declared.cursor.Field.{Field}
use Rattle.table.specs.declared.cursor.Short.{Short}
use Rattle.splice_time.specs.declared.TooLarge.{TooLarge}

abbrev pub specified : SpliceTime → Bool
specified Immediate = false
specified Unspecified = false
specified (At t) = true

abbrev pub ticks : SpliceTime → ℕ
ticks Immediate = 0
ticks Unspecified = 0
ticks (At t) = t

-- "splice_time. That is flag 1; if set, reserved 6, time 33; else reserved 7."
unfoldable pub splice_time : Table SpliceTime
splice_time =
    flag specified λ time_specified.
    pick time_specified
    (ones 6 (
    uimsbf 33 ticks λ pts_time.
    done (At pts_time)))
    (ones 7 (
    done Unspecified))

abbrev pub immediate : SpliceTime → Bool
immediate Immediate = true
immediate Unspecified = false
immediate (At t) = false

-- refusal 33: "an immediate time in a time signal"
abbrev pub not_immediate : SpliceTime → Bool
not_immediate t = not (immediate t)

-- what a reader answers
unfoldable pub time_read : Answer SpliceTime → Result (Field SpliceTime Cursor) Short
time_read (got t at) = Ok (record { value = t; next = cursor_at at })
time_read (short expected actual) = Err (record { expected = expected; actual = actual })

-- refusal 32 alone
abbrev pub too_large : TooLarge
too_large = record {}

-- 02, Q-2: "the adjusted time is the sum's remainder modulo 8,589,934,592" ("the carry out of the 33-bit addition is ignored").
-- 01: "where a time is specified .. otherwise none". Refusal 32, first: a number that exceeds its field of 33 bits.
unfoldable pub adjusted_of : SpliceTime → ℕ → Result (Option ℕ) TooLarge
adjusted_of t adjustment =
    pick (ltb adjustment (2 ^ 33))
    (pick (ltb (ticks t) (2 ^ 33))
    (pick (specified t) (Ok (Some ((ticks t + adjustment) % 8589934592))) (Ok None))
    (Err too_large))
    (Err too_large)
