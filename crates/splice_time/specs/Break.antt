-- break_duration(). 01, "Commands".
use Rattle.std.specs.Prelude.{ℕ, ◌/◌, Bool, true, false, eqb, Ok, Err, Some, None, Option, Result}
use Rattle.names.specs.Flags.{return_flag}
use Rattle.names.specs.declared.flags.ReturnMode.{ReturnMode}
use Rattle.table.specs.Bits.{pick}
use Rattle.table.specs.Table.{Table, done, uimsbf, flag, ones, Answer, got, short}
use Rattle.splice_time.specs.declared.break_duration.SpliceDuration.{SpliceDuration}
use Rattle.table.specs.declared.cursor.Field.{Field}
use Rattle.table.specs.declared.cursor.Short.{Short}

-- "Duration if flagged: auto return 1, reserved 6, 33 bits."
abbrev pub lasting : Option SpliceDuration → Bool
lasting None = false
lasting (Some d) = true

abbrev pub auto_return : Option SpliceDuration → Bool
auto_return None = false
auto_return (Some d) = eqb (return_flag d.return_mode) 1

abbrev pub break_ticks : Option SpliceDuration → ℕ
break_ticks None = 0
break_ticks (Some d) = d.duration

unfoldable pub break_duration : Bool → Table (Option SpliceDuration)
break_duration duration_flag =
    pick duration_flag
    (flag auto_return λ auto_return'.
    ones 6 (
    uimsbf 33 break_ticks λ duration.
    done (Some (record { return_mode = pick auto_return' ReturnMode.Automatic ReturnMode.Manual; duration = duration }))))
    (done None)

-- what a reader answers
unfoldable pub break_read : Answer (Option SpliceDuration) → Result (Field (Option SpliceDuration) ℕ) Short
break_read (got d at) = Ok (record { value = d; next = at / 8 })
break_read (short expected actual) = Err (record { expected = expected; actual = actual })
