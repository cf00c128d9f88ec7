-- What a command is written as, or the number of its refusal: 31, 32 or 33. 01, "Refusal numbers", "Canonical form and writer".
use Rattle.std.specs.Prelude.{ℕ, ◌^◌, Bool, true, ◌&&◌, List, [], ◌∷◌, ltb, length, take}
use Rattle.command.specs.Command.{private, count_in}
use Rattle.command.specs.Writable.{writable_insert}
use Rattle.command.specs.Insert.{WithComponents, insert}
use Rattle.command.specs.declared.SpliceCommand.{SpliceCommand}
use Rattle.command.specs.declared.components.InsertComponent.{InsertComponent}
use Rattle.command.specs.declared.insert.SpliceInsert.{SpliceInsert}
use Rattle.splice_time.specs.Time.{splice_time, ticks, not_immediate}
use Rattle.bit_stores.specs.Written.{refusal_in, bytes_in}
use Rattle.table.specs.Bits.{pick}
use Rattle.table.specs.Writing.{Made, made, refused, make}
use Rattle.command_measure.specs.declared.Measured.{Measured}

-- an insert with its components: the first places of the array, as many as the mode says. No other place is looked at
abbrev pub counted : SpliceInsert → List InsertComponent → WithComponents SpliceInsert
counted i places = record { value = i; components = take (count_in (SpliceCommand.SpliceInsert i)) places }

-- refusal 32, "a number .. exceeds its field", of each component's time: the table does not come to one that stands beside an immediate first
abbrev pub times_fit : List InsertComponent → Bool
times_fit [] = true
times_fit (c ∷ cs) = ltb (ticks c.splice_time) (2 ^ 33) && times_fit cs

-- neither an insert nor a time has a view, so the lent bytes are none
unfoldable pub insert_made : WithComponents SpliceInsert → Made
insert_made x = pick (times_fit x.components) (make insert (writable_insert x) [] x) (refused 32)

unfoldable pub command_made : SpliceCommand → List InsertComponent → List ℕ → Made
command_made SpliceCommand.SpliceNull places lent = made []
command_made (SpliceCommand.SpliceInsert i) places lent = insert_made (counted i places)
command_made (SpliceCommand.TimeSignal t) places lent = make splice_time (not_immediate t) [] t
command_made SpliceCommand.BandwidthReservation places lent = made []
command_made (SpliceCommand.PrivateCommand p) places lent = make private true lent p

-- the number of the refusal, 0 for none, and how many bytes there are
unfoldable pub measured_of : Made → Measured
measured_of m = record { refusal = refusal_in m; size = length (bytes_in m) }
