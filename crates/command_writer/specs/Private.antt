-- What is done with a payload that is measured: for the contracts of private functions. No public contract cites this.
use Rattle.std.specs.Prelude.{ℕ, ◌+◌, Bool, ◌&&◌, leb, eqb, Ok, Err, Result}
use Rattle.command_measure.specs.declared.Measured.{Measured}
use Rattle.table.specs.Bits.{pick}

-- there is room for it from byte `at` on
abbrev pub has_room : Measured → ℕ → ℕ → Bool
has_room m at room = eqb m.refusal 0 && leb (at + m.size) room

-- what is answered where the target has `room` bytes
abbrev pub answer_measured : Measured → ℕ → Result ℕ ℕ
answer_measured m room = pick (eqb m.refusal 0) (pick (leb m.size room) (Ok m.size) (Err 36)) (Err m.refusal)
