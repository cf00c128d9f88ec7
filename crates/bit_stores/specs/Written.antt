-- What a writer answers and leaves. 01: "A refused write leaves the target's bytes; an accepted one changes only the bytes of its result,
-- which start at 0, and gives their number."
use Rattle.std.specs.Prelude.{ℕ, List, ◌++◌, leb, length, drop, Ok, Err, Result}
use Rattle.table.specs.Bits.{pick}
use Rattle.table.specs.Writing.{Made, made, refused}
pub use Rattle.table.specs.Writing.{refusal_in}
unfoldable pub use Rattle.table.specs.Writing.{bytes_in}

-- refusal 36: "target shorter than the result"
unfoldable pub answer_of : Made → List ℕ → Result ℕ ℕ
answer_of (made b) target = pick (leb (length b) (length target)) (Ok (length b)) (Err 36)
answer_of (refused n) target = Err n

unfoldable pub later_of : Made → List ℕ → List ℕ
later_of (made b) target = pick (leb (length b) (length target)) (b ++ drop (length b) target) target
later_of (refused n) target = target
