-- 02, Q-12: adjustments in a chain. Times and adjustments are numbers below 8,589,934,592, and sums of them are taken modulo that number (Q-2).
use Rattle.std.specs.Prelude.{ℕ, ◌+◌, ◌-◌, ◌%◌, ◌^◌, ltb, Ok, Err, Result}
use Rattle.table.specs.Bits.{pick}
use Rattle.splice_time.specs.Time.{ticks, too_large}
use Rattle.splice_time.specs.declared.SpliceTime.{SpliceTime}
use Rattle.splice_time.specs.declared.SpliceTime.TheVariants.{Immediate, Unspecified, At}
use Rattle.splice_time.specs.declared.TooLarge.{TooLarge}

-- "An unspecified or immediate time stays so."
abbrev pub moved_by : ℕ → SpliceTime → SpliceTime
moved_by a Immediate = Immediate
moved_by a Unspecified = Unspecified
moved_by a (At t) = At ((t + a) % 8589934592)

-- "Refusals: 32 for a number of 2^33 or more."
unfoldable pub adjust_of : SpliceTime → ℕ → Result SpliceTime TooLarge
adjust_of t a =
    pick (ltb a (2 ^ 33))
    (pick (ltb (ticks t) (2 ^ 33)) (Ok (moved_by a t)) (Err too_large))
    (Err too_large)

-- "adjusting by a and then by b is proved equal to adjusting once by the remainder of a + b"
unfoldable pub chain_of : ℕ → ℕ → Result ℕ TooLarge
chain_of a b =
    pick (ltb a (2 ^ 33))
    (pick (ltb b (2 ^ 33)) (Ok ((a + b) % 8589934592)) (Err too_large))
    (Err too_large)

-- "each adjustment has one that takes it back"
unfoldable pub undo_of : ℕ → Result ℕ TooLarge
undo_of a = pick (ltb a (2 ^ 33)) (Ok ((8589934592 - a) % 8589934592)) (Err too_large)

-- 02's number of what is refused, 0 of what is not
abbrev pub number_of : Result SpliceTime TooLarge → ℕ
number_of (Ok t) = 0
number_of (Err e) = 32

abbrev pub number_in : Result ℕ TooLarge → ℕ
number_in (Ok a) = 0
number_in (Err e) = 32
