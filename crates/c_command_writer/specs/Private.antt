-- For the contracts of functions on the way to a writer.
use Rattle.std.specs.Prelude.{ℕ, Ok, Err, Result}
use Rattle.c_command_writer.specs.Words.{lower_of}

-- the lower of the words' refusal and of what a writer answered, where it refused
abbrev pub lower : ℕ → Result ℕ ℕ → ℕ
lower n (Ok k) = n
lower n (Err k) = lower_of n k
