-- `command_measure::measure::blanks_of`, by the mode.
use Prim.Native.Nat.{◌≤◌}
use native.Mathlib.Omega.{arith}
use Rattle.command_measure.specs.Survey.{blanks_of}
use Rattle.command_measure.proofs.measure.blanks_of.Goals as goal

pub returns-in-Program : goal.returns-in-Program
unfolding blanks_of
returns-in-Program c = (rw c.in-Program.is, rw c.in-Program.is (omega arith))

pub returns-in-Components : goal.returns-in-Components
unfolding blanks_of
returns-in-Components c =
    let most : c.in-Components.n ≤ 255 = omega arith in
    (rw c.in-Components.is, rw c.in-Components.is most)
