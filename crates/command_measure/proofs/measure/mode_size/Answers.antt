-- `command_measure::measure::mode_size`, by the mode.
use mathlib.Core.Path.{◌∙◌}
use native.Mathlib.Omega.{arith}
use Rattle.command_measure.proofs.measure.mode_size.Goals as goal

pub returns-in-Program : goal.returns-in-Program
returns-in-Program c = (c.time_size.ensures.0 ∙ rw (c.in-Program.is, c.is_immediate-at_once.ensures), omega (arith, c.time_size.ensures.1))

pub returns-in-Components : goal.returns-in-Components
returns-in-Components c = (rw c.in-Components.is, omega arith)
