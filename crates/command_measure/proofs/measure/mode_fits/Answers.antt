-- `command_measure::measure::mode_fits`, by the mode.
use mathlib.Core.Path.{◌∙◌}
use Rattle.command_measure.proofs.measure.mode_fits.Goals as goal

pub returns-in-Program : goal.returns-in-Program
returns-in-Program c = c.time_fits.ensures ∙ rw c.in-Program.is

pub returns-in-Components : goal.returns-in-Components
returns-in-Components c = rw c.in-Components.is
