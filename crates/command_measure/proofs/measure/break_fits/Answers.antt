-- `command_measure::measure::break_fits`, by whether there is a duration.
use Rattle.command_measure.proofs.measure.break_fits.Goals as goal

pub returns-in-None : goal.returns-in-None
returns-in-None c = rw c.in-None.is

pub returns-in-Some : goal.returns-in-Some
returns-in-Some c = rw c.in-Some.is
