-- `command_measure::measure::measure_time`: by what is asked of a time.
use mathlib.Core.Path.{◌∙◌}
use Rattle.command_measure.proofs.Making.{measured_time}
use Rattle.command_measure.proofs.measure.measure_time.Goals as goal

pub returns : goal.returns
returns c =
    let a = c.args in
    c.verdict.ensures ∙ rw (c.time_fits-fits.ensures, c.is_immediate-at_once.ensures, c.time_size-size.ensures.0) (measured_time a.time)
