-- `command_measure::measure::add_component`: each part of the survey with this component.
use mathlib.Core.Path.{ap, ◌∙◌}
use mathlib.Core.Bool.{Bool, ◌&&◌}
use native.Mathlib.Omega.{arith}
use Rattle.command_measure.proofs.Surveys.{added}
use Rattle.command_measure.proofs.measure.add_component.Goals as goal

pub returns : goal.returns
returns c =
    let e = c.both-fits.ensures ∙ ap (λ (u : Bool). u && c.args.s.fits) c.time_fits-this_fits.ensures in
    let h = c.both-alike.ensures ∙ ap (λ (u : Bool). u && c.args.s.alike) c.agrees-agreeing.ensures in
    (added c.args.at_once c.args.component.splice_time c.args.s _ _ _ e h c.time_size-size.ensures.0, omega arith)
