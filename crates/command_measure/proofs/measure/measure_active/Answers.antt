-- `command_measure::measure::measure_active`: the tests as the definition has them.
use mathlib.Core.Path.{ap, ap₂, ◌∙◌}
use mir.Syntax.{w8, w16}
use mir.Val.{Fits}
use lib.Dec.{ltb}
use Rattle.command_measure.proofs.Making.{measured_same}
use Prim.Native.Nat.{ℕ, ◌+◌}
use mathlib.Core.Bool.{Bool, ◌&&◌}
use Rattle.command_measure.specs.Survey.{active_measured}
use borrow.Author.Rules.{rules}
use Rattle.command_measure.proofs.measure.measure_active.Goals as goal

pub returns : goal.returns
unfolding active_measured
returns c =
    let a = c.args in
    let t = c.both-times.ensures ∙ ap₂ (λ (u v : Bool). u && v) c.mode_fits.ensures c.break_fits.ensures in
    let n = c.both-numbers.ensures ∙ ap (λ (u : Bool). ltb a.reserved 128 && u) t in
    let f = c.both-fits.ensures ∙ ap (λ (u : Bool). a.s.fits && u) n in
    let z = ap₂ (λ (u v : ℕ). 10 + u + v) c.mode_size-first.ensures.0 c.break_size-second.ensures.0 in
    (c.verdict.ensures ∙ measured_same f c.both-writable.ensures z, ((let it : Fits w16 c.args.insert.unique_program_id = search rules in it)).fits, ((let it : Fits w8 c.args.insert.avail_num = search rules in it)).fits, ((let it : Fits w8 c.args.insert.avails_expected = search rules in it)).fits)
