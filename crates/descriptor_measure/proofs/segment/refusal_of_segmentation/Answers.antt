-- `descriptor_measure::segment::refusal_of_segmentation`: the components' numbers between 31 and the others.
use native.Mathlib.Omega.{arith}
use lib.ListN.{length}
use mathlib.Core.Path.{◌≡◌}
use borrow.Author.Rules.{rules}
use Rattle.descriptor_measure.proofs.Refusals.{cancel_fits, active_fits_lem, active_so, mode_over, view_out}
use Rattle.descriptor_measure.proofs.segment.refusal_of_segmentation.Goals as goal

pub returns-in-Cancel : goal.returns-in-Cancel
returns-in-Cancel c =
    c.refusal_without_components.ensures.others c.args.components ((let it : length c.args.components ≡ 255 = search rules in it)) (cancel_fits c.args.x c.args.components c.in-Cancel.is)

pub returns-then-not-lies_in : goal.returns-then-not-lies_in
returns-then-not-lies_in c =
    let a = c.args in
    active_so a.x _ a.identifier a.components a.eidr a.lent.now 31 c.in-Active.is (view_out a.x.segmentation_event_id _ a.identifier a.components a.eidr a.lent.now _ c.lies_in.ensures c.if-not-lies_in.true-raw)

pub returns-then-not-mode_fits : goal.returns-then-not-mode_fits
returns-then-not-mode_fits c =
    let a = c.args in
    active_so a.x _ a.identifier a.components a.eidr a.lent.now 32 c.in-Active.is (mode_over a.x.segmentation_event_id _ a.identifier a.components a.eidr a.lent.now _ c.lies_in.ensures c.if-not-lies_in.false-raw ((let it : length c.args.components ≡ 255 = search rules in it)) ((let it : length c.args.eidr ≡ 12 = search rules in it)) (omega (arith, c)) (omega (arith, c.in-Active.known_told-1-own.given.0.1.1.1.1.1.1)) _ c.mode_fits.ensures c.if-not-mode_fits.true-raw)

pub returns : goal.returns
returns c =
    let a = c.args in
    c.refusal_without_components-2.ensures.others a.components ((let it : length c.args.components ≡ 255 = search rules in it)) (active_fits_lem a.x _ a.components c.in-Active.is _ c.mode_fits.ensures.0 c.if-not-mode_fits.false-raw)
