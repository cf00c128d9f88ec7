-- `descriptor_canonical::is_canonical_payload`, by identifier and tag.
use mathlib.Core.Path.{sym, ◌∙◌}
use Rattle.descriptor_canonical.proofs.Tests.{is_foreign, is_avail, is_dtmf, is_segmentation, is_time, is_other}
use Rattle.descriptor_canonical.proofs.is_canonical_payload.Goals as goal

pub returns-in-0 : goal.returns-in-0
returns-in-0 c =
    let a = c.args in
    is_avail a.tag a.identifier a.payload.now (sym c.is_cuei.ensures ∙ c.if-is_cuei.true) c.in-0.is

pub returns-in-1 : goal.returns-in-1
returns-in-1 c =
    let a = c.args in
    c.is_canonical_dtmf.ensures ∙ is_dtmf a.tag a.identifier a.payload.now (sym c.is_cuei.ensures ∙ c.if-is_cuei.true) c.in-1.is

pub returns-in-2 : goal.returns-in-2
returns-in-2 c =
    let a = c.args in
    c.is_canonical_segmentation.ensures ∙ is_segmentation a.tag a.identifier a.payload.now (sym c.is_cuei.ensures ∙ c.if-is_cuei.true) c.in-2.is

pub returns-in-3 : goal.returns-in-3
returns-in-3 c =
    let a = c.args in
    is_time a.tag a.identifier a.payload.now (sym c.is_cuei.ensures ∙ c.if-is_cuei.true) c.in-3.is

pub returns-in_default : goal.returns-in_default
returns-in_default c =
    let a = c.args in
    is_other a.tag a.identifier a.payload.now (sym c.is_cuei.ensures ∙ c.if-is_cuei.true) c.in_default.in_default-own.rest.0.0.0.1 c.in_default.in_default-own.rest.0.0.1 c.in_default.in_default-own.rest.0.1 c.in_default.in_default-own.rest.1

pub returns : goal.returns
returns c =
    let a = c.args in
    is_foreign a.tag a.identifier a.payload.now (sym c.is_cuei.ensures ∙ c.if-is_cuei.false)
