-- `relabel_upid::relabel_top`, answer by answer.
use borrow.Author.Tests.{not-true, not-false}
use mathlib.Core.Path.{sym, ap, ◌∙◌}
use Rattle.bit_stores.proofs.Writes.{refused_answer, short_answer, wrote_answer}
use Rattle.relabel_upid.specs.Relabel.{taken, up_to}
use Rattle.relabel_upid.proofs.Turns.{top_none, top_refused, top_long, top_empty, top_unfit, top_made_lem, up_to_over, up_to_fits}
use Rattle.relabel_upid.proofs.relabel_top.Goals as goal

pub returns-then-upid-eq0 : goal.returns-then-upid-eq0
returns-then-upid-eq0 c =
    let a = c.args in
    refused_answer _ a.target.now 41 (ap (up_to a.limit) (top_none a.upid_type a.new_type a.upid.now a.new.now c.if-upid-eq0.true))

pub returns-then-not-is_fine : goal.returns-then-not-is_fine
returns-then-not-is_fine c =
    let a = c.args in
    refused_answer _ a.target.now 41 (ap (up_to a.limit) (top_refused a.upid_type a.new_type a.upid.now a.new.now c.if-upid-eq0.false (sym (c.is_fine.ensures ∙ ap taken c.check_upid.ensures) ∙ not-true _ c.if-not-is_fine.true-raw)))

pub returns-then-new-gt-MAX_UPID : goal.returns-then-new-gt-MAX_UPID
returns-then-new-gt-MAX_UPID c =
    let a = c.args in
    refused_answer _ a.target.now 32 (ap (up_to a.limit) (top_long a.upid_type a.new_type a.upid.now a.new.now c.if-upid-eq0.false (sym (c.is_fine.ensures ∙ ap taken c.check_upid.ensures) ∙ not-false _ c.if-not-is_fine.false-raw) c.if-new-gt-MAX_UPID.true))

pub returns-then-new-eq0 : goal.returns-then-new-eq0
returns-then-new-eq0 c =
    let a = c.args in
    refused_answer _ a.target.now 33 (ap (up_to a.limit) (top_empty a.upid_type a.new_type a.upid.now a.new.now c.if-upid-eq0.false (sym (c.is_fine.ensures ∙ ap taken c.check_upid.ensures) ∙ not-false _ c.if-not-is_fine.false-raw) c.if-new-gt-MAX_UPID.false c.if-new-eq0.true))

pub returns-then-not-is_taken : goal.returns-then-not-is_taken
returns-then-not-is_taken c =
    let a = c.args in
    refused_answer _ a.target.now 33 (ap (up_to a.limit) (top_unfit a.upid_type a.new_type a.upid.now a.new.now c.if-upid-eq0.false (sym (c.is_fine.ensures ∙ ap taken c.check_upid.ensures) ∙ not-false _ c.if-not-is_fine.false-raw) c.if-new-gt-MAX_UPID.false c.if-new-eq0.false (sym c.is_taken.ensures ∙ not-true _ c.if-not-is_taken.true-raw)))

pub returns-then-limit-new : goal.returns-then-limit-new
returns-then-limit-new c =
    let a = c.args in
    refused_answer _ a.target.now 34 (up_to_over a.limit _ a.new.now (top_made_lem a.upid_type a.new_type a.upid.now a.new.now c.if-upid-eq0.false (sym (c.is_fine.ensures ∙ ap taken c.check_upid.ensures) ∙ not-false _ c.if-not-is_fine.false-raw) c.if-new-gt-MAX_UPID.false c.if-new-eq0.false (sym c.is_taken.ensures ∙ not-false _ c.if-not-is_taken.false-raw)) c.if-limit-new.true)

pub returns-then-target-new : goal.returns-then-target-new
returns-then-target-new c =
    let a = c.args in
    short_answer _ a.target.now a.new.now (up_to_fits a.limit _ a.new.now (top_made_lem a.upid_type a.new_type a.upid.now a.new.now c.if-upid-eq0.false (sym (c.is_fine.ensures ∙ ap taken c.check_upid.ensures) ∙ not-false _ c.if-not-is_fine.false-raw) c.if-new-gt-MAX_UPID.false c.if-new-eq0.false (sym c.is_taken.ensures ∙ not-false _ c.if-not-is_taken.false-raw)) c.if-limit-new.false) c.if-target-new.true

pub returns : goal.returns
returns c =
    let a = c.args in
    let w = wrote_answer _ a.target.now a.new.now (up_to_fits a.limit _ a.new.now (top_made_lem a.upid_type a.new_type a.upid.now a.new.now c.if-upid-eq0.false (sym (c.is_fine.ensures ∙ ap taken c.check_upid.ensures) ∙ not-false _ c.if-not-is_fine.false-raw) c.if-new-gt-MAX_UPID.false c.if-new-eq0.false (sym c.is_taken.ensures ∙ not-false _ c.if-not-is_taken.false-raw)) c.if-limit-new.false) c.if-target-new.false in
    (w.0, c.put_bytes.ensures ∙ w.1)
