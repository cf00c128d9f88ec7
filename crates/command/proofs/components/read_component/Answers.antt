-- `command::components::read_component`: by whether its tag is there, and then its time.
use Rattle.std.proofs.lemmas.Result.{err_from_is_err_and}
use mathlib.Core.Path.{sym, ◌∙◌}
use Rattle.command.proofs.Walking.{no_tag, no_splice_time, a_component}
use Rattle.command.proofs.components.read_component.Goals as goal

pub returns-then-s-at : goal.returns-then-s-at
returns-then-s-at c = let a = c.args in no_tag a.s.now a.at a.immediate c.if-s-at.true

pub returns : goal.returns
returns c =
    let a = c.args in
    a_component a.s.now a.at a.immediate c.if-s-at.false (c.type_inv.s a.at).fits _ (sym c.in_ok-timed.was ∙ c.read_time_unless.ensures)

pub returns-in_err-timed : goal.returns-in_err-timed
returns-in_err-timed c =
    let p = err_from_is_err_and c.from_residual.result c.from_residual.ensures.1 in
    let a = c.args in
    rw (p.1, p.2) (no_splice_time a.s.now a.at a.immediate c.if-s-at.false (c.type_inv.s a.at).fits _ (sym c.in_err-timed.was ∙ c.read_time_unless.ensures))
