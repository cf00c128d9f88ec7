-- `command::insert::read_mode`: a time, or a count and as many components.
use Rattle.std.proofs.lemmas.Result.{err_from_is_err_and}
use mathlib.Core.Path.{sym, ◌∙◌}
use native.Mathlib.Omega.{arith}
use Rattle.command.proofs.Walking.{by_program_lem, no_program_time, no_count, by_components, no_components_lem}
use Rattle.command.proofs.insert.read_mode.Goals as goal

pub returns-then-program : goal.returns-then-program
returns-then-program c =
    let a = c.args in
    rw c.if-program.true (by_program_lem a.payload.now a.at a.immediate _ (sym c.in_ok-timed.was ∙ c.read_time_unless.ensures))

pub returns-in_err-timed : goal.returns-in_err-timed
returns-in_err-timed c =
    let p = err_from_is_err_and c.from_residual.result c.from_residual.ensures.1 in
    let a = c.args in
    rw (p.1, p.2) (rw c.if-program.true (no_program_time a.payload.now a.at a.immediate _ (sym c.in_err-timed.was ∙ c.read_time_unless.ensures)))

pub returns-then-payload-at : goal.returns-then-payload-at
returns-then-payload-at c =
    let a = c.args in
    rw c.if-program.false (no_count a.payload.now a.at a.immediate c.if-payload-at.true)

pub overflow_cast-count : goal.overflow_cast-count
overflow_cast-count c =
    let a = c.args in
    omega (arith, (c.type_inv.payload a.at).fits)

pub returns : goal.returns
returns c =
    let a = c.args in
    rw c.if-program.false (by_components a.payload.now a.at a.immediate c.if-payload-at.false (c.type_inv.payload a.at).fits _ (sym c.in_ok-next.was ∙ c.skim.ensures))

pub returns-in_err-next : goal.returns-in_err-next
returns-in_err-next c =
    let p = err_from_is_err_and c.from_residual-in_err-next.result c.from_residual-in_err-next.ensures.1 in
    let a = c.args in
    rw (p.1, p.2) (rw c.if-program.false (no_components_lem a.payload.now a.at a.immediate c.if-payload-at.false (c.type_inv.payload a.at).fits _ (sym c.in_err-next.was ∙ c.skim.ensures)))
