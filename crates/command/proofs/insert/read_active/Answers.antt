-- `command::insert::read_active`: by the byte of the flags, and then its parts as their tables are read.
use Rattle.std.proofs.lemmas.Result.{err_from_is_err_and}
use mathlib.Core.Path.{sym, ◌∙◌}
use Rattle.command.proofs.Walking.{no_flags, no_mode, mode_within, an_active}
use Rattle.command.proofs.insert.read_active.Goals as goal

pub returns-then-payload-at : goal.returns-then-payload-at
returns-then-payload-at c = let a = c.args in no_flags a.payload.now a.at c.if-payload-at.true

pub returns-in_err-moded : goal.returns-in_err-moded
returns-in_err-moded c =
    let p = err_from_is_err_and c.from_residual.result c.from_residual.ensures.1 in
    let a = c.args in
    rw (p.1, p.2) (no_mode a.payload.now a.at c.wide-flags.result c.if-payload-at.false c.wide-flags.ensures.0 c.wide-flags.ensures.1 _ (sym c.in_err-moded.was ∙ c.read_mode.ensures))

pub read_ending-requires : goal.read_ending-requires
read_ending-requires c =
    let a = c.args in
    mode_within a.payload.now a.at c.wide-flags.result c.if-payload-at.false c.wide-flags.ensures.0 c.wide-flags.ensures.1 _ (sym c.in_ok-moded.was ∙ c.read_mode.ensures)

pub returns : goal.returns
returns c =
    let a = c.args in
    an_active a.payload.now a.at c.wide-flags.result c.if-payload-at.false c.wide-flags.ensures.0 c.wide-flags.ensures.1 _ (sym c.in_ok-moded.was ∙ c.read_mode.ensures) _ c.read_ending.ensures
