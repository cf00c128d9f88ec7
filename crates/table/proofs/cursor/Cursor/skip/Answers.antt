-- `table::cursor::Cursor::skip`: the reading of a number, of which only the place is kept.
use Rattle.std.proofs.lemmas.Result.{err_from_is_err_and}
use mathlib.Core.Path.{sym, ◌∙◌}
use Rattle.table.specs.Cursor.{place}
use Rattle.table.proofs.Steppings.{skip_got, skip_lacks}
use Rattle.table.proofs.cursor.Cursor.skip.Goals as goal

pub returns : goal.returns
returns c =
    let a = c.args in
    skip_got a.s.now (place a.self) a.w _ (sym c.in_ok-n.was ∙ c.take.ensures)

pub returns-in_err-n : goal.returns-in_err-n
returns-in_err-n c =
    let p = err_from_is_err_and c.from_residual.result c.from_residual.ensures.1 in
    let a = c.args in
    rw (p.1, p.2) (skip_lacks a.s.now (place a.self) a.w _ (sym c.in_err-n.was ∙ c.take.ensures))
