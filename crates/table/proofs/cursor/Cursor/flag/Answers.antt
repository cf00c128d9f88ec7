-- `table::cursor::Cursor::flag`: the reading of a number of one bit, as a truth value.
use Rattle.std.proofs.lemmas.Result.{err_from_is_err_and}
use mathlib.Core.Path.{sym, ◌∙◌}
use Rattle.table.specs.Cursor.{place}
use Rattle.table.proofs.Steppings.{flag_got, flag_lacks}
use Rattle.table.proofs.cursor.Cursor.flag.Goals as goal

pub returns : goal.returns
returns c =
    flag_got c.args.s.now (place c.args.self) _ (sym c.in_ok-n.was ∙ c.take.ensures)

pub returns-in_err-n : goal.returns-in_err-n
returns-in_err-n c =
    let p = err_from_is_err_and c.from_residual.result c.from_residual.ensures.1 in
    rw (p.1, p.2) (flag_lacks c.args.s.now (place c.args.self) _ (sym c.in_err-n.was ∙ c.take.ensures))
