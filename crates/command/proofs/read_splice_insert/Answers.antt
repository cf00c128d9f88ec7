-- `command::read_splice_insert` meets its contract.
use mathlib.Core.Path.{sym, ◌∙◌}
use Rattle.command.proofs.Payloads.{insertion, no_insertion}
use Rattle.command.proofs.read_splice_insert.Goals as goal

pub returns-in-Ok : goal.returns-in-Ok
returns-in-Ok c =
    let a = c.args in
    insertion _ _ (sym c.in-Ok.is ∙ c.read_insert.ensures)

pub returns-in-Err : goal.returns-in-Err
returns-in-Err c = no_insertion _ _ (sym c.in-Err.is ∙ c.read_insert.ensures)
