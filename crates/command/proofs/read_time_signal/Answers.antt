-- `command::read_time_signal` meets its contract.
use mathlib.Core.Path.{sym, ◌∙◌}
use Rattle.command.proofs.Payloads.{signal, no_signal}
use Rattle.command.proofs.read_time_signal.Goals as goal

pub returns-in-Ok : goal.returns-in-Ok
returns-in-Ok c =
    let a = c.args in
    signal _ _ (sym c.in-Ok.is ∙ c.read_aligned_time.ensures)

pub returns-in-Err : goal.returns-in-Err
returns-in-Err c = no_signal _ _ (sym c.in-Err.is ∙ c.read_aligned_time.ensures)
