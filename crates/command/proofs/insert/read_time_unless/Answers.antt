-- `command::insert::read_time_unless` meets its contract.
use Rattle.command.proofs.Walking.{at_once, at_a_time}
use Rattle.command.proofs.insert.read_time_unless.Goals as goal

pub returns-then-immediate : goal.returns-then-immediate
returns-then-immediate c = let a = c.args in rw c.if-immediate.true (at_once a.payload.now a.at)

pub returns : goal.returns
returns c =
    let a = c.args in rw c.if-immediate.false (at_a_time a.payload.now a.at _ c.read_aligned_time.ensures)
