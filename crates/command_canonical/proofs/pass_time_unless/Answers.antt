-- `command_canonical::pass_time_unless` meets its contract.
use Rattle.command_canonical.proofs.Inserts.{at_once, at_a_time}
use Rattle.command_canonical.proofs.pass_time_unless.Goals as goal

pub returns-then-immediate : goal.returns-then-immediate
returns-then-immediate c = let a = c.args in at_once a.s.now a.at a.immediate c.if-immediate.true

pub returns : goal.returns
returns c = let a = c.args in at_a_time a.s.now a.at a.immediate c.pass_time.result c.if-immediate.false c.pass_time.ensures
