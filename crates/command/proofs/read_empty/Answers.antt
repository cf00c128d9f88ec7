-- `command::read_empty` meets its contract.
use Rattle.command.proofs.Payloads.{is_empty, not_empty}
use Rattle.command.proofs.read_empty.Goals as goal

pub returns-then-payload-eq0 : goal.returns-then-payload-eq0
returns-then-payload-eq0 c = let a = c.args in is_empty a.payload.now a.command c.if-payload-eq0.true

pub returns : goal.returns
returns c = let a = c.args in not_empty a.payload.now a.command c.if-payload-eq0.false
