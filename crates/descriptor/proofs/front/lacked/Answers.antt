-- `descriptor::front::lacked`, by how many bytes are there.
use Rattle.descriptor.proofs.Parts.{lacked_none, lacked_one, lacked_more}
use Rattle.descriptor.proofs.front.lacked.Goals as goal

pub returns-then-left-eq0 : goal.returns-then-left-eq0
returns-then-left-eq0 c = lacked_none _ c.if-left-eq0.true

pub returns-then-left-eq1 : goal.returns-then-left-eq1
returns-then-left-eq1 c = lacked_one _ c.if-left-eq1.true

pub returns : goal.returns
returns c = lacked_more _ c.if-left-eq0.false c.if-left-eq1.false
