-- `descriptor_canonical::segment::components_ones`. The loop's invariant: what is left says what the whole says.
use Rattle.descriptor_canonical.proofs.Tests.{ones_start, ones_turn, ones_stop, ones_end}
use Rattle.descriptor_canonical.proofs.segment.components_ones.Goals as goal

pub loop-i-init : goal.loop-i-init
loop-i-init c = ones_start c.args.s.now c.args.n

pub returns-then-s-i-ne127 : goal.returns-then-s-i-ne127
returns-then-s-i-ne127 c = ones_stop c.args.s.now c.args.n c.loop-i.i c.loop-i.invariant c.loop-i-test.true c.if-s-i-ne127.true

pub loop-i-preserved : goal.loop-i-preserved
loop-i-preserved c = ones_turn c.args.s.now c.args.n c.loop-i.i c.loop-i.invariant c.loop-i-test.true c.if-s-i-ne127.false

pub returns : goal.returns
returns c = ones_end c.args.s.now c.args.n c.loop-i.i c.loop-i.invariant c.loop-i-test.false
