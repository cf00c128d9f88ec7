-- `descriptor_measure::segment::components_fit`. The loop's invariant: what is left says what the whole says.
use Rattle.std.proofs.Common.{take, refl, arith}
use Rattle.descriptor_measure.proofs.Tests.{parts_turn, parts_stop, parts_end}
use Rattle.descriptor_measure.proofs.segment.components_fit.Goals as goal

pub returns-then-component-gt8589934591 : goal.returns-then-component-gt8589934591
returns-then-component-gt8589934591 c =
    let a = c.args in
    parts_stop (take a.n a.components) c.loop-component.component-index c.loop-component.invariant c.loop-component-test.true _ refl (omega arith) c.if-component-gt8589934591.true

pub loop-component-preserved : goal.loop-component-preserved
loop-component-preserved c =
    let a = c.args in
    parts_turn (take a.n a.components) c.loop-component.component-index c.loop-component.invariant c.loop-component-test.true _ refl (omega arith) c.if-component-gt8589934591.false

pub returns : goal.returns
returns c = parts_end (take c.args.n c.args.components) c.loop-component.component-index c.loop-component.invariant c.loop-component-test.false
