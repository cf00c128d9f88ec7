-- `descriptor_writer::parts::store_components`. The loop's invariant: what is stored behind nothing, is the components so far.
use Rattle.std.proofs.Common.{take, refl, take_all, rules}
use Rattle.descriptor_writer.proofs.Storing.{put_none, component_next}
use Rattle.descriptor_writer.proofs.parts.store_components.Goals as goal

pub loop-component-init : goal.loop-component-init
loop-component-init c = (refl, λ t c from s. s)

pub loop-component-preserved : goal.loop-component-preserved
loop-component-preserved c =
    (search rules, λ t d from s. component_next from t d (take c.args.n c.args.components) c.loop-component.component-index _ _ _ _ c.loop-component-test.true (c.loop-component.invariant.1 t d from s) (c.store_component-next.ensures from))

pub returns : goal.returns
returns c =
    λ from. rw (take_all c.loop-component.component-index (take c.args.n c.args.components) c.loop-component-test.false) at (c.loop-component.invariant.1 _ _ from (put_none _ _ _ _ c.put_bits-next.ensures))
