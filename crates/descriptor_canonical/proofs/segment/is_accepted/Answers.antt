-- `descriptor_canonical::segment::is_accepted`, by the reader's answer.
use mathlib.Core.Path.{ap, sym, ◌∙◌}
use Rattle.descriptor_measure.specs.Writing.{accepts}
use Rattle.descriptor_canonical.proofs.segment.is_accepted.Goals as goal

pub returns-in-Ok : goal.returns-in-Ok
returns-in-Ok c = sym (ap accepts c.in-Ok.is) ∙ ap accepts c.check_upid.ensures

pub returns-in-Err : goal.returns-in-Err
returns-in-Err c = sym (ap accepts c.in-Err.is) ∙ ap accepts c.check_upid.ensures
