-- `descriptor_measure::segment::refusal_with_no_components`.
use Rattle.descriptor_measure.proofs.segment.refusal_with_no_components.Goals as goal

pub returns : goal.returns
returns c = c.refusal_without_components.ensures.no_components_lem
