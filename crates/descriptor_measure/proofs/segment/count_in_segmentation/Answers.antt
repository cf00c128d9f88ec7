-- `descriptor_measure::segment::count_in_segmentation`, by its mode.
use Rattle.descriptor_measure.proofs.segment.count_in_segmentation.Goals as goal

pub returns-in-Program : goal.returns-in-Program
returns-in-Program c = rw (c.in-Active.is, c.in-Program.is)

pub returns-in-Component : goal.returns-in-Component
returns-in-Component c = rw (c.in-Active.is, c.in-Component.is)
