-- `descriptor_measure::segment::components_fit`. The loop's invariant: what is left says what the whole says.
use Rattle.std.proofs.Common.{◌≡◌, drop}
use Rattle.table.specs.Writing.{within}
use Rattle.descriptor_measure.specs.Private.{components_fields}
use Rattle.descriptor_measure.proofs.segment.components_fit.Given as goal

abbrev pub invariant-loop-component : goal.invariant-loop-component
invariant-loop-component l = within (components_fields (drop l.component-index l.component-items)) ≡ within (components_fields l.component-items)
