-- `command_writer::insert::store_components`: the components that are behind are stored.
use Rattle.std.proofs.Common.{take}
use Rattle.bit_stores.specs.Pen.{Pens}
use Rattle.command_measure.specs.Fields.{ink, list_fields}
use Rattle.command_writer.proofs.insert.store_components.Given as goal

abbrev pub invariant-loop-component : goal.invariant-loop-component
invariant-loop-component l = Pens l.initial.out l.initial.next (ink (list_fields l.at_once (take l.component-index l.component-items))) l.out l.next
