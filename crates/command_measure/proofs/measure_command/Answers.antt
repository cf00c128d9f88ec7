-- `command_measure::measure_command`: an insert, or what has no components.
use mathlib.Core.List.{[]}
use mathlib.Core.Path.{ap, ◌∙◌}
use Rattle.command.specs.Command.{array}
use Rattle.command_measure.specs.Made.{measured_of}
use Rattle.command_measure.proofs.Making.{countable, command_insert, made_without_components}
use borrow.Enum.Refused.{opened}
use Rattle.command_measure.proofs.measure_command.Goals as goal

pub returns-in-SpliceInsert : goal.returns-in-SpliceInsert
returns-in-SpliceInsert c =
    let a = c.args in
    let e = c.in-SpliceInsert.is in
    (c.measure_insert.ensures.0 ∙ command_insert a.command a.components a.lent.now _ e, countable a.command _ e c.measure_insert.ensures.1)

pub returns-in_default : goal.returns-in_default
returns-in_default c =
    let a = c.args in
    (c.measure_without_components.ensures.0 ∙ ap measured_of (made_without_components a.command (array []) a.components a.lent.now (opened c.in_default.in_default-own.keys2)), c.measure_without_components.ensures.1)
