-- `command_measure::measure_without_components`, by the command.
use mathlib.Core.List.{[]}
use mathlib.Core.Path.{◌∙◌}
use native.Mathlib.Omega.{arith}
use Rattle.command.specs.Command.{array}
use Rattle.command_measure.proofs.Making.{countable, command_null, command_bandwidth, command_insert, command_time, command_private}
use Rattle.command_measure.proofs.measure_without_components.Goals as goal

pub returns-in-SpliceNull : goal.returns-in-SpliceNull
returns-in-SpliceNull c = let a = c.args in (command_null a.command (array []) a.lent.now c.in-SpliceNull.is, countable a.command _ c.in-SpliceNull.is (omega arith))

pub returns-in-SpliceInsert : goal.returns-in-SpliceInsert
returns-in-SpliceInsert c = let a = c.args in (c.measure_insert_without_components.ensures.0 ∙ command_insert a.command (array []) a.lent.now _ c.in-SpliceInsert.is, countable a.command _ c.in-SpliceInsert.is c.measure_insert_without_components.ensures.1)

pub returns-in-TimeSignal : goal.returns-in-TimeSignal
returns-in-TimeSignal c = let a = c.args in (c.measure_time.ensures ∙ command_time a.command (array []) a.lent.now _ c.in-TimeSignal.is, countable a.command _ c.in-TimeSignal.is (omega arith))

pub returns-in-BandwidthReservation : goal.returns-in-BandwidthReservation
returns-in-BandwidthReservation c = let a = c.args in (command_bandwidth a.command (array []) a.lent.now c.in-BandwidthReservation.is, countable a.command _ c.in-BandwidthReservation.is (omega arith))

pub returns-in-PrivateCommand : goal.returns-in-PrivateCommand
returns-in-PrivateCommand c = let a = c.args in (c.measure_private.ensures ∙ command_private a.command (array []) a.lent.now _ c.in-PrivateCommand.is, countable a.command _ c.in-PrivateCommand.is (omega arith))
