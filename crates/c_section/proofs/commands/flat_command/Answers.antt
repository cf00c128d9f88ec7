-- `c_section::commands::flat_command` meets its contract.
use mathlib.Core.Path.{ap, sym, ◌∙◌}
use Rattle.c_section.specs.FlatCommand.{flat_command}
use Rattle.c_section.proofs.commands.flat_command.Goals as goal

pub returns-in-SpliceNull : goal.returns-in-SpliceNull
unfolding flat_command
returns-in-SpliceNull c = c.no_command.ensures ∙ ap flat_command (sym c.in-SpliceNull.is)

pub returns-in-SpliceInsert : goal.returns-in-SpliceInsert
unfolding flat_command
returns-in-SpliceInsert c = rw (c.in-SpliceInsert.is, c.flat_insert.ensures)

pub returns-in-TimeSignal : goal.returns-in-TimeSignal
unfolding flat_command
returns-in-TimeSignal c = rw (c.in-TimeSignal.is, c.insert_head.ensures, c.flat_time.ensures)

pub returns-in-BandwidthReservation : goal.returns-in-BandwidthReservation
unfolding flat_command
returns-in-BandwidthReservation c = c.no_command-in-BandwidthReservation.ensures ∙ ap flat_command (sym c.in-BandwidthReservation.is)

pub returns-in-PrivateCommand : goal.returns-in-PrivateCommand
unfolding flat_command
returns-in-PrivateCommand c = rw (c.in-PrivateCommand.is, c.insert_head-in-PrivateCommand.ensures, c.flat_view.ensures)
