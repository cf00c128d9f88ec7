-- `section::private_bytes_of`, by the kind of the command.
use Rattle.section.proofs.private_bytes_of.Goals as goal

pub returns-in-PrivateCommand : goal.returns-in-PrivateCommand
returns-in-PrivateCommand c = rw c.in-PrivateCommand.is c.view.ensures

pub returns-in-SpliceNull : goal.returns-in-SpliceNull
returns-in-SpliceNull c = rw c.in-SpliceNull.is c.view-in-SpliceNull.ensures

pub returns-in-SpliceInsert : goal.returns-in-SpliceInsert
returns-in-SpliceInsert c = rw c.in-SpliceInsert.is c.view-in-SpliceInsert.ensures

pub returns-in-TimeSignal : goal.returns-in-TimeSignal
returns-in-TimeSignal c = rw c.in-TimeSignal.is c.view-in-TimeSignal.ensures

pub returns-in-BandwidthReservation : goal.returns-in-BandwidthReservation
returns-in-BandwidthReservation c = rw c.in-BandwidthReservation.is c.view-in-BandwidthReservation.ensures
