-- `section_writer::type_of`, command by command.
use Rattle.section_writer.proofs.type_of.Goals as goal

pub returns-in-SpliceNull : goal.returns-in-SpliceNull
returns-in-SpliceNull c = rw c.in-SpliceNull.is

pub returns-in-SpliceInsert : goal.returns-in-SpliceInsert
returns-in-SpliceInsert c = rw c.in-SpliceInsert.is

pub returns-in-TimeSignal : goal.returns-in-TimeSignal
returns-in-TimeSignal c = rw c.in-TimeSignal.is

pub returns-in-BandwidthReservation : goal.returns-in-BandwidthReservation
returns-in-BandwidthReservation c = rw c.in-BandwidthReservation.is

pub returns-in-PrivateCommand : goal.returns-in-PrivateCommand
returns-in-PrivateCommand c = rw c.in-PrivateCommand.is
