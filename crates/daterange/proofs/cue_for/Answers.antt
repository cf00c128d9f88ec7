-- `daterange::cue_for`, command by command.
use Rattle.daterange.specs.Choice.{cue_for}
use Rattle.daterange.proofs.cue_for.Goals as goal

pub inserted-requires : goal.inserted-requires
inserted-requires c = tt

pub returns-in-SpliceInsert : goal.returns-in-SpliceInsert
unfolding cue_for
returns-in-SpliceInsert c = rw c.in-SpliceInsert.is c.inserted.ensures

pub returns-in-SpliceNull : goal.returns-in-SpliceNull
unfolding cue_for
returns-in-SpliceNull c = rw c.in-SpliceNull.is

pub returns-in-TimeSignal : goal.returns-in-TimeSignal
unfolding cue_for
returns-in-TimeSignal c = rw c.in-TimeSignal.is

pub returns-in-BandwidthReservation : goal.returns-in-BandwidthReservation
unfolding cue_for
returns-in-BandwidthReservation c = rw c.in-BandwidthReservation.is

pub returns-in-PrivateCommand : goal.returns-in-PrivateCommand
unfolding cue_for
returns-in-PrivateCommand c = rw c.in-PrivateCommand.is
