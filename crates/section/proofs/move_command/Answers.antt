-- `section::move_command`, by the kind of the command.
use Prim.Native.Nat.{◌≤◌}
use native.Mathlib.Omega.{arith}
use Rattle.section.specs.Section.{moved}
use Rattle.section.specs.Private.{view_start}
use Rattle.section.proofs.move_command.Goals as goal

pub overflow_add-result : goal.overflow_add-result
overflow_add-result c =
    let a = c.args in
    let h : view_start a.c ≤ 4 = c.requires.0 in
    let z = rw c.in-PrivateCommand.is at h in
    omega arith

pub returns-in-SpliceNull : goal.returns-in-SpliceNull
unfolding moved
returns-in-SpliceNull c = rw c.in-SpliceNull.is

pub returns-in-SpliceInsert : goal.returns-in-SpliceInsert
unfolding moved
returns-in-SpliceInsert c = rw c.in-SpliceInsert.is

pub returns-in-TimeSignal : goal.returns-in-TimeSignal
unfolding moved
returns-in-TimeSignal c = rw c.in-TimeSignal.is

pub returns-in-BandwidthReservation : goal.returns-in-BandwidthReservation
unfolding moved
returns-in-BandwidthReservation c = rw c.in-BandwidthReservation.is

pub returns-in-PrivateCommand : goal.returns-in-PrivateCommand
unfolding moved
returns-in-PrivateCommand c = rw c.in-PrivateCommand.is
