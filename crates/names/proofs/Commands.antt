-- The table of `SpliceCommandType` is sound, so its numbers and its writable values are one to one.
use Prim.Native.Nat.{◌≤◌}
use mathlib.Core.Logic.{◌⊎◌, inl, inr}
use mathlib.Core.Path.{refl}
use native.Mathlib.Omega.{arith}
use lib.Dec.{lit≤}
use lib.ListN.{length}
use denote.Enum.Declared.{tag_of}
use Rattle.names.specs.declared.command.SpliceCommandType.{SpliceCommandType}
use Rattle.names.specs.declared.command.SpliceCommandType.TheVariants.{
  SpliceNull,
  SpliceSchedule,
  SpliceInsert,
  TimeSignal,
  BandwidthReservation,
  PrivateCommand,
  Reserved,
}
use Rattle.names.specs.Command.{command_number, commands, command_type_of, writable_command}
use Rattle.names.specs.contracts.command.SpliceCommandType.{the_type}
use Rattle.names.proofs.Laws.{Name, Carried, Sound, Inverse, inverse}

split : (x : SpliceCommandType) → Name commands x ⊎ (Carried commands x × (length commands.names ≤ tag_of the_type x))
split SpliceNull = inl (refl, refl)
split SpliceSchedule = inl (refl, refl)
split SpliceInsert = inl (refl, refl)
split TimeSignal = inl (refl, refl)
split BandwidthReservation = inl (refl, refl)
split PrivateCommand = inl (refl, refl)
split (Reserved n) = inr ((λ e. omega arith, λ e. refl), lit≤ tt)

pub sound : Sound commands (tag_of the_type)
sound = record { carries = λ n. refl; listed = refl; split = split }

pub command_laws : Inverse command_number command_type_of writable_command
unfolding command_type_of writable_command
command_laws = inverse commands (tag_of the_type) sound
