-- splice_command_type, the last byte of the splice header. 000: `SpliceCommandType`.
use Rattle.std.specs.Prelude.{◌≡◌, ℕ, Bool, [], ◌∷◌}
use Rattle.names.specs.declared.command.SpliceCommandType.{SpliceCommandType}
use Rattle.names.specs.declared.command.SpliceCommandType.TheVariants.{
  SpliceNull,
  SpliceSchedule,
  SpliceInsert,
  TimeSignal,
  BandwidthReservation,
  PrivateCommand,
  Reserved,
}
use Rattle.names.specs.Numbering.{Entry, named, reserved, Numbering, value_of, writable}

-- The table: the number and the class of each value, the names in the order of their numbers. 0x04 has a name here, as in 000, though a section with it is refused (01, refusal 10).
abbrev pub command_entry : SpliceCommandType → Entry
command_entry SpliceNull = (0x00, named)
command_entry SpliceSchedule = (0x04, named)
command_entry SpliceInsert = (0x05, named)
command_entry TimeSignal = (0x06, named)
command_entry BandwidthReservation = (0x07, named)
command_entry PrivateCommand = (0xff, named)
command_entry (Reserved n) = (n, reserved)

abbrev pub command_number : SpliceCommandType → ℕ
command_number x = (command_entry x).0

abbrev pub commands : Numbering SpliceCommandType
commands = record {
  entry = command_entry;
  names = SpliceNull ∷ SpliceSchedule ∷ SpliceInsert ∷ TimeSignal ∷ BandwidthReservation ∷ PrivateCommand ∷ [];
  others = Reserved;
}

-- the value that a number stands for
unfoldable pub command_type_of : ℕ → SpliceCommandType
command_type_of n = value_of commands n

pub command_is : (n : ℕ) (x : SpliceCommandType) → x ≡ command_type_of n → x ≡ value_of commands n
unfolding command_type_of
command_is n x e = e

-- whether a value is what its own number stands for
unfoldable pub writable_command : SpliceCommandType → Bool
writable_command x = writable commands x
