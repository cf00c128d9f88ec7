-- What the types say of the numbers of a command.
use Prim.Native.Nat.{◌^◌, ◌<◌}
use Rattle.command.specs.declared.SpliceCommand.{SpliceCommand}
use Rattle.command.specs.declared.insert.SpliceDetail.{SpliceDetail}
use Rattle.command.specs.declared.insert.SpliceMode.{SpliceMode}

abbrev pub TypedMode : SpliceMode → Type 0
TypedMode (SpliceMode.Program t) = Unit {0}
TypedMode (SpliceMode.Components n) = n < 256

abbrev pub TypedDetail : SpliceDetail → Type 0
TypedDetail SpliceDetail.Cancel = Unit {0}
TypedDetail (SpliceDetail.Insert i) = (i.unique_program_id < 65536) × (i.avail_num < 256) × (i.avails_expected < 256) × TypedMode i.splice_mode

abbrev pub Typed : SpliceCommand → Type 0
Typed SpliceCommand.SpliceNull = Unit {0}
Typed (SpliceCommand.SpliceInsert x) = (x.splice_event_id < 2 ^ 32) × (x.reserved < 256) × TypedDetail x.splice_detail
Typed (SpliceCommand.TimeSignal t) = Unit {0}
Typed SpliceCommand.BandwidthReservation = Unit {0}
Typed (SpliceCommand.PrivateCommand p) = p.identifier < 2 ^ 32
