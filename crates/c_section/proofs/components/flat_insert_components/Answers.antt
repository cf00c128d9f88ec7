-- `c_section::components::flat_insert_components` meets its contract.
use Rattle.std.proofs.Common.{Err}
use Prim.Native.Nat.{ℕ}
use mathlib.Core.Path.{◌≡◌, refl, ap, ◌∙◌}
use Rattle.command.specs.Command.{count_in}
use Rattle.command.specs.Insert.{count, insert_of}
use Rattle.command.specs.declared.SpliceCommand.{SpliceCommand}
use Rattle.command.specs.declared.insert.SpliceDetail.{SpliceDetail}
use Rattle.command.specs.declared.insert.SpliceMode.{SpliceMode}
use Rattle.c_section.specs.FlatCommand.{flat_mode, active_insert, insert_head, flat_detail, flat_insertion, no_command, flat_command, flat_insert_components}
use Rattle.c_section.proofs.components.flat_insert_components.Goals as goal

-- the count of the flat form is the command's
mode_counts : (m : SpliceMode) → (flat_mode m).component_count ≡ count m
unfolding flat_mode
mode_counts (SpliceMode.Program t) = refl
mode_counts (SpliceMode.Components n) = refl

insert_counts : (event reserved : ℕ) (d : SpliceDetail) → (flat_detail event reserved d).mode.component_count ≡ count (insert_of d).splice_mode
unfolding insert_head active_insert
insert_counts event reserved SpliceDetail.Cancel = mode_counts (SpliceMode.Components 0)
insert_counts event reserved (SpliceDetail.Insert i) = mode_counts i.splice_mode

counts : (c : SpliceCommand) → (flat_command c).insert.mode.component_count ≡ count_in c
unfolding flat_command no_command flat_insertion insert_head active_insert
counts SpliceCommand.SpliceNull = mode_counts (SpliceMode.Components 0)
counts (SpliceCommand.SpliceInsert x) = insert_counts x.splice_event_id x.reserved x.splice_detail
counts (SpliceCommand.TimeSignal t) = mode_counts (SpliceMode.Components 0)
counts SpliceCommand.BandwidthReservation = mode_counts (SpliceMode.Components 0)
counts (SpliceCommand.PrivateCommand p) = mode_counts (SpliceMode.Components 0)

pub returns-in-Ok : goal.returns-in-Ok
unfolding flat_insert_components
returns-in-Ok c = rw (c.in-Ok.is, c.flat_command-told.ensures, counts c.in-Ok.c, c.flat_components.ensures)

pub returns-in-Err-UnknownType : goal.returns-in-Err-UnknownType
unfolding flat_insert_components
returns-in-Err-UnknownType c = rw (c.number.ensures, c.in-Err-UnknownType.is, rw c.in-Err-UnknownType.is at c.in-Err-UnknownType.field-0-is, c.no_components.ensures)

pub returns-in-Err-Malformed : goal.returns-in-Err-Malformed
unfolding flat_insert_components
returns-in-Err-Malformed c = rw (c.number-in-Err-Malformed.ensures, c.in-Err-Malformed.is, rw c.in-Err-Malformed.is at c.in-Err-Malformed.field-0-is, c.no_components-in-Err-Malformed.ensures)
