-- The flat form of a command, and of an insert's components. What belongs to another type is 0.
use Rattle.std.specs.Prelude.{ℕ, List, map, replicate, Ok, Err, Some, None, Option, Result}
use Rattle.command.specs.Command.{number_of, type_of, count_in}
use Rattle.command.specs.Insert.{insert_of}
use Rattle.command.specs.declared.SpliceCommand.{SpliceCommand}
use Rattle.command.specs.declared.SpliceCommand.TheVariants as command
use Rattle.command.specs.declared.components.InsertComponent.{InsertComponent}
use Rattle.command.specs.declared.insert.InsertDetail.{InsertDetail}
use Rattle.command.specs.declared.insert.SpliceInsert.{SpliceInsert}
use Rattle.command.specs.declared.insert.SpliceDetail.{SpliceDetail}
use Rattle.command.specs.declared.insert.SpliceDetail.TheVariants as insert
use Rattle.command.specs.declared.insert.SpliceMode.{SpliceMode}
use Rattle.command.specs.declared.insert.SpliceMode.TheVariants.{Program, Components}
use Rattle.names.specs.Flags.{network_flag, return_flag}
use Rattle.table.specs.Lent.{no_view}
use Rattle.c_section.specs.Flat.{flat_time, no_time, flat_view}
use Rattle.c_section.specs.declared.FlatTime.{FlatTime}
use Rattle.c_section.specs.declared.FlatView.{FlatView}
use Rattle.c_section.specs.declared.commands.FlatBreak.{FlatBreak}
use Rattle.c_section.specs.declared.commands.FlatCommand.{FlatCommand}
use Rattle.c_section.specs.declared.commands.FlatInsert.{FlatInsert}
use Rattle.c_section.specs.declared.commands.FlatMode.{FlatMode}
use Rattle.c_section.specs.declared.components.FlatInsertComponent.{FlatInsertComponent}
use Rattle.c_section.specs.declared.components.FlatInsertComponents.{FlatInsertComponents}
use Rattle.command.specs.declared.CommandRefusal.{CommandRefusal}
use Rattle.splice_time.specs.declared.break_duration.SpliceDuration.{SpliceDuration}

-- ---- an insert: by program, at a time; or by as many components
unfoldable pub flat_mode : SpliceMode → FlatMode
flat_mode (Program t) = record { program_splice_flag = 1; splice_time = flat_time t; component_count = 0 }
flat_mode (Components n) = record { program_splice_flag = 0; splice_time = no_time; component_count = n }

unfoldable pub flat_break : Option SpliceDuration → FlatBreak
flat_break None = record { duration_flag = 0; auto_return = 0; duration = 0 }
flat_break (Some d) = record { duration_flag = 1; auto_return = return_flag d.return_mode; duration = d.duration }

-- with the event's id, whether it is cancelled, and the reserved bits
unfoldable pub active_insert : ℕ → ℕ → ℕ → InsertDetail → FlatInsert
active_insert event cancel reserved i =
    record {
      splice_event_id = event;
      splice_event_cancel_indicator = cancel;
      reserved = reserved;
      out_of_network_indicator = network_flag i.network_indicator;
      mode = flat_mode i.splice_mode;
      break_duration = flat_break i.duration;
      unique_program_id = i.unique_program_id;
      avail_num = i.avail_num;
      avails_expected = i.avails_expected;
    }

-- without what follows the reserved bits
unfoldable pub insert_head : ℕ → ℕ → ℕ → FlatInsert
insert_head event cancel reserved = active_insert event cancel reserved (insert_of insert.Cancel)

abbrev pub flat_detail : ℕ → ℕ → SpliceDetail → FlatInsert
flat_detail event reserved insert.Cancel = insert_head event 1 reserved
flat_detail event reserved (insert.Insert i) = active_insert event 0 reserved i

unfoldable pub flat_insertion : SpliceInsert → FlatInsert
flat_insertion x = flat_detail x.splice_event_id x.reserved x.splice_detail

-- ---- a command
abbrev pub command_with : ℕ → ℕ → FlatInsert → FlatTime → ℕ → FlatView → FlatCommand
command_with refusal command_type insert time identifier bytes =
    record {
      refusal = refusal;
      splice_command_type = command_type;
      insert = insert;
      splice_time = time;
      identifier = identifier;
      private_bytes = bytes;
    }

unfoldable pub no_command : ℕ → ℕ → FlatCommand
no_command refusal command_type = command_with refusal command_type (insert_head 0 0 0) no_time 0 (flat_view no_view)

unfoldable pub flat_command : SpliceCommand → FlatCommand
flat_command command.SpliceNull = no_command 0 (type_of command.SpliceNull)
flat_command (command.SpliceInsert x) = command_with 0 (type_of (command.SpliceInsert x)) (flat_insertion x) no_time 0 (flat_view no_view)
flat_command (command.TimeSignal t) = command_with 0 (type_of (command.TimeSignal t)) (insert_head 0 0 0) (flat_time t) 0 (flat_view no_view)
flat_command command.BandwidthReservation = no_command 0 (type_of command.BandwidthReservation)
flat_command (command.PrivateCommand p) = command_with 0 (type_of (command.PrivateCommand p)) (insert_head 0 0 0) no_time p.identifier (flat_view p.private_bytes)

unfoldable pub flat_command_read : Result SpliceCommand CommandRefusal → FlatCommand
flat_command_read (Ok c) = flat_command c
flat_command_read (Err CommandRefusal.UnknownType) = no_command (number_of (Err CommandRefusal.UnknownType)) 0
flat_command_read (Err CommandRefusal.Malformed) = no_command (number_of (Err CommandRefusal.Malformed)) 0

-- ---- the components of an insert, in their array
unfoldable pub flat_component : InsertComponent → FlatInsertComponent
flat_component c = record { component_tag = c.component_tag; splice_time = flat_time c.splice_time }

unfoldable pub no_components : List FlatInsertComponent
no_components = replicate 255 (record { component_tag = 0; splice_time = no_time })

unfoldable pub flat_insert_components : Result SpliceCommand CommandRefusal → List InsertComponent → FlatInsertComponents
flat_insert_components (Ok c) cs = record { refusal = 0; count = count_in c; components = map flat_component cs }
flat_insert_components (Err CommandRefusal.UnknownType) cs = record { refusal = number_of (Err CommandRefusal.UnknownType); count = 0; components = no_components }
flat_insert_components (Err CommandRefusal.Malformed) cs = record { refusal = number_of (Err CommandRefusal.Malformed); count = 0; components = no_components }
