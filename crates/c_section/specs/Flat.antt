-- The flat forms of readings: structs of 64-bit words. A named number is its number, a flag 0 or 1; 0 stands where there is nothing.
use Rattle.std.specs.Prelude.{ℕ, Ok, Err, Some, None, Option, Result}
use Rattle.table.specs.declared.View.{View}
use Rattle.header.specs.Header.{number_of}
use Rattle.header.specs.declared.header.SpliceInfoHeader.{SpliceInfoHeader}
use Rattle.splice_time.specs.declared.SpliceTime.{SpliceTime}
use Rattle.splice_time.specs.declared.SpliceTime.TheVariants.{Immediate, Unspecified, At}
use Rattle.names.specs.Algorithm.{algorithm_number}
use Rattle.names.specs.Command.{command_number}
use Rattle.table.specs.Table.{flag_number}
use Rattle.c_section.specs.declared.FlatTime.{FlatTime}
use Rattle.c_section.specs.declared.FlatView.{FlatView}
use Rattle.c_section.specs.declared.headers.FlatAdjusted.{FlatAdjusted}
use Rattle.c_section.specs.declared.headers.FlatHeader.{FlatHeader}
use Rattle.splice_time.specs.declared.TooLarge.{TooLarge}

abbrev pub flat_view : View → FlatView
flat_view v = record { at = v.at; len = v.len }

-- a time: 0 none, 1 immediate, 2 unspecified, 3 at so many ticks
abbrev pub flat_time : SpliceTime → FlatTime
flat_time Immediate = record { kind = 1; ticks = 0 }
flat_time Unspecified = record { kind = 2; ticks = 0 }
flat_time (At t) = record { kind = 3; ticks = t }

abbrev pub no_time : FlatTime
no_time = record { kind = 0; ticks = 0 }

-- ---- the splice header
unfoldable pub flat_header : SpliceInfoHeader → FlatHeader
flat_header h =
    record {
      refusal = 0;
      protocol_version = h.protocol_version;
      encrypted_packet = flag_number h.encrypted_packet;
      encryption_algorithm = algorithm_number h.encryption_algorithm;
      pts_adjustment = h.pts_adjustment;
      cw_index = h.cw_index;
      tier = h.tier;
      splice_command_length = h.splice_command_length;
      splice_command_type = command_number h.splice_command_type;
    }

unfoldable pub no_header : ℕ → FlatHeader
no_header refusal =
    record {
      refusal = refusal;
      protocol_version = 0;
      encrypted_packet = 0;
      encryption_algorithm = 0;
      pts_adjustment = 0;
      cw_index = 0;
      tier = 0;
      splice_command_length = 0;
      splice_command_type = 0;
    }

unfoldable pub flat_header_read : Option SpliceInfoHeader → FlatHeader
flat_header_read (Some h) = flat_header h
flat_header_read None = no_header (number_of None)

-- ---- an adjusted time, "otherwise none", or refusal 32
unfoldable pub flat_adjusted : Result (Option ℕ) TooLarge → FlatAdjusted
flat_adjusted (Ok (Some t)) = record { refusal = 0; kind = 3; ticks = t }
flat_adjusted (Ok None) = record { refusal = 0; kind = 0; ticks = 0 }
flat_adjusted (Err e) = record { refusal = 32; kind = 0; ticks = 0 }
