-- What a reader of C answers is what a writer of C takes: the words of a command's flat form make the command again, if each of its numbers is of its type.
use Prim.Native.Nat.{ℕ, ◌^◌, ◌<◌}
use mathlib.Core.Path.{◌≡◌, refl, ap, ◌∙◌}
use native.Mathlib.Nat.{mod-eq_of_lt}
use lib.Dec.{eqb}
use Rattle.command.specs.declared.SpliceCommand.{SpliceCommand}
use Rattle.command.specs.declared.insert.InsertDetail.{InsertDetail}
use Rattle.command.specs.declared.insert.SpliceDetail.{SpliceDetail}
use Rattle.command.specs.declared.insert.SpliceMode.{SpliceMode}
use Rattle.c_section.specs.Flat.{flat_time}
use Rattle.c_section.specs.FlatCommand.{flat_mode, flat_break, active_insert, insert_head, flat_detail, flat_insertion, no_command, flat_command}
use Rattle.c_section.specs.declared.commands.FlatCommand.{FlatCommand}
use Rattle.splice_time.specs.declared.SpliceTime.{SpliceTime}
use Rattle.names.specs.Flags.{network_flag, return_flag}
use Rattle.names.specs.declared.flags.NetworkIndicator.{NetworkIndicator}
use Rattle.names.specs.declared.flags.ReturnMode.{ReturnMode}
use Rattle.table.specs.Bits.{pick}
use Rattle.c_command_writer.specs.CommandGiven.{mode_in, break_in, insert_in, command_in, time_from, mode_from, break_from, insert_from, insertion_from, command_from, command_given}
use Rattle.c_command_writer.specs.CommandWords.{command_words}
use Rattle.c_command_writer.proofs.Typed.{TypedMode, TypedDetail, Typed}
use Rattle.std.proofs.Common.{Some, None, Option}
use Rattle.splice_time.specs.declared.break_duration.SpliceDuration.{SpliceDuration}

-- ---- the struct that the words of a struct are
pub words_back : (f : FlatCommand) → command_in (command_words f) ≡ f
unfolding command_in insert_in mode_in break_in command_words
words_back f = refl

-- ---- part by part
pub time_back : (t : SpliceTime) → time_from (flat_time t) ≡ t
time_back SpliceTime.Immediate = refl
time_back SpliceTime.Unspecified = refl
time_back (SpliceTime.At t) = refl

network_back : (n : NetworkIndicator) → pick (eqb (network_flag n) 1) NetworkIndicator.Out NetworkIndicator.In ≡ n
network_back NetworkIndicator.In = refl
network_back NetworkIndicator.Out = refl

return_back : (m : ReturnMode) → pick (eqb (return_flag m) 1) ReturnMode.Automatic ReturnMode.Manual ≡ m
return_back ReturnMode.Manual = refl
return_back ReturnMode.Automatic = refl

mode_back : (m : SpliceMode) → TypedMode m → mode_from (flat_mode m) ≡ m
unfolding mode_from flat_mode
mode_back (SpliceMode.Program t) h = ap SpliceMode.Program (time_back t)
mode_back (SpliceMode.Components n) h = ap SpliceMode.Components (mod-eq_of_lt h)

break_back : (b : Option SpliceDuration) → break_from (flat_break b) ≡ b
unfolding break_from flat_break
break_back None = refl
break_back (Some d) = rw (return_back d.return_mode)

insert_back : (event reserved : ℕ) (i : InsertDetail) → TypedDetail (SpliceDetail.Insert i) → insert_from (active_insert event 0 reserved i) ≡ i
unfolding insert_from active_insert
insert_back event reserved i h =
    rw (network_back i.network_indicator, mode_back i.splice_mode h.3, break_back i.duration, mod-eq_of_lt h.0, mod-eq_of_lt h.1, mod-eq_of_lt h.2)

detail_back : (event reserved : ℕ) (d : SpliceDetail) → event < 2 ^ 32 → reserved < 256 → TypedDetail d
    → insertion_from (flat_detail event reserved d) ≡ record { splice_event_id = event; reserved = reserved; splice_detail = d }
unfolding insertion_from insert_head active_insert
detail_back event reserved SpliceDetail.Cancel e r h = rw (mod-eq_of_lt e, mod-eq_of_lt r)
detail_back event reserved (SpliceDetail.Insert i) e r h = rw (mod-eq_of_lt e, mod-eq_of_lt r, insert_back event reserved i h)

from_back : (c : SpliceCommand) → Typed c → command_from (flat_command c) ≡ c
unfolding command_from flat_command no_command flat_insertion
from_back SpliceCommand.SpliceNull h = refl
from_back (SpliceCommand.SpliceInsert x) h = ap SpliceCommand.SpliceInsert (detail_back x.splice_event_id x.reserved x.splice_detail h.0 h.1 h.2)
from_back (SpliceCommand.TimeSignal t) h = ap SpliceCommand.TimeSignal (time_back t)
from_back SpliceCommand.BandwidthReservation h = refl
from_back (SpliceCommand.PrivateCommand p) h = rw (mod-eq_of_lt h)

-- ---- the command
pub command_back : (c : SpliceCommand) → Typed c → command_given (command_words (flat_command c)) ≡ c
command_back c h = ap command_from (words_back (flat_command c)) ∙ from_back c h
