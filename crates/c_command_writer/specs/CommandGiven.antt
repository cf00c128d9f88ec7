-- What the contracts say by functions: the command that words make, and what is asked of the words. The theorems `command_words_are_answered` and
-- `command_answers_are_one` fix what they answer (CommandWords.antt).
use Rattle.std.specs.Prelude.{ℕ, ◌^◌, ◌%◌, Bool, ◌&&◌, List, eqb, Some, None, Option}
use Rattle.command.specs.Command.{array, count_in}
use Rattle.command.specs.declared.SpliceCommand.{SpliceCommand}
use Rattle.command.specs.declared.SpliceCommand.TheVariants as command
use Rattle.command.specs.declared.components.InsertComponent.{InsertComponent}
use Rattle.command.specs.declared.insert.InsertDetail.{InsertDetail}
use Rattle.command.specs.declared.insert.SpliceInsert.{SpliceInsert}
use Rattle.command.specs.declared.insert.SpliceDetail.TheVariants as insert
use Rattle.command.specs.declared.insert.SpliceMode.{SpliceMode}
use Rattle.command.specs.declared.insert.SpliceMode.TheVariants.{Program, Components}
use Rattle.command_measure.specs.Made.{command_made}
use Rattle.c_section.specs.FlatCommand.{flat_command, flat_component}
use Rattle.c_section.specs.declared.FlatTime.{FlatTime}
use Rattle.c_section.specs.declared.FlatView.{FlatView}
use Rattle.c_section.specs.declared.commands.FlatBreak.{FlatBreak}
use Rattle.c_section.specs.declared.commands.FlatCommand.{FlatCommand}
use Rattle.c_section.specs.declared.commands.FlatInsert.{FlatInsert}
use Rattle.c_section.specs.declared.commands.FlatMode.{FlatMode}
use Rattle.splice_time.specs.declared.SpliceTime.{SpliceTime}
use Rattle.splice_time.specs.declared.SpliceTime.TheVariants.{Immediate, Unspecified, At}
use Rattle.names.specs.declared.flags.NetworkIndicator.{NetworkIndicator}
use Rattle.names.specs.declared.flags.ReturnMode.{ReturnMode}
use Rattle.table.specs.Bits.{pick}
use Rattle.table.specs.Writing.{Made}
use Rattle.table.specs.declared.View.{View}
use Rattle.c_command_writer.specs.CommandWords.{command_words, command_widths, insert_components_in, component_words, component_widths, command_seen}
use Rattle.c_command_writer.specs.Words.{word, within, same, places_of, each_place, refusal_of, seen_first, no_less}
use Rattle.splice_time.specs.declared.break_duration.SpliceDuration.{SpliceDuration}

-- ---- the struct that words are
unfoldable pub mode_in : List ℕ → FlatMode
mode_in words =
    record {
      program_splice_flag = word words 6;
      splice_time = record { kind = word words 7; ticks = word words 8 };
      component_count = word words 9;
    }

unfoldable pub break_in : List ℕ → FlatBreak
break_in words = record { duration_flag = word words 10; auto_return = word words 11; duration = word words 12 }

unfoldable pub insert_in : List ℕ → FlatInsert
insert_in words =
    record {
      splice_event_id = word words 2;
      splice_event_cancel_indicator = word words 3;
      reserved = word words 4;
      out_of_network_indicator = word words 5;
      mode = mode_in words;
      break_duration = break_in words;
      unique_program_id = word words 13;
      avail_num = word words 14;
      avails_expected = word words 15;
    }

unfoldable pub command_in : List ℕ → FlatCommand
command_in words =
    record {
      refusal = word words 0;
      splice_command_type = word words 1;
      insert = insert_in words;
      splice_time = record { kind = word words 16; ticks = word words 17 };
      identifier = word words 18;
      private_bytes = record { at = word words 19; len = word words 20 };
    }

-- ---- the value: each number is reduced to its type's width, and a kind that has no value makes some other kind's, so that 32 or 33 applies
abbrev pub time_from : FlatTime → SpliceTime
time_from t = pick (eqb t.kind 1) Immediate (pick (eqb t.kind 3) (At t.ticks) Unspecified)

abbrev pub view_from : FlatView → View
view_from v = record { at = v.at; len = v.len }

unfoldable pub mode_from : FlatMode → SpliceMode
mode_from m = pick (eqb m.program_splice_flag 1) (Program (time_from m.splice_time)) (Components (m.component_count % 256))

unfoldable pub break_from : FlatBreak → Option SpliceDuration
break_from b =
    pick (eqb b.duration_flag 1)
    (Some (record { return_mode = pick (eqb b.auto_return 1) ReturnMode.Automatic ReturnMode.Manual; duration = b.duration }))
    None

unfoldable pub insert_from : FlatInsert → InsertDetail
insert_from i =
    record {
      network_indicator = pick (eqb i.out_of_network_indicator 1) NetworkIndicator.Out NetworkIndicator.In;
      splice_mode = mode_from i.mode;
      duration = break_from i.break_duration;
      unique_program_id = i.unique_program_id % 65536;
      avail_num = i.avail_num % 256;
      avails_expected = i.avails_expected % 256;
    }

unfoldable pub insertion_from : FlatInsert → SpliceInsert
insertion_from i =
    record {
      splice_event_id = i.splice_event_id % 2 ^ 32;
      reserved = i.reserved % 256;
      splice_detail = pick (eqb i.splice_event_cancel_indicator 1) insert.Cancel (insert.Insert (insert_from i));
    }

unfoldable pub command_from : FlatCommand → SpliceCommand
command_from c =
    pick (eqb c.splice_command_type 0x05) (command.SpliceInsert (insertion_from c.insert))
    (pick (eqb c.splice_command_type 0x06) (command.TimeSignal (time_from c.splice_time))
    (pick (eqb c.splice_command_type 0x07) command.BandwidthReservation
    (pick (eqb c.splice_command_type 0xff)
    (command.PrivateCommand (record { identifier = c.identifier % 2 ^ 32; private_bytes = view_from c.private_bytes }))
    command.SpliceNull)))

unfoldable pub component_from : List ℕ → InsertComponent
component_from words = record { component_tag = word words 0 % 256; splice_time = time_from (record { kind = word words 1; ticks = word words 2 }) }

-- "array places past a count are left out": they are blank
unfoldable pub components_from : ℕ → List ℕ → List InsertComponent
components_from n words = array (places_of component_from 3 n (insert_components_in words))

-- ---- what is asked of the words
unfoldable pub insert_components_within : ℕ → List ℕ → Bool
insert_components_within n words = each_place (within component_widths) 3 n (insert_components_in words)

abbrev pub own_component : List ℕ → Bool
own_component words = same (component_words (flat_component (component_from words))) words

unfoldable pub own_insert_components : ℕ → List ℕ → Bool
own_insert_components n words = each_place own_component 3 n (insert_components_in words)

-- the number of the words' own refusal, of a command that they make: 32 or 33
unfoldable pub words_refusal : SpliceCommand → List ℕ → List ℕ → ℕ
words_refusal c words components =
    refusal_of
    (within command_widths words && insert_components_within (count_in c) components)
    (same (command_words (flat_command c)) words && own_insert_components (count_in c) components)

-- the number of a refusal that comes before the command's own: 31, then 32 or 33 of the words
unfoldable pub command_refusal : SpliceCommand → List ℕ → List ℕ → List ℕ → ℕ
command_refusal c words components lent = seen_first (command_seen words lent) (words_refusal c words components)

-- ---- the payload, or the number of a refusal: 31, 32 or 33
abbrev pub command_given : List ℕ → SpliceCommand
command_given words = command_from (command_in words)

unfoldable pub command_words_made : List ℕ → List ℕ → List ℕ → Made
command_words_made words components lent =
    no_less (command_refusal (command_given words) words components lent) (command_made (command_given words) (components_from (count_in (command_given words)) components) lent)
