-- The words of a command, and what is answered of them: refused by 31, 32 or 33, or answered as the writer answers of the value whose words they are. 01,
-- "Refusal numbers".
use Rattle.std.specs.Prelude.{ℕ, Bool, true, false, ◌&&◌, List, [], ◌∷◌, ◌++◌, map, ◌≡◌, eqb, length, drop}
use Rattle.command.specs.Command.{array, count_in}
use Rattle.command.specs.declared.SpliceCommand.{SpliceCommand}
use Rattle.command.specs.declared.components.InsertComponent.{InsertComponent}
use Rattle.command_measure.specs.Made.{command_made}
use Rattle.c_section.specs.FlatCommand.{flat_command, flat_component}
use Rattle.c_section.specs.declared.commands.FlatCommand.{FlatCommand}
use Rattle.c_section.specs.declared.components.FlatInsertComponent.{FlatInsertComponent}
use Rattle.table.specs.Bits.{pick}
use Rattle.table.specs.Lent.{lies_in}
use Rattle.table.specs.Writing.{Made, refused}
use Rattle.c_command_writer.specs.Words.{word, within, same, each_place}

-- ---- struct scte35_command: its words, and the width of each
unfoldable pub command_words : FlatCommand → List ℕ
command_words c =
    c.refusal
    ∷ c.splice_command_type
    ∷ c.insert.splice_event_id
    ∷ c.insert.splice_event_cancel_indicator
    ∷ c.insert.reserved
    ∷ c.insert.out_of_network_indicator
    ∷ c.insert.mode.program_splice_flag
    ∷ c.insert.mode.splice_time.kind
    ∷ c.insert.mode.splice_time.ticks
    ∷ c.insert.mode.component_count
    ∷ c.insert.break_duration.duration_flag
    ∷ c.insert.break_duration.auto_return
    ∷ c.insert.break_duration.duration
    ∷ c.insert.unique_program_id
    ∷ c.insert.avail_num
    ∷ c.insert.avails_expected
    ∷ c.splice_time.kind
    ∷ c.splice_time.ticks
    ∷ c.identifier
    ∷ c.private_bytes.at
    ∷ c.private_bytes.len
    ∷ []

-- in the same order: refusal, splice_command_type; splice_event_id, splice_event_cancel_indicator, reserved, out_of_network_indicator;
-- program_splice_flag, splice_time, component_count; duration_flag, auto_return, duration; unique_program_id, avail_num, avails_expected;
-- splice_time; identifier, private_bytes. A refusal is no field: any but 0 is refusal 33. A time's kind counts as two bits: over 3 is refusal 32, and a 0 where a time must
-- be is 33.
unfoldable pub command_widths : List ℕ
command_widths = 64 ∷ 8 ∷ 32 ∷ 1 ∷ 7 ∷ 1 ∷ 1 ∷ 2 ∷ 33 ∷ 8 ∷ 1 ∷ 1 ∷ 33 ∷ 16 ∷ 8 ∷ 8 ∷ 2 ∷ 33 ∷ 32 ∷ 64 ∷ 64 ∷ []

-- ---- struct scte35_insert_components: after refusal and count, which are not looked at, places of three words, as many as the command says
abbrev pub insert_components_in : List ℕ → List ℕ
insert_components_in words = drop 2 words

-- component_tag; splice_time
unfoldable pub component_words : FlatInsertComponent → List ℕ
component_words c = c.component_tag ∷ c.splice_time.kind ∷ c.splice_time.ticks ∷ []

unfoldable pub component_widths : List ℕ
component_widths = 8 ∷ 2 ∷ 33 ∷ []

abbrev pub places_words : List FlatInsertComponent → List ℕ
places_words [] = []
places_words (c ∷ cs) = component_words c ++ places_words cs

-- ---- what is answered
-- the words are those of c and of its components, cs
pub record CommandIs (words components : List ℕ) (c : SpliceCommand) (cs : List InsertComponent) : Type 0 where
  pub own : same (command_words (flat_command c)) words ≡ true
  pub counts : length cs ≡ count_in c
  pub places : same (places_words (map flat_component cs)) (insert_components_in components) ≡ true

-- how many places of components are looked at: those of an insert that is neither cancelled nor by program
abbrev pub places_given : List ℕ → ℕ
places_given words = pick (eqb (word words 1) 0x05 && (eqb (word words 3) 0 && eqb (word words 6) 0)) (word words 9) 0

-- refusal 31: "a view reaches outside the lent bytes". The last two words are a view, whatever the type: where only a private command has one, 33 comes behind
unfoldable pub command_seen : List ℕ → List ℕ → Bool
command_seen words lent = lies_in lent (record { at = word words 19; len = word words 20 })

-- refusal 32: "a number or count handed in exceeds its field"
unfoldable pub command_fits : List ℕ → List ℕ → Bool
command_fits words components = within command_widths words && each_place (within component_widths) 3 (places_given words) (insert_components_in components)

-- "31 to 36 are checked in order of number": 31 and 32 of the words, then 33 of words that are no value's. Those of a value are answered as its writer answers, which gives
-- 31 and 32 itself, so that the last case needs no test. 36, a short target, is `answer_of`'s and `later_of`'s.
pub data CommandAnswer (words components lent : List ℕ) : Made → Type 0 where
  outside : command_seen words lent ≡ false → CommandAnswer words components lent (refused 31)
  over : command_seen words lent ≡ true → command_fits words components ≡ false → CommandAnswer words components lent (refused 32)
  nobodys : command_seen words lent ≡ true → command_fits words components ≡ true
      → ((c : SpliceCommand) (cs : List InsertComponent) → CommandIs words components c cs → ⊥) → CommandAnswer words components lent (refused 33)
  its : (c : SpliceCommand) (cs : List InsertComponent) → CommandIs words components c cs → CommandAnswer words components lent (command_made c (array cs) lent)
