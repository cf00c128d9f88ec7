-- What is claimed of a line that is written for a section and read again, and what a writer of lines answers, in words of its own.
use Rattle.std.specs.Prelude.{ℕ, ◌+◌, ◌*◌, ◌&&◌, List, ◌++◌, ◌≡◌, ltb, length, drop, Result, Ok, Err}
use Rattle.attribute_list.specs.Grammar.{all, quoted_byte}
use Rattle.c_daterange.specs.FlatDaterange.{name_number}
use Rattle.c_daterange.specs.declared.FlatDaterange.{FlatDaterange}
use Rattle.daterange_line.specs.declared.Cue.{Cue}
use Rattle.daterange_line.specs.declared.Cue.TheVariants.{Cmd, Out, In}
use Rattle.table.specs.Bits.{pick}
use Rattle.table.specs.Lent.{viewed}
use Rattle.table.specs.declared.View.{View}
use Rattle.daterange_line.specs.declared.Reading.{Reading}
use Rattle.daterange_line.specs.declared.LineRefusal.{LineRefusal}

-- what is handed to a writer of lines
pub record Cued : Type 0 where
  pub section : List ℕ
  pub id : List ℕ
  pub date : List ℕ

-- ---- the answer

-- how long a line is: #EXT-X-DATERANGE:ID="",START-DATE="",SCTE35-CMD=0x has 50 bytes, with SCTE35-IN one less; ID and date are added, and two digits for each byte
abbrev pub fixed_size : Cue → ℕ
fixed_size Cmd = 50
fixed_size Out = 50
fixed_size In = 49

abbrev pub line_size : Cue → Cued → ℕ
line_size cue q = fixed_size cue + length q.id + length q.date + length q.section * 2

-- "53 an ID or date holding a double quote, CR or LF; 36"; the target has `room` bytes
unfoldable pub line_answered : Cue → Cued → ℕ → Result ℕ ℕ
line_answered cue q room =
    pick (all quoted_byte q.id && all quoted_byte q.date)
    (pick (ltb room (line_size cue q)) (Err 36) (Ok (line_size cue q)))
    (Err 53)

-- ---- the line, read again

-- a reader that is handed the line, and a target that the section fits, says the same ID and date, the name and the section's size, and the target begins with the section
pub record ReadsBack (cue : Cue) (q : Cued) (line target : List ℕ) (answer : Result Reading LineRefusal) (later : List ℕ) : Type 0 where
  pub id_view : View
  pub date_view : View
  pub says : answer ≡ Ok (record { id = id_view; date = date_view; cue = cue; len = length q.section })
  pub same_id : viewed line id_view ≡ q.id
  pub same_date : viewed line date_view ≡ q.date
  pub bytes : later ≡ q.section ++ drop (length q.section) target

-- the same over C, field by field
pub record ReadsBackC (cue : Cue) (q : Cued) (line target : List ℕ) (answer : FlatDaterange) (later : List ℕ) : Type 0 where
  pub refusal : answer.refusal ≡ 0
  pub same_id : viewed line (record { at = answer.id.at; len = answer.id.len }) ≡ q.id
  pub same_date : viewed line (record { at = answer.date.at; len = answer.date.len }) ≡ q.date
  pub name : answer.name ≡ name_number cue
  pub size : answer.«length» ≡ length q.section
  pub bytes : later ≡ q.section ++ drop (length q.section) target
