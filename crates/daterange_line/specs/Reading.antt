-- What an EXT-X-DATERANGE line says of a cue (document 02, Q-1).
use Rattle.std.specs.Prelude.{ℕ, ◌+◌, ◌-◌, ◌*◌, ◌%◌, Bool, true, false, not, ◌&&◌, ◌||◌, List, [], ◌∷◌, leb, ltb, eqb, length, drop, get_or, Option, Some, None, Result, Ok, Err}
use Rattle.table.specs.Bits.{pick}
use Rattle.table.specs.Lent.{no_view}
use Rattle.table.specs.Writing.{Made, made, refused}
use Rattle.table.specs.declared.View.{View}
use Rattle.bit_stores.specs.Written.{answer_of, later_of}
use Rattle.attribute_list.specs.Grammar.{Value, quoted, plain, Attribute, text_of, hex_byte, all}
use Rattle.attribute_list.specs.Cutting.{same, attributes_of}
use Rattle.daterange_line.specs.declared.Cue.{Cue}
use Rattle.daterange_line.specs.declared.Cue.TheVariants.{Cmd, Out, In}
use Rattle.daterange_line.specs.declared.Known.{Known}
use Rattle.daterange_line.specs.declared.Known.TheVariants.{Id, Date, Signal, Other}
use Rattle.daterange_line.specs.declared.Reading.{Reading}
use Rattle.daterange_line.specs.declared.LineRefusal.{LineRefusal}
use Rattle.daterange_line.specs.declared.LineRefusal.TheVariants.{MalformedLine, AttributeMissing, TargetTooShort}

-- ---- names

-- ID, START-DATE
abbrev pub id_name : List ℕ
id_name = 0x49 ∷ 0x44 ∷ []

abbrev pub date_name : List ℕ
date_name = 0x53 ∷ 0x54 ∷ 0x41 ∷ 0x52 ∷ 0x54 ∷ 0x2D ∷ 0x44 ∷ 0x41 ∷ 0x54 ∷ 0x45 ∷ []

-- SCTE35-CMD, SCTE35-OUT, SCTE35-IN
abbrev pub cue_name : Cue → List ℕ
cue_name Cmd = 0x53 ∷ 0x43 ∷ 0x54 ∷ 0x45 ∷ 0x33 ∷ 0x35 ∷ 0x2D ∷ 0x43 ∷ 0x4D ∷ 0x44 ∷ []
cue_name Out = 0x53 ∷ 0x43 ∷ 0x54 ∷ 0x45 ∷ 0x33 ∷ 0x35 ∷ 0x2D ∷ 0x4F ∷ 0x55 ∷ 0x54 ∷ []
cue_name In = 0x53 ∷ 0x43 ∷ 0x54 ∷ 0x45 ∷ 0x33 ∷ 0x35 ∷ 0x2D ∷ 0x49 ∷ 0x4E ∷ []

unfoldable pub known_of : List ℕ → Known
known_of name =
    pick (same name id_name) Id
    (pick (same name date_name) Date
    (pick (same name (cue_name Cmd)) (Signal Cmd)
    (pick (same name (cue_name Out)) (Signal Out)
    (pick (same name (cue_name In)) (Signal In)
    Other))))

abbrev pub as_id : Known → Bool
as_id Id = true
as_id Date = false
as_id (Signal c) = false
as_id Other = false

abbrev pub as_date : Known → Bool
as_date Id = false
as_date Date = true
as_date (Signal c) = false
as_date Other = false

abbrev pub as_signal : Known → Bool
as_signal Id = false
as_signal Date = false
as_signal (Signal c) = true
as_signal Other = false

abbrev pub is_id : Attribute → Bool
is_id a = as_id (known_of a.name)

abbrev pub is_date : Attribute → Bool
is_date a = as_date (known_of a.name)

-- "all three names"
abbrev pub is_signal : Attribute → Bool
is_signal a = as_signal (known_of a.name)

-- ---- refusal 52, where there is a list

-- a hexadecimal sequence: 0x or 0X, and an even number of digits, at least two
unfoldable pub hexadecimal : List ℕ → Bool
hexadecimal b =
    (eqb (get_or b 0 0) 0x30 && (eqb (get_or b 1 0) 0x78 || eqb (get_or b 1 0) 0x58))
    && ((ltb 2 (length b) && eqb (length b % 2) 0) && all hex_byte (drop 2 b))

-- the value kind that a name asks for
abbrev pub fits_for : Known → Value → Bool
fits_for Id (quoted b) = true
fits_for Id (plain b) = false
fits_for Date (quoted b) = true
fits_for Date (plain b) = false
fits_for (Signal c) (quoted b) = false
fits_for (Signal c) (plain b) = hexadecimal b
fits_for Other v = true

abbrev pub fitting : Attribute → Bool
fitting a = fits_for (known_of a.name) a.value

unfoldable pub named : List ℕ → List Attribute → Bool
named name [] = false
named name (a ∷ l) = same a.name name || named name l

-- "a repeated name"
unfoldable pub repeats : List Attribute → Bool
repeats [] = false
repeats (a ∷ l) = named a.name l || repeats l

-- ---- what is found

unfoldable pub any : (Attribute → Bool) → List Attribute → Bool
any p [] = false
any p (a ∷ l) = p a || any p l

abbrev pub bytes_in : Value → List ℕ
bytes_in (quoted b) = b
bytes_in (plain b) = b

-- the value of the first attribute that passes the test
unfoldable pub value_of : (Attribute → Bool) → List Attribute → List ℕ
value_of p [] = []
value_of p (a ∷ l) = pick (p a) (bytes_in a.value) (value_of p l)

-- where the value's bytes stand, behind the name, `=` and a quote
abbrev pub before : Value → ℕ
before (quoted b) = 2
before (plain b) = 1

abbrev pub view_at : ℕ → Attribute → View
view_at at a = record { at = at + (length a.name + before a.value); len = length (bytes_in a.value) }

-- the same as a view of a line in which the list begins at a place; the blank where none passes
unfoldable pub view_of : (Attribute → Bool) → ℕ → List Attribute → View
view_of p at [] = no_view
view_of p at (a ∷ l) = pick (p a) (view_at at a) (view_of p (at + (length (text_of a) + 1)) l)

abbrev pub cue_in : Known → Cue → Cue
cue_in Id c = c
cue_in Date c = c
cue_in (Signal x) c = x
cue_in Other c = c

-- "the first of the three names used"
unfoldable pub cue_of : List Attribute → Cue
cue_of [] = Cmd
cue_of (a ∷ l) = cue_in (known_of a.name) (cue_of l)

-- the value of a digit; two digits a byte
abbrev pub digit_of : ℕ → ℕ
digit_of d = pick (leb 0x41 d) (d - 0x37) (d - 0x30)

unfoldable pub octets : List ℕ → List ℕ
octets [] = []
octets (x ∷ []) = []
octets (x ∷ (y ∷ ds)) = (digit_of x * 16 + digit_of y) ∷ octets ds

-- the section: the digits behind 0x
abbrev pub section_of : List Attribute → List ℕ
section_of l = octets (drop 2 (value_of is_signal l))

-- ---- the reading

-- document 02's numbers
abbrev pub number_of : LineRefusal → ℕ
number_of MalformedLine = 52
number_of AttributeMissing = 51
number_of TargetTooShort = 36

-- a line's attributes, or the first of refusals 52 and 51 that applies
pub data Judged : Type 0 where
  fault : LineRefusal → Judged
  fine : List Attribute → Judged

unfoldable pub judge : Option (List Attribute) → Judged
judge None = fault MalformedLine
judge (Some l) =
    pick (repeats l || not (all fitting l)) (fault MalformedLine)
    (pick (not (any is_id l && (any is_date l && any is_signal l))) (fault AttributeMissing)
    (fine l))

-- what is made of the target: the section's bytes
unfoldable pub section_made : Judged → Made
section_made (fault r) = refused (number_of r)
section_made (fine l) = made (section_of l)

-- the answer, of which the target's length decides: the list begins behind the tag's 17 bytes
abbrev pub told : List Attribute → Result ℕ ℕ → Result Reading LineRefusal
told l (Ok n) = Ok (record { id = view_of is_id 17 l; date = view_of is_date 17 l; cue = cue_of l; len = n })
told l (Err n) = Err TargetTooShort

unfoldable pub read_by : Judged → List ℕ → Result Reading LineRefusal
read_by (fault r) target = Err r
read_by (fine l) target = told l (answer_of (made (section_of l)) target)

abbrev pub read_of : List ℕ → List ℕ → Result Reading LineRefusal
read_of line target = read_by (judge (attributes_of line)) target

abbrev pub read_later : List ℕ → List ℕ → List ℕ
read_later line target = later_of (section_made (judge (attributes_of line))) target
