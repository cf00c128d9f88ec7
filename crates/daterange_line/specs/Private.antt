-- What the contracts of private functions say. No public contract cites this.
use Rattle.std.specs.Prelude.{ℕ, zero, suc, ◌+◌, Bool, false, not, ◌||◌, List, eqb, ltb, length, take, drop, Option, Some, None, Result, Ok, Err}
use Rattle.table.specs.Bits.{pick}
use Rattle.table.specs.Lent.{no_view}
use Rattle.table.specs.declared.View.{View}
use Rattle.attribute_list.specs.Grammar.{Attribute}
use Rattle.attribute_list.specs.Cutting.{same, cut_of, value_from, end_of, value_in, attributes_of}
use Rattle.daterange_line.specs.Reading.{known_of, fits_for, is_id, is_date, is_signal, view_of, cue_of, Judged, fault, fine, judge}
use Rattle.daterange_line.specs.declared.Cue.TheVariants.{Cmd}
use Rattle.attribute_list.specs.declared.cutting.Cut.{Cut}
use Rattle.daterange_line.specs.declared.Known.{Known}
use Rattle.daterange_line.specs.declared.Known.TheVariants.{Id, Date, Signal, Other}
use Rattle.daterange_line.specs.declared.looking.Found.{Found}
use Rattle.daterange_line.specs.declared.LineRefusal.{LineRefusal}
use Rattle.daterange_line.specs.declared.LineRefusal.TheVariants.{MalformedLine, AttributeMissing}
use Rattle.daterange_line.specs.declared.looking.Turn.{Turn}
use Rattle.daterange_line.specs.declared.looking.Turn.TheVariants.{Done, More}

abbrev pub earlier_by : (ℕ → Bool) → List ℕ → ℕ → List ℕ → Option Cut → Bool
earlier_by more line at name None = false
earlier_by more line at name (Some c) = same (take c.name (drop at line)) name || more (at + (end_of c.name c.quoted c.value + 1))

-- whether an attribute from `at` on and before `end` has this name; at most m are looked at
unfoldable pub earlier : ℕ → List ℕ → ℕ → List ℕ → ℕ → Bool
earlier zero line end name at = false
earlier (suc m) line end name at = pick (ltb at end) (earlier_by (earlier m line end name) line at name (cut_of (drop at line))) false

-- a view stays where there is one
abbrev pub or_else : View → View → View
or_else v w = pick (eqb v.at 0) w v

abbrev pub noted : Found → Known → View → Found
noted f Id v = record { id = or_else f.id v; date = f.date; cue = f.cue; digits = f.digits }
noted f Date v = record { id = f.id; date = or_else f.date v; cue = f.cue; digits = f.digits }
noted f (Signal c) v = record { id = f.id; date = f.date; cue = pick (eqb f.digits.at 0) c f.cue; digits = or_else f.digits v }
noted f Other v = f

abbrev pub nothing : Found
nothing = record { id = no_view; date = no_view; cue = Cmd; digits = no_view }

-- one attribute more
abbrev pub turn_by : List ℕ → ℕ → Found → Option Cut → Result Turn LineRefusal
turn_by line at f None = Err MalformedLine
turn_by line at f (Some c) =
    let s : List ℕ = drop at line in
    let from : ℕ = value_from c.name c.quoted in
    let end : ℕ = end_of c.name c.quoted c.value in
    let known : Known = known_of (take c.name s) in
    let view : View = record { at = at + from; len = c.value } in
    pick (earlier (length line) line at (take c.name s) 17 || not (fits_for known (value_in c.quoted (take c.value (drop from s))))) (Err MalformedLine)
    (pick (eqb (length (drop end s)) 0) (Ok (Done (noted f known view)))
    (Ok (More (noted f known view) (at + (end + 1)))))

unfoldable pub turn_of : List ℕ → ℕ → Found → Result Turn LineRefusal
turn_of line at f = turn_by line at f (cut_of (drop at line))

-- 51, where a view is the blank: no value stands at a line's first byte
unfoldable pub ended : Found → Result Found LineRefusal
ended f = pick (eqb f.id.at 0 || (eqb f.date.at 0 || eqb f.digits.at 0)) (Err AttributeMissing) (Ok f)

abbrev pub walk_by : (ℕ → Found → Result Found LineRefusal) → Result Turn LineRefusal → Result Found LineRefusal
walk_by more (Err r) = Err r
walk_by more (Ok (Done g)) = ended g
walk_by more (Ok (More g at)) = more at g

-- all attributes from `at` on, at most m of them
unfoldable pub walk : ℕ → List ℕ → ℕ → Found → Result Found LineRefusal
walk zero line at f = Err MalformedLine
walk (suc m) line at f = walk_by (walk m line) (turn_of line at f)

-- what all of them say
abbrev pub found_in : List Attribute → Found
found_in l = record { id = view_of is_id 17 l; date = view_of is_date 17 l; cue = cue_of l; digits = view_of is_signal 17 l }

unfoldable pub look_by : Judged → Result Found LineRefusal
look_by (fault r) = Err r
look_by (fine l) = Ok (found_in l)

abbrev pub look_of : List ℕ → Result Found LineRefusal
look_of line = look_by (judge (attributes_of line))
