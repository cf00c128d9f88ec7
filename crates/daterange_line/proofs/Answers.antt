-- What `read_line` answers and leaves, by what was found in the line.
use Prim.Native.Nat.{ℕ, ◌+◌, ◌-◌, ◌/◌, ◌%◌, ◌≤◌, ◌<◌}
use mathlib.Core.Bool.{true}
use mathlib.Core.List.{List}
use mathlib.Core.Path.{◌≡◌, refl, ap, sym, ◌∙◌}
use native.Mathlib.Omega.{arith}
use lib.ListN.{length, take, drop, length-drop}
use Rattle.table.specs.Lent.{stored}
use Rattle.table.specs.Writing.{made}
use Rattle.table.proofs.Lists.{zero_one}
use Rattle.bit_stores.specs.Written.{answer_of, later_of}
use Rattle.bit_stores.proofs.Writes.{short_answer, wrote_answer}
use Rattle.attribute_list.specs.Grammar.{all, hex_byte, Attribute, list_text, Line}
use Rattle.attribute_list.specs.Cutting.{attributes_of}
use Rattle.daterange_line.specs.Reading.{is_signal, value_of, octets, section_of, Judged, fault, fine, judge, section_made, told, read_by, read_of, read_later}
use Rattle.daterange_line.specs.Private.{found_in, look_by, look_of}
use Rattle.daterange_line.specs.declared.looking.Found.{Found}
use Rattle.attribute_list.proofs.Lists.{line_sound}
use Rattle.daterange_line.proofs.Octets.{octets_length}
use Rattle.daterange_line.proofs.Values.{Stands, view_value, Fine, judged_fine, signal_hex, Digits, digits_of, digits_part}
use Rattle.std.specs.Prelude.{Result, Ok, Err}
use Rattle.daterange_line.specs.declared.LineRefusal.{LineRefusal}
use Rattle.daterange_line.specs.declared.LineRefusal.TheVariants.{TargetTooShort}

-- the attributes of a line in which a cue was found, and its digits
pub record Held (line : List ℕ) (f : Found) : Type 0 where
  pub list : List Attribute
  pub judged : judge (attributes_of line) ≡ fine list
  pub found : found_in list ≡ f
  pub stands : Stands line f.digits (value_of is_signal list)
  pub digits : Digits (value_of is_signal list)

pub text_behind : (line : List ℕ) (l : List Attribute) → Line l line → drop 17 line ≡ list_text l
text_behind line l h = rw (← h.text)

fine_held : (line : List ℕ) (l : List Attribute) → judge (attributes_of line) ≡ fine l → Held line (found_in l)
fine_held line l e =
    let x : Fine (attributes_of line) l = judged_fine (attributes_of line) l e in
    let h : Line l line = line_sound line l x.is in
    record {
      list = l;
      judged = e;
      found = refl;
      stands = view_value is_signal line l 17 h.each (text_behind line l h) x.cue;
      digits = digits_of (value_of is_signal l) (signal_hex l x.fits x.cue);
    }

pub held : (line : List ℕ) (r : Result Found LineRefusal) (f : Found) → r ≡ look_of line → r ≡ Ok f → Held line f
unfolding look_by
held line r f e g = go (judge (attributes_of line)) refl (sym e ∙ g)
  where
    go : (j : Judged) → judge (attributes_of line) ≡ j → look_by j ≡ Ok f → Held line f
    go (fault n) x y = zero_one cc
    go (fine l) x y = let z : found_in l ≡ f = cc in rw (← z) (fine_held line l x)

pub refused_read : (line target : List ℕ) (r : Result Found LineRefusal) (n : LineRefusal) → r ≡ look_of line → r ≡ Err n → (Err n ≡ read_of line target) × (target ≡ read_later line target)
unfolding look_by read_by section_made later_of
refused_read line target r n e g = go (judge (attributes_of line)) (sym e ∙ g)
  where
    go : (j : Judged) → look_by j ≡ Err n → (Err n ≡ read_by j target) × (target ≡ later_of (section_made j) target)
    go (fault m) y = let z : n ≡ m = cc in (ap Err z, refl)
    go (fine l) y = zero_one cc

module _ (line target : List ℕ) (f : Found) (h : Held line f) where
  abbrev from : ℕ
  from = f.digits.at + 2

  abbrev end : ℕ
  end = f.digits.at + f.digits.len

  part : take (end - from) (drop from line) ≡ drop 2 (value_of is_signal h.list)
  part = digits_part line f.digits (value_of is_signal h.list) h.stands h.digits.some

  count : length (section_of h.list) ≡ (end - from) / 2
  count =
      let b = value_of is_signal h.list in
      octets_length (drop 2 b) ((end - from) / 2) (length-drop 2 b ∙ omega (arith, h.stands.len, h.digits.even, h.digits.some))

  pub ready : (end - from) / 2 ≤ length target
      → (all hex_byte (take (end - from) (drop from line)) ≡ true) × (length (take (end - from) (drop from line)) % 2 ≡ 0) × (length (take (end - from) (drop from line)) / 2 ≤ length target)
  ready l =
      let n : length (drop 2 (value_of is_signal h.list)) ≡ length (value_of is_signal h.list) - 2 = length-drop 2 (value_of is_signal h.list) in
      rw part (h.digits.hex, omega (arith, h.digits.even, h.digits.some), omega (arith, h.stands.len, h.digits.some))

  answered : (read_of line target ≡ told h.list (answer_of (made (section_of h.list)) target)) × (read_later line target ≡ later_of (made (section_of h.list)) target)
  unfolding read_by section_made
  answered = rw h.judged (refl, refl)

  pub short_read : length target < (end - from) / 2 → (Err TargetTooShort ≡ read_of line target) × (target ≡ read_later line target)
  short_read l =
      let x = short_answer (made (section_of h.list)) target (section_of h.list) refl (omega (arith, count)) in
      (ap (told h.list) x.0 ∙ sym answered.0, x.1 ∙ sym answered.1)

  pub enough_read : (later : List ℕ) → (end - from) / 2 ≤ length target → later ≡ stored target 0 (octets (take (end - from) (drop from line)))
      → (Ok (record { id = f.id; date = f.date; cue = f.cue; len = (end - from) / 2 }) ≡ read_of line target) × (later ≡ read_later line target)
  enough_read later l e =
      let x = wrote_answer (made (section_of h.list)) target (section_of h.list) refl (omega (arith, count)) in
      let y : told h.list (Ok ((end - from) / 2)) ≡ told h.list (Ok (length (section_of h.list))) = ap (λ (n : ℕ). told h.list (Ok n)) (sym count) in
      let z : Ok (record { id = f.id; date = f.date; cue = f.cue; len = (end - from) / 2 }) ≡ told h.list (Ok ((end - from) / 2)) = rw (← h.found) in
      (z ∙ y ∙ ap (told h.list) x.0 ∙ sym answered.0, e ∙ ap (λ (b : List ℕ). stored target 0 (octets b)) part ∙ x.1 ∙ sym answered.1)
