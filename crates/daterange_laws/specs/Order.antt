-- A line's reading without places, and lists of attributes in another order. For the theorems; no contract cites them.
use Rattle.std.specs.Prelude.{ℕ, false, ◌&&◌, List, ◌∷◌, ◌≡◌}
use Rattle.attribute_list.specs.Grammar.{Attribute}
use Rattle.daterange_line.specs.Reading.{is_id, is_date, is_signal, value_of, cue_of, section_of, number_of, Judged, fault, fine}
use Rattle.daterange_line.specs.declared.Cue.{Cue}

pub record Said : Type 0 where
  pub id : List ℕ
  pub date : List ℕ
  pub cue : Cue
  pub section : List ℕ

pub data Heard : Type 0 where
  refused : ℕ → Heard
  says : Said → Heard

abbrev pub said_of : List Attribute → Said
said_of l = record { id = value_of is_id l; date = value_of is_date l; cue = cue_of l; section = section_of l }

unfoldable pub heard_of : Judged → Heard
heard_of (fault r) = refused (number_of r)
heard_of (fine l) = says (said_of l)

-- the same attributes in another order, in which each cue stands behind the cues that it stood behind: "the first of the three names used"
pub data Shuffled : List Attribute → List Attribute → Type 0 where
  same : {l : List Attribute} → Shuffled l l
  first : {a : Attribute} {l m : List Attribute} → Shuffled l m → Shuffled (a ∷ l) (a ∷ m)
  swap : {a b : Attribute} {l : List Attribute} → is_signal a && is_signal b ≡ false → Shuffled (a ∷ (b ∷ l)) (b ∷ (a ∷ l))
  then : {l m n : List Attribute} → Shuffled l m → Shuffled m n → Shuffled l n
