-- What a reader of lines answers, in words of its own: by the list of a line's attributes (`Line`, RFC 8216's grammar; a line has at most one).
use Rattle.std.specs.Prelude.{ℕ, ◌≤◌, ◌<◌, false, List, ◌∷◌, ◌++◌, ◌≡◌, length, drop, Result, Ok, Err}
use Rattle.attribute_list.specs.Grammar.{Value, quoted, plain, Attribute, Line}
use Rattle.daterange_line.specs.Reading.{id_name, date_name, cue_name, hexadecimal, is_id, is_date, view_of, cue_of, section_of, number_of}
use Rattle.daterange_line.specs.declared.Cue.{Cue}
use Rattle.upid.specs.Cover.{All}
use Rattle.daterange_line.specs.declared.Reading.{Reading}
use Rattle.daterange_line.specs.declared.LineRefusal.{LineRefusal}
use Rattle.daterange_line.specs.declared.LineRefusal.TheVariants.{MalformedLine, AttributeMissing, TargetTooShort}

-- "a cue of another value kind", "bad .. hexadecimal, odd digits"
abbrev pub NoSequence : Value → Type 0
NoSequence (quoted b) = Unit {0}
NoSequence (plain b) = hexadecimal b ≡ false

-- "an ID, date or cue of another value kind": ID and date are quoted
pub data Misfit (a : Attribute) : Type 0 where
  id : (b : List ℕ) → a.name ≡ id_name → a.value ≡ plain b → Misfit a
  date : (b : List ℕ) → a.name ≡ date_name → a.value ≡ plain b → Misfit a
  cue : (c : Cue) → a.name ≡ cue_name c → NoSequence a.value → Misfit a

-- 52 of a list: "a repeated name", or such an attribute, wherever they stand
pub data Faulty (l : List Attribute) : Type 0 where
  repeated : (p q r : List Attribute) (a b : Attribute) → l ≡ p ++ (a ∷ (q ++ (b ∷ r))) → a.name ≡ b.name → Faulty l
  misfit : (p r : List Attribute) (a : Attribute) → l ≡ p ++ (a ∷ r) → Misfit a → Faulty l

-- "51 ID, date or all three names missing"
pub data Lacking (l : List Attribute) : Type 0 where
  no_id : All (λ (a : Attribute). a.name ≡ id_name → ⊥) l → Lacking l
  no_date : All (λ (a : Attribute). a.name ≡ date_name → ⊥) l → Lacking l
  no_cue : All (λ (a : Attribute). (c : Cue) → a.name ≡ cue_name c → ⊥) l → Lacking l

-- the answer to a line with its refusal's number, and the target's later bytes: "Reading, in order, 52 another tag, bad attribute list ..; 51 ..; 36"
pub data LineRead (line target : List ℕ) : Result Reading LineRefusal → List ℕ → Type 0 where
  unlisted : ((l : List Attribute) → Line l line → ⊥) → number_of MalformedLine ≡ 52 → LineRead line target (Err MalformedLine) target
  faulty : (l : List Attribute) → Line l line → Faulty l → number_of MalformedLine ≡ 52 → LineRead line target (Err MalformedLine) target
  lacking : (l : List Attribute) → Line l line → (Faulty l → ⊥) → Lacking l → number_of AttributeMissing ≡ 51 → LineRead line target (Err AttributeMissing) target
  short : (l : List Attribute) → Line l line → (Faulty l → ⊥) → (Lacking l → ⊥) → length target < length (section_of l) → number_of TargetTooShort ≡ 36
      → LineRead line target (Err TargetTooShort) target
  its : (l : List Attribute) → Line l line → (Faulty l → ⊥) → (Lacking l → ⊥) → length (section_of l) ≤ length target
      → LineRead line target (Ok (record { id = view_of is_id 17 l; date = view_of is_date 17 l; cue = cue_of l; len = length (section_of l) })) (section_of l ++ drop (length (section_of l)) target)
