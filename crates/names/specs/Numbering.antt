-- Named numbers: what every table of this crate says, and how a number and a value are looked up in it.
use Rattle.std.specs.Prelude.{ℕ, Bool, cond as pick, List, [], ◌∷◌, eqb}
use Rattle.std.proofs.Math.Option.{Option, none, some}
use Rattle.names.specs.declared.numbering.NumberClass.{NumberClass}

-- A value is a name, or it carries a number that has no name and is reserved or private.
abbrev pub Class : Type 0
Class = ℕ

abbrev pub named : Class
named = 0

abbrev pub reserved : Class
reserved = 1

abbrev pub private : Class
private = 2

-- as it is in Rattle
abbrev pub class_number : NumberClass → Class
class_number NumberClass.Named = named
class_number NumberClass.Reserved = reserved
class_number NumberClass.Private = private

-- what a table says of a value: its number and its class
abbrev pub Entry : Type 0
Entry = ℕ × Class

-- The number and the class of each value, the names in the order of their numbers, and the value of a number that no name has.
pub record Numbering (A : Type 0) : Type 0 where
  pub entry : A → Entry
  pub names : List A
  pub others : ℕ → A

abbrev pub number_in : {A : Type 0} → Numbering A → A → ℕ
number_in T x = (T.entry x).0

abbrev pub class_in : {A : Type 0} → Numbering A → A → Class
class_in T x = (T.entry x).1

-- the name that a number has, if it has one
abbrev pub name_of : {A : Type 0} → (A → ℕ) → List A → ℕ → Option A
name_of number [] n = none
name_of number (x ∷ names) n = pick (eqb n (number x)) (some x) (name_of number names n)

abbrev pub or : {A : Type 0} → Option A → A → A
or none other = other
or (some x) other = x

-- the value that a number stands for
abbrev pub value_of : {A : Type 0} → Numbering A → ℕ → A
value_of T n = or (name_of (number_in T) T.names n) (T.others n)

-- 01, refusal 33: not "a reserved number that has a name or lies in another range". The number of a writable value stands for a value of
-- the same class, which is then the value itself.
abbrev pub writable : {A : Type 0} → Numbering A → A → Bool
writable T x = eqb (class_in T (value_of T (number_in T x))) (class_in T x)
