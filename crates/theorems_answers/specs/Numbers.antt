-- The named numbers by the numbers themselves: which have a name, and what is answered of each over C; and what the functions of an enum are to each other.
use Rattle.std.specs.Prelude.{ℕ, ◌≤◌, Bool, true, false, List, [], ◌∷◌, ◌≡◌, eqb, ltb}
use Rattle.names.specs.Flags.{Answer, gives, refuses}
use Rattle.scte35.specs.declared.numbers.FlatNumber.{FlatNumber}
use Rattle.table.specs.Bits.{pick}

-- whether a number stands in a list
abbrev pub among : ℕ → List ℕ → Bool
among n [] = false
among n (k ∷ ks) = pick (eqb n k) true (among n ks)

-- ---- the numbers that have a name

abbrev pub algorithm_numbers : List ℕ
algorithm_numbers = 0 ∷ 1 ∷ 2 ∷ 3 ∷ []

abbrev pub command_type_numbers : List ℕ
command_type_numbers = 0x00 ∷ 0x04 ∷ 0x05 ∷ 0x06 ∷ 0x07 ∷ 0xff ∷ []

abbrev pub upid_type_numbers : List ℕ
upid_type_numbers = 0 ∷ 1 ∷ 2 ∷ 3 ∷ 4 ∷ 5 ∷ 6 ∷ 7 ∷ 8 ∷ 9 ∷ 10 ∷ 11 ∷ 12 ∷ 13 ∷ 14 ∷ 15 ∷ []

-- programs, chapters and breaks, advertisements and placement opportunities, unscheduled events, networks
abbrev pub segmentation_type_numbers : List ℕ
segmentation_type_numbers =
    0x00 ∷ 0x01
    ∷ 0x10 ∷ 0x11 ∷ 0x12 ∷ 0x13 ∷ 0x14 ∷ 0x15 ∷ 0x16 ∷ 0x17 ∷ 0x18 ∷ 0x19
    ∷ 0x20 ∷ 0x21 ∷ 0x22 ∷ 0x23
    ∷ 0x30 ∷ 0x31 ∷ 0x32 ∷ 0x33 ∷ 0x34 ∷ 0x35 ∷ 0x36 ∷ 0x37
    ∷ 0x40 ∷ 0x41 ∷ 0x50 ∷ 0x51 ∷ []

abbrev pub flag_numbers : List ℕ
flag_numbers = 0 ∷ 1 ∷ []

abbrev pub restriction_numbers : List ℕ
restriction_numbers = 0 ∷ 1 ∷ 2 ∷ 3 ∷ []

-- ---- what is answered: the class is 0 named, 1 reserved, 2 private

-- every number is answered with itself: class 0 where it has a name, and else another
abbrev pub classed : List ℕ → ℕ → ℕ → FlatNumber
classed names other n = record { refusal = 0; class = pick (among n names) 0 other; number = n }

-- 01: algorithms "4 to 31 reserved, 32 to 63 private; as a bare number, 64 to 255 too"
abbrev pub algorithm_class : ℕ → ℕ
algorithm_class n = pick (ltb n 32) 1 2

-- only a number that has a name is answered with itself; 12: "a flag number over 1 or a restriction number over 3"
abbrev pub or_twelve : List ℕ → ℕ → FlatNumber
or_twelve names n = pick (among n names) (record { refusal = 0; class = 0; number = n }) (record { refusal = 12; class = 0; number = 0 })

-- ---- in Rattle: what `from`, `into` and `writable` of an enum may answer
pub record Numbered {A : Type 0} (From : ℕ → A → Type 0) (Id : A → ℕ → Type 0) (Writable : A → Bool → Type 0) : Type 0 where
  -- the value that a number stands for has that number
  pub number : (n k : ℕ) (x : A) → From n x → Id x k → k ≡ n
  -- a value is writable exactly if its own number stands for it
  pub own : (x y : A) (k : ℕ) → Writable x true → Id x k → From k y → y ≡ x
  pub only : (x : A) (k : ℕ) (b : Bool) → Id x k → From k x → Writable x b → b ≡ true

-- `try_from` and `into`: the numbers below `count` have a value
pub record Flagged {A : Type 0} (From : ℕ → Answer A → Type 0) (Number : A → ℕ → Type 0) (count : ℕ) : Type 0 where
  pub number : (n k : ℕ) (x : A) → From n (gives x) → Number x k → k ≡ n
  pub own : (x : A) (k : ℕ) (r : Answer A) → Number x k → From k r → r ≡ gives x
  pub refused : (n : ℕ) (r : Answer A) → From n r → count ≤ n → r ≡ refuses 12 []
