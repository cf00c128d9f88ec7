-- Writing by a table, and when two readings are equal.
use Rattle.std.specs.Prelude.{ℕ, ◌+◌, ◌*◌, ◌/◌, ◌^◌, Bool, true, ◌&&◌, List, [], ◌∷◌, ◌++◌, ◌≡◌, ltb, take, drop}
use Rattle.table.specs.Bits.{pick, bits_of_num, bits_of, bytes_of}
use Rattle.table.specs.Lent.{lies_in}
use Rattle.table.specs.Table.{Table, done, uint, view, left, must}

-- what a value has in one field: a number in w bits, n of the lent bytes from an offset on, or how many bytes are left
pub data Field : Type 0 where
  bits : ℕ → ℕ → Field
  run : ℕ → ℕ → Field
  rest : ℕ → Field

-- what a value has in the fields of a table, in their order; whether that is all that the canonical form asks; and the reading at the
-- table's end, its views at the places where they are written
pub record Walk (X : Type 0) : Type 0 where
  pub fields : List Field
  pub writable : Bool
  pub value : X

abbrev pub before : {X : Type 0} → Field → Walk X → Walk X
before f w = record { fields = f ∷ w.fields; writable = w.writable; value = w.value }

abbrev pub asking : {X : Type 0} → Bool → Walk X → Walk X
asking b w = record { fields = w.fields; writable = b && w.writable; value = w.value }

-- the value x through its table, written from bit `at` on
abbrev pub walk : {X : Type 0} → Table X → X → ℕ → Walk X
walk (done y) x at = record { fields = []; writable = true; value = y }
walk (uint w p k) x at = before (bits w (p x)) (walk (k (p x)) x (at + w))
walk (view n p k) x at = before (run n (p x)) (walk (k (at / 8)) x (at + n * 8))
walk (left p k) x at = before (rest (p x)) (walk (k (p x)) x at)
walk (must b t) x at = asking b (walk t x at)

-- refusal 31: does each view lie in the lent bytes?
abbrev pub seen : List ℕ → List Field → Bool
seen lent [] = true
seen lent (bits w v ∷ fs) = seen lent fs
seen lent (run n from ∷ fs) = lies_in lent (record { at = from; len = n }) && seen lent fs
seen lent (rest m ∷ fs) = seen lent fs

-- refusal 32: is each number within its field?
abbrev pub within : List Field → Bool
within [] = true
within (bits w v ∷ fs) = ltb v (2 ^ w) && within fs
within (run n from ∷ fs) = within fs
within (rest m ∷ fs) = within fs

-- what a field holds, wherever its bytes lie
pub data Content : Type 0 where
  number : ℕ → ℕ → Content
  bytes : List ℕ → Content
  count : ℕ → Content

abbrev pub content : List ℕ → Field → Content
content lent (bits w v) = number w v
content lent (run n from) = bytes (take n (drop from lent))
content lent (rest m) = count m

abbrev pub contents : List ℕ → List Field → List Content
contents lent [] = []
contents lent (f ∷ fs) = content lent f ∷ contents lent fs

-- equal readings: x whose views are of the bytes s, and y whose views are of the bytes r, hold the same in every field
abbrev pub Same : {X : Type 0} → Table X → List ℕ → X → List ℕ → X → Type 0
Same t s x r y = contents s (walk t x 0).fields ≡ contents r (walk t y 0).fields

-- the bits of contents, one after the other
abbrev pub bits_in : Content → List ℕ
bits_in (number w v) = bits_of_num w v
bits_in (bytes b) = bits_of b
bits_in (count m) = []

abbrev pub print : List Content → List ℕ
print [] = []
print (c ∷ cs) = bits_in c ++ print cs

-- what is made of a value: its bytes, or the number of a refusal
pub data Made : Type 0 where
  made : List ℕ → Made
  refused : ℕ → Made

-- 0, or the number of the refusal; the bytes, or none
abbrev pub refusal_in : Made → ℕ
refusal_in (made b) = 0
refusal_in (refused n) = n

unfoldable pub bytes_in : Made → List ℕ
bytes_in (made b) = b
bytes_in (refused n) = []

-- 31, 32, 33 in that order; `writable` is what the structure's own rules say of 33
abbrev pub make_of : Bool → List ℕ → List Field → Made
make_of writable lent fs =
    pick (seen lent fs)
    (pick (within fs)
    (pick writable (made (bytes_of (print (contents lent fs))))
    (refused 33))
    (refused 32))
    (refused 31)

abbrev pub make : {X : Type 0} → Table X → Bool → List ℕ → X → Made
make t writable lent x = make_of writable lent (walk t x 0).fields
