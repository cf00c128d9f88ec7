-- A table of the standard as a value: its fields in order, each with the way to find it again in a reading.
-- What a table decides by an earlier field, its `if` and its `for`, is a function of that field's number.
use Rattle.std.specs.Prelude.{ℕ, zero, suc, ◌+◌, ◌*◌, ◌-◌, ◌/◌, ◌^◌, Bool, true, false, ◌&&◌, List, [], ◌∷◌, leb, eqb, length, get_or, drop}
use Rattle.table.specs.Bits.{pick, bits_of, field}
use Rattle.table.specs.declared.View.{View}

pub data Table (X : Type 0) : Type 0 where
  -- the table ends, and this is the reading
  done : X → Table X
  -- w bits, uimsbf: the number in them decides what follows; where a reading has it
  uint : ℕ → (X → ℕ) → (ℕ → Table X) → Table X
  -- n bytes: the offset of the first of them; where a reading has it
  view : ℕ → (X → ℕ) → (ℕ → Table X) → Table X
  -- nothing is taken: the number of bytes that are left; where a reading has it
  left : (X → ℕ) → (ℕ → Table X) → Table X
  -- nothing is taken: what the canonical form asks here, and reading does not
  must : Bool → Table X → Table X

-- a table inside another: t with the reading y, then k y; where a reading has y
abbrev pub inside : {X Y : Type 0} → Table Y → (X → Y) → (Y → Table X) → Table X
inside (done y) q k = k y
inside (uint w p f) q k = uint w (λ x. p (q x)) (λ v. inside (f v) q k)
inside (view n p f) q k = view n (λ x. p (q x)) (λ at. inside (f at) q k)
inside (left p f) q k = left (λ x. p (q x)) (λ m. inside (f m) q k)
inside (must b t) q k = must b (inside t q k)

-- ---- the tables that others are made of

-- a number of w bits
unfoldable pub number : ℕ → Table ℕ
number w = uint w (λ v. v) done

-- a flag of one bit
abbrev pub flag_number : Bool → ℕ
flag_number true = 1
flag_number false = 0

unfoldable pub bit : Table Bool
bit = uint 1 flag_number λ v. done (eqb v 1)

-- w reserved bits: any when read, all 1 in the canonical form
unfoldable pub reserved : ℕ → Table (Unit {0})
reserved w = uint w (λ u. 2 ^ w - 1) λ v. must (eqb v (2 ^ w - 1)) (done tt)

-- a run of n bytes, of which the reading keeps the place
unfoldable pub part : ℕ → Table View
part n = view n (λ v. v.at) λ at. done (record { at = at; len = n })

-- how many bytes are left
unfoldable pub remaining : Table ℕ
remaining = left (λ m. m) done

-- for (i = 0; i < n; i++) { t }, where d stands for what a list lacks
unfoldable pub list : {Y : Type 0} → ℕ → Y → Table Y → Table (List Y)
list zero d t = done []
list (suc n) d t =
    inside t (λ ys. get_or ys 0 d) λ y.
    inside (list n d t) (drop 1) λ ys.
    done (y ∷ ys)

-- ---- the same as a table's next field

abbrev pub uimsbf : {X : Type 0} → ℕ → (X → ℕ) → (ℕ → Table X) → Table X
uimsbf w p k = inside (number w) p k

abbrev pub flag : {X : Type 0} → (X → Bool) → (Bool → Table X) → Table X
flag p k = inside bit p k

abbrev pub ones : {X : Type 0} → ℕ → Table X → Table X
ones w t = inside (reserved w) (λ x. tt) (λ u. t)

-- ---- reading

-- the reading with the bit after it; or refusal 21 with expected and actual
pub data Answer (X : Type 0) : Type 0 where
  got : X → ℕ → Answer X
  short : ℕ → ℕ → Answer X

-- Of the bits bs, from bit `at` on. Of a field of w bits with m left, m < w: 21 (w/8, m/8), rounded down. A missing byte of a run: 21 (1, 0).
abbrev pub parse : {X : Type 0} → Table X → List ℕ → ℕ → Answer X
parse (done y) bs at = got y at
parse (uint w p k) bs at = pick (leb (at + w) (length bs)) (parse (k (field bs at w)) bs (at + w)) (short (w / 8) ((length bs - at) / 8))
parse (view n p k) bs at = pick (leb (at + n * 8) (length bs)) (parse (k (at / 8)) bs (at + n * 8)) (short 1 0)
parse (left p k) bs at = parse (k ((length bs - at) / 8)) bs at
parse (must b t) bs at = parse t bs at

-- of bits that are read: do they have all that the canonical form asks?
abbrev pub canonical : {X : Type 0} → Table X → List ℕ → ℕ → Bool
canonical (done y) bs at = true
canonical (uint w p k) bs at = canonical (k (field bs at w)) bs (at + w)
canonical (view n p k) bs at = canonical (k (at / 8)) bs (at + n * 8)
canonical (left p k) bs at = canonical (k ((length bs - at) / 8)) bs at
canonical (must b t) bs at = b && canonical t bs at

-- the table's fields take all of the bytes: none is missing, and none is spare
abbrev pub takes_all : {X : Type 0} → Answer X → List ℕ → Bool
takes_all (got x at) s = eqb at (length s * 8)
takes_all (short expected actual) s = false

-- read, every reserved bit 1, and no spare byte
unfoldable pub canonical_by : {X : Type 0} → Table X → List ℕ → Bool
canonical_by t s = takes_all (parse t (bits_of s) 0) s && canonical t (bits_of s) 0
