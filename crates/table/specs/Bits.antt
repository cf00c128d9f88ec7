-- Bits, numbers and bytes. A bit is 0 or 1, a byte is a number below 256, and the high bit comes first.
use Rattle.std.specs.Prelude.{ℕ, zero, suc, ◌+◌, ◌*◌, ◌/◌, ◌%◌, ◌^◌, ◌<◌, List, [], ◌∷◌, ◌++◌, length, take, drop}
-- the library's choice: the first where the test holds, else the second
pub use Rattle.std.specs.Prelude.{cond as pick}

-- the low w bits of a number
abbrev pub bits_of_num : ℕ → ℕ → List ℕ
bits_of_num zero v = []
bits_of_num (suc w) v = v / 2 ^ w % 2 ∷ bits_of_num w v

-- the bits of bytes
abbrev pub bits_of : List ℕ → List ℕ
bits_of [] = []
bits_of (b ∷ bs) = bits_of_num 8 b ++ bits_of bs

-- the number whose bits are those of acc and then these
abbrev pub num : ℕ → List ℕ → ℕ
num acc [] = acc
num acc (b ∷ bs) = num (acc * 2 + b) bs

-- the number in the w bits from bit `at` on, as far as they are there
abbrev pub field : List ℕ → ℕ → ℕ → ℕ
field bs at w = num 0 (take w (drop at bs))

-- bits as bytes, eight at a time: n of them, and all
abbrev pub bytes_n : ℕ → List ℕ → List ℕ
bytes_n zero bs = []
bytes_n (suc n) bs = field bs 0 8 ∷ bytes_n n (drop 8 bs)

abbrev pub bytes_of : List ℕ → List ℕ
bytes_of bs = bytes_n (length bs / 8) bs

-- the low n bytes of a number, the high one first
abbrev pub big_endian : ℕ → ℕ → List ℕ
big_endian zero v = []
big_endian (suc n) v = v / 2 ^ (n * 8) % 256 ∷ big_endian n v

-- all are bytes
abbrev pub AllBytes : List ℕ → Type 0
AllBytes [] = Unit {0}
AllBytes (b ∷ bs) = (b < 256) × AllBytes bs
