-- What it means that the parts of a MID cover it, and that it can be cut in no other way.
use Rattle.std.specs.Prelude.{ℕ, ◌+◌, ◌≤◌, ◌<◌, Bool, true, ◌&&◌, cond as pick, ◌≡◌, leb, ltb, eqb, length, take, drop}
use mathlib.Core.List.{List, [], ◌∷◌, ◌++◌, map, Memᴰ}
use Rattle.upid.specs.Upid.{reported_of}
use Rattle.upid.specs.declared.Part.{Part}

-- every one of these
pub data All {A : Type 0} (P : A → Type 0) : List A → Type 0 where
  none : All P []
  more : {x : A} {xs : List A} → P x → All P xs → All P (x ∷ xs)

-- ---- the rules of a cutting, which know nothing of a reader

-- one piece of a MID that is cut up: a type and a payload
pub record Cut : Type 0 where
  pub upid_type : ℕ
  pub payload : List ℕ

-- A cutting of a MID is a list of pieces whose join is the MID: one after the other, each with its head, the type and the payload's length.
unfoldable pub joined : List Cut → List ℕ
joined [] = []
joined (c ∷ cs) = c.upid_type ∷ (length c.payload ∷ (c.payload ++ joined cs))

-- ---- a MID and its direct parts

-- the top MID as a record beside those of its parts
abbrev pub top_part : List ℕ → Part
top_part top = record { upid_type = 13; level = 0; start = 0; len = length top }

-- the bytes of a part are one run of the top UPID
abbrev pub bytes_of : List ℕ → Part → List ℕ
bytes_of top p = take p.len (drop p.start top)

-- whether p is a direct part of m: it is one level down, and its head of two bytes and its payload lie in m
unfoldable pub directly : Part → Part → Bool
directly m p = eqb p.level (m.level + 1) && leb (m.start + 2) p.start && leb (p.start + p.len) (m.start + m.len)

unfoldable pub direct_of : Part → List Part → List Part
direct_of m [] = []
direct_of m (p ∷ ps) = pick (directly m p) (p ∷ direct_of m ps) (direct_of m ps)

-- the records of pieces that follow one another from `start` on
unfoldable pub placed : ℕ → ℕ → List Cut → List Part
placed level start [] = []
placed level start (c ∷ cs) =
    record { upid_type = reported_of c.upid_type; level = level; start = start + 2; len = length c.payload }
    ∷ placed level (start + (2 + length c.payload)) cs

-- ---- the claims

-- The direct parts of the MID m among all parts of the top UPID are the pieces of one cutting, in order and in their places, each with its
-- payload's bytes; and no other cutting joins to m's bytes.
pub record Covered (top : List ℕ) (ps : List Part) (m : Part) : Type 0 where
  pub cutting : List Cut
  pub joins : joined cutting ≡ bytes_of top m
  pub only : (other : List Cut) → joined other ≡ bytes_of top m → other ≡ cutting
  pub pieces : direct_of m ps ≡ placed (m.level + 1) m.start cutting
  pub runs : map (bytes_of top) (direct_of m ps) ≡ map (λ (c : Cut). c.payload) cutting

-- each part starts after the one before it: the list is in byte order, and each part stands before those inside it
pub data Ascending : List Part → Type 0 where
  nothing : Ascending []
  before : {p : Part} {ps : List Part} → All (λ (q : Part). p.start < q.start) ps → Ascending ps → Ascending (p ∷ ps)

-- the part p is a direct part of one of these MIDs
pub record Owned (ms : List Part) (p : Part) : Type 0 where
  pub mid : Part
  pub found : Memᴰ mid ms
  pub upid_type : mid.upid_type ≡ 13
  pub direct : directly mid p ≡ true

-- ---- the same, byte by byte

-- whether byte i of the top UPID lies in a part, its head of two bytes included
unfoldable pub lies : ℕ → Part → Bool
lies i p = leb p.start (i + 2) && ltb i (p.start + p.len)

-- in how many of the parts it lies
unfoldable pub times : ℕ → List Part → ℕ
times i [] = 0
times i (p ∷ ps) = pick (lies i p) 1 0 + times i ps

-- each byte of the MID m lies in exactly one of its direct parts
abbrev pub Once : List Part → Part → Type 0
Once ps m = (i : ℕ) → m.start ≤ i → i < m.start + m.len → times i (direct_of m ps) ≡ 1
