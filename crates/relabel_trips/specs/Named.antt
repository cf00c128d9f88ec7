-- One identifier of a section, by its item's offset and its number in the item's UPID: whether it is there, its type as it is written, and its bytes.
use Rattle.std.specs.Prelude.{ℕ, zero, suc, ◌<◌, true, List, ◌≡◌, length, Ok}
use Rattle.relabel.specs.Relabel.{payload_in}
use Rattle.relabel_found.specs.Found.{found, type_in, upid_in}
use Rattle.relabel_upid.specs.Kept.{written_type}
use Rattle.relabel_upid.specs.Relabel.{part_at}
use Rattle.section.specs.Section.{loop_bytes, section_of}
use Rattle.section.specs.declared.Section.{Section}
use Rattle.upid.specs.Cover.{bytes_of}
use Rattle.upid.specs.Upid.{upid_of, parts_in}

-- ---- of a UPID: part 0 is the UPID itself, which is none where it is empty; part i + 1 is the i-th of its MID's parts

abbrev pub HasPart : ℕ → List ℕ → ℕ → Type 0
HasPart upid_type_number top zero = 0 < length top
HasPart upid_type_number top (suc i) = i < length (parts_in (upid_of upid_type_number top))

-- 5 and 6 told apart
abbrev pub type_within : ℕ → List ℕ → ℕ → ℕ
type_within upid_type_number top zero = upid_type_number
type_within upid_type_number top (suc i) = written_type top (part_at (parts_in (upid_of upid_type_number top)) i)

abbrev pub identifier_within : ℕ → List ℕ → ℕ → List ℕ
identifier_within upid_type_number top zero = top
identifier_within upid_type_number top (suc i) = bytes_of top (part_at (parts_in (upid_of upid_type_number top)) i)

-- ---- of a section

-- it is accepted, the item at the offset is a segmentation descriptor that is not cancelled, and its UPID has that part
pub record Named (s : List ℕ) (offset part : ℕ) : Type 0 where
  pub old : Section
  pub accepted : section_of s ≡ Ok old
  pub item : found (loop_bytes s) offset ≡ true
  pub has : HasPart (type_in (payload_in s offset)) (upid_in (payload_in s offset)) part

abbrev pub type_at : List ℕ → ℕ → ℕ → ℕ
type_at s offset part = type_within (type_in (payload_in s offset)) (upid_in (payload_in s offset)) part

abbrev pub identifier_at : List ℕ → ℕ → ℕ → List ℕ
identifier_at s offset part = identifier_within (type_in (payload_in s offset)) (upid_in (payload_in s offset)) part
