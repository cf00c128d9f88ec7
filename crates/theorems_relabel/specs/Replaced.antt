-- What is claimed of a section in which one identifier was replaced: by the list of its identifiers (level, type as written, bytes; relabel_laws/specs).
use Rattle.std.specs.Prelude.{ℕ, zero, suc, List, ◌∷◌, ◌++◌, ◌≡◌, Ok}
use Rattle.relabel.specs.Relabel.{payload_in}
use Rattle.relabel_found.specs.Found.{type_in, upid_in}
use Rattle.relabel_laws.specs.Identifiers.{identifiers_in}
use Rattle.relabel_laws.specs.Result.{Result}
use Rattle.relabel_upid.specs.Kept.{Identifier, identifiers_at, written_type}
use Rattle.relabel_upid.specs.Relabel.{part_at}
use Rattle.section.specs.Section.{section_of}
use Rattle.section.specs.declared.Section.{Section}
use Rattle.upid.specs.Cover.{bytes_of}
use Rattle.upid.specs.Upid.{upid_of, parts_in}

-- what is handed in: the section, which identifier of which item, and the type and the bytes that it gets
pub record Request : Type 0 where
  pub section : List ℕ
  pub offset : ℕ
  pub part : ℕ
  pub upid_type : ℕ
  pub bytes : List ℕ

-- ---- the identifier that is named, as it was. The UPID is `top`, of type `upid_type_number`; part 0 is itself, part i + 1 the i-th of its parts as `read_upid` lists them.

abbrev pub level_of : List ℕ → ℕ → ℕ
level_of top zero = 0
level_of top (suc i) = (part_at (parts_in (upid_of 13 top)) i).level

abbrev pub type_of : ℕ → List ℕ → ℕ → ℕ
type_of upid_type top zero = upid_type
type_of upid_type top (suc i) = written_type top (part_at (parts_in (upid_of 13 top)) i)

abbrev pub run_of : List ℕ → ℕ → List ℕ
run_of top zero = top
run_of top (suc i) = bytes_of top (part_at (parts_in (upid_of 13 top)) i)

-- the UPID of the item
abbrev pub upid_for : Request → List ℕ
upid_for q = upid_in (payload_in q.section q.offset)

abbrev pub type_for : Request → ℕ
type_for q = type_in (payload_in q.section q.offset)

-- ---- r is the section with that one replaced

pub record Relabelled (q : Request) (r : List ℕ) : Type 0 where
  -- it is accepted, and its header and command are those that it had
  pub old : Section
  pub was : section_of q.section ≡ Ok old
  pub then : Section
  pub accepted : section_of r ≡ Ok then
  pub header : then.header ≡ old.header
  pub command : then.command ≡ old.command
  -- the list of its identifiers is the old list with that one replaced: those before it and after it are the same, in the same order
  pub before : List Identifier
  pub after : List Identifier
  pub listed : identifiers_in q.section ≡ before ++ (identifiers_at (level_of (upid_for q) q.part) (type_of (type_for q) (upid_for q) q.part) (run_of (upid_for q) q.part) ++ after)
  pub lists : identifiers_in r ≡ before ++ (identifiers_at (level_of (upid_for q) q.part) q.upid_type q.bytes ++ after)
  -- where it is no MID it is one identifier, whole: of this type, with exactly these bytes
  pub single : (q.upid_type ≡ 13 → ⊥) → identifiers_in r ≡ before ++ (record { level = level_of (upid_for q) q.part; upid_type = q.upid_type; bytes = q.bytes } ∷ after)
  -- every other item reads as it did, and of this item only the UPID differs
  pub stays : Result q.section q.offset q.part q.upid_type q.bytes r
