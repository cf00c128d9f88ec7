-- The identifiers of an accepted section, and what it means that each is one unbroken run of it.
use Rattle.std.specs.Prelude.{ℕ, ◌+◌, ◌-◌, ◌≤◌, cond as pick, List, [], ◌∷◌, ◌++◌, map, ◌≡◌, eqb, length, take, drop, get_or, Ok, Err, Some, None, Option, Result}
use Rattle.command.specs.Command.{of_private}
use Rattle.descriptor.specs.Segmentation as table
use Rattle.descriptor.specs.Segmentation.{detail_upid}
use Rattle.descriptor.specs.Full.{of_segmentation, of_reserved, beside_of}
use Rattle.descriptor.specs.declared.segmentation.DescriptorDetail.{DescriptorDetail}
use Rattle.descriptor.specs.declared.segmentation.SegmentationUpid.{SegmentationUpid}
use Rattle.descriptor_loop.specs.Items.{Listed, items_of}
use Rattle.descriptor_loop.specs.Place.{views_of}
use Rattle.section.specs.declared.Section.{Section}
use Rattle.table.specs.Bits.{bits_of}
use Rattle.table.specs.Lent.{viewed}
use Rattle.table.specs.Table.{Answer, got, short, parse}
use Rattle.table.specs.declared.View.{View}
use Rattle.upid.specs.Cover.{All, Covered, Ascending, Owned, top_part}
use Rattle.upid.specs.Upid.{check_of, part_view, parts_in, reported_of, upid_of}
use Rattle.upid.specs.declared.Part.{Part}
use Rattle.section.specs.Section.{loop_in}
use Rattle.descriptor.specs.declared.Descriptor.{Descriptor}
use Rattle.descriptor_loop.specs.declared.ItemRefusal.{ItemRefusal}

-- ---- an identifier

-- where it starts in the section, how many bytes it has, and the bytes that are handed back for it
pub record Identifier : Type 0 where
  pub start : ℕ
  pub len : ℕ
  pub bytes : List ℕ

-- it lies in the section whole, and its bytes are those of the section from its start on
pub record OneRun (s : List ℕ) (i : Identifier) : Type 0 where
  pub inside : i.start + i.len ≤ length s
  pub run : i.bytes ≡ take i.len (drop i.start s)

-- what a view of the section hands back
abbrev pub in_section : List ℕ → View → Identifier
in_section s v = record { start = v.at; len = v.len; bytes = viewed s v }

-- what a view of lent bytes hands back, where these start at byte `base` of the section
abbrev pub in_lent : ℕ → List ℕ → View → Identifier
in_lent base lent v = record { start = base + v.at; len = v.len; bytes = viewed lent v }

-- ---- of an item: the loop is lent, and starts at byte `base` of the section

-- a segmentation descriptor's UPID
abbrev pub detail_upids : DescriptorDetail → List SegmentationUpid
detail_upids DescriptorDetail.Cancel = []
detail_upids (DescriptorDetail.Active i) = i.segmentation_upid ∷ []

abbrev pub upids_of : Option (Result Descriptor ItemRefusal) → List SegmentationUpid
upids_of None = []
upids_of (Some (Err r)) = []
upids_of (Some (Ok d)) = of_segmentation (λ x. detail_upids x.descriptor_detail) [] d

-- the parts that `read_upid` answers of a UPID, at every level: where it is no MID there are none
abbrev pub parts_read : ℕ → List ℕ → List Part
parts_read upid_type bytes = parts_in (upid_of upid_type bytes)

abbrev pub parts_of : ℕ → List ℕ → SegmentationUpid → List Identifier
parts_of base loop u = map (λ (p : Part). in_lent (base + u.bytes.at) (viewed loop u.bytes) (part_view p)) (parts_read u.upid_type (viewed loop u.bytes))

-- the payload of an item behind its head and identifier, as it is handed to its reader
abbrev pub payload_of : List ℕ → Listed → List ℕ
payload_of loop x = take (x.used - 6) (drop (x.offset + 6) loop)

-- where the UPID that is written in a segmentation descriptor's payload starts
abbrev pub upid_start : Answer table.Segmentation → ℕ
upid_start (got x at) = (detail_upid x.descriptor.descriptor_detail).bytes.at
upid_start (short expected actual) = 0

-- "The EIDR identifier of 12 bytes is held by value"
abbrev pub eidr_of : ℕ → List ℕ → Listed → Identifier
eidr_of base loop x = record {
  start = base + (x.offset + 6 + upid_start (parse table.segmentation (bits_of (payload_of loop x)) 0));
  len = 12;
  bytes = (beside_of (payload_of loop x)).eidr;
}

-- "identifier of 4", which stands beside a reserved descriptor
abbrev pub besides_of : ℕ → ℕ → List ℕ → Option (Result Descriptor ItemRefusal) → List Identifier
besides_of base offset id None = []
besides_of base offset id (Some (Err r)) = []
besides_of base offset id (Some (Ok d)) = of_reserved (record { start = base + (offset + 2); len = 4; bytes = id } ∷ []) [] d

abbrev pub each : {A B : Type 0} → (A → List B) → List A → List B
each f [] = []
each f (x ∷ xs) = f x ++ each f xs

-- DTMF characters, a UPID, private bytes, the text of refusal 24; every part of a MID; an EIDR; the identifier of a reserved descriptor
abbrev pub identifiers_of_item : ℕ → List ℕ → Listed → List Identifier
identifiers_of_item base loop x =
    map (in_lent base loop) (views_of x.step.item)
    ++ (each (λ (u : SegmentationUpid). parts_of base loop u ++ pick (eqb u.upid_type 10) (eidr_of base loop x ∷ []) []) (upids_of x.step.item)
    ++ besides_of base x.offset x.step.identifier x.step.item)

-- ---- of a section

-- a private command's bytes, and the identifiers of each item
unfoldable pub identifiers_of : List ℕ → Section → List Identifier
identifiers_of s x = of_private (λ p. in_section s p.private_bytes ∷ []) [] x.command ++ each (identifiers_of_item x.descriptors.at (loop_in s x)) (items_of (loop_in s x))

-- ---- a MID of a section

-- a part of a MID, in the section: it is one run, and the two bytes before it are its own head, its type and its length
pub record Announced (s : List ℕ) (p : Part) (i : Identifier) : Type 0 where
  pub unbroken : OneRun s i
  pub behind : 2 ≤ i.start
  pub upid_type : p.upid_type ≡ reported_of (get_or s (i.start - 2) 0)
  pub len : i.len ≡ get_or s (i.start - 1) 0

-- A MID of the section: its bytes are one run; it is accepted; each of its parts, at every level, is what its own head announces; the direct parts of each MID
-- in it, heads included, cover that MID once, and no other cutting does; no part is listed that is not a direct part of it or of a MID in it; and the list is in
-- byte order, "outer part before its inner ones".
pub record Unsplit (s : List ℕ) (mid : Identifier) : Type 0 where
  pub unbroken : OneRun s mid
  pub accepted : check_of 13 mid.bytes ≡ Ok 13
  pub parts : All (λ (p : Part). Announced s p (in_lent mid.start mid.bytes (part_view p))) (parts_read 13 mid.bytes)
  pub covered : All (λ (m : Part). m.upid_type ≡ 13 → Covered mid.bytes (parts_read 13 mid.bytes) m) (top_part mid.bytes ∷ parts_read 13 mid.bytes)
  pub owned : All (Owned (top_part mid.bytes ∷ parts_read 13 mid.bytes)) (parts_read 13 mid.bytes)
  pub ordered : Ascending (parts_read 13 mid.bytes)
