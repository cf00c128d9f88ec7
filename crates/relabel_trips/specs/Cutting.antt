-- The section and the relabelled section, cut at the identifier: every byte of the result is a byte of the old section in its order, a byte of the new
-- identifier with its head, a length that counts it, or the CRC.
use Rattle.std.specs.Prelude.{ℕ, zero, suc, ◌+◌, ◌-◌, ◌/◌, ◌≤◌, ◌<◌, List, [], ◌∷◌, ◌++◌, map, ◌≡◌, length, take, drop, get_or}
use Rattle.crc.specs.Crc.{crc_bytes_of}
use Rattle.relabel.specs.Relabel.{payload_in}
use Rattle.relabel_found.specs.Found.{type_in, upid_in}
use Rattle.relabel_payload.specs.Payload.{upid_head}
use Rattle.relabel_upid.specs.Relabel.{around, part_at}
use Rattle.section.specs.Section.{command_length, loop_length}
use Rattle.table.specs.Bits.{pick}
use Rattle.transport_packet.specs.Sections.{Right}
use Rattle.upid.specs.Cover.{All}
use Rattle.upid.specs.Upid.{upid_of, parts_in}
use Rattle.upid.specs.declared.Part.{Part}
use Rattle.relabel_trips.specs.Named.{type_at, identifier_at}

-- ---- places

-- the head of the item's UPID: behind the loop's length, the item's offset, the item's own head and identifier, and the payload's fields
abbrev pub upid_place : List ℕ → ℕ → ℕ
upid_place s offset = 16 + command_length s + offset + 6 + upid_head (payload_in s offset)

-- the head of the identifier, from the UPID's head on: a part's `start` is that of its payload, and counts from the UPID's payload on
abbrev pub head_within : ℕ → List ℕ → ℕ → ℕ
head_within upid_type top zero = 0
head_within upid_type top (suc i) = (part_at (parts_in (upid_of upid_type top)) i).start

abbrev pub head_at : List ℕ → ℕ → ℕ → ℕ
head_at s offset part = upid_place s offset + head_within (type_in (payload_in s offset)) (upid_in (payload_in s offset)) part

-- ---- the lengths that count the identifier, outermost first

-- in the heads of the MIDs around p, among the parts that are listed before it
unfoldable pub lengths_around : Part → List Part → List ℕ
lengths_around p [] = []
lengths_around p (q ∷ qs) = pick (around p q) ((q.start + 1) ∷ lengths_around p qs) (lengths_around p qs)

-- from the UPID's head on: the UPID's own, and those of the MIDs around; where the UPID itself is the identifier, its length stands in the new head
abbrev pub lengths_within : ℕ → List ℕ → ℕ → List ℕ
lengths_within upid_type top zero = []
lengths_within upid_type top (suc i) = 1 ∷ lengths_around (part_at (parts_in (upid_of upid_type top)) i) (take i (parts_in (upid_of upid_type top)))

-- the places of those of one byte: the item's, and these
abbrev pub byte_lengths : List ℕ → ℕ → ℕ → List ℕ
byte_lengths s offset part =
    (16 + command_length s + offset + 1)
    ∷ map (λ (j : ℕ). upid_place s offset + j) (lengths_within (type_in (payload_in s offset)) (upid_in (payload_in s offset)) part)

-- every byte that holds one: before them the two bytes of section_length, and the two of descriptor_loop_length
abbrev pub length_bytes : List ℕ → ℕ → ℕ → List ℕ
length_bytes s offset part = 1 ∷ (2 ∷ ((14 + command_length s) ∷ ((14 + command_length s + 1) ∷ byte_lengths s offset part)))

abbrev pub NotIn : List ℕ → ℕ → Type 0
NotIn places j = All (λ (at : ℕ). at ≡ j → ⊥) places

-- ---- the claim

-- bytes with the CRC of them
abbrev pub with_crc : List ℕ → List ℕ
with_crc body = body ++ crc_bytes_of body

-- r is the section s in which part number `part` of the item at `offset` became an identifier of type `upid_type_number` with the bytes `new`
pub record CutAt (s : List ℕ) (offset part upid_type_number : ℕ) (new r : List ℕ) : Type 0 where
  pub before : List ℕ
  pub mended : List ℕ
  pub after : List ℕ
  -- the old section: what stands before the identifier, its type, length and bytes, what stands after it, and the CRC
  pub old : s ≡ with_crc (before ++ (type_at s offset part ∷ (length (identifier_at s offset part) ∷ (identifier_at s offset part ++ after))))
  -- the new one: the same with lengths mended, the new type, length and bytes, and what stood after the old one; the CRC is that of this
  pub then : r ≡ with_crc (mended ++ (upid_type_number ∷ (length new ∷ (new ++ after))))
  -- before the identifier nothing moves, and no byte changes but those that hold a length that counts it
  pub place : length before ≡ head_at s offset part
  pub size : length mended ≡ head_at s offset part
  pub stays : (j : ℕ) → NotIn (length_bytes s offset part) j → get_or mended j 0 ≡ get_or before j 0
  -- section_length is that of r, and the four bits before it stay; every other counts the new identifier's bytes in place of the old one's
  pub right : Right r
  pub bits : get_or r 1 0 / 16 ≡ get_or s 1 0 / 16
  pub loop : loop_length r ≡ loop_length s - length (identifier_at s offset part) + length new
  pub lengths : All (λ (at : ℕ). get_or r at 0 ≡ get_or s at 0 - length (identifier_at s offset part) + length new) (byte_lengths s offset part)

-- how many bytes stand after it, the CRC excluded
abbrev pub after_size : List ℕ → ℕ → ℕ → ℕ
after_size s offset part = length s - 4 - (head_at s offset part + 2 + length (identifier_at s offset part))

-- Every byte of the two sections, by its place: the place of the identifier's head is `head_at`, and it has two bytes.
pub record ByByte (s : List ℕ) (offset part upid_type_number : ℕ) (new r : List ℕ) : Type 0 where
  -- as many bytes as there are more or less of the identifier; what stands before, the identifier, what stands after, and the CRC are all
  pub long : (length r ≡ length s - length (identifier_at s offset part) + length new)
      × (head_at s offset part + 2 + length (identifier_at s offset part) + 4 ≤ length s)
  -- before the identifier every byte is the old one, but those that hold a length that counts it (`CutAt` says what they hold)
  pub before : (j : ℕ) → j < head_at s offset part → NotIn (length_bytes s offset part) j → get_or r j 0 ≡ get_or s j 0
  -- then the new type, length and bytes
  pub upid_type : get_or r (head_at s offset part) 0 ≡ upid_type_number
  pub counted : get_or r (head_at s offset part + 1) 0 ≡ length new
  pub run : take (length new) (drop (head_at s offset part + 2) r) ≡ new
  -- then all that stood after the old one, up to the CRC
  pub after : take (after_size s offset part) (drop (head_at s offset part + 2 + length new) r)
      ≡ take (after_size s offset part) (drop (head_at s offset part + 2 + length (identifier_at s offset part)) s)
  -- and the CRC of all that
  pub crc : drop (length r - 4) r ≡ crc_bytes_of (take (length r - 4) r)
