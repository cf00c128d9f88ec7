-- What is proved of a section relabelled there and back, and of its bytes, in the words of specs/Named.antt and specs/Cutting.antt. `Right`
-- (transport_packet/specs/Sections.antt) says that the section's length is what its own section_length says, which no reader looks at. Of an accepted section
-- every other number that is mended is right: the lengths, because it is read by them, and the CRC, because it was tested.
use Prim.Native.Nat.{ℕ, ◌<◌}
use mathlib.Core.Bool.{true}
use mathlib.Core.List.{List, [], ◌∷◌}
use mathlib.Core.Path.{◌≡◌, sym, ◌∙◌}
use lib.ListN.{take, drop, get_or}
use Rattle.relabel.specs.Relabel.{relabel_made}
use Rattle.relabel_laws.specs.Identifiers.{identifiers_in}
use Rattle.section.specs.Section.{section_of}
use Rattle.section.specs.declared.Section.{Section}
use Rattle.canonical_form.specs.Section.{canonical_section}
use Rattle.table.proofs.Bits.{bytes_all}
use Rattle.table.specs.Writing.{made}
use Rattle.transport_laws.proofs.Framing.{canonical_laid}
use Rattle.transport_packet.specs.Sections.{Right}
use Rattle.relabel_trips.specs.Cutting.{CutAt, ByByte}
use Rattle.relabel_trips.specs.Incident.{incident, incident_then, new_bytes, eight_bytes, other_bytes}
use Rattle.relabel_trips.specs.Named.{Named, type_at, identifier_at}
use Rattle.relabel_trips.proofs.ByByte as by_byte
use Rattle.relabel_trips.proofs.Cuttings as cuttings
use Rattle.relabel_trips.proofs.Rows as rows
use Rattle.relabel_trips.proofs.Trips as trips
use Rattle.std.proofs.Common.{Ok}

-- ---- there and back

-- Relabelling with the identifier that is there, its type as it is written, changes nothing: of a section whose section_length is right.
pub the_same_identifier_changes_nothing_of_the_section : (s : List ℕ) (offset part : ℕ) → ((j : ℕ) → get_or s j 0 < 256) → Right s → Named s offset part
    → relabel_made s offset part (type_at s offset part) (identifier_at s offset part) ≡ made s
the_same_identifier_changes_nothing_of_the_section s offset part bytes right n = trips.nothing_changes s offset part bytes n right

-- Relabelling and then relabelling back, with the identifier that was there, gives the old section: of one whose section_length was right.
pub relabelled_back_is_the_old_section : (s : List ℕ) (offset part k : ℕ) (new r : List ℕ) → ((j : ℕ) → get_or s j 0 < 256) → k < 256 → Right s
    → relabel_made s offset part k new ≡ made r → relabel_made r offset part (type_at s offset part) (identifier_at s offset part) ≡ made s
relabelled_back_is_the_old_section s offset part k new r bytes byte right e = trips.back_again s offset part k new r bytes byte e right

-- ---- and exactly then

pub only_where_section_length_was_right : (s : List ℕ) (offset part : ℕ) → ((j : ℕ) → get_or s j 0 < 256) → Named s offset part
    → relabel_made s offset part (type_at s offset part) (identifier_at s offset part) ≡ made s → Right s
only_where_section_length_was_right s offset part bytes n e = trips.only_then s offset part bytes n e

-- Of whatever `relabel` writes section_length is right.
pub what_is_written_is_right : (s : List ℕ) (offset part k : ℕ) (new r : List ℕ) → ((j : ℕ) → get_or s j 0 < 256) → k < 256 → relabel_made s offset part k new ≡ made r → Right r
what_is_written_is_right = trips.is_right

-- Whatever it was, nothing else stands in the way: section_length is mended, the CRC with it, and there and back comes to the same.
pub whatever_section_length_was : (s : List ℕ) (offset part k : ℕ) (new r : List ℕ) → ((j : ℕ) → get_or s j 0 < 256) → k < 256 → relabel_made s offset part k new ≡ made r
    → relabel_made r offset part (type_at s offset part) (identifier_at s offset part) ≡ relabel_made s offset part (type_at s offset part) (identifier_at s offset part)
whatever_section_length_was s offset part k new r bytes byte e =
    trips.mends_back s offset part k new r bytes byte e ∙ sym (trips.mends s offset part bytes (trips.was_named s offset part k new r bytes byte e))

-- Where something was written there was an identifier of that number.
pub what_is_written_was_named : (s : List ℕ) (offset part k : ℕ) (new r : List ℕ) → ((j : ℕ) → get_or s j 0 < 256) → k < 256 → relabel_made s offset part k new ≡ made r → Named s offset part
what_is_written_was_named = trips.was_named

-- Every canonical section has it.
pub canonical_is_right : (s : List ℕ) (x : Section) → ((j : ℕ) → get_or s j 0 < 256) → section_of s ≡ Ok x → canonical_section s ≡ true → Right s
canonical_is_right s x bytes e c = (canonical_laid s x (bytes_all s bytes) e c).right

-- ---- no other byte changes

-- Every byte of the result is a byte of the old section in its order, a byte of the new identifier or of its head, a length that counts it, or the CRC.
-- Nothing is asked of section_length, reserved bits, spare bytes or the other items.
pub every_byte_is_accounted_for : (s : List ℕ) (offset part k : ℕ) (new r : List ℕ) → ((j : ℕ) → get_or s j 0 < 256) → k < 256 → relabel_made s offset part k new ≡ made r
    → CutAt s offset part k new r
every_byte_is_accounted_for = cuttings.cutting

-- The same of the two sections themselves.
pub every_byte_by_its_place : (s : List ℕ) (offset part k : ℕ) (new r : List ℕ) → ((j : ℕ) → get_or s j 0 < 256) → k < 256 → relabel_made s offset part k new ≡ made r
    → ByByte s offset part k new r
every_byte_by_its_place s offset part k new r bytes byte e = by_byte.by_byte s offset part k new r (cuttings.cutting s offset part k new r bytes byte e)

-- ---- the incident

-- The incident's cue, whose MID has identifiers of 8 and of 12 bytes: the eight-byte part becomes twelve bytes long, every length around it and the CRC are
-- mended, and the other's twelve bytes are untouched; relabelled back it is the same cue, whose section_length was right.
pub the_incident : (relabel_made incident 0 1 3 new_bytes ≡ made incident_then)
    × (take 12 (drop 47 incident) ≡ other_bytes) × (take 12 (drop 51 incident_then) ≡ other_bytes)
    × (relabel_made incident_then 0 1 8 eight_bytes ≡ made incident) × Right incident
the_incident = (rows.becomes, (rows.untouched).0, (rows.untouched).1, rows.becomes_again, rows.incident_right)

-- The lists of its identifiers: the same but for that one, and its type and bytes by the definitions above.
pub the_incidents_identifiers : (identifiers_in incident ≡ record { level = 1; upid_type = 8; bytes = eight_bytes } ∷ (record { level = 1; upid_type = 3; bytes = other_bytes } ∷ []))
    × (identifiers_in incident_then ≡ record { level = 1; upid_type = 3; bytes = new_bytes } ∷ (record { level = 1; upid_type = 3; bytes = other_bytes } ∷ []))
    × (type_at incident 0 1 ≡ 8) × (identifier_at incident 0 1 ≡ eight_bytes)
the_incidents_identifiers = (rows.listed_before, rows.listed_after, (rows.incident_named).0, (rows.incident_named).1)
