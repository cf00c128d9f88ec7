-- What Q-12's single box answers of a section, and what it leaves of it: by the section's bytes and its reading.
use Rattle.std.specs.Prelude.{ℕ, ◌+◌, ◌%◌, ◌^◌, ◌<◌, ◌≤◌, List, ◌≡◌, eqb, ltb, length, get_or, Ok, Err, Result}
use Rattle.adjust_section.specs.Readings.{reading_with}
use Rattle.c_section.specs.declared.headers.FlatHeader.{FlatHeader}
use Rattle.c_section.specs.declared.sections.FlatSection.{FlatSection}
use Rattle.section.specs.Section.{conditions, first, section_of}
use Rattle.section.specs.declared.Section.{Section}
use Rattle.table.specs.Bits.{pick, bits_of, field}

-- "1 to 11 for the section, 32, 36", or the section's own length; the target has `room` bytes
unfoldable pub adjust_answered : List ℕ → ℕ → ℕ → Result ℕ ℕ
adjust_answered s a room =
    pick (eqb (first 1 (conditions s)) 0)
    (pick (ltb a (2 ^ 33)) (pick (ltb room (length s)) (Err 36) (Ok (length s))) (Err 32))
    (Err (first 1 (conditions s)))

-- r is the section s with a added to its pts_adjustment: it reads the same but for that, and no byte differs but for 4 to 8, of which the first seven
-- bits stay, and the CRC
pub record AdjustedTo (s : List ℕ) (a : ℕ) (r : List ℕ) : Type 0 where
  pub reading : Section
  pub was : section_of s ≡ Ok reading
  pub reads : section_of r ≡ Ok (reading_with ((reading.header.pts_adjustment + a) % 8589934592) reading)
  pub size : length r ≡ length s
  pub start : (k : ℕ) → k < 4 → get_or r k 0 ≡ get_or s k 0
  pub bits : field (bits_of r) 32 7 ≡ field (bits_of s) 32 7
  pub rest : (k : ℕ) → 9 ≤ k → k + 4 < length s → get_or r k 0 ≡ get_or s k 0

-- the words of a reading over C, with another pts_adjustment
abbrev pub flat_header_with : ℕ → FlatHeader → FlatHeader
flat_header_with p h = record {
  refusal = h.refusal;
  protocol_version = h.protocol_version;
  encrypted_packet = h.encrypted_packet;
  encryption_algorithm = h.encryption_algorithm;
  pts_adjustment = p;
  cw_index = h.cw_index;
  tier = h.tier;
  splice_command_length = h.splice_command_length;
  splice_command_type = h.splice_command_type;
}

abbrev pub flat_with : ℕ → FlatSection → FlatSection
flat_with p f = record { refusal = f.refusal; header = flat_header_with p f.header; command = f.command; descriptors = f.descriptors; payload = f.payload }
