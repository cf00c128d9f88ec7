-- The words of a header, and what is answered of those of a header and of a command: refused by 31, 32 or 33, or answered as the section writer answers of the
-- values whose words they are (34 and 35 too). 01, "Refusal numbers".
use Rattle.std.specs.Prelude.{ℕ, Bool, true, false, ◌&&◌, List, [], ◌∷◌, ◌≡◌}
use Rattle.command.specs.Command.{array}
use Rattle.command.specs.declared.SpliceCommand.{SpliceCommand}
use Rattle.command.specs.declared.components.InsertComponent.{InsertComponent}
use Rattle.command_measure.specs.Made.{command_made}
use Rattle.c_section.specs.Flat.{flat_header}
use Rattle.c_section.specs.declared.headers.FlatHeader.{FlatHeader}
use Rattle.c_command_writer.specs.CommandWords.{CommandIs, command_seen, command_fits}
use Rattle.c_command_writer.specs.Words.{within, same}
use Rattle.header.specs.declared.header.SpliceInfoHeader.{SpliceInfoHeader}
use Rattle.names.specs.Algorithm.{writable_algorithm}
use Rattle.section_writer.specs.Writing.{section_made, type_of}
use Rattle.table.specs.Writing.{Made, refused}

-- ---- struct scte35_header: of its words, the command's length and type, which the writer works out, are not looked at
unfoldable pub header_words : FlatHeader → List ℕ
header_words h =
    h.refusal ∷ h.protocol_version ∷ h.encrypted_packet ∷ h.encryption_algorithm ∷ h.pts_adjustment ∷ h.cw_index ∷ h.tier ∷ []

-- in the same order
unfoldable pub header_widths : List ℕ
header_widths = 64 ∷ 8 ∷ 1 ∷ 6 ∷ 33 ∷ 8 ∷ 12 ∷ []

-- ---- what is answered
-- the words are those of h. (A reserved algorithm whose number has a name has the words of that name.)
pub record HeaderIs (words : List ℕ) (h : SpliceInfoHeader) : Type 0 where
  pub own : same (header_words (flat_header h)) words ≡ true
  pub writable : writable_algorithm h.encryption_algorithm ≡ true

-- refusal 32: "a number or count handed in exceeds its field"
unfoldable pub section_fits : List ℕ → List ℕ → List ℕ → Bool
section_fits header command components = within header_widths header && command_fits command components

-- as of a command's words
pub data SectionAnswer (header command components lent loop : List ℕ) : Made → Type 0 where
  outside : command_seen command lent ≡ false → SectionAnswer header command components lent loop (refused 31)
  over : command_seen command lent ≡ true → section_fits header command components ≡ false → SectionAnswer header command components lent loop (refused 32)
  nobodys : command_seen command lent ≡ true → section_fits header command components ≡ true
      → ((h : SpliceInfoHeader) (c : SpliceCommand) (cs : List InsertComponent) → HeaderIs header h → CommandIs command components c cs → ⊥)
      → SectionAnswer header command components lent loop (refused 33)
  its : (h : SpliceInfoHeader) (c : SpliceCommand) (cs : List InsertComponent) → HeaderIs header h → CommandIs command components c cs
      → SectionAnswer header command components lent loop (section_made h (command_made c (array cs) lent) (type_of c) loop)
