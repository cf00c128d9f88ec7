-- What the theorems on the single box speak of: a reading with another pts_adjustment, and a box behind another.
use Rattle.std.specs.Prelude.{ℕ}
use Rattle.header.specs.declared.header.SpliceInfoHeader.{SpliceInfoHeader}
use Rattle.section.specs.declared.Section.{Section}
use Rattle.table.specs.Writing.{Made, made, refused}
use Rattle.adjust_section.specs.Adjusted.{adjusted_section}

abbrev pub header_with : ℕ → SpliceInfoHeader → SpliceInfoHeader
header_with p h = record {
  protocol_version = h.protocol_version;
  encrypted_packet = h.encrypted_packet;
  encryption_algorithm = h.encryption_algorithm;
  pts_adjustment = p;
  cw_index = h.cw_index;
  tier = h.tier;
  splice_command_length = h.splice_command_length;
  splice_command_type = h.splice_command_type;
}

-- the same reading but for the header's pts_adjustment
abbrev pub reading_with : ℕ → Section → Section
reading_with p x = record { header = header_with p x.header; command = x.command; descriptors = x.descriptors; payload = x.payload }

-- what came out of one box, through the next; a refusal stands
abbrev pub and_then : Made → ℕ → Made
and_then (made s) b = adjusted_section s b
and_then (refused n) b = refused n
