-- What the words of a header and of a command over C say of the bytes that they were read of, or written to.
use Rattle.std.specs.Prelude.{ℕ, ◌+◌, List, eqb, ltb, length}
use Rattle.c_command_writer.specs.CommandWords.{CommandIs}
use Rattle.c_section.specs.declared.commands.FlatCommand.{FlatCommand}
use Rattle.c_section.specs.declared.headers.FlatHeader.{FlatHeader}
use Rattle.command.specs.Command.{array}
use Rattle.command.specs.declared.SpliceCommand.{SpliceCommand}
use Rattle.command.specs.declared.components.InsertComponent.{InsertComponent}
use Rattle.table.specs.Bits.{pick, bits_of, field}
use Rattle.theorems_writer.specs.Making.{CommandPayload}

-- ---- struct scte35_header, by the first bit of each field and its width. 01, "Section": "protocol_version 8, encrypted 1, algorithm 6, pts_adjustment 33,
-- cw_index 8, tier 12, command length 12, command type 8"
abbrev pub header_by : ℕ → (ℕ → ℕ → ℕ) → FlatHeader
header_by refusal number =
    record {
      refusal = refusal;
      protocol_version = number 0 8;
      encrypted_packet = number 8 1;
      encryption_algorithm = number 9 6;
      pts_adjustment = number 15 33;
      cw_index = number 48 8;
      tier = number 56 12;
      splice_command_length = number 68 12;
      splice_command_type = number 80 8;
    }

-- of eleven bytes, whatever follows them. 01: "5 | .. a header alone under 11, its only refusal"; 0 stands where there is nothing
abbrev pub header_at : List ℕ → FlatHeader
header_at b = pick (ltb (length b) 11) (header_by 5 (λ at width. 0)) (header_by 0 (field (bits_of b)))

-- ---- a command whose private bytes are counted from `base` bytes before its payload; no other command has any
abbrev pub moved_by : ℕ → FlatCommand → FlatCommand
moved_by base c =
    record {
      refusal = c.refusal;
      splice_command_type = c.splice_command_type;
      insert = c.insert;
      splice_time = c.splice_time;
      identifier = c.identifier;
      private_bytes = record {
        at = pick (eqb c.splice_command_type 0xff) (base + c.private_bytes.at) c.private_bytes.at;
        len = c.private_bytes.len;
      };
    }

-- ---- what was written of the words of a command and of its components: they are those of a command (`CommandIs`), and p is a canonical payload that
-- reads as it
pub record PayloadOf (words components lent p : List ℕ) : Type 0 where
  pub own_command : SpliceCommand
  pub own_components : List InsertComponent
  pub command_is_lem : CommandIs words components own_command own_components
  pub payload : CommandPayload own_command (array own_components) lent p
