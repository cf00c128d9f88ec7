-- The splice header. 01, "Section".
use Rattle.std.specs.Prelude.{ℕ, List, Some, None, Option}
use Rattle.names.specs.Algorithm.{algorithm_number, algorithm_of}
use Rattle.names.specs.Command.{command_number, command_type_of}
use Rattle.table.specs.Bits.{bits_of}
use Rattle.table.specs.Table.{Table, done, uimsbf, flag, Answer, got, short, parse}
use Rattle.header.specs.declared.header.SpliceInfoHeader.{SpliceInfoHeader}

-- "protocol_version 8, encrypted 1, algorithm 6, pts_adjustment 33, cw_index 8, tier 12, command length 12, command type 8"
unfoldable pub splice_header : Table SpliceInfoHeader
splice_header =
    uimsbf 8 (λ h. h.protocol_version) λ protocol_version.
    flag (λ h. h.encrypted_packet) λ encrypted_packet.
    uimsbf 6 (λ h. algorithm_number h.encryption_algorithm) λ encryption_algorithm.
    uimsbf 33 (λ h. h.pts_adjustment) λ pts_adjustment.
    uimsbf 8 (λ h. h.cw_index) λ cw_index.
    uimsbf 12 (λ h. h.tier) λ tier.
    uimsbf 12 (λ h. h.splice_command_length) λ splice_command_length.
    uimsbf 8 (λ h. command_number h.splice_command_type) λ splice_command_type.
    done (record {
      protocol_version = protocol_version;
      encrypted_packet = encrypted_packet;
      encryption_algorithm = algorithm_of encryption_algorithm;
      pts_adjustment = pts_adjustment;
      cw_index = cw_index;
      tier = tier;
      splice_command_length = splice_command_length;
      splice_command_type = command_type_of splice_command_type;
    })

-- what a reader answers: the header, or refusal 5
unfoldable pub header_read : Answer SpliceInfoHeader → Option SpliceInfoHeader
header_read (got h at) = Some h
header_read (short expected actual) = None

unfoldable pub header_of : List ℕ → Option SpliceInfoHeader
header_of s = header_read (parse splice_header (bits_of s) 0)

-- 01's number of the refusal; it has no values
abbrev pub number_of : Option SpliceInfoHeader → ℕ
number_of (Some h) = 0
number_of None = 5
