-- The bytes of a section that is written. 01, "Section": three bytes of common header; 11 of splice header; command; 2 of loop length; loop; 4 of CRC.
use Rattle.std.specs.Prelude.{ℕ, ◌-◌, Bool, not, ◌&&◌, List, [], ◌∷◌, ◌++◌, length}
use Rattle.crc.specs.Crc.{crc_bytes_of}
use Rattle.header.specs.Header.{splice_header}
use Rattle.header.specs.declared.header.SpliceInfoHeader.{SpliceInfoHeader}
use Rattle.names.specs.Algorithm.{writable_algorithm}
use Rattle.names.specs.Command.{command_type_of}
use Rattle.section.specs.Section.{section_length}
use Rattle.table.specs.Bits.{bits_of_num, bytes_of, big_endian}
use Rattle.table.specs.Writing.{walk, contents, print, within}

-- "The section writer .. works out lengths and command type": the header with those of its command
unfoldable pub headed : SpliceInfoHeader → ℕ → ℕ → SpliceInfoHeader
headed h size command_type = record {
  protocol_version = h.protocol_version;
  encrypted_packet = h.encrypted_packet;
  encryption_algorithm = h.encryption_algorithm;
  pts_adjustment = h.pts_adjustment;
  cw_index = h.cw_index;
  tier = h.tier;
  splice_command_length = size;
  splice_command_type = command_type_of command_type;
}

-- the bytes of a splice header, by its table
unfoldable pub header_bytes : SpliceInfoHeader → List ℕ
header_bytes x = bytes_of (print (contents [] (walk splice_header x 0).fields))

-- The first three bytes of a section of n: 0xFC; "second and third byte hold 0, 0, 1, 1 and the 12-bit length less 3".
unfoldable pub opening : ℕ → List ℕ
opening n = 0xfc ∷ bytes_of (0 ∷ 0 ∷ 1 ∷ 1 ∷ bits_of_num 12 (n - 3))

-- all before the command
unfoldable pub head : SpliceInfoHeader → ℕ → ℕ → ℕ → List ℕ
head h command_type size extent = opening (section_length size extent) ++ header_bytes (headed h size command_type)

-- a loop with its length before it
unfoldable pub with_length : List ℕ → List ℕ
with_length loop = big_endian 2 (length loop) ++ loop

-- all before the CRC
unfoldable pub body : SpliceInfoHeader → ℕ → List ℕ → List ℕ → List ℕ
body h command_type payload loop = head h command_type (length payload) (length loop) ++ payload ++ with_length loop

-- the section: a header, a command's type and payload, and a loop
unfoldable pub frame : SpliceInfoHeader → ℕ → List ℕ → List ℕ → List ℕ
frame h command_type payload loop = body h command_type payload loop ++ crc_bytes_of (body h command_type payload loop)

-- ---- what a writer asks of a header
-- refusal 32: "a number .. handed in exceeds its field". The command's length and type are not looked at: they are worked out.
unfoldable pub numbers_fit : SpliceInfoHeader → Bool
numbers_fit h = within (walk splice_header (headed h 0 0) 0).fields

-- refusal 33: "encrypted header"; "a reserved number that has a name or lies in another range"
unfoldable pub writable_head : SpliceInfoHeader → Bool
writable_head h = not h.encrypted_packet && writable_algorithm h.encryption_algorithm
