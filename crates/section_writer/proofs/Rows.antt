-- The definitions on rows: the smallest section, whose bytes are widely published, and refusals in order of number.
use Prim.Native.Nat.{ℕ}
use mathlib.Core.Bool.{Bool, true, false}
use mathlib.Core.List.{[], ◌∷◌}
use mathlib.Core.Path.{◌≡◌, refl}
use Rattle.crc.specs.Crc.{crc_bit, crc_bits, crc_of}
use Rattle.canonical_form.specs.Descriptor.{canonical_from, canonical_loop}
use Rattle.header.specs.Header.{splice_header}
use Rattle.header.specs.declared.header.SpliceInfoHeader.{SpliceInfoHeader}
use Rattle.names.specs.Algorithm.{writable_algorithm}
use Rattle.names.specs.Command.{command_type_of}
use Rattle.names.specs.declared.algorithm.EncryptionAlgorithm.{EncryptionAlgorithm}
use Rattle.names.specs.declared.command.SpliceCommandType.{SpliceCommandType}
use Rattle.bit_stores.specs.Written.{bytes_in}
use Rattle.table.specs.Table.{number, bit}
use Rattle.table.specs.Writing.{made, refused}
use Rattle.section_writer.specs.Frame.{headed, header_bytes, opening, head, with_length, body, frame, numbers_fit, writable_head}
use Rattle.section_writer.specs.Writing.{section_made}

-- a header whose length and type are worked out
abbrev plain : Bool → ℕ → SpliceInfoHeader
plain encrypted tier = record {
  protocol_version = 0;
  encrypted_packet = encrypted;
  encryption_algorithm = EncryptionAlgorithm.None;
  pts_adjustment = 0;
  cw_index = 0;
  tier = tier;
  splice_command_length = 9;
  splice_command_type = SpliceCommandType.Reserved 9;
}

-- a null command without descriptors
pub null_section_lem : section_made (plain false 0xfff) (made []) 0x00 [] ≡ made (
    0xfc ∷ 0x30 ∷ 0x11 ∷ 0x00 ∷ 0x00 ∷ 0x00 ∷ 0x00 ∷ 0x00 ∷ 0x00 ∷ 0x00 ∷ 0xff ∷ 0xf0 ∷ 0x00 ∷ 0x00 ∷ 0x00 ∷ 0x00 ∷ 0x7a ∷ 0x4f ∷ 0xbf ∷ 0xff ∷ [])
unfolding section_made bytes_in canonical_loop canonical_from frame body head with_length opening header_bytes headed numbers_fit writable_head splice_header number bit writable_algorithm command_type_of crc_of crc_bits crc_bit
null_section_lem = refl

-- an encrypted header is 33, but a tier of 13 bits comes first, and a command's view before both
pub encrypted_header : section_made (plain true 0xfff) (made []) 0x00 [] ≡ refused 33
unfolding section_made bytes_in headed numbers_fit writable_head splice_header number bit command_type_of
encrypted_header = refl

pub wide_tier : section_made (plain true 0x1000) (refused 33) 0x00 [] ≡ refused 32
unfolding section_made bytes_in headed numbers_fit writable_head splice_header number bit command_type_of
wide_tier = refl

pub outside_first : section_made (plain true 0x1000) (refused 31) 0x00 [] ≡ refused 31
unfolding section_made
outside_first = refl
