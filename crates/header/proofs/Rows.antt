-- The header of the standard's first sample.
use mathlib.Core.Bool.{false}
use mathlib.Core.List.{[], ◌∷◌}
use mathlib.Core.Path.{◌≡◌, refl}
use Rattle.names.specs.Algorithm.{algorithm_of}
use Rattle.names.specs.Command.{command_type_of}
use Rattle.table.specs.Table.{number, bit}
use Rattle.header.specs.Header.{splice_header, header_read, header_of, number_of}
use Rattle.std.proofs.Common.{Some}

-- 00 00 00 00 00 00 FF FF F0 05 06: the header of the standard's first sample
pub sample : header_of (0 ∷ 0 ∷ 0 ∷ 0 ∷ 0 ∷ 0 ∷ 0xff ∷ 0xff ∷ 0xf0 ∷ 5 ∷ 6 ∷ []) ≡ Some (record {
  protocol_version = 0;
  encrypted_packet = false;
  encryption_algorithm = algorithm_of 0;
  pts_adjustment = 0;
  cw_index = 255;
  tier = 4095;
  splice_command_length = 5;
  splice_command_type = command_type_of 6;
})
unfolding header_of header_read splice_header number bit
sample = refl

-- refusal 5
pub no_bytes : number_of (header_of []) ≡ 5
unfolding header_of header_read splice_header number bit
no_bytes = refl
