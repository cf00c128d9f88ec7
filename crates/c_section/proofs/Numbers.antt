-- The flat header: the numbers of its fields as they stand, since each named number is the number of its name.
use Prim.Native.Nat.{ℕ}
use mathlib.Core.List.{List}
use mathlib.Core.Path.{◌≡◌, sym}
use Rattle.header.specs.Header.{header_of}
use Rattle.header.proofs.Headers.{header_named, header_missing}
use Rattle.header_numbers.specs.Numbers.{numbers_read}
use Rattle.header_numbers.specs.declared.HeaderNumbers.{HeaderNumbers}
use Rattle.names.specs.Algorithm.{algorithm_number, algorithm_of}
use Rattle.names.specs.Command.{command_number, command_type_of}
use Rattle.names.proofs.Algorithms.{algorithm_laws}
use Rattle.names.proofs.Commands.{command_laws}
use Rattle.table.specs.Table.{flag_number}
use Rattle.c_section.specs.Flat.{flat_header, no_header, flat_header_read}
use Rattle.c_section.specs.declared.headers.FlatHeader.{FlatHeader}
use Rattle.std.proofs.Common.{Some, None}

module _ (s : List ℕ) where
  pub flat_too_short : (h : FlatHeader) → None ≡ numbers_read s → h ≡ no_header 5 → h ≡ flat_header_read (header_of s)
  unfolding flat_header_read
  flat_too_short h short e = rw (sym (header_missing s short)) e

  pub flat_numbers : (n : HeaderNumbers) (encrypted : ℕ) → Some n ≡ numbers_read s → encrypted ≡ flag_number n.encrypted_packet
      → record {
        refusal = 0;
        protocol_version = n.protocol_version;
        encrypted_packet = encrypted;
        encryption_algorithm = n.encryption_algorithm;
        pts_adjustment = n.pts_adjustment;
        cw_index = n.cw_index;
        tier = n.tier;
        splice_command_length = n.splice_command_length;
        splice_command_type = n.splice_command_type;
      } ≡ flat_header_read (header_of s)
  unfolding flat_header_read flat_header
  flat_numbers n encrypted e f =
      let a : algorithm_number (algorithm_of n.encryption_algorithm) ≡ n.encryption_algorithm = algorithm_laws.there n.encryption_algorithm in
      let k : command_number (command_type_of n.splice_command_type) ≡ n.splice_command_type = command_laws.there n.splice_command_type in
      rw (sym (header_named s n e), a, k, f)
