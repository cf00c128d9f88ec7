-- The numbers of a splice header by their places in its bytes. That these are the places of its table (`splice_header`, crate header) is proved there
-- (`header_of_numbers`): nobody who believes the table need believe them.
use Rattle.std.specs.Prelude.{ℕ, List, eqb, ltb, length, Some, None, Option}
use Rattle.table.specs.Bits.{bits_of, field, pick}
use Rattle.header_numbers.specs.declared.HeaderNumbers.{HeaderNumbers}

unfoldable pub numbers_in : List ℕ → HeaderNumbers
numbers_in s =
    record {
      protocol_version = field (bits_of s) 0 8;
      encrypted_packet = eqb (field (bits_of s) 8 1) 1;
      encryption_algorithm = field (bits_of s) 9 6;
      pts_adjustment = field (bits_of s) 15 33;
      cw_index = field (bits_of s) 48 8;
      tier = field (bits_of s) 56 12;
      splice_command_length = field (bits_of s) 68 12;
      splice_command_type = field (bits_of s) 80 8;
    }

-- eleven bytes, and no fewer
unfoldable pub numbers_read : List ℕ → Option HeaderNumbers
numbers_read s = pick (ltb (length s) 11) None (Some (numbers_in s))
