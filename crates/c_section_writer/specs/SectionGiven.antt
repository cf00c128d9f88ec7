-- What the contracts say by functions: the header that words make, and what is asked of the words. The theorems `section_words_are_answered` and
-- `section_answers_are_one` fix what they answer (SectionWords.antt).
use Rattle.std.specs.Prelude.{ℕ, ◌%◌, List, eqb}
use Rattle.command.specs.Command.{count_in}
use Rattle.command_measure.specs.Made.{command_made}
use Rattle.c_section.specs.Flat.{flat_header}
use Rattle.c_command_writer.specs.CommandGiven.{command_given, components_from, command_refusal}
use Rattle.c_command_writer.specs.Words.{word, within, same, refusal_of, lower_of, no_less}
use Rattle.header.specs.declared.header.SpliceInfoHeader.{SpliceInfoHeader}
use Rattle.names.specs.Algorithm.{algorithm_of}
use Rattle.names.specs.declared.command.SpliceCommandType.{SpliceCommandType}
use Rattle.section_writer.specs.Writing.{section_made, type_of}
use Rattle.table.specs.Bits.{pick}
use Rattle.table.specs.Writing.{Made}
use Rattle.c_section_writer.specs.SectionWords.{header_words, header_widths}

unfoldable pub header_from : List ℕ → SpliceInfoHeader
header_from words =
    record {
      protocol_version = word words 1 % 256;
      encrypted_packet = eqb (word words 2) 1;
      encryption_algorithm = algorithm_of (word words 3 % 256);
      pts_adjustment = word words 4;
      cw_index = word words 5 % 256;
      tier = word words 6 % 65536;
      splice_command_length = 0;
      splice_command_type = SpliceCommandType.SpliceNull;
    }

-- the number of the words' own refusal
unfoldable pub header_refusal : List ℕ → ℕ
header_refusal words = refusal_of (within header_widths words) (same (header_words (flat_header (header_from words))) words)

-- ---- the section
-- the lower of two refusals, of which 0 is none
abbrev pub either : ℕ → ℕ → ℕ
either m n = pick (eqb m 0) n (pick (eqb n 0) m (lower_of m n))

-- the bytes, or the number of a refusal: 31 to 35
unfoldable pub section_words_made : List ℕ → List ℕ → List ℕ → List ℕ → List ℕ → Made
section_words_made header command components lent loop =
    no_less
    (either (header_refusal header) (command_refusal (command_given command) command components lent))
    (section_made (header_from header) (command_made (command_given command) (components_from (count_in (command_given command)) components) lent)
    (type_of (command_given command))
    loop)
