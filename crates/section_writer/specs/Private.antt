-- For the contracts of private functions, and for proofs. No public contract cites this.
use Rattle.std.specs.Prelude.{ℕ, ◌+◌, ◌*◌, ◌^◌, List, ◌++◌, ◌≡◌, length, drop, Some, None, Option, Result}
use Rattle.command.specs.Command.{private, by_type}
use Rattle.command.specs.Insert.{insert}
use Rattle.command_writer.specs.Private.{answer_measured}
use Rattle.command_measure.specs.declared.Measured.{Measured}
use Rattle.crc.specs.Crc.{crc_bytes_of}
use Rattle.canonical_form.specs.Descriptor.{canonical_loop}
use Rattle.header.specs.Header.{header_of}
use Rattle.splice_time.specs.Time.{splice_time}
use Rattle.header.specs.declared.header.SpliceInfoHeader.{SpliceInfoHeader}
use Rattle.names.specs.Algorithm.{algorithm_number}
use Rattle.section.specs.Section.{first, command_type, command_bytes, section_length}
use Rattle.table.specs.Bits.{bits_of}
use Rattle.table.specs.Table.{Table, Answer, got, short, parse}
use Rattle.table.specs.Writing.{Same}
use Rattle.section_writer.specs.Frame.{headed, with_length}
use Rattle.section_writer.specs.Writing.{writer_conditions}

-- the numbers in the first six and in the last five bytes of a header that is not encrypted
unfoldable pub first_number : SpliceInfoHeader → ℕ
first_number h = (h.protocol_version * 128 + algorithm_number h.encryption_algorithm) * 2 ^ 33 + h.pts_adjustment

unfoldable pub last_number : SpliceInfoHeader → ℕ → ℕ → ℕ
last_number h command_type' size = ((h.cw_index * 4096 + h.tier) * 4096 + size) * 256 + command_type'

-- what follows the command, where `before` stands before it
unfoldable pub tail : List ℕ → List ℕ → List ℕ
tail before loop = with_length loop ++ crc_bytes_of (before ++ with_length loop)

-- What is answered where the target has `room` bytes: of a header, of what the command measures, and of the loop.
unfoldable pub answer_section : SpliceInfoHeader → Measured → List ℕ → ℕ → Result ℕ ℕ
answer_section h m loop room = answer_measured (record { refusal = first 31 (writer_conditions h m.refusal m.size (length loop) (canonical_loop loop)); size = section_length m.size (length loop) }) room

-- ---- equal readings, by the tables. "Equal readings means equal values and equal bytes in the views; the header's command length and type, the views' places and array places past a count are
-- left out."
abbrev pub SameHeaders : Option SpliceInfoHeader → Option SpliceInfoHeader → Type 0
SameHeaders (Some x) (Some y) = headed x 0 0 ≡ headed y 0 0
SameHeaders (Some x) None = ⊥
SameHeaders None r = ⊥

-- payloads p and q, each read by the table
abbrev pub SameAnswers : {X : Type 0} → Table X → List ℕ → Answer X → List ℕ → Answer X → Type 0
SameAnswers t p (got x a) q (got y b) = Same t p x q y
SameAnswers t p (got x a) q (short e b) = ⊥
SameAnswers t p (short e a) q r = ⊥

unfoldable pub SameBy : {X : Type 0} → Table X → List ℕ → List ℕ → Type 0
SameBy t p q = SameAnswers t p (parse t (bits_of p) 0) q (parse t (bits_of q) 0)

-- of commands of one type; null and bandwidth reservation have nothing to compare
unfoldable pub SameCommand : ℕ → List ℕ → List ℕ → Type 0
SameCommand command_type' p q = by_type command_type' (Unit {0}) (SameBy insert p q) (SameBy splice_time p q) (Unit {0}) (SameBy private p q) (Unit {0})

-- what two sections say around their loops
pub record SameAround (s r : List ℕ) : Type 0 where
  pub headers : SameHeaders (header_of (drop 3 s)) (header_of (drop 3 r))
  pub types : command_type s ≡ command_type r
  pub commands : SameCommand (command_type s) (command_bytes s) (command_bytes r)
