-- The words of a header's flat form make the header again, but for its command length and type, which the writer works out.
use mathlib.Core.Bool.{Bool, true, false}
use mathlib.Core.Path.{◌≡◌, refl}
use native.Mathlib.Nat.{mod-eq_of_lt}
use lib.Dec.{eqb}
use Rattle.c_section.specs.Flat.{flat_header}
use Rattle.header.specs.declared.header.SpliceInfoHeader.{SpliceInfoHeader}
use Rattle.names.specs.Algorithm.{writable_algorithm}
use Rattle.names.specs.Command.{command_type_of}
use Rattle.names.proofs.Algorithms.{algorithm_laws}
use Rattle.section_writer.specs.Frame.{headed}
use Rattle.table.specs.Table.{flag_number}
use Rattle.c_section_writer.specs.SectionGiven.{header_from}
use Rattle.c_section_writer.specs.SectionWords.{header_words}
use Rattle.c_section_writer.proofs.Typed.{Typed}

flag_back : (b : Bool) → eqb (flag_number b) 1 ≡ b
flag_back true = refl
flag_back false = refl

pub header_back : (h : SpliceInfoHeader) → Typed h → writable_algorithm h.encryption_algorithm ≡ true → header_from (header_words (flat_header h)) ≡ headed h 0 0
unfolding header_from header_words flat_header headed command_type_of
header_back h t f =
    rw (mod-eq_of_lt t.0, flag_back h.encrypted_packet, mod-eq_of_lt t.1, algorithm_laws.back h.encryption_algorithm f, mod-eq_of_lt t.2, mod-eq_of_lt t.3)
