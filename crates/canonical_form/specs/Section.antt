-- The canonical form of a section. 01, "Canonical form and writer".
use Rattle.std.specs.Prelude.{ℕ, ◌-◌, Bool, ◌&&◌, List, eqb, length}
use Rattle.canonical_form.specs.Command.{canonical_command}
use Rattle.canonical_form.specs.Descriptor.{canonical_loop}
use Rattle.section.specs.Section.{command_length, command_type, command_bytes, loop_length, loop_bytes, section_of, number_of, section_length}
use Rattle.table.specs.Bits.{bits_of, field}

-- What the canonical form asks of a section around its command and its loop.
unfoldable pub canonical_frame : List ℕ → Bool
canonical_frame s =
    -- "Canonical: accepted;"
    eqb (number_of (section_of s)) 0
    -- "second and third byte hold 0, 0, 1, 1"
    && (eqb (field (bits_of s) 8 4) 0b0011
    -- "and the 12-bit length less 3;"
    && (eqb (field (bits_of s) 12 12) (length s - 3)
    -- "no spare byte in .. section"
    && eqb (length s) (section_length (command_length s) (loop_length s))))

-- the whole; of the loop: "no spare byte in .. descriptor ..; no refused item; a UPID empty at top level has type 0"
unfoldable pub canonical_section : List ℕ → Bool
canonical_section s = canonical_frame s && (canonical_command (command_type s) (command_bytes s) && canonical_loop (loop_bytes s))
