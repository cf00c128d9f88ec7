-- What the section writer makes of a header, a command and a loop: the section's bytes, or the number of a refusal. 01, "Refusal numbers".
use Rattle.std.specs.Prelude.{ℕ, zero, suc, Bool, not, ◌||◌, List, [], ◌∷◌, ltb, eqb, length}
-- "works out .. command type"
pub use Rattle.command.specs.Command.{type_of}
use Rattle.canonical_form.specs.Descriptor.{canonical_loop}
use Rattle.header.specs.declared.header.SpliceInfoHeader.{SpliceInfoHeader}
use Rattle.bit_stores.specs.Written.{refusal_in, bytes_in}
use Rattle.section.specs.Section.{first, section_length}
use Rattle.table.specs.Writing.{Made, made, refused}
use Rattle.section_writer.specs.Frame.{frame, numbers_fit, writable_head}

-- The conditions of refusals 31 to 35, in order: of a header, of a command that its own writer gives the refusal r (0 if none) or `size` bytes, and of a loop of
-- `extent` bytes. 36, a short target, is `answer_of`'s and `later_of`'s.
abbrev pub writer_conditions : SpliceInfoHeader → ℕ → ℕ → ℕ → Bool → List Bool
writer_conditions header r size extent canonical =
    -- "a view reaches outside the lent bytes"
    eqb r 31
    -- "a number or count handed in exceeds its field"
    ∷ (eqb r 32 || not (numbers_fit header))
    -- "a value that no canonical reading has"
    ∷ (eqb r 33 || not (writable_head header))
    -- "section over 4,096"
    ∷ ltb 4096 (section_length size extent)
    -- "lent loop not canonical"
    ∷ not canonical
    ∷ []

-- 31 to 35, "checked in order of number": the bytes, unless one applies
abbrev pub unless : ℕ → List ℕ → Made
unless zero b = made b
unless (suc n) b = refused (suc n)

-- the section: of a header, what the command writer makes of the command, the command's type, and the lent loop
unfoldable pub section_made : SpliceInfoHeader → Made → ℕ → List ℕ → Made
section_made header command command_type loop =
    unless
    (first 31 (writer_conditions header (refusal_in command) (length (bytes_in command)) (length loop) (canonical_loop loop)))
    (frame header command_type (bytes_in command) loop)
