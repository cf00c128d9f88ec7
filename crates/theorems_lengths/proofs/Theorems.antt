-- What is written of what is read is no longer than it was: 34 is of no section that is read.
use Prim.Native.Nat.{ℕ, ◌≤◌}
use mathlib.Core.Bool.{true}
use mathlib.Core.List.{List}
use mathlib.Core.Path.{◌≡◌}
use lib.ListN.{length}
use Rattle.command.specs.Command.{components_of}
use Rattle.command.specs.declared.SpliceCommand.{SpliceCommand}
use Rattle.command.specs.declared.insert.SpliceInsert.{SpliceInsert}
use Rattle.command_measure.specs.Made.{command_made}
use Rattle.descriptor.specs.declared.Descriptor.{Descriptor}
use Rattle.descriptor_loop.specs.Items.{step_of, listed, items_of}
use Rattle.loop_round_trips.specs.Loops.{given_made}
use Rattle.section.specs.Section.{command_bytes, command_length, section_of, loop_in}
use Rattle.section.specs.declared.Section.{Section}
use Rattle.canonical_form.specs.Section.{canonical_section}
use Rattle.table.specs.Bits.{AllBytes}
use Rattle.table.specs.Writing.{made}
use Rattle.theorems_writer.proofs.ItemsWritten.{all_viewed}
use Rattle.upid.specs.Cover.{All}
use Rattle.theorems_lengths.specs.Lengths.{Readable, given_of, WrittenShorter}
use Rattle.theorems_lengths.proofs.Commands as commands
use Rattle.theorems_lengths.proofs.Items as items
use Rattle.theorems_lengths.proofs.Sections as sections
use Rattle.std.proofs.Common.{Ok, Some}

-- Of every item of an accepted section that is read as a descriptor, of whatever kind: what is written of it has no more bytes than the item uses. (That bytes
-- are made of it, a canonical descriptor that reads as it: `what_is_read_can_be_written`.)
pub what_is_written_of_an_item_is_no_longer : (s : List ℕ) (x : Section) → AllBytes s → section_of s ≡ Ok x → (offset : ℕ) (d : Descriptor) (b : List ℕ)
    → (step_of (loop_in s x) offset).item ≡ Some (Ok d) → given_made (given_of (loop_in s x) (listed (loop_in s x) offset) d) ≡ made b → length b ≤ (listed (loop_in s x) offset).used
what_is_written_of_an_item_is_no_longer s x a e offset d b i m = (items.item_shorter (loop_in s x) (all_viewed s x.descriptors a) offset d i b m).1

-- So of its command: what is written of it has no more bytes than its payload had
pub what_is_written_of_a_command_is_no_longer : (s : List ℕ) (x : Section) → section_of s ≡ Ok x → (p : List ℕ) → command_made x.command (components_of (command_bytes s)) s ≡ made p
    → length p ≤ command_length s
what_is_written_of_a_command_is_no_longer = commands.command_shorter

-- "any other cue is written in canonical form, or refused": of an accepted section none of whose items is refused, and whose insert, if it is one, has 127 in its
-- reserved bits, what is made of each item, joined, and the section around them, is a canonical section, no longer than it, that reads as the same header, command
-- and items. So neither 33 nor 34 is of a section that is read, but for these reserved bits.
pub a_section_that_is_read_is_written_in_no_more_bytes : (s : List ℕ) (x : Section) → AllBytes s → section_of s ≡ Ok x
    → ((i : SpliceInsert) → x.command ≡ SpliceCommand.SpliceInsert i → i.reserved ≡ 127) → All Readable (items_of (loop_in s x)) → WrittenShorter s x
a_section_that_is_read_is_written_in_no_more_bytes s x a e = sections.section_shorter s x a e

-- and no other section is: "refused" are those with a refused item, of which there is nothing to write, and those whose insert has other reserved bits
pub no_other_section_is_written : (s : List ℕ) (x : Section) → WrittenShorter s x
    → ((i : SpliceInsert) → x.command ≡ SpliceCommand.SpliceInsert i → i.reserved ≡ 127) × All Readable (items_of (loop_in s x))
no_other_section_is_written = sections.only_such

-- There are such sections: every canonical one is
pub a_canonical_section_is_one_of_these : (s : List ℕ) (x : Section) → AllBytes s → section_of s ≡ Ok x → canonical_section s ≡ true
    → ((i : SpliceInsert) → x.command ≡ SpliceCommand.SpliceInsert i → i.reserved ≡ 127) × All Readable (items_of (loop_in s x))
a_canonical_section_is_one_of_these = sections.canonical_such
