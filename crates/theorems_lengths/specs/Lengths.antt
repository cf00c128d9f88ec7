-- What it means that a section is written again of all that was read of it, in no more bytes than it has.
use Rattle.std.specs.Prelude.{ℕ, ◌≤◌, true, List, ◌≡◌, length, Ok, Some}
use Rattle.command.specs.Command.{components_of, type_of}
use Rattle.command_measure.specs.Made.{command_made}
use Rattle.descriptor.specs.declared.Descriptor.{Descriptor}
use Rattle.descriptor_loop.specs.Cover.{joined}
use Rattle.descriptor_loop.specs.Items.{reading_of, Listed, items_of}
use Rattle.canonical_form.specs.Descriptor.{canonical_descriptor}
use Rattle.canonical_form.specs.Same.{Given, Pairs, SameItem}
use Rattle.loop_round_trips.specs.Loops.{given_made}
use Rattle.section.specs.Section.{command_bytes, loop_bytes, loop_in}
use Rattle.section.specs.declared.Section.{Section}
use Rattle.section_writer.specs.Writing.{section_made}
use Rattle.table.specs.Writing.{made}
use Rattle.theorems_writer.specs.Making.{SectionBytes}

-- an item that is read, and not refused
pub record Readable (y : Listed) : Type 0 where
  pub descriptor : Descriptor
  pub is : y.step.item ≡ Some (Ok descriptor)

-- what the descriptor writer is handed of an item that is read as d: d, what stands beside it, and the loop that its views refer to
abbrev pub given_of : List ℕ → Listed → Descriptor → Given
given_of loop y d = record { descriptor = d; identifier = y.step.identifier; beside = (reading_of loop y.offset).beside; lent = loop }

-- an item that is read is written as b: a canonical descriptor, of no more bytes than the item uses
pub record ItemAs (loop : List ℕ) (y : Listed) (b : List ℕ) : Type 0 where
  pub descriptor : Descriptor
  pub is : y.step.item ≡ Some (Ok descriptor)
  pub writes : given_made (given_of loop y descriptor) ≡ made b
  pub form : canonical_descriptor b ≡ true
  pub shorter : length b ≤ y.used

-- "each item's descriptor, joined in order as the loop, then the section": what is made of a section's reading x. It is canonical and has the same header and
-- command (`around`), its items are the same, one by one (`back`), and it is no longer than the section.
pub record WrittenShorter (s : List ℕ) (x : Section) : Type 0 where
  pub pieces : List (List ℕ)
  pub items : Pairs (ItemAs (loop_in s x)) (items_of (loop_in s x)) pieces
  pub bytes : List ℕ
  pub writes : section_made x.header (command_made x.command (components_of (command_bytes s)) s) (type_of x.command) (joined pieces) ≡ made bytes
  pub around : SectionBytes x.header x.command (components_of (command_bytes s)) s (joined pieces) bytes
  pub back : Pairs (SameItem (loop_bytes bytes) (loop_in s x)) (items_of (loop_bytes bytes)) (items_of (loop_in s x))
  pub shorter : length bytes ≤ length s
