-- `descriptor_writer::parts::store_components`. The loop's invariant: what is stored behind nothing, is the components so far.
use Rattle.std.proofs.Common.{ℕ, ◌≡◌, List, [], length, take}
use Rattle.table.specs.Writing.{contents}
use Rattle.table.specs.declared.cursor.Cursor.{Cursor}
use Rattle.descriptor_measure.specs.Private.{components_fields}
use Rattle.descriptor_writer.specs.Private.{Stores}
use Rattle.descriptor_writer.proofs.parts.store_components.Given as goal

abbrev pub invariant-loop-component : goal.invariant-loop-component
invariant-loop-component l =
    (length l.out ≡ length l.initial.out) × ((t : List ℕ) (c : Cursor) (from : List ℕ) → Stores t c [] l.initial.out l.initial.next → Stores t c (contents from (components_fields (take l.component-index l.component-items))) l.out l.next)
