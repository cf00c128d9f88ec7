-- A descriptor loop as what is written of its items.
use Rattle.std.specs.Prelude.{ℕ, List, ◌≡◌, Ok, Some}
use Rattle.table.specs.Writing.{Made, made}
use Rattle.descriptor.specs.declared.Descriptor.{Descriptor}
use Rattle.canonical_form.specs.Same.{Given}
use Rattle.descriptor_measure.specs.Writing.{descriptor_made}
use Rattle.descriptor_loop.specs.Cover.{run_of}
use Rattle.descriptor_loop.specs.Items.{reading_of, Listed}

-- ---- a descriptor that is handed in, with the bytes that its views refer to

abbrev pub given_made : Given → Made
given_made g = descriptor_made g.descriptor g.identifier g.beside g.lent

-- ---- "Writing a reading means each item's descriptor, joined in order as the loop, then the section."

-- the item x of the loop is a descriptor, which is written, of what is read of it ("The descriptor writer takes a readable item with the bytes its views refer to"), as the very bytes that it was read of. Joined in order these are the loop (`Covered`, descriptor_loop/specs/Cover.antt)
pub record WrittenAgain (loop : List ℕ) (x : Listed) : Type 0 where
  pub descriptor : Descriptor
  pub is : x.step.item ≡ Some (Ok descriptor)
  pub writes : descriptor_made descriptor x.step.identifier (reading_of loop x.offset).beside loop ≡ made (run_of loop x)
