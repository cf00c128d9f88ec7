-- What it means that what is read of an item can be written.
use Rattle.std.specs.Prelude.{ℕ, true, List, ◌≡◌}
use Rattle.descriptor.specs.declared.Descriptor.{Descriptor}
use Rattle.canonical_form.specs.Descriptor.{canonical_descriptor}
use Rattle.descriptor_measure.specs.Writing.{descriptor_made}
use Rattle.descriptor_round_trips.specs.Trips.{Handed, ReadAs}
use Rattle.descriptor_loop.specs.Items.{reading_of}
use Rattle.table.specs.Writing.{made}

-- The descriptor d, read at an offset of a loop, with what stands beside it: it is of its types, bytes are made of it (no refusal, so neither 33 nor 34), and these are
-- a canonical descriptor that reads as d
pub record Writable (loop : List ℕ) (offset : ℕ) (d : Descriptor) : Type 0 where
  pub handed : Handed d (reading_of loop offset).step.identifier (reading_of loop offset).beside loop
  pub bytes : List ℕ
  pub writes : descriptor_made d (reading_of loop offset).step.identifier (reading_of loop offset).beside loop ≡ made bytes
  pub form : canonical_descriptor bytes ≡ true
  pub back : ReadAs bytes d (reading_of loop offset).step.identifier (reading_of loop offset).beside loop
