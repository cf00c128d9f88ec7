-- Avail, DTMF, time and reserved descriptors: a canonical payload is what is written of its own reading.
use Prim.Native.Nat.{ℕ}
use mathlib.Core.Bool.{true, false, ◌&&◌}
use mathlib.Core.List.{List}
use mathlib.Core.Path.{◌≡◌, refl}
use native.Mathlib.Omega.{arith}
use lib.Dec.{ltb}
use lib.ListN.{length, replicate}
use borrow.Author.Tests.{le-ltb}
use Rattle.table.specs.Bits.{AllBytes}
use Rattle.table.specs.Table.{canonical_by}
use Rattle.table.specs.Writing.{made}
use Rattle.table.specs.declared.View.{View}
use Rattle.table.proofs.Structure as laws
use Rattle.descriptor.specs.Descriptor.{avail_of, dtmf_of, time_of, reserved_of, is_cuei}
use Rattle.descriptor.specs.Plain.{avail, dtmf, time, private_table}
use Rattle.descriptor.specs.Full.{blank_beside}
use Rattle.descriptor.specs.declared.Descriptor.TheVariants.{Avail, Dtmf, Time, Reserved}
use Rattle.descriptor.specs.declared.plain.AvailDescriptor.{AvailDescriptor}
use Rattle.descriptor.specs.declared.plain.DTMFDescriptor.{DTMFDescriptor}
use Rattle.descriptor.specs.declared.plain.TimeDescriptor.{TimeDescriptor}
use Rattle.descriptor.proofs.Structures.{avail_structure, dtmf_structure, time_structure, private_structure}
use Rattle.descriptor_measure.specs.Writing.{all_zero, alone, writable_reserved, payload_made}
use Rattle.descriptor_round_trips.proofs.PlainLaws.{table_read_write}
use Rattle.std.proofs.Common.{Ok}

-- what readers leave beside these is blank
blank_alone : alone (replicate 4 0) blank_beside.eidr ≡ true
unfolding alone all_zero blank_beside
blank_alone = refl

module _ (p : List ℕ) (a : AllBytes p) where
  pub avail_read_write : canonical_by avail p ≡ true → (x : AvailDescriptor) × (avail_of p ≡ Ok (Avail x)) × (payload_made (Avail x) (replicate 4 0) blank_beside p ≡ made p)
  unfolding avail_of payload_made
  avail_read_write e =
      let i = table_read_write avail avail_structure (λ x. refl) p a e in
      let n : length p ≡ 4 = laws.write_size avail avail_structure p i.0 p tt i.2 in
      (i.0, rw (le-ltb (length p) 4 (omega arith), i.1), rw blank_alone i.2)

  pub time_read_write : canonical_by time p ≡ true → (x : TimeDescriptor) × (time_of p ≡ Ok (Time x)) × (payload_made (Time x) (replicate 4 0) blank_beside p ≡ made p)
  unfolding time_of payload_made
  time_read_write e =
      let i = table_read_write time time_structure (λ x. refl) p a e in
      let n : length p ≡ 12 = laws.write_size time time_structure p i.0 p tt i.2 in
      (i.0, rw (le-ltb (length p) 12 (omega arith), i.1), rw blank_alone i.2)

  pub dtmf_read_write : canonical_by dtmf p ≡ true → (x : DTMFDescriptor) × (dtmf_of p ≡ Ok (Dtmf x)) × (payload_made (Dtmf x) (replicate 4 0) blank_beside p ≡ made p)
  unfolding dtmf_of payload_made
  dtmf_read_write e =
      let i = table_read_write dtmf dtmf_structure (λ x. refl) p a e in
      (i.0, rw i.1, rw blank_alone i.2)

  pub reserved_read_write : (tag : ℕ) (id : List ℕ) → is_cuei id && ltb tag 4 ≡ false → canonical_by private_table p ≡ true
      → (v : View) × (reserved_of tag p ≡ Ok (Reserved tag v)) × (payload_made (Reserved tag v) id blank_beside p ≡ made p)
  unfolding reserved_of payload_made writable_reserved all_zero blank_beside
  reserved_read_write tag id h e =
      let i = table_read_write private_table private_structure (λ x. refl) p a e in
      (i.0, rw i.1, rw h i.2)
