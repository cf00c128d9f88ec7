-- A descriptor by its kind.
use Prim.Native.Nat.{ℕ}
use mathlib.Core.List.{List, []}
use mathlib.Core.Path.{◌≡◌}
use Rattle.table.specs.Table.{number}
use Rattle.table.specs.Writing.{make}
use Rattle.table.specs.declared.View.{View}
use Rattle.descriptor.specs.Plain.{avail, dtmf, time, private_table}
use Rattle.descriptor.specs.Full.{filled}
use Rattle.descriptor.specs.declared.Descriptor.{Descriptor}
use Rattle.descriptor.specs.declared.Descriptor.TheVariants.{Avail, Dtmf, Segmentation, Time, Reserved}
use Rattle.descriptor.specs.declared.plain.AvailDescriptor.{AvailDescriptor}
use Rattle.descriptor.specs.declared.plain.DTMFDescriptor.{DTMFDescriptor}
use Rattle.descriptor.specs.declared.plain.TimeDescriptor.{TimeDescriptor}
use Rattle.descriptor.specs.declared.segmentation.SegmentationDescriptor.{SegmentationDescriptor}
use Rattle.descriptor.specs.declared.full.Beside.{Beside}
use Rattle.descriptor_measure.specs.Writing.{cuei, enveloped_made, alone, writable_reserved, segmentation_made, payload_made, descriptor_made}
use Rattle.descriptor_writer.specs.Stores.{Writes}
use Rattle.std.proofs.Common.{Result}

module _ (d : Descriptor) (id : List ℕ) (beside : Beside) (lent t v : List ℕ) (r : Result ℕ ℕ) where
  pub as_avail : (x : AvailDescriptor) → d ≡ Avail x → Writes (enveloped_made 0 cuei (make avail (alone id beside.eidr) [] x)) t v r → Writes (descriptor_made d id beside lent) t v r
  unfolding descriptor_made payload_made avail number
  as_avail x e w = rw e w

  pub as_dtmf : (x : DTMFDescriptor) → d ≡ Dtmf x → Writes (enveloped_made 1 cuei (make dtmf (alone id beside.eidr) lent x)) t v r → Writes (descriptor_made d id beside lent) t v r
  unfolding descriptor_made payload_made
  as_dtmf x e w = rw e w

  pub as_segmentation : (x : SegmentationDescriptor) → d ≡ Segmentation x
      → Writes (enveloped_made 2 cuei (segmentation_made x id (record { components = beside.components; eidr = beside.eidr }) lent)) t v r → Writes (descriptor_made d id beside lent) t v r
  unfolding descriptor_made payload_made
  as_segmentation x e w = rw e w

  pub as_time : (x : TimeDescriptor) → d ≡ Time x → Writes (enveloped_made 3 cuei (make time (alone id beside.eidr) [] x)) t v r → Writes (descriptor_made d id beside lent) t v r
  unfolding descriptor_made payload_made time number
  as_time x e w = rw e w

  pub as_reserved : (tag : ℕ) (b : View) → d ≡ Reserved tag b → Writes (enveloped_made tag id (make private_table (writable_reserved tag id beside.eidr) lent b)) t v r
      → Writes (descriptor_made d id beside lent) t v r
  unfolding descriptor_made payload_made
  as_reserved tag b e w = rw e w

-- what has no components is written alike beside any
module _ (d : Descriptor) (id : List ℕ) (beside : Beside) (lent t v : List ℕ) (r : Result ℕ ℕ) where
  abbrev WithoutComponents : Type 0
  WithoutComponents = Writes (descriptor_made d id (record { components = filled []; eidr = beside.eidr }) lent) t v r

  pub avail_without_components : (x : AvailDescriptor) → d ≡ Avail x → WithoutComponents → Writes (descriptor_made d id beside lent) t v r
  unfolding descriptor_made payload_made
  avail_without_components x e w = rw e (rw e at w)

  pub dtmf_without_components : (x : DTMFDescriptor) → d ≡ Dtmf x → WithoutComponents → Writes (descriptor_made d id beside lent) t v r
  unfolding descriptor_made payload_made
  dtmf_without_components x e w = rw e (rw e at w)

  pub time_without_components : (x : TimeDescriptor) → d ≡ Time x → WithoutComponents → Writes (descriptor_made d id beside lent) t v r
  unfolding descriptor_made payload_made
  time_without_components x e w = rw e (rw e at w)

  pub reserved_without_components : (tag : ℕ) (b : View) → d ≡ Reserved tag b → WithoutComponents → Writes (descriptor_made d id beside lent) t v r
  unfolding descriptor_made payload_made
  reserved_without_components tag b e w = rw e (rw e at w)
