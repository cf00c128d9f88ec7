-- What is made of a segmentation descriptor: its bytes, by the table.
--     made_zero     no refusal: the bytes of its fields
--     by_table      what is made is what the table's structure makes, so that its laws hold
--     made_size     as many bytes as `payload_size` says; made_bits: and as many bits
use Prim.Native.Nat.{ℕ, ◌+◌, ◌*◌, ◌<◌, ◌≤◌}
use mathlib.Core.Bool.{Bool, true, false}
use mathlib.Core.List.{List}
use mathlib.Core.Path.{◌≡◌, refl, ap, sym, ◌∙◌}
use native.Mathlib.Omega.{arith}
use lib.Dec.{leb}
use lib.ListN.{length, take}
use lib.Seq.{length-take-le}
use borrow.Author.Tests.{leb-true}
use Rattle.table.specs.Bits.{pick, bytes_of}
use Rattle.table.specs.Writing.{Field, walk, seen, within, contents, print, Made, made, refused, make_of, make, refusal_in}
use Rattle.table.proofs.Lists.{zero_one, and_true}
use Rattle.table.proofs.Structure.{Wrote, wrote, write_size}
use Rattle.table.proofs.Walks.{print_length}
use Rattle.descriptor.specs.Segmentation.{component_count, count_of, writable_detail, writable_front, front_of, segmentation}
use Rattle.descriptor.specs.declared.segmentation.SegmentationComponent.{SegmentationComponent}
use Rattle.descriptor.specs.declared.segmentation.SegmentationDescriptor.{SegmentationDescriptor}
use Rattle.descriptor.specs.declared.segmentation.DescriptorDetail.{DescriptorDetail}
use Rattle.descriptor.specs.declared.segmentation.DescriptorDetail.TheVariants.{Cancel, Active}
use Rattle.descriptor.specs.declared.full.Beside.{Beside}
use Rattle.descriptor.proofs.SegmentationLaws.{detail_bytes, segmentation_ends, segmentation_structure}
use Rattle.descriptor_measure.specs.Private.{segment_fields, payload_size}
use Rattle.descriptor_measure.specs.Writing.{all_zero, writable_upid, writable_segment, segmentation_made, upid_in, upid_source, written, written_detail}
use Rattle.descriptor_measure.proofs.Fields.{fields_are}

-- ---- what is made, undone
if_made : (b : Bool) (m : Made) (n : ℕ) (s : List ℕ) → pick b m (refused n) ≡ made s → (b ≡ true) × (m ≡ made s)
if_made true m n s e = (refl, e)
if_made false m n s e = zero_one cc

if_zero : (b : Bool) (m : Made) (n : ℕ) → 0 < n → refusal_in (pick b m (refused n)) ≡ 0 → (b ≡ true) × (refusal_in m ≡ 0)
if_zero true m n h e = (refl, e)
if_zero false m n h e = absurd (omega arith)

makes : (writable : Bool) (l : List ℕ) (fs : List Field) → refusal_in (make_of writable l fs) ≡ 0 → make_of writable l fs ≡ made (bytes_of (print (contents l fs)))
makes writable l fs e =
    let i = if_zero (seen l fs) _ 31 (omega arith) e in
    let j = if_zero (within fs) _ 32 (omega arith) i.1 in
    let k = if_zero writable _ 33 (omega arith) j.1 in
    rw (i.0, j.0, k.0)

writable_written : (d : DescriptorDetail) → writable_detail d ≡ true → writable_detail (written_detail d) ≡ true
unfolding writable_detail writable_front
writable_written Cancel e = e
writable_written (Active i) e = e

pub count_written : (d : DescriptorDetail) → count_of (front_of (written_detail d)).segmentation_mode ≡ count_of (front_of d).segmentation_mode
count_written Cancel = refl
count_written (Active i) = refl

-- ---- the bytes of a payload
size_is : (d : DescriptorDetail) → detail_bytes (written_detail d) ≡ payload_size d
unfolding payload_size
size_is Cancel = refl
size_is (Active i) = refl

-- no refusal: a UPID's view in the lent bytes, and not too long
pub zero_view : (x : SegmentationDescriptor) (id : List ℕ) (beside : Beside) (lent : List ℕ) → refusal_in (segmentation_made x id beside lent) ≡ 0
    → ((upid_in x).bytes.len ≤ 255) × ((upid_in x).bytes.at + (upid_in x).bytes.len ≤ length lent)
unfolding segmentation_made
zero_view x id beside lent e =
    let i = if_zero (leb ((upid_in x).bytes.at + (upid_in x).bytes.len) (length lent)) _ 31 (omega arith) e in
    let j = if_zero (leb (upid_in x).bytes.len 255) _ 32 (omega arith) i.1 in
    (leb-true (upid_in x).bytes.len 255 j.0, leb-true ((upid_in x).bytes.at + (upid_in x).bytes.len) (length lent) i.0)

module _ (x : SegmentationDescriptor) (id : List ℕ) (beside : Beside) (lent : List ℕ) (all : component_count x ≤ length beside.components) where
  abbrev source : List ℕ
  source = upid_source (upid_in x) beside.eidr lent

  abbrev cs : List SegmentationComponent
  cs = take (component_count x) beside.components

  pub counted : length cs ≡ component_count x
  counted = length-take-le (component_count x) beside.components all

  pub made_zero : refusal_in (segmentation_made x id beside lent) ≡ 0
      → segmentation_made x id beside lent ≡ made (bytes_of (print (contents source (segment_fields x.segmentation_event_id x.descriptor_detail cs))))
  unfolding segmentation_made
  made_zero e =
      let i = if_zero (leb ((upid_in x).bytes.at + (upid_in x).bytes.len) (length lent)) _ 31 (omega arith) e in
      let j = if_zero (leb (upid_in x).bytes.len 255) _ 32 (omega arith) i.1 in
      let k = makes (writable_segment x id beside.eidr lent) source (walk segmentation (written x beside.components) 0).fields j.1 in
      rw (i.0, j.0) (k ∙ ap (λ (l : List Field). made (bytes_of (print (contents source l)))) (fields_are x.segmentation_event_id x.descriptor_detail cs counted))

  module _ (b : List ℕ) (e : segmentation_made x id beside lent ≡ made b) where
    undone : (leb ((upid_in x).bytes.at + (upid_in x).bytes.len) (length lent) ≡ true)
        × (leb (upid_in x).bytes.len 255 ≡ true)
        × (make segmentation (writable_segment x id beside.eidr lent) source (written x beside.components) ≡ made b)
    unfolding segmentation_made
    undone =
        let i = if_made (leb ((upid_in x).bytes.at + (upid_in x).bytes.len) (length lent)) _ 31 b e in
        let j = if_made (leb (upid_in x).bytes.len 255) _ 32 b i.1 in
        (i.0, j.0, j.1)

    told : Wrote (writable_segment x id beside.eidr lent) source (walk segmentation (written x beside.components) 0).fields b
    told = wrote (writable_segment x id beside.eidr lent) source (walk segmentation (written x beside.components) 0).fields b undone.2

    -- 33 as a whole
    pub all_writable : (all_zero id ≡ true) × (writable_detail x.descriptor_detail ≡ true) × (writable_upid (upid_in x) beside.eidr lent ≡ true)
    unfolding writable_segment
    all_writable =
        let i = and_true (all_zero id) _ told.fit in
        let j = and_true (writable_detail x.descriptor_detail) _ i.1 in
        (i.0, j.0, j.1)

    pub by_table : make segmentation (writable_detail (written_detail x.descriptor_detail)) source (written x beside.components) ≡ made b
    by_table =
        ap (λ (f : Bool). make_of f source (walk segmentation (written x beside.components) 0).fields) (writable_written x.descriptor_detail all_writable.1 ∙ sym told.fit)
        ∙ undone.2

    pub made_size : length b ≡ payload_size x.descriptor_detail
    made_size =
        write_size segmentation segmentation_structure source (written x beside.components) b (counted ∙ sym (count_written x.descriptor_detail)) by_table
        ∙ size_is x.descriptor_detail

    -- and as many bits
    pub made_bits : length (print (contents source (segment_fields x.segmentation_event_id x.descriptor_detail cs))) ≡ payload_size x.descriptor_detail * 8
    made_bits =
        let fs = (walk segmentation (written x beside.components) 0).fields in
        let l = segmentation_ends (written x beside.components) 0 (counted ∙ sym (count_written x.descriptor_detail)) (writable_written x.descriptor_detail all_writable.1) refl in
        let p : length (print (contents source fs)) ≡ payload_size x.descriptor_detail * 8 =
        omega (arith, print_length source fs 0 told.views, l.2, size_is x.descriptor_detail) in
        rw (fields_are x.segmentation_event_id x.descriptor_detail cs counted) at p
