-- A segmentation descriptor by its table: what is written is read to its end and canonical, and canonical bytes are what is written of their reading.
use Prim.Native.Nat.{ℕ, ◌*◌, ◌≤◌}
use mathlib.Core.Bool.{true, false}
use mathlib.Core.List.{List, []}
use mathlib.Core.Path.{◌≡◌, refl, sym, ◌∙◌}
use lib.ListN.{length}
use borrow.Author.Tests.{eq-eqb, eqb-true}
use Rattle.table.specs.Bits.{bits_of, AllBytes}
use Rattle.table.specs.Table.{Answer, got, short, parse, canonical, takes_all, canonical_by}
use Rattle.table.specs.Writing.{made, make}
use Rattle.table.proofs.Lists.{zero_one, and_true, append_nil}
use Rattle.table.proofs.Structure as laws
use Rattle.descriptor.specs.Descriptor.{segmentation_of}
use Rattle.descriptor.specs.Segmentation as table
use Rattle.descriptor.specs.Segmentation.{component_count, writable_detail, segmentation}
use Rattle.descriptor.specs.declared.segmentation.SegmentationDescriptor.{SegmentationDescriptor}
use Rattle.descriptor.specs.declared.full.Beside.{Beside}
use Rattle.descriptor.proofs.SegmentationLaws.{segmentation_structure, segmentation_moved, detail_moved}
use Rattle.descriptor_measure.specs.Writing.{segmentation_made, upid_in, upid_source, written, written_detail}
use Rattle.descriptor_measure.proofs.Making.{by_table, counted, count_written}
use Rattle.descriptor_round_trips.proofs.SegmentRead.{detail_read, segmentation_read}

-- What is written reads, to its end, as what was handed in with the UPID as written, at its new place; it is canonical; and the reader goes by the UPID's rules.
pub segmentation_write_read : (x : SegmentationDescriptor) (id : List ℕ) (beside : Beside) (lent b : List ℕ) → component_count x ≤ length beside.components
    → segmentation_made x id beside lent ≡ made b
    → (parse segmentation (bits_of b) 0 ≡ got (segmentation_moved (written x beside.components)) (length b * 8))
    × (canonical_by segmentation b ≡ true)
    × (segmentation_of b ≡ detail_read b x.segmentation_event_id (detail_moved (written_detail x.descriptor_detail)))
unfolding canonical_by
segmentation_write_read x id beside lent b all e =
    let source = upid_source (upid_in x) beside.eidr lent in
    let w = written x beside.components in
    let shape = counted x id beside lent all ∙ sym (count_written x.descriptor_detail) in
    let r = laws.write_read segmentation segmentation_structure source w b [] shape (by_table x id beside lent all b e) refl in
    let p : parse segmentation (bits_of b) 0 ≡ got (segmentation_moved w) (length b * 8) = rw (append_nil b) at r.0 in
    let c : canonical segmentation (bits_of b) 0 ≡ true = rw (append_nil b) at r.1 in
    (p, rw (p, c, eq-eqb (length b * 8) (length b * 8) refl), segmentation_read b (segmentation_moved w) (length b * 8) p)

-- Canonical bytes are what the table writes of their reading, whose UPID is as written.
pub segmentation_read_write : (s : List ℕ) → AllBytes s → canonical_by segmentation s ≡ true
    → (x : table.Segmentation) × (parse segmentation (bits_of s) 0 ≡ got x (length s * 8)) × (make segmentation (writable_detail x.descriptor.descriptor_detail) s x ≡ made s)
unfolding canonical_by
segmentation_read_write s a e = go (parse segmentation (bits_of s) 0) refl
  where
    j : (takes_all (parse segmentation (bits_of s) 0) s ≡ true) × (canonical segmentation (bits_of s) 0 ≡ true)
    j = and_true (takes_all (parse segmentation (bits_of s) 0) s) (canonical segmentation (bits_of s) 0) e

    go : (r : Answer table.Segmentation) → parse segmentation (bits_of s) 0 ≡ r
        → (x : table.Segmentation) × (parse segmentation (bits_of s) 0 ≡ got x (length s * 8)) × (make segmentation (writable_detail x.descriptor.descriptor_detail) s x ≡ made s)
    go (got x at) h =
        let k : at ≡ length s * 8 = eqb-true at (length s * 8) (rw h at j.0) in
        let p : parse segmentation (bits_of s) 0 ≡ got x (length s * 8) = rw k at h in
        (x, p, laws.read_write_all segmentation segmentation_structure s x a p j.1)
    go (short x y) h = let z : false ≡ true = rw h at j.0 in zero_one cc
