-- The slices that are handed back of an item are whole.
use Prim.Native.Nat.{ℕ, ◌+◌, ◌-◌}
use mathlib.Core.Bool.{Bool, true, false}
use mathlib.Core.List.{List, []}
use mathlib.Core.Path.{◌≡◌, refl, ap, ◌∙◌}
use native.Mathlib.Omega.{arith}
use lib.Dec.{eqb}
use lib.ListN.{length, take, drop, get_or}
use borrow.Author.Tests.{le-leb}
use Rattle.command.specs.declared.SpliceCommand.{SpliceCommand}
use Rattle.descriptor.specs.declared.Descriptor.{Descriptor}
use Rattle.descriptor.specs.Views.{upid_views, detail_views}
use Rattle.descriptor.specs.declared.segmentation.DescriptorDetail.{DescriptorDetail}
use Rattle.descriptor.specs.declared.segmentation.SegmentationDescriptor.{SegmentationDescriptor}
use Rattle.descriptor.specs.declared.segmentation.SegmentationDetail.{SegmentationDetail}
use Rattle.descriptor.specs.declared.segmentation.SegmentationUpid.{SegmentationUpid}
use Rattle.descriptor_loop.proofs.Places.{upid_view, all_into}
use Rattle.descriptor_loop.specs.Place.{view_of, first_view}
use Rattle.descriptor_loop.specs.declared.ItemRefusal.{ItemRefusal}
use Rattle.descriptor_loop.specs.declared.reading.Reading.{Reading}
use Rattle.section.specs.Section.{private_view, command_length}
use Rattle.table.specs.Bits.{pick}
use Rattle.table.specs.Lent.{viewed, no_view}
use Rattle.theorems_reader.specs.Identifiers.{Identifier, in_lent, in_section, parts_read, Announced, Unsplit}
use Rattle.theorems_reader.specs.Whole.{Exactly, WholeUpid}
use Rattle.theorems_reader.proofs.WholeCases.{DetailCase, ItemCase, CommandCase}
use Rattle.upid.specs.Cover.{All}
use Rattle.upid.specs.Upid.{reported_of, part_view}
use Rattle.upid.specs.declared.Part.{Part}
use Rattle.upid.specs.declared.Refusal.{Refusal}
use Rattle.theorems_functions.specs.Slices.{Slice, reported_as, UpidSlice, DetailSlice, ItemSlice, PartSlice, Parted, PrivateSlice}
use Rattle.std.proofs.Common.{Ok, Err, Some, None, Option, Result}

-- an identifier that is exactly a run is handed back as it
pub slice_of : (s : List ℕ) (at n : ℕ) (i : Identifier) → Exactly s at n i → Slice s at n i.bytes
slice_of s at n i e = record { there = e.there; is = ap (λ (b : List ℕ). record { start = at; len = n; bytes = b }) (ap (λ (j : Identifier). j.bytes) e.is) }

pub nothing_viewed : (lent : List ℕ) → viewed lent no_view ≡ []
unfolding viewed
nothing_viewed lent = rw (le-leb 0 (length lent) (omega arith))

pub reported_as_lem : (k : ℕ) → reported_of k ≡ reported_as k
unfolding reported_of
reported_as_lem k = go (eqb k 5)
  where
    go : (t : Bool) → pick t 6 k ≡ pick t 6 k
    go true = refl
    go false = refl

module _ (s : List ℕ) (base : ℕ) (loop : List ℕ) where
  upid_slice : (h : ℕ) (eidr : List ℕ) (u : SegmentationUpid) → WholeUpid s h base loop eidr u → UpidSlice s h eidr (viewed loop (first_view (upid_views u))) u.upid_type
  upid_slice h eidr u w = record {
    upid_type = w.upid_type;
    bytes = λ some plain.
        let v : first_view (upid_views u) ≡ u.bytes = ap first_view (upid_view u some plain) in
        let e : Slice s (h + 2) (get_or s (h + 1) 0) (viewed loop u.bytes) = slice_of s (h + 2) (get_or s (h + 1) 0) (in_lent base loop u.bytes) (w.bytes some plain) in
        rw v e;
    held = w.eidr;
  }

  module _ (offset : ℕ) (r : Reading) where
    item_slice : (it : Option (Result Descriptor ItemRefusal)) → ItemCase s base loop offset r it → ItemSlice s (base + offset) r (viewed loop (view_of it)) it
    item_slice None w = nothing_viewed loop
    item_slice (Some (Err ItemRefusal.InvalidDescriptorLength)) w = nothing_viewed loop
    item_slice (Some (Err (ItemRefusal.Other Refusal.InputTooLong))) w = nothing_viewed loop
    item_slice (Some (Err (ItemRefusal.Other (Refusal.NotEnoughData expected actual)))) w = nothing_viewed loop
    item_slice (Some (Err (ItemRefusal.Other Refusal.UpidLengthTypeMismatch))) w = nothing_viewed loop
    item_slice (Some (Err (ItemRefusal.Other (Refusal.InvalidUpidContent upid_type_number v)))) w =
        record { start = base + v.at; behind = w.behind; upid_type = w.upid_type; whole = slice_of s (base + v.at) (get_or s (base + v.at - 1) 0) (in_lent base loop v) w.whole }
    item_slice (Some (Err (ItemRefusal.Other (Refusal.InvalidUpidLength upid_type_number expected actual)))) w = nothing_viewed loop
    item_slice (Some (Ok (Descriptor.Avail x))) w = nothing_viewed loop
    item_slice (Some (Ok (Descriptor.Dtmf x))) w = slice_of s _ _ (in_lent base loop x.dtmf_chars) w
    item_slice (Some (Ok (Descriptor.Segmentation x))) w = detail x.descriptor_detail w
      where
        detail : (d : DescriptorDetail) → DetailCase s (base + offset + 6) base loop r.beside.eidr d
            → DetailSlice s (base + offset + 6) r.beside.eidr (viewed loop (first_view (detail_views d))) d
        detail DescriptorDetail.Cancel w = w
        detail (DescriptorDetail.Active i) w = upid_slice _ _ i.segmentation_upid w
    item_slice (Some (Ok (Descriptor.Time x))) w = nothing_viewed loop
    item_slice (Some (Ok (Descriptor.Reserved tag v))) w = (slice_of s _ _ (in_lent base loop v) w.0, w.1)

-- what is read, and the slice that is handed back of it
pub read_slice : (s : List ℕ) (base : ℕ) (loop : List ℕ) (offset : ℕ) (r : Reading) (b : List ℕ) → ItemCase s base loop offset r r.step.item
    → b ≡ viewed loop (view_of r.step.item) → ItemSlice s (base + offset) r b r.step.item
read_slice s base loop offset r b w e = rw e (item_slice s base loop offset r r.step.item w)

-- ---- the parts of a MID

pub part_slice : (s : List ℕ) (mid : Identifier) (p : Part) → Announced s p (in_lent mid.start mid.bytes (part_view p)) → PartSlice s mid.start p (viewed mid.bytes (part_view p))
part_slice s mid p a = record {
  behind = a.behind;
  upid_type = a.upid_type ∙ reported_as_lem _;
  whole = record {
    there = omega (arith, a.unbroken.inside, a.len);
    is = ap (λ (b : List ℕ). record { start = mid.start + p.start; len = get_or s (mid.start + p.start - 1) 0; bytes = b }) (a.unbroken.run ∙ ap (λ (n : ℕ). take n (drop (mid.start + p.start) s)) a.len);
  };
}

pub mid_parted : (s : List ℕ) (mid : Identifier) → Unsplit s mid → Parted mid.bytes (parts_read 13 mid.bytes)
mid_parted s mid u = record { covered = u.covered; owned = u.owned; ordered = u.ordered }

-- a MID has a view
pub mid_view : (d : SegmentationDescriptor) (i : SegmentationDetail) → d.descriptor_detail ≡ DescriptorDetail.Active i → i.segmentation_upid.upid_type ≡ 13
    → view_of (Some (Ok (Descriptor.Segmentation d))) ≡ i.segmentation_upid.bytes
mid_view d i e k = ap (λ (y : DescriptorDetail). first_view (detail_views y)) e ∙ ap first_view (upid_view i.segmentation_upid (λ z. omega arith) (λ z. omega arith))

-- what is handed back of its parts
pub parts_whole : (s : List ℕ) (mid : Identifier) (b : List ℕ) (ps : List Part) (Gives : Part → List ℕ → Type 0) → ((p : Part) (c : List ℕ) → Gives p c → c ≡ viewed b (part_view p)) → Unsplit s mid
    → b ≡ mid.bytes → ps ≡ parts_read 13 mid.bytes → Parted b ps × All (λ (p : Part). (c : List ℕ) → Gives p c → PartSlice s mid.start p c) ps
parts_whole s mid b ps Gives so u e q =
    let h : Parted b ps = rw (e, q) (mid_parted s mid u) in
    let a : All (λ (p : Part). Announced s p (in_lent mid.start mid.bytes (part_view p))) ps = rw q u.parts in
    (h, all_into (λ p n c g. rw (so p c g, e) (part_slice s mid p n)) a)

-- ---- a command

pub private_slice : (s : List ℕ) (c : SpliceCommand) → CommandCase s c → PrivateSlice s (viewed s (private_view c)) c
private_slice s SpliceCommand.SpliceNull w = nothing_viewed s
private_slice s (SpliceCommand.SpliceInsert i) w = nothing_viewed s
private_slice s (SpliceCommand.TimeSignal t) w = nothing_viewed s
private_slice s SpliceCommand.BandwidthReservation w = nothing_viewed s
private_slice s (SpliceCommand.PrivateCommand p) w = slice_of s 18 (command_length s - 4) (in_section s p.private_bytes) w.whole
