-- What a segmentation descriptor's payload is read as, from what its table reads: the UPID's own rules come between.
use Prim.Native.Nat.{ℕ}
use mathlib.Core.Bool.{Bool, true, false}
use mathlib.Core.List.{List, []}
use mathlib.Core.Path.{◌≡◌, refl, ap}
use Rattle.table.specs.Bits.{pick, bits_of}
use Rattle.table.specs.Lent.{viewed}
use Rattle.table.specs.Table.{Table, done, inside, Answer, got, short, parse}
use Rattle.upid.specs.Upid.{check_of}
use Rattle.descriptor.specs.Descriptor.{if_fine, active_with, active_of, segmentation_of}
use Rattle.descriptor.specs.Segmentation as table
use Rattle.descriptor.specs.Segmentation.{ListedFront, Head, head, head_of, front, front_of, back, back_of, active_from, segmentation}
use Rattle.descriptor.specs.declared.Descriptor.TheVariants.{Segmentation}
use Rattle.descriptor.specs.declared.segmentation.DescriptorDetail.{DescriptorDetail}
use Rattle.descriptor.specs.declared.segmentation.DescriptorDetail.TheVariants.{Cancel, Active}
use Rattle.descriptor.specs.declared.segmentation.SegmentationUpid.{SegmentationUpid}
use Rattle.table.proofs.Steps.{reads_in}
use Rattle.std.proofs.Common.{Ok, Result}
use Rattle.descriptor.specs.declared.Descriptor.{Descriptor}
use Rattle.upid.specs.declared.Refusal.{Refusal}

-- a detail as the table reads it, whose UPID is as written: with the UPID as its rules report it
abbrev pub reported_detail : DescriptorDetail → SegmentationUpid → DescriptorDetail
reported_detail Cancel u = Cancel
reported_detail (Active i) u = Active (active_from (front_of (Active i)) u (back_of (Active i)))

abbrev pub detail_read : List ℕ → ℕ → DescriptorDetail → Result Descriptor Refusal
detail_read s event Cancel = Ok (Segmentation (record { segmentation_event_id = event; descriptor_detail = Cancel }))
detail_read s event (Active i) =
    if_fine (check_of i.segmentation_upid.upid_type (viewed s i.segmentation_upid.bytes)) i.segmentation_upid.bytes λ u.
    Ok (Segmentation (record { segmentation_event_id = event; descriptor_detail = reported_detail (Active i) u }))

-- the table behind the head
abbrev pub after : Head → Table table.Segmentation
after h =
    pick h.cancel
    (done (record { descriptor = record { segmentation_event_id = h.event; descriptor_detail = Cancel }; components = [] }))
    (inside front (λ x. record { front = front_of x.descriptor.descriptor_detail; components = x.components }) λ f.
    inside back (λ x. back_of x.descriptor.descriptor_detail) λ b.
    done (record {
      descriptor = record { segmentation_event_id = h.event; descriptor_detail = Active (active_from f.front f.front.segmentation_upid b) };
      components = f.components;
    }))

value : Answer table.Segmentation → table.Segmentation
value (got x m) = x
value (short e a) = record { descriptor = record { segmentation_event_id = 0; descriptor_detail = Cancel }; components = [] }

module _ (s : List ℕ) (x : table.Segmentation) (m : ℕ) where
  headed : (h : Head) (at : ℕ) (b : Bool) → h.cancel ≡ b → parse head (bits_of s) 0 ≡ got h at → parse (after h) (bits_of s) at ≡ got x m
      → segmentation_of s ≡ detail_read s x.descriptor.segmentation_event_id x.descriptor.descriptor_detail
  unfolding segmentation_of active_of active_with value
  headed h at true on eh e =
      let g : got (record { descriptor = record { segmentation_event_id = h.event; descriptor_detail = Cancel }; components = [] }) at ≡ got x m = rw on at e in
      rw (← (ap value g), eh, on)
  headed h at false off eh e =
      let g = rw off at e in
      let j = reads_in front _ _ (bits_of s) at x m g in
      let k = reads_in back _ _ (bits_of s) j.seam x m j.back in
      rw (← (ap value k.back), eh, off, j.front, k.front)

  pub segmentation_read : parse segmentation (bits_of s) 0 ≡ got x m → segmentation_of s ≡ detail_read s x.descriptor.segmentation_event_id x.descriptor.descriptor_detail
  unfolding segmentation
  segmentation_read e =
      let i = reads_in head _ after (bits_of s) 0 x m e in
      headed i.inner i.seam i.inner.cancel refl i.front i.back
