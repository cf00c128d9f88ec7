-- The item whose UPID is replaced.
use Prim.Native.Nat.{ℕ, ◌+◌, ◌≤◌, ◌<◌}
use mathlib.Core.List.{List, [], ◌∷◌, ◌++◌, append-nil}
use mathlib.Core.Path.{◌≡◌, refl, ap, sym, ◌∙◌}
use native.Mathlib.Omega.{arith}
use lib.ListN.{length, length-append}
use Rattle.upid.specs.Upid.{check_of}
use Rattle.descriptor.specs.Descriptor.{cuei, is_cuei, reported_upid, segmentation_of, descriptor_of}
use Rattle.descriptor.specs.Segmentation.{with_upid}
use Rattle.descriptor.specs.declared.Descriptor.TheVariants.{Segmentation}
use Rattle.descriptor.specs.declared.segmentation.DescriptorDetail.TheVariants.{Active}
use Rattle.descriptor.specs.declared.segmentation.SegmentationDetail.{SegmentationDetail}
use Rattle.descriptor_loop.specs.Items.{item_at, step_of}
use Rattle.descriptor_loop.specs.Place.{moved_descriptor}
use Rattle.descriptor_loop.specs.declared.Step.{Step}
use Rattle.relabel_payload.specs.Payload.{payload, Holed}
use Rattle.relabel_loop.specs.Item.{segmentation_item}
use Rattle.relabel_loop.specs.Loop.{Piece}
use Rattle.relabel_loop.proofs.Pieces.{piece, step_of_complete}
use Rattle.std.proofs.Common.{Ok, Some}

is_segmentation : (s : List ℕ) → descriptor_of 2 cuei s ≡ segmentation_of s
unfolding descriptor_of is_cuei
is_segmentation s = refl

module _ (s : List ℕ) (short : length s ≤ 250) where
  body_size : length (cuei ++ s) ≡ 4 + length s
  body_size = length-append cuei s

  pub item_piece : Piece (segmentation_item s)
  item_piece = record { tag = 2; body = cuei ++ s; is = refl; named = omega (arith, body_size); short = omega (arith, body_size) }

  right : length (cuei ++ s) ≤ 254
  right = omega (arith, body_size)

  item_alone : segmentation_item s ≡ piece 2 (cuei ++ s) right []
  item_alone = ap (λ (l : List ℕ). 2 ∷ (length (cuei ++ s) ∷ l)) (sym (append-nil (cuei ++ s)))

  pub item_reads : (step_of (segmentation_item s) 0).item ≡ item_at 6 (segmentation_of s)
  item_reads =
      let fits : length (piece 2 (cuei ++ s) right []) ≤ 4076 = omega (arith, body_size, length-append (cuei ++ s) []) in
      ap (λ (l : List ℕ). (step_of l 0).item) item_alone
      ∙ ap (λ (x : Step). x.item) (step_of_complete 2 (cuei ++ s) right [] fits (omega (arith, body_size)) (omega (arith, body_size)))
      ∙ ap (item_at 6) (is_segmentation s)

pub item_refilled : (s : List ℕ) (event : ℕ) (i : SegmentationDetail) (h : Holed s event i) (k : ℕ) (u : List ℕ) (q : ℕ) → k < 256 → check_of k u ≡ Ok q
    → length (payload h.fore h.post k u) ≤ 250
    → Piece (segmentation_item (payload h.fore h.post k u))
    × ((step_of (segmentation_item (payload h.fore h.post k u)) 0).item
    ≡ Some (Ok (moved_descriptor 6 (Segmentation (record { segmentation_event_id = event; descriptor_detail = Active (with_upid i (reported_upid q (record { at = length h.fore + 2; len = length u }))) })))))
item_refilled s event i h k u q hk e short =
    (item_piece (payload h.fore h.post k u) short, item_reads (payload h.fore h.post k u) short ∙ ap (item_at 6) (h.refilled k u q hk e))
