-- What is proved of a loop in which one item is replaced, in the words of specs/Loop.antt. The proofs stand in Moves.antt, Pieces.antt and Replaced.antt.
use Prim.Native.Nat.{ℕ, ◌+◌, ◌<◌, ◌≤◌}
use mathlib.Core.List.{List, ◌∷◌, ◌++◌, map}
use mathlib.Core.Path.{◌≡◌, ap, sym, ◌∙◌}
use native.Mathlib.Omega.{arith}
use lib.ListN.{length, take, length-append}
use lib.Seq.{drop-append-add}
use borrow.Author.Tests.{le-leb}
use Rattle.table.specs.Lent.{viewed, shifted}
use Rattle.table.specs.declared.View.{View}
use Rattle.table.proofs.Longer.{viewed_on}
use Rattle.upid.specs.Upid.{check_of}
use Rattle.descriptor.specs.Descriptor.{reported_upid}
use Rattle.descriptor.specs.Segmentation.{with_upid}
use Rattle.descriptor.specs.declared.Descriptor.TheVariants.{Segmentation}
use Rattle.descriptor.specs.declared.segmentation.DescriptorDetail.TheVariants.{Active}
use Rattle.descriptor.specs.declared.segmentation.SegmentationDetail.{SegmentationDetail}
use Rattle.descriptor_loop.specs.Items.{step_of, Listed, listed, items_of}
use Rattle.descriptor_loop.specs.Place.{moved_descriptor}
use Rattle.relabel_payload.specs.Payload.{payload, Holed}
use Rattle.relabel_loop.specs.Item.{segmentation_item}
use Rattle.relabel_loop.specs.Loop.{moved_step, moved_listed, with_item, Piece, OthersStay}
use Rattle.relabel_loop.proofs.Moves as moves
use Rattle.relabel_loop.proofs.Pieces as pieces
use Rattle.relabel_loop.proofs.Replaced as replaced
use Rattle.relabel_loop.proofs.Upids as upids
use Rattle.std.proofs.Common.{Ok, Some}

-- Any item x of a loop, also a refused one, replaced by an item d: every other item stays as it was, its views moved with its bytes.
pub every_other_item_stays : (loop : List ℕ) (lead : List Listed) (x : Listed) (tail : List Listed) (d : List ℕ) → length loop ≤ 4076 → Piece d → length (with_item loop x d) ≤ 4076
    → items_of loop ≡ lead ++ (x ∷ tail) → OthersStay loop lead x tail d
every_other_item_stays = replaced.others_stay

-- The item whose UPID is replaced: its payload is a hole that the UPID fills (`Holed`, relabel_payload/specs/Payload.antt); with any other UPID that is accepted, and
-- its length mended, it is an item that may stand in the place of the old one, and of its reading only the UPID differs.
pub of_the_item_only_the_upid_differs : (s : List ℕ) (event : ℕ) (i : SegmentationDetail) (h : Holed s event i) (k : ℕ) (u : List ℕ) (q : ℕ) → k < 256 → check_of k u ≡ Ok q
    → length (payload h.fore h.post k u) ≤ 250
    → Piece (segmentation_item (payload h.fore h.post k u))
    × ((step_of (segmentation_item (payload h.fore h.post k u)) 0).item
    ≡ Some (Ok (moved_descriptor 6 (Segmentation (record { segmentation_event_id = event; descriptor_detail = Active (with_upid i (reported_upid q (record { at = length h.fore + 2; len = length u }))) })))))
of_the_item_only_the_upid_differs = upids.item_refilled

-- A step depends on the bytes from its offset on, and on nothing before them: with more bytes before it, it is the same, moved.
pub a_step_depends_on_what_follows : (pre s : List ℕ) → length (pre ++ s) ≤ 4076 → (o : ℕ) → step_of (pre ++ s) (length pre + o) ≡ moved_step (length pre) (step_of s o)
a_step_depends_on_what_follows = moves.step_moved

-- The items of a loop that begins with an item d: d as it reads alone, and the items of the rest, moved.
pub an_item_in_front : (d s : List ℕ) → Piece d → length (d ++ s) ≤ 4076 → items_of (d ++ s) ≡ listed d 0 ∷ map (moved_listed (length d)) (items_of s)
an_item_in_front = pieces.items_piece

-- A moved view hands back the same bytes, and so does a view of the bytes before what is replaced.
pub a_moved_view_hands_back_the_same_bytes : (pre s : List ℕ) (v : View) → v.at + v.len ≤ length s → viewed (pre ++ s) (shifted (length pre) v) ≡ viewed s v
unfolding viewed
a_moved_view_hands_back_the_same_bytes pre s v h =
    let there : length pre + v.at + v.len ≤ length (pre ++ s) = omega (arith, length-append pre s) in
    rw (le-leb _ _ h, le-leb _ _ there) (ap (take v.len) (drop-append-add pre s v.at))

pub a_view_before_hands_back_the_same_bytes : (pre s other : List ℕ) (v : View) → v.at + v.len ≤ length pre → viewed (pre ++ s) v ≡ viewed (pre ++ other) v
a_view_before_hands_back_the_same_bytes pre s other v h = viewed_on pre s v h ∙ sym (viewed_on pre other v h)
