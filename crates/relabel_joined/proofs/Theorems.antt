-- The laws of the four levels, joined: what is asked of the result, but for the code.
use Prim.Native.Nat.{ℕ, zero, suc, ◌≤◌, ◌<◌}
use mathlib.Core.List.{List, ◌∷◌, ◌++◌}
use mathlib.Core.Path.{◌≡◌, refl, sym, subst}
use native.Mathlib.Omega.{arith}
use lib.ListN.{length}
use Rattle.table.specs.Writing.{made}
use Rattle.upid.specs.Upid.{check_of, upid_of}
use Rattle.upid.specs.Private.{Accepted}
use Rattle.descriptor.specs.declared.segmentation.SegmentationDetail.{SegmentationDetail}
use Rattle.descriptor_loop.specs.Items.{Listed, items_of}
use Rattle.section.specs.Section.{loop_bytes, section_of}
use Rattle.section.specs.declared.Section.{Section}
use Rattle.relabel_loop.specs.Loop.{with_item}
use Rattle.relabel_loop.proofs.Theorems.{every_other_item_stays, of_the_item_only_the_upid_differs}
use Rattle.relabel_payload.specs.Payload.{payload, Holed}
use Rattle.relabel_section.proofs.Frames.{new_loop_fits, old_loop_fits}
use Rattle.relabel_section.proofs.Theorems.{header_and_command_stay}
use Rattle.relabel_upid.specs.Relabel.{upid_made}
use Rattle.relabel_upid.proofs.Theorems.{every_other_identifier_stays, the_upid_itself}
use Rattle.relabel_joined.specs.Relabel.{type_then, item_then, relabelled, Kept}
use Rattle.std.proofs.Common.{Ok, Err, Result}
use Rattle.upid.specs.declared.Refusal.{Refusal}

fine_of : (a : Result ℕ Refusal) → Accepted a → (q : ℕ) × (a ≡ Ok q)
fine_of (Ok q) h = (q, refl)
fine_of (Err r) h = absurd h

-- what is made of a UPID is accepted under the type that it then has
pub made_fine : (upid_type_number : ℕ) (top : List ℕ) (part k : ℕ) (new b : List ℕ) → upid_made upid_type_number top part k new ≡ made b → (q : ℕ) × (check_of (type_then part upid_type_number k) b ≡ Ok q)
unfolding upid_of
made_fine upid_type_number top zero k new b e = fine_of (check_of k b) (the_upid_itself upid_type_number top k new b e).1
made_fine upid_type_number top (suc i) k new b e =
    let x = every_other_identifier_stays upid_type_number top i k new b e in
    fine_of (check_of upid_type_number b) (subst (λ (t : ℕ). Accepted (check_of t b)) (sym x.0) x.1.accepted)

pub made_byte : (upid_type_number : ℕ) (top : List ℕ) (part k : ℕ) (new b : List ℕ) → k < 256 → upid_made upid_type_number top part k new ≡ made b → type_then part upid_type_number k < 256
made_byte upid_type_number top zero k new b h e = h
made_byte upid_type_number top (suc i) k new b h e = omega (arith, (every_other_identifier_stays upid_type_number top i k new b e).0)

-- A section s is accepted; an item x of its loop is a segmentation descriptor that is not cancelled, with the payload `pay` (whose UPID fills the hole h); of that UPID
-- part number `part` becomes an identifier of type k with the bytes `new`, which makes the UPID b; and the descriptor's length stays within 254, the section's within 4,096.
-- Then the relabelled section is accepted, its header, its command and every other item read the same, and of the item itself only the UPID differs. What becomes of
-- the UPID is said by `every_other_identifier_stays` and `the_upid_itself` (relabel_upid).
pub everything_else_stays : (s : List ℕ) (old : Section) (lead : List Listed) (x : Listed) (tail : List Listed) (event : ℕ) (i : SegmentationDetail) (pay : List ℕ) (h : Holed pay event i)
    (part k : ℕ) (new b : List ℕ) → section_of s ≡ Ok old → items_of (loop_bytes s) ≡ lead ++ (x ∷ tail) → k < 256 → upid_made h.upid_type h.bytes part k new ≡ made b
    → length (payload h.fore h.post (type_then part h.upid_type k) b) ≤ 250
    → length (relabelled s x h.fore h.post (type_then part h.upid_type k) b) ≤ 4096
    → Kept s old lead x tail event i h.fore h.post (type_then part h.upid_type k) b
everything_else_stays s old lead x tail event i pay h part k new b accepted items byte e short fits =
    let t : ℕ = type_then part h.upid_type k in
    let d : List ℕ = item_then h.fore h.post t b in
    let loop : List ℕ = with_item (loop_bytes s) x d in
    let f = made_fine h.upid_type h.bytes part k new b e in
    let own = of_the_item_only_the_upid_differs pay event i h t b f.0 (made_byte h.upid_type h.bytes part k new b byte e) f.1 short in
    let frame = header_and_command_stay s loop old accepted fits in
    record {
      section = frame.0;
      loop = frame.1;
      others = every_other_item_stays (loop_bytes s) lead x tail d (old_loop_fits s loop old accepted fits) own.0 (new_loop_fits s loop old accepted fits) items;
      reported = f.0;
      own = own.1;
    }
