-- Components as bytes.
--     listed_stores     their bytes stored are their fields stored
--     listed_so         stored from a target's first byte on, they are the bytes there
use Prim.Native.Nat.{ℕ, zero, suc, ◌+◌, ◌-◌, ◌*◌, ◌/◌, ◌<◌, ◌≤◌}
use mathlib.Core.List.{List, [], ◌∷◌, ◌++◌}
use mathlib.Core.Path.{◌≡◌, refl, ap, sym, ◌∙◌}
use native.Mathlib.Omega.{arith}
use lib.ListN.{length, take, drop, replicate, length-append}
use lib.Seq.{length-take-le, take_at}
use Rattle.table.specs.Bits.{bits_of_num, bits_of, bytes_of, AllBytes}
use Rattle.table.specs.Cursor.{place}
use Rattle.table.specs.Writing.{Content, number, bytes, contents, print}
use Rattle.table.specs.declared.cursor.Cursor.{Cursor}
use Rattle.table.proofs.Bits.{length_num, length_bytes_n}
use Rattle.table.proofs.Fields.{bits_bytes}
use Rattle.table.proofs.Lists.{append_nil}
use Rattle.table.proofs.Walks.{print_bits}
use Rattle.descriptor.specs.Segmentation.{component_count}
use Rattle.descriptor.specs.declared.segmentation.SegmentationComponent.{SegmentationComponent}
use Rattle.descriptor.specs.declared.segmentation.SegmentationDescriptor.{SegmentationDescriptor}
use Rattle.descriptor_measure.specs.Private.{components_fields}
use Rattle.bit_stores.specs.Pen.{penned}
use Rattle.bit_stores.proofs.Penned.{penned_aligned}
use Rattle.descriptor_writer.specs.Private.{Stores, start, component_bytes}
use Rattle.descriptor_writer.proofs.Storing.{same_print}
use Rattle.descriptor_writer.proofs.Envelopes.{place_start}

abbrev listed_bits : List SegmentationComponent → List ℕ
listed_bits cs = print (contents [] (components_fields cs))

three : (a b d r : List ℕ) → length (a ++ (b ++ (d ++ r))) ≡ length a + length b + length d + length r
three a b d r = omega (arith, length-append a (b ++ (d ++ r)), length-append b (d ++ r), length-append d r)

listed_length : (cs : List SegmentationComponent) → length (listed_bits cs) ≡ length cs * 6 * 8
listed_length [] = refl
listed_length (x ∷ cs) =
    three (bits_of_num 8 x.component_tag) (bits_of_num 7 127) (bits_of_num 33 x.pts_offset) (listed_bits cs)
    ∙ omega (arith, length_num 8 x.component_tag, length_num 7 127, length_num 33 x.pts_offset, listed_length cs)

-- they have no view
no_view_lem : (l m : List ℕ) (cs : List SegmentationComponent) → contents l (components_fields cs) ≡ contents m (components_fields cs)
no_view_lem l m [] = refl
no_view_lem l m (x ∷ cs) = ap (λ (k : List Content). number 8 x.component_tag ∷ (number 7 127 ∷ (number 33 x.pts_offset ∷ k))) (no_view_lem l m cs)

pub listed_stores : (from : List ℕ) (cs : List SegmentationComponent) (b t : List ℕ) (c : Cursor) (u : List ℕ) (d : Cursor) → b ≡ component_bytes cs → Stores t c (bytes b ∷ []) u d
    → Stores t c (contents from (components_fields cs)) u d
listed_stores from cs b t c u d e s =
    same_print t c (bytes b ∷ []) (contents from (components_fields cs)) u d
    (append_nil (bits_of b) ∙ ap bits_of e ∙ bits_bytes (length cs * 6) (listed_bits cs) (print_bits (contents [] (components_fields cs))) (listed_length cs) ∙ ap print (no_view_lem [] from cs)) s

listed_there : (t v : List ℕ) (cs : List SegmentationComponent) (d : Cursor) (k : ℕ) → AllBytes t → k ≡ length cs * 6 → k ≤ length t → Stores t start (contents [] (components_fields cs)) v d
    → take k v ≡ component_bytes cs
listed_there t v cs d k a e h s =
    let n : length (listed_bits cs) ≡ k * 8 = listed_length cs ∙ omega arith in
    let f : place start + length (listed_bits cs) ≤ length t * 8 = rw (n, place_start) (omega arith) in
    let p = s.stores f in
    let w : v ≡ bytes_of (listed_bits cs) ++ drop k t =
    p.bytes ∙ ap (λ (m : ℕ). penned t m (listed_bits cs)) place_start ∙ penned_aligned t (listed_bits cs) k a (print_bits (contents [] (components_fields cs))) n h in
    ap (take k) w ∙ take_at (bytes_of (listed_bits cs)) (drop k t) k (length_bytes_n (length (listed_bits cs) / 8) (listed_bits cs) ∙ omega arith)

pub all_zeros : (n : ℕ) → AllBytes (replicate n 0)
all_zeros zero = tt
all_zeros (suc n) = (omega arith, all_zeros n)

-- a descriptor's components, as many as it counts, in a part from the first byte on
pub listed_so : (x : SegmentationDescriptor) (cs : List SegmentationComponent) (n : ℕ) → n ≡ component_count x → length cs ≡ 255 → n < 256
    → (t : List ℕ) → AllBytes t → length t ≡ 1530 → (v : List ℕ) (d : Cursor) → Stores t start (contents [] (components_fields (take n cs))) v d
    → take (n * 6 - 0) v ≡ component_bytes (take (component_count x) cs)
listed_so x cs n e l h t a m v d s =
    let z : n * 6 - 0 ≡ n * 6 = omega arith in
    rw (z, ← e) (listed_there t v (take n cs) d (n * 6) a (ap (λ (k : ℕ). k * 6) (sym (length-take-le n cs (omega arith)))) (omega arith) s)

-- none
pub none_listed : (n : ℕ) (cs : List SegmentationComponent) → n ≡ 0 → [] ≡ component_bytes (take n cs)
none_listed n cs e = rw e
