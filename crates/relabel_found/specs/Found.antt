-- Where an identifier stands that is to be replaced: an item of a loop, and the UPID in its payload.
use Rattle.std.specs.Prelude.{ℕ, ◌+◌, ◌-◌, Bool, false, not, ◌&&◌, ◌||◌, List, [], ◌∷◌, ltb, leb, eqb, length, take, drop, get_or, Ok, Err, Some, None, Option, Result}
use Rattle.descriptor.specs.Descriptor.{is_cuei}
use Rattle.descriptor.specs.Segmentation.{cancelled}
use Rattle.descriptor.specs.Full.{of_segmentation}
use Rattle.descriptor_loop.specs.Items.{step_of, Listed, items_of}
use Rattle.relabel_payload.specs.Payload.{upid_head}
use Rattle.descriptor.specs.declared.Descriptor.{Descriptor}
use Rattle.descriptor_loop.specs.declared.ItemRefusal.{ItemRefusal}

-- ---- the item

-- one of these items begins at an offset
unfoldable pub begins : List Listed → ℕ → Bool
begins [] offset = false
begins (x ∷ xs) offset = eqb x.offset offset || begins xs offset

-- a segmentation descriptor that is not cancelled
abbrev pub is_active : Option (Result Descriptor ItemRefusal) → Bool
is_active None = false
is_active (Some (Err r)) = false
is_active (Some (Ok d)) = of_segmentation (λ x. not (cancelled x.descriptor_detail)) false d

-- one that begins at an offset of the loop
unfoldable pub found : List ℕ → ℕ → Bool
found loop offset = begins (items_of loop) offset && is_active (step_of loop offset).item

-- its payload: L bytes stand behind its head, of which four are the identifier
abbrev pub payload_at : List ℕ → ℕ → List ℕ
payload_at loop offset = take (get_or loop (offset + 1) 0 - 4) (drop (offset + 6) loop)

-- ---- the UPID in the payload: what stands before its head, its type, its length, its bytes, and what stands after it

abbrev pub fore_in : List ℕ → List ℕ
fore_in pay = take (upid_head pay) pay

abbrev pub type_in : List ℕ → ℕ
type_in pay = get_or pay (upid_head pay) 0

abbrev pub size_in : List ℕ → ℕ
size_in pay = get_or pay (upid_head pay + 1) 0

abbrev pub upid_in : List ℕ → List ℕ
upid_in pay = take (size_in pay) (drop (upid_head pay + 2) pay)

abbrev pub post_in : List ℕ → List ℕ
post_in pay = drop (upid_head pay + 2 + size_in pay) pay

-- ---- the item but for the rules of its UPID: `found` is this and an accepted UPID (`found_spots`, `spots_found` in proofs/Spots.antt)

-- where what stands after the UPID begins
abbrev pub post_at : List ℕ → ℕ
post_at pay = upid_head pay + 2 + size_in pay

-- a segmentation descriptor by "tag, L, identifier of 4", which fits into the loop; its shortest payload has 11 bytes
unfoldable pub titled : List ℕ → ℕ → Bool
titled loop offset =
    let L : ℕ = get_or loop (offset + 1) 0 in
    leb 15 L && (leb (offset + (L + 2)) (length loop) && (leb L 254 && (eqb (get_or loop offset 0) 2 && is_cuei (take 4 (drop (offset + 2) loop)))))

-- its payload: after the UPID "type id 8, number 8, expected 8. Then 0 bytes left: no sub-segments; 1 left: 21"; the cancel bit is not set
unfoldable pub complete : List ℕ → Bool
complete pay = leb (post_at pay + 3) (length pay) && (not (eqb (length pay) (post_at pay + 4)) && ltb (get_or pay 4 0) 128)

unfoldable pub spots : List ℕ → ℕ → Bool
spots loop offset = begins (items_of loop) offset && (titled loop offset && complete (payload_at loop offset))
