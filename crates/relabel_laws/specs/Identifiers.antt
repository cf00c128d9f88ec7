-- The identifiers of a section's UPIDs, wherever they lie: of each its level, its type as it is written, and its bytes.
use Rattle.std.specs.Prelude.{ℕ, zero, suc, ◌+◌, ◌-◌, List, [], ◌∷◌, ◌++◌, eqb, length, take, drop}
use Rattle.descriptor_loop.specs.Items.{Listed, items_of}
use Rattle.relabel_found.specs.Found.{is_active, type_in, upid_in}
use Rattle.relabel_upid.specs.Kept.{Identifier, identifiers_of, identifiers_then}
use Rattle.section.specs.Section.{loop_bytes}
use Rattle.table.specs.Bits.{pick}
use Rattle.upid.specs.Upid.{upid_of, parts_in}

-- of a UPID: none where it is empty; those of its parts, at every level, where it is a MID; else itself, at level 0
unfoldable pub of_upid : ℕ → List ℕ → List Identifier
of_upid upid_type_number u = pick (eqb (length u) 0) [] (pick (eqb upid_type_number 13) (identifiers_of u) (record { level = 0; upid_type = upid_type_number; bytes = u } ∷ []))

abbrev pub of_payload : List ℕ → List Identifier
of_payload pay = of_upid (type_in pay) (upid_in pay)

-- of an item: those of its UPID where it is a segmentation descriptor that is not cancelled
unfoldable pub of_item : List ℕ → Listed → List Identifier
of_item loop x = pick (is_active x.step.item) (of_payload (take (x.used - 6) (drop (x.offset + 6) loop))) []

abbrev pub each : List ℕ → List Listed → List Identifier
each loop [] = []
each loop (x ∷ xs) = of_item loop x ++ each loop xs

unfoldable pub identifiers_in : List ℕ → List Identifier
identifiers_in s = each (loop_bytes s) (items_of (loop_bytes s))

-- those of the UPID `top` of type `upid_type_number` when its part number `part` became an identifier of type `new_type` with the bytes `new`: the old list with
-- that one replaced
unfoldable pub upid_then : ℕ → List ℕ → ℕ → ℕ → List ℕ → List Identifier
upid_then upid_type_number top zero new_type new = of_upid new_type new
upid_then upid_type_number top (suc i) new_type new = identifiers_then top (parts_in (upid_of 13 top)) i new_type new
