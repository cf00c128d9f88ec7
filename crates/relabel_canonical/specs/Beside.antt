-- What stands beside the items of a section: the components and the EIDR of each segmentation descriptor, and the blank beside any other item.
use Rattle.std.specs.Prelude.{ℕ, zero, suc, List, map}
use Rattle.descriptor.specs.declared.full.Beside.{Beside}
use Rattle.descriptor_loop.specs.Items.{reading_of, Listed, items_of}
use Rattle.section.specs.Section.{loop_bytes}
use Rattle.upid.specs.Upid.{eidr_of}

-- what is read beside each of these items of a loop
abbrev pub besides : List ℕ → List Listed → List Beside
besides loop xs = map (λ (x : Listed). (reading_of loop x.offset).beside) xs

unfoldable pub besides_in : List ℕ → List Beside
besides_in s = besides (loop_bytes s) (items_of (loop_bytes s))

-- Beside the item of which part number `part` became an identifier of type `upid_type_number` with the bytes `new`: the same components; and the EIDR of the new
-- UPID where that is the UPID itself. A part of a MID is never held by value.
unfoldable pub beside_then : ℕ → ℕ → List ℕ → Beside → Beside
beside_then zero upid_type_number new b = record { components = b.components; eidr = eidr_of upid_type_number new }
beside_then (suc i) upid_type_number new b = b
