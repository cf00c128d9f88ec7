-- More of what is proved of a relabelled section. The proofs stand in Canon.antt and Besides.antt.
use Prim.Native.Nat.{ℕ, ◌<◌}
use mathlib.Core.Bool.{true}
use mathlib.Core.List.{List, ◌∷◌, ◌++◌}
use mathlib.Core.Path.{◌≡◌}
use lib.ListN.{get_or}
use Rattle.relabel.specs.Relabel.{relabel_made}
use Rattle.descriptor_loop.specs.Items.{reading_of}
use Rattle.relabel_laws.proofs.Theorems.{every_other_identifier_of_the_section_stays}
use Rattle.relabel_laws.specs.Result.{Result}
use Rattle.section.specs.Section.{loop_bytes}
use Rattle.canonical_form.specs.Section.{canonical_section}
use Rattle.table.specs.Writing.{made}
use Rattle.relabel_canonical.specs.Beside.{besides, besides_in, beside_then}
use Rattle.relabel_canonical.proofs.Besides as beside
use Rattle.relabel_canonical.proofs.Canon as canon

-- Canonical in, canonical out: of a canonical section whatever `relabel` writes is canonical. Nothing more is asked of the new identifier than that it is
-- taken: an empty UPID, or one that its reader refuses, is refused before.
pub canonical_in_canonical_out : (s : List ℕ) (offset part k : ℕ) (new r : List ℕ) → ((j : ℕ) → get_or s j 0 < 256) → k < 256
    → canonical_section s ≡ true → relabel_made s offset part k new ≡ made r → canonical_section r ≡ true
canonical_in_canonical_out s offset part k new r bytes byte c e =
    canon.section_kept s offset part k new r bytes byte (every_other_identifier_of_the_section_stays s offset part k new r bytes byte e) c

-- What stands beside the items (the components and the EIDR of each, as `read_item` answers them): the list is the old one with that of the item named
-- replaced by `beside_then`. So beside every other item stands what stood there; beside the item itself the same components, and the same EIDR unless the UPID
-- itself was replaced: then it is the EIDR of the new UPID, blank where that is none. The item is at the same offset as before.
pub what_stands_beside_stays : (s : List ℕ) (offset part k : ℕ) (new r : List ℕ) → ((j : ℕ) → get_or s j 0 < 256) → k < 256 → relabel_made s offset part k new ≡ made r
    → (x : Result s offset part k new r)
    × (besides_in s ≡ besides (loop_bytes s) x.lead ++ ((reading_of (loop_bytes s) offset).beside ∷ besides (loop_bytes s) x.tail))
    × (besides_in r ≡ besides (loop_bytes s) x.lead ++ (beside_then part k new (reading_of (loop_bytes s) offset).beside ∷ besides (loop_bytes s) x.tail))
    × ((reading_of (loop_bytes r) offset).beside ≡ beside_then part k new (reading_of (loop_bytes s) offset).beside)
what_stands_beside_stays s offset part k new r bytes byte e =
    let x = every_other_identifier_of_the_section_stays s offset part k new r bytes byte e in (
      x,
      beside.old_besides s offset part k new r bytes byte x,
      beside.new_besides s offset part k new r bytes byte x,
      beside.new_beside s offset part k new r bytes byte x,
    )
