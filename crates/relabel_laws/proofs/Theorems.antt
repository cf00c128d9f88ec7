-- What is proved of a relabelled section, in the words of specs/Result.antt. The proofs stand in Results.antt.
use Prim.Native.Nat.{ℕ, ◌<◌}
use mathlib.Core.List.{List, ◌++◌}
use mathlib.Core.Path.{◌≡◌}
use lib.ListN.{get_or}
use Rattle.relabel.specs.Relabel.{relabel_made}
use Rattle.table.specs.Writing.{made}
use Rattle.relabel.specs.Relabel.{payload_in}
use Rattle.relabel_found.specs.Found.{type_in, upid_in}
use Rattle.section.specs.Section.{loop_bytes}
use Rattle.relabel_laws.specs.Identifiers.{of_payload, each, identifiers_in, upid_then}
use Rattle.relabel_laws.specs.Result.{Result}
use Rattle.relabel_laws.proofs.Results as results
use Rattle.relabel_laws.proofs.Replaced as replaced

-- Whatever `relabel` writes is accepted, with the same header, command and items, views moved; of the item named only the UPID differs, and of that UPID only the
-- part named.
pub every_other_identifier_of_the_section_stays : (s : List ℕ) (offset part k : ℕ) (new r : List ℕ) → ((j : ℕ) → get_or s j 0 < 256) → k < 256
    → relabel_made s offset part k new ≡ made r → Result s offset part k new r
every_other_identifier_of_the_section_stays = results.result

-- The list of the section's identifiers (level, type as written, bytes; of every UPID and every part of a MID) is the old list with that one replaced: those of
-- the items before and after it are the same, in the same order, and of the item's own UPID it is `upid_then`: the new identifier where it is the UPID itself, and
-- else the parts before and after it with the new one between them (`identifiers_then`, relabel_upid/specs/Kept.antt).
pub the_list_is_the_old_one_with_that_one_replaced : (s : List ℕ) (offset part k : ℕ) (new r : List ℕ) → ((j : ℕ) → get_or s j 0 < 256) → k < 256
    → relabel_made s offset part k new ≡ made r
    → (x : Result s offset part k new r)
    × (identifiers_in s ≡ each (loop_bytes s) x.lead ++ (of_payload (payload_in s offset) ++ each (loop_bytes s) x.tail))
    × (identifiers_in r ≡ each (loop_bytes s) x.lead ++ (upid_then (type_in (payload_in s offset)) (upid_in (payload_in s offset)) part k new ++ each (loop_bytes s) x.tail))
the_list_is_the_old_one_with_that_one_replaced s offset part k new r bytes byte e =
    let x = results.result s offset part k new r bytes byte e in
    (x, replaced.old_list s offset part k new r x, replaced.new_list s offset part k new r x)
