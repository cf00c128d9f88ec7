-- Descriptor loops: written of their items, and read. A reader needs specs/Loops.antt beside this file, and the definitions of `descriptor_loop` and `descriptor_measure`.
use Prim.Native.Nat.{ℕ, ◌≤◌}
use mathlib.Core.Bool.{true}
use mathlib.Core.List.{List, map}
use mathlib.Core.Path.{◌≡◌, ap, sym, subst, ◌∙◌}
use lib.ListN.{length}
use Rattle.table.specs.Bits.{AllBytes}
use Rattle.table.specs.Writing.{made}
use Rattle.upid.specs.Cover.{All}
use Rattle.canonical_form.specs.Descriptor.{canonical_loop}
use Rattle.descriptor_loop.proofs.Theorems.{items_cover_the_loop}
use Rattle.descriptor_loop.specs.Cover.{joined, run_of}
use Rattle.descriptor_loop.specs.Items.{items_of}
use Rattle.descriptor_round_trips.specs.Trips.{Handed}
use Rattle.loop_round_trips.specs.Loops.{WrittenAgain, given_made}
use Rattle.canonical_form.specs.Same.{Given, Pairs, ItemBack, SameItem}
use Rattle.loop_round_trips.proofs.Loops.{all_pieces, written_at, every_item, cut_one, given_write_read}
use Rattle.loop_round_trips.proofs.Pieces.{Canonical, canonical_cut, items_cut}

-- the canonical descriptors of a canonical loop
pub cut : (loop : List ℕ) → canonical_loop loop ≡ true → (ts : List (List ℕ)) × All Canonical ts × (joined ts ≡ loop)
unfolding canonical_loop
cut loop c = canonical_cut (length loop) loop c

-- "Writing a reading means each item's descriptor, joined in order as the loop": of a canonical loop each item is written as its own bytes, which joined are the loop.
pub loop_read_write : (loop : List ℕ) → AllBytes loop → length loop ≤ 4076 → canonical_loop loop ≡ true
    → All (WrittenAgain loop) (items_of loop) × (joined (map (run_of loop) (items_of loop)) ≡ loop)
loop_read_write loop a fits c =
    let t = cut loop c in
    (every_item loop fits (items_cut loop fits t.1 t.2) (all_pieces t.0 (subst AllBytes (sym t.2) a)) (written_at loop fits), (items_cover_the_loop loop fits).cutting.joins)

-- Two different canonical loops never have the same items.
pub loop_one : (loop other : List ℕ) → AllBytes loop → AllBytes other → length loop ≤ 4076 → length other ≤ 4076 → canonical_loop loop ≡ true → canonical_loop other ≡ true
    → Pairs (SameItem loop other) (items_of loop) (items_of other) → loop ≡ other
loop_one loop other a b fits fits₂ c d same =
    let t = cut loop c in
    let u = cut other d in
    let e = cut_one loop other fits fits₂ (items_cut loop fits t.1 t.2) (items_cut other fits₂ u.1 u.2) (all_pieces t.0 (subst AllBytes (sym t.2) a))
    (all_pieces u.0 (subst AllBytes (sym u.2) b)) same in
    sym t.2 ∙ ap joined e ∙ u.2

-- What is written of descriptors, joined in order, is a canonical loop, and its items read back as what was handed in.
pub loop_write_read : (gs : List Given) (bs : List (List ℕ)) → All (λ (g : Given). Handed g.descriptor g.identifier g.beside g.lent) gs → length (joined bs) ≤ 4076
    → Pairs (λ (g : Given) (b : List ℕ). given_made g ≡ made b) gs bs → (canonical_loop (joined bs) ≡ true) × Pairs (ItemBack (joined bs)) (items_of (joined bs)) gs
loop_write_read gs bs h fits e = given_write_read h fits e
