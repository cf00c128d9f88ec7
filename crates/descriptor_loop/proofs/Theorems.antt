-- What is proved of a loop's items, in the words of specs/Items.antt and specs/Cover.antt. `step_of loop offset` is the answer of `step`, and `items_of
-- loop` are the items that it gives one after the other. The proofs stand in Steps.antt, Lists.antt, Cuttings.antt and Readings.antt.
use Prim.Native.Nat.{ℕ, ◌+◌, ◌-◌, ◌≤◌, ◌<◌}
use mathlib.Core.Path.{◌≡◌, sym, ◌∙◌}
use mathlib.Core.List.{List}
use native.Mathlib.Omega.{arith}
use lib.ListN.{length, take, drop, get_or}
use borrow.Author.Tests.{lt-ltb}
use Rattle.upid.proofs.Laws.{by_cases}
use Rattle.upid.specs.Cover.{All}
use Rattle.upid.specs.declared.Refusal.TheVariants.{InputTooLong}
use Rattle.descriptor.specs.Full.{full_of}
use Rattle.descriptor_loop.specs.Private.{Run}
use Rattle.descriptor_loop.specs.Cover.{Ends, Cutting, TakesRest, Covered, times}
use Rattle.descriptor_loop.specs.Items.{without_identifier, step_of, reading_of, Listed, items_of, count_of}
use Rattle.descriptor_loop.specs.Place.{views_of}
use Rattle.descriptor_loop.specs.declared.ItemRefusal.TheVariants.{Other}
use Rattle.descriptor_loop.proofs.Cuttings as cuttings
use Rattle.descriptor_loop.proofs.Lists as lists
use Rattle.descriptor_loop.proofs.Readings as readings
use Rattle.descriptor_loop.proofs.Readings.{placed}
use Rattle.descriptor_loop.proofs.Steps as steps
use Rattle.std.proofs.Common.{Ok, Err, Some}

-- ---- no item is split

-- The items of a loop, in order, cover it; their bytes are its one cutting by document 01's rules.
pub items_cover_the_loop : (loop : List ℕ) → length loop ≤ 4076 → Covered loop (items_of loop)
items_cover_the_loop loop fits =
    let w = lists.walked loop fits in
    record {
      cutting = record { joins = cuttings.joined_walk w; by_items = cuttings.by_items_walk w };
      only = λ other c. cuttings.one_cutting c.by_items (cuttings.by_items_walk w) (c.joins ∙ sym (cuttings.joined_walk w));
      follow = cuttings.follow_walk w;
    }

-- Every byte of a loop lies in exactly one item.
pub every_byte_lies_in_one_item : (loop : List ℕ) → length loop ≤ 4076 → (i : ℕ) → i < length loop → times i (items_of loop) ≡ 1
every_byte_lies_in_one_item loop fits i h = cuttings.once_follow i (cuttings.follow_walk (lists.walked loop fits)) (omega arith) h

-- Two cuttings of one loop are equal.
pub no_other_cutting : (loop : List ℕ) (ps qs : List (List ℕ)) → Cutting loop ps → Cutting loop qs → ps ≡ qs
no_other_cutting loop ps qs c d = cuttings.one_cutting c.by_items d.by_items (c.joins ∙ sym d.joins)

-- Every identifier of an item (DTMF characters, UPID, private bytes), and the text of refusal 24, is one run of the loop, inside the item's own bytes.
pub every_identifier_is_one_run : (loop : List ℕ) → length loop ≤ 4076 → All (λ (x : Listed). All (Run loop x) (views_of x.step.item)) (items_of loop)
every_identifier_is_one_run loop fits = cuttings.runs_walk (lists.walked loop fits)

-- ---- the steps of a loop

pub a_step_goes_forward : (loop : List ℕ) (offset : ℕ) → length loop ≤ 4076 → offset < length loop → offset < (step_of loop offset).next
a_step_goes_forward loop offset fits inside = steps.forward inside (steps.turn loop offset fits inside)

pub a_step_stays_within : (loop : List ℕ) (offset : ℕ) → length loop ≤ 4076 → offset < length loop → (step_of loop offset).next ≤ length loop
a_step_stays_within loop offset fits inside = steps.within (steps.turn loop offset fits inside)

-- An ending refusal takes the rest.
pub an_ending_refusal_takes_the_rest : (loop : List ℕ) (offset : ℕ) → length loop ≤ 4076 → Ends (drop offset loop) → TakesRest loop (step_of loop offset)
an_ending_refusal_takes_the_rest loop offset fits e = steps.takes_rest loop offset fits e

pub at_most_2037_items : (loop : List ℕ) → length (items_of loop) ≤ 2037
at_most_2037_items = lists.few_items

-- A loop over 4,076 bytes is refused at any offset, also past its end.
pub too_long_before_ended : (loop : List ℕ) (offset : ℕ) → 4076 < length loop → step_of loop offset ≡ without_identifier (Some (Err (Other InputTooLong))) (length loop)
too_long_before_ended = steps.step_long

-- ---- the full reading

-- Where an item with an identifier stands (4 ≤ L ≤ 254, and it fits), its full reading is the whole descriptor that its tag, identifier and payload
-- make: the same item with its views moved by the payload's place, the same identifier, and the same components and EIDR beside it.
pub a_reading_is_the_full_descriptor : (loop : List ℕ) (offset L : ℕ) → length loop ≤ 4076 → L ≡ get_or loop (offset + 1) 0 → offset + (L + 2) ≤ length loop → 4 ≤ L → L ≤ 254
    → reading_of loop offset ≡ placed (offset + 6) (offset + (L + 2)) (full_of (get_or loop offset 0) (take 4 (drop (offset + 2) loop)) (take (L - 4) (drop (offset + 6) loop)))
a_reading_is_the_full_descriptor loop offset L fits is there h right =
    readings.reading_full loop offset L (record { fits = fits; is = is; six = omega arith; there = there; right = right }) h

-- ---- for programs over a loop

-- a loop whose items were counted can be stepped over
pub counted_fits : (loop : List ℕ) (n : ℕ) → count_of loop ≡ Ok n → length loop ≤ 4076
unfolding count_of
counted_fits loop n e =
    by_cases 4076 (length loop)
    (λ h. let z : ◌≡◌ {A = ℕ} 0 1 = cc (lt-ltb 4076 (length loop) h) in absurd (omega arith))
    (λ h. h)
