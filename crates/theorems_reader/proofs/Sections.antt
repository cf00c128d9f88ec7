-- The identifiers of an accepted section.
use Prim.Native.Nat.{ℕ, ◌+◌, ◌≤◌, ◌<◌}
use mathlib.Core.Bool.{Bool, true, false, cond as pick}
use mathlib.Core.List.{List, [], ◌∷◌, ◌++◌}
use mathlib.Core.Path.{◌≡◌, refl, ap}
use native.Mathlib.Omega.{arith}
use lib.Dec.{eqb}
use lib.ListN.{length, drop, length-take, length-drop}
use borrow.Author.Tests.{eqb-true, eqb-false}
use Rattle.command.specs.Command.{command_of, of_private}
use Rattle.command.specs.declared.SpliceCommand.{SpliceCommand}
use Rattle.descriptor.specs.declared.segmentation.SegmentationUpid.{SegmentationUpid}
use Rattle.descriptor_loop.proofs.Lists.{Walked, stop, step, walked}
use Rattle.descriptor_loop.proofs.Places.{all_into, all_map}
use Rattle.descriptor_loop.proofs.Steps.{clause, turn, within, views_between}
use Rattle.descriptor_loop.proofs.Theorems.{items_cover_the_loop, every_byte_lies_in_one_item, an_ending_refusal_takes_the_rest}
use Rattle.descriptor_loop.specs.Cover.{Ends, TakesRest, Covered, times}
use Rattle.descriptor_loop.specs.Items.{step_of, Listed, listed, items_of}
use Rattle.section.specs.Section.{command_length, command_bytes, loop_length, loop_place, moved, section_of, loop_in}
use Rattle.section.specs.declared.Section.{Section}
use Rattle.table.specs.Lent.{viewed}
use Rattle.table.specs.declared.View.{View}
use Rattle.upid.proofs.Theorems.{only_a_mid_has_parts}
use Rattle.upid.specs.Cover.{All, none, more}
use Rattle.theorems_reader.specs.Identifiers.{Identifier, OneRun, in_section, in_lent, parts_of, eidr_of, each, identifiers_of_item, identifiers_of}
use Rattle.theorems_reader.proofs.Framed.{laid, private_in}
use Rattle.theorems_reader.proofs.Items.{Found, found, mid_of, eidr_of_lem, beside_runs}
use Rattle.theorems_reader.proofs.Runs.{length_run, section_run, lent_run}
use Rattle.std.proofs.Common.{Ok}

-- ---- lists

module _ {A : Type 0} {P : A → Type 0} where
  all_append : {xs ys : List A} → All P xs → All P ys → All P (xs ++ ys)
  all_append none q = q
  all_append (more p ps) q = more p (all_append ps q)

  all_each : {B : Type 0} {Q : B → Type 0} (f : B → List A) {xs : List B} → ((x : B) → Q x → All P (f x)) → All Q xs → All P (each f xs)
  all_each f g none = none
  all_each f g (more {x = x} q qs) = all_append (g x q) (all_each f g qs)

pub each_item : {P : Listed → Type 0} {loop : List ℕ} {offset : ℕ} {xs : List Listed} → ((o : ℕ) → o < length loop → P (listed loop o)) → Walked loop offset xs → All P xs
each_item f stop = none
each_item f (step {offset = o} inside e t w) = more (f o inside) (each_item f w)

-- ---- of a loop that is one run of the section

module _ (s : List ℕ) (i : Identifier) (r : OneRun s i) (fits : length i.bytes ≤ 4076) where
  module _ (o : ℕ) (inside : o < length i.bytes) where
    abbrev next : ℕ
    next = (step_of i.bytes o).next

    parts_run : (u : SegmentationUpid) → Found i.bytes o next u → All (OneRun s) (parts_of i.start i.bytes u)
    parts_run u f = go (eqb u.upid_type 13) refl
      where
        go : (t : Bool) → eqb u.upid_type 13 ≡ t → All (OneRun s) (parts_of i.start i.bytes u)
        go true t =
            let k : u.upid_type ≡ 13 = eqb-true _ _ t in
            rw k (all_map _ (all_into (λ p a. a.unbroken) (mid_of s i r o next u f k).parts))
        go false t = rw (only_a_mid_has_parts u.upid_type (viewed i.bytes u.bytes) (eqb-false _ _ t)) none

    eidrs_run : (u : SegmentationUpid) → Found i.bytes o next u → All (OneRun s) (pick (eqb u.upid_type 10) (eidr_of i.start i.bytes (listed i.bytes o) ∷ []) [])
    eidrs_run u f = go (eqb u.upid_type 10) refl
      where
        go : (t : Bool) → eqb u.upid_type 10 ≡ t → All (OneRun s) (pick t (eidr_of i.start i.bytes (listed i.bytes o) ∷ []) [])
        go true t = more (eidr_of_lem s i r o next u f (eqb-true _ _ t)) none
        go false t = none

    item_runs : All (OneRun s) (identifiers_of_item i.start i.bytes (listed i.bytes o))
    item_runs =
        let n : length i.bytes ≡ i.len = length_run s i r in
        let w : next ≤ length i.bytes = within (turn i.bytes o fits inside) in
        all_append
        (all_map (in_lent i.start i.bytes) (all_into (λ v b. lent_run s i r v (omega (arith, n, w, b.1))) (views_between (clause i.bytes o))))
        (all_append
        (all_each _ (λ u f. all_append (parts_run u f) (eidrs_run u f)) (found (clause i.bytes o)))
        (beside_runs s i r (clause i.bytes o)))

  loop_identifiers : All (OneRun s) (each (identifiers_of_item i.start i.bytes) (items_of i.bytes))
  loop_identifiers = all_each (identifiers_of_item i.start i.bytes) (λ x h. h) (each_item item_runs (walked i.bytes fits))

-- ---- of a section

module _ (s : List ℕ) (x : Section) (e : section_of s ≡ Ok x) where
  loop_size : (x.descriptors.at ≡ 16 + command_length s) × (x.descriptors.len ≡ loop_length s)
  unfolding loop_place
  loop_size = (ap (λ (v : View). v.at) (laid s x e).place, ap (λ (v : View). v.len) (laid s x e).place)

  pub loop_run : OneRun s (in_section s x.descriptors)
  loop_run = section_run s x.descriptors (omega (arith, loop_size.0, loop_size.1, (laid s x e).fits))

  pub loop_short : length (loop_in s x) ≤ 4076
  loop_short = omega (arith, length_run s (in_section s x.descriptors) loop_run, loop_size.1, (laid s x e).fits, (laid s x e).short)

  command_runs : (k : ℕ) (c : SpliceCommand) → 14 + command_length s ≤ length s → command_of k (command_bytes s) ≡ Ok c → All (OneRun s) (of_private (λ p. in_section s p.private_bytes ∷ []) [] (moved 14 c))
  unfolding moved command_bytes
  command_runs k (SpliceCommand.PrivateCommand p) h f =
      let n : p.private_bytes.at + p.private_bytes.len ≤ length (command_bytes s) = private_in (command_bytes s) k p f in
      more (section_run s (record { at = 14 + p.private_bytes.at; len = p.private_bytes.len }) (omega (arith, n, length-take (command_length s) (drop 14 s), length-drop 14 s))) none
  command_runs k SpliceCommand.SpliceNull h f = none
  command_runs k (SpliceCommand.SpliceInsert i) h f = none
  command_runs k (SpliceCommand.TimeSignal t) h f = none
  command_runs k SpliceCommand.BandwidthReservation h f = none

  pub identifiers_run : All (OneRun s) (identifiers_of s x)
  unfolding identifiers_of
  identifiers_run =
      let l = laid s x e in
      let c : All (OneRun s) (of_private (λ p. in_section s p.private_bytes ∷ []) [] x.command) = rw l.command (command_runs _ l.read (omega (arith, l.fits)) l.from) in
      all_append c
      (loop_identifiers s (in_section s x.descriptors) loop_run loop_short)

  pub bytes_in_one_item : (i : ℕ) → i < length (loop_in s x) → times i (items_of (loop_in s x)) ≡ 1
  bytes_in_one_item i h = every_byte_lies_in_one_item (loop_in s x) loop_short i h

  pub items_cover : Covered (loop_in s x) (items_of (loop_in s x))
  items_cover = items_cover_the_loop (loop_in s x) loop_short

  pub ending_takes_rest : (offset : ℕ) → Ends (drop offset (loop_in s x)) → TakesRest (loop_in s x) (step_of (loop_in s x) offset)
  ending_takes_rest offset h = an_ending_refusal_takes_the_rest (loop_in s x) offset loop_short h
