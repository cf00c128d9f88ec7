-- Whatever is read of a loop's item can be written, canonical or not.
--     can_be_written    at any offset of any loop
use Prim.Native.Nat.{ℕ, ◌+◌, ◌-◌, ◌≤◌}
use mathlib.Core.List.{List}
use mathlib.Core.Path.{◌≡◌, refl, ap, sym, subst, ◌∙◌}
use native.Mathlib.Omega.{arith}
use lib.ListN.{length, take, drop, get_or, length-take, length-drop}
use Rattle.table.proofs.Lists.{zero_one}
use Rattle.table.specs.Bits.{AllBytes}
use Rattle.table.specs.Writing.{made}
use Rattle.table.proofs.Structure.{bytes_take, bytes_drop}
use Rattle.descriptor.specs.Descriptor.{descriptor_of}
use Rattle.descriptor.specs.Full.{beside_read, identifier_read}
use Rattle.descriptor.specs.declared.Descriptor.{Descriptor}
use Rattle.descriptor.specs.declared.Descriptor.TheVariants.{Avail, Dtmf, Segmentation, Time, Reserved}
use Rattle.descriptor.specs.declared.full.Beside.{Beside}
use Rattle.descriptor_measure.specs.Writing.{count_beside, descriptor_made}
use Rattle.descriptor_round_trips.proofs.Alike.{SameView, alike_made, made_told}
use Rattle.descriptor_round_trips.proofs.Theorems.{descriptor_write_read}
use Rattle.descriptor_round_trips.specs.Making.{view_in}
use Rattle.descriptor_round_trips.specs.Trips.{Handed}
use Rattle.descriptor_loop.proofs.Steps.{Stands, Clause, long, ended, last, small, entire, clause}
use Rattle.descriptor_loop.specs.Items.{item_at, read_at, complete_at, step_of, beside_item, reading_of}
use Rattle.descriptor_loop.specs.Place.{moved_descriptor}
use Rattle.descriptor_loop.specs.declared.Step.{Step}
use Rattle.loop_round_trips.proofs.Places.{moved_values, moved_count, moved_view}
use Rattle.section.specs.Section.{loop_in}
use Rattle.section.specs.declared.Section.{Section}
use Rattle.theorems_writer.specs.Writable.{Writable}
use Rattle.theorems_writer.proofs.ItemsWritten.{all_viewed}
use Rattle.theorems_writer.proofs.WritablePayloads.{written_of}
use Rattle.std.proofs.Common.{Ok, Err, Some, Option, Result}
use Rattle.descriptor_loop.specs.declared.ItemRefusal.{ItemRefusal}
use Rattle.upid.specs.declared.Refusal.{Refusal}

-- something is written of d, which is of its types
abbrev Makes : List ℕ → List ℕ → Beside → Descriptor → Type 0
Makes loop id beside d = Handed d id beside loop × ((b : List ℕ) × (descriptor_made d id beside loop ≡ made b))

-- what stands beside a descriptor does not move
beside_stays : (base : ℕ) (d : Descriptor) (l : List ℕ) → beside_read (Ok d) l ≡ beside_read (Ok (moved_descriptor base d)) l
beside_stays base (Avail x) l = refl
beside_stays base (Dtmf x) l = refl
beside_stays base (Segmentation x) l = refl
beside_stays base (Time x) l = refl
beside_stays base (Reserved tag v) l = refl

is_one : (d e : Descriptor) → ◌≡◌ {A = Option (Result Descriptor ItemRefusal)} (Some (Ok d)) (Some (Ok e)) → d ≡ e
is_one d e h = cc

module _ (loop : List ℕ) (a : AllBytes loop) (offset L : ℕ) (st : Stands loop offset L) (four : 4 ≤ L) where
  abbrev payload : List ℕ
  payload = take (L - 4) (drop (offset + 6) loop)

  abbrev id : List ℕ
  id = take 4 (drop (offset + 2) loop)

  abbrev payload_again : List ℕ
  payload_again = take (offset + (L + 2) - (offset + 6)) (drop (offset + 6) loop)

  again : payload ≡ payload_again
  again = ap (λ (n : ℕ). take n (drop (offset + 6) loop)) (let z : L - 4 ≡ offset + (L + 2) - (offset + 6) = omega arith in z)

  size : length payload ≡ L - 4
  size = omega (arith, length-take (L - 4) (drop (offset + 6) loop), length-drop (offset + 6) loop, st.there)

  id_length : length id ≡ 4
  id_length = omega (arith, length-take 4 (drop (offset + 2) loop), length-drop (offset + 2) loop, st.six)

  -- of a descriptor in its payload, and so in the loop
  of_payload_lem : (d : Descriptor) → descriptor_of (get_or loop offset 0) id payload ≡ Ok d
      → Makes loop (identifier_read (Ok d) id) (beside_read (Ok d) payload) (moved_descriptor (offset + 6) d)
  of_payload_lem d e =
      let own : List ℕ = identifier_read (Ok d) id in
      let beside : Beside = beside_read (Ok d) payload in
      let there : Descriptor = moved_descriptor (offset + 6) d in
      let w = written_of payload id id_length (bytes_take (L - 4) (drop (offset + 6) loop) (bytes_drop (offset + 6) loop a)) (get_or loop offset 0) d e (omega (arith, size, st.right)) in
      let h : Handed d own beside payload = w.0 in
      let places : count_beside d ≤ length beside.components = omega (arith, h.count, h.places) in
      let told = made_told payload w.1.0 own beside d places w.1.1 in
      let v : SameView payload (view_in d) loop (view_in there) = moved_view loop (offset + 6) (L - 4) (omega (arith, st.there)) d told in
      let m : descriptor_made there own beside loop ≡ made w.1.0 =
      alike_made payload loop own beside beside refl d there places (sym (moved_values (offset + 6) d)) v (ap (λ (n : ℕ). take n beside.components) (sym (moved_count (offset + 6) d))) w.1.0 w.1.1 in (
        record { four = h.four; twelve = h.twelve; held = h.held; places = h.places; count = omega (arith, h.count, moved_count (offset + 6) d); are = a },
        (w.1.0, m),
      )

  of_read : (r : Result Descriptor Refusal) → descriptor_of (get_or loop offset 0) id payload ≡ r → (d : Descriptor) → item_at (offset + 6) r ≡ Some (Ok d)
      → Makes loop (identifier_read r id) (beside_item (item_at (offset + 6) r) payload_again) d
  of_read (Ok e) f d g =
      let z : moved_descriptor (offset + 6) e ≡ d = is_one (moved_descriptor (offset + 6) e) d g in
      let b : beside_read (Ok e) payload ≡ beside_read (Ok (moved_descriptor (offset + 6) e)) payload_again =
      ap (beside_read (Ok e)) again ∙ beside_stays (offset + 6) e payload_again in
      subst (Makes loop (identifier_read (Ok e) id) (beside_read (Ok (moved_descriptor (offset + 6) e)) payload_again)) z
      (subst (λ (x : Beside). Makes loop (identifier_read (Ok e) id) x (moved_descriptor (offset + 6) e)) b (of_payload_lem e f))
  of_read (Err q) f d g = zero_one cc

module _ (loop : List ℕ) (a : AllBytes loop) (offset : ℕ) where
  makes_by : {st : Step} → Clause loop offset st → (d : Descriptor) → st.item ≡ Some (Ok d)
      → Makes loop st.identifier (beside_item st.item (take (st.next - (offset + 6)) (drop (offset + 6) loop))) d
  unfolding complete_at read_at
  makes_by (long h) d e = zero_one cc
  makes_by (ended h) d e = zero_one cc
  makes_by (last q v n) d e = zero_one cc
  makes_by (small L t) d e = zero_one cc
  makes_by (entire L t h) d e = of_read loop a offset L t h _ refl d e

  pub can_be_written : (d : Descriptor) → (step_of loop offset).item ≡ Some (Ok d) → Writable loop offset d
  unfolding reading_of
  can_be_written d e =
      let m = makes_by (clause loop offset) d e in
      let r = descriptor_write_read d _ _ loop m.1.0 m.0 m.1.1 in
      record { handed = m.0; bytes = m.1.0; writes = m.1.1; form = r.1; back = r.0 }

-- of the loop of a section
pub section_written : (s : List ℕ) (x : Section) → AllBytes s → (offset : ℕ) (d : Descriptor) → (step_of (loop_in s x) offset).item ≡ Some (Ok d) → Writable (loop_in s x) offset d
section_written s x a offset d e = can_be_written (loop_in s x) (all_viewed s x.descriptors a) offset d e
