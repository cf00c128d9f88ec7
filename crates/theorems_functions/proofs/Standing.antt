-- The number of an item over C, and where it ends, are what the section's bytes say.
--     stands      of the item that is read at any offset of a loop
use Prim.Native.Nat.{ℕ, ◌+◌, ◌*◌, ◌-◌, ◌/◌, ◌%◌, ◌^◌, ◌≤◌, ◌<◌}
use mathlib.Core.Bool.{Bool, true, false, ◌&&◌}
use mathlib.Core.List.{List}
use mathlib.Core.Path.{◌≡◌, refl, ap, sym, ◌∙◌}
use native.Mathlib.Omega.{arith}
use lib.Dec.{eqb, ltb, leb}
use lib.ListN.{length, take, drop, get_or, length-take, length-drop}
use lib.Seq.{get_or-drop}
use borrow.Author.Tests.{le-leb, lt-leb}
use Rattle.c_items.specs.FlatItem.{segmentation_item, flat_descriptor, blank_item, flat_item, flat_step}
use Rattle.descriptor.specs.Descriptor.{◌and_then◌, by_kind, reported_upid, if_fine, avail_of, dtmf_of, time_of, reserved_of, active_with, active_of, segmentation_of, is_cuei, descriptor_of}
use Rattle.descriptor.specs.Plain.{avail, dtmf, time, private_table}
use Rattle.descriptor.specs.Segmentation.{Head, head, front, back}
use Rattle.descriptor.specs.declared.Descriptor.{Descriptor}
use Rattle.descriptor.specs.declared.segmentation.DescriptorDetail.{DescriptorDetail}
use Rattle.descriptor.specs.declared.segmentation.SegmentationUpid.{SegmentationUpid}
use Rattle.descriptor_loop.proofs.Steps.{Stands, Clause, long, ended, last, small, entire, clause}
use Rattle.descriptor_loop.specs.Cover.{Ends, few, over, full}
use Rattle.descriptor_loop.specs.Items.{item_at, read_at, complete_at, step_of}
use Rattle.descriptor_loop.specs.Place.{moved_descriptor}
use Rattle.descriptor_loop.specs.Private.{moved_detail}
use Rattle.descriptor_loop.specs.declared.Step.{Step}
use Rattle.table.proofs.Bits.{byte_in}
use Rattle.table.proofs.Fields.{field_in}
use Rattle.table.proofs.Steps.{reads_number, reads_flag, reads_ones}
use Rattle.table.proofs.Structure.{bytes_take, bytes_drop}
use Rattle.table.specs.Bits.{pick, bits_of, field, AllBytes}
use Rattle.table.specs.Lent.{viewed}
use Rattle.table.specs.Table.{Answer, got, short, parse}
use Rattle.table.specs.declared.View.{View}
use Rattle.theorems_reader.proofs.Runs.{viewed_is, length_run, lent_run, get_d_run}
use Rattle.theorems_reader.specs.Identifiers.{Identifier, OneRun}
use Rattle.upid.specs.Upid.{check_of}
use Rattle.theorems_functions.specs.Flat.{kind_at, next_at, ItemStands}
use Rattle.std.proofs.Common.{Ok, Err, Result}
use Rattle.upid.specs.declared.Refusal.{Refusal}

-- ---- what is read of a payload, by tag and identifier

abbrev IsKind : ℕ → Result Descriptor Refusal → Type 0
IsKind k (Ok d) = (flat_descriptor d).kind ≡ k
IsKind k (Err r) = Unit {0}

picked : (t : Bool) (a b : Result Descriptor Refusal) (k l : ℕ) → (t ≡ true → IsKind k a) → (t ≡ false → IsKind l b) → IsKind (pick t k l) (pick t a b)
picked true a b k l p q = p refl
picked false a b k l p q = q refl

-- where both are of one kind
either : (t : Bool) (a b : Result Descriptor Refusal) (k : ℕ) → IsKind k a → IsKind k b → IsKind k (pick t a b)
either true a b k p q = p
either false a b k p q = q

and_then_lem : {X : Type 0} (a : Answer X) (g : X → ℕ → Result Descriptor Refusal) (k : ℕ) → ((x : X) (m : ℕ) → a ≡ got x m → IsKind k (g x m)) → IsKind k (a and_then g)
and_then_lem (got x m) g k f = f x m refl
and_then_lem (short expected actual) g k f = tt

if_fine_lem : (c : Result ℕ Refusal) (v : View) (g : SegmentationUpid → Result Descriptor Refusal) (k : ℕ) → ((q : ℕ) → IsKind k (g (reported_upid q v))) → IsKind k (if_fine c v g)
if_fine_lem (Ok q) v g k f = f q
if_fine_lem (Err r) v g k f = tt

module _ (s : List ℕ) (bytes : (k : ℕ) → get_or s k 0 < 256) where
  in_avail : IsKind 1 (avail_of s)
  unfolding avail_of flat_descriptor
  in_avail = either (ltb (length s) 4) _ _ 1 tt (and_then_lem (parse avail (bits_of s) 0) _ 1 λ x m e. refl)

  in_dtmf : IsKind 2 (dtmf_of s)
  unfolding dtmf_of flat_descriptor
  in_dtmf = and_then_lem (parse dtmf (bits_of s) 0) _ 2 λ x m e. refl

  in_time : IsKind 5 (time_of s)
  unfolding time_of flat_descriptor
  in_time = either (ltb (length s) 12) _ _ 5 tt (and_then_lem (parse time (bits_of s) 0) _ 5 λ x m e. refl)

  in_reserved : (tag : ℕ) → IsKind 6 (reserved_of tag s)
  unfolding reserved_of flat_descriptor
  in_reserved tag = and_then_lem (parse private_table (bits_of s) 0) _ 6 λ v m e. refl

  in_insert : (event at : ℕ) → IsKind 4 (active_of s event at)
  unfolding active_of active_with flat_descriptor segmentation_item
  in_insert event at =
      and_then_lem (parse front (bits_of s) at) _ 4 λ f m e.
      let w : SegmentationUpid = f.front.segmentation_upid in
      if_fine_lem (check_of w.upid_type (viewed s w.bytes)) w.bytes _ 4 λ q. and_then_lem (parse back (bits_of s) m) _ 4 λ b n g. refl

  -- the bit behind the event id
  cancel_bit : (h : Head) (m : ℕ) → parse head (bits_of s) 0 ≡ got h m → (5 ≤ length s) × (h.cancel ≡ eqb (get_or s 4 0 / 128 % 2) 1)
  unfolding head
  cancel_bit h m e =
      let e₁ = (reads_number s 0 32 _ _ h m e).1 in
      let e₂ = (reads_flag s 32 _ _ h m e₁).1 in
      let i = reads_ones s 33 7 _ h m e₂ in
      let z : h ≡ record { event = field (bits_of s) 0 32; cancel = eqb (field (bits_of s) 32 1) 1 } = cc i.1 in
      let f : field (bits_of s) (4 * 8 + 0) 1 ≡ get_or s 4 0 / 2 ^ 7 % 2 ^ 1 = field_in s 4 (omega (arith, i.0)) (bytes 4) 0 1 7 refl in
      (omega (arith, i.0), ap (λ (k : Head). k.cancel) z ∙ ap (λ (n : ℕ). eqb n 1) f)

  module _ (c : ℕ) (is : 5 ≤ length s → get_or s 4 0 / 128 % 2 ≡ c) where
    in_segmentation : IsKind (pick (eqb c 1) 3 4) (segmentation_of s)
    unfolding segmentation_of flat_descriptor segmentation_item
    in_segmentation = and_then_lem (parse head (bits_of s) 0) _ (pick (eqb c 1) 3 4) λ h m e.
        let b = cancel_bit h m e in
        let z : h.cancel ≡ eqb c 1 = b.1 ∙ ap (λ (n : ℕ). eqb n 1) (is b.0) in
        rw (← z) (picked h.cancel _ _ 3 4 (λ t. refl) (λ t. in_insert h.event m))

    payload_kind : (tag : ℕ) (id : List ℕ) → IsKind (by_kind tag id 1 2 (pick (eqb c 1) 3 4) 5 6) (descriptor_of tag id s)
    unfolding descriptor_of
    payload_kind tag id =
        picked (is_cuei id) _ _ _ _
        (λ t.
        picked (eqb tag 0) _ _ _ _ (λ t. in_avail) λ t.
        picked (eqb tag 1) _ _ _ _ (λ t. in_dtmf) λ t.
        picked (eqb tag 2) _ _ _ _ (λ t. in_segmentation) λ t.
        picked (eqb tag 3) _ _ _ _ (λ t. in_time) λ t. in_reserved tag)
        (λ t. in_reserved tag)

-- ---- an item: where its payload lies does not matter

moved_detail_lem : (base event : ℕ) (d : DescriptorDetail) → (segmentation_item event (moved_detail base d)).kind ≡ (segmentation_item event d).kind
unfolding segmentation_item
moved_detail_lem base event DescriptorDetail.Cancel = refl
moved_detail_lem base event (DescriptorDetail.Active i) = refl

moved_kind : (base : ℕ) (d : Descriptor) → (flat_descriptor (moved_descriptor base d)).kind ≡ (flat_descriptor d).kind
unfolding flat_descriptor
moved_kind base (Descriptor.Avail x) = refl
moved_kind base (Descriptor.Dtmf x) = refl
moved_kind base (Descriptor.Segmentation x) = moved_detail_lem base x.segmentation_event_id x.descriptor_detail
moved_kind base (Descriptor.Time x) = refl
moved_kind base (Descriptor.Reserved tag v) = refl

item_kind : (base k : ℕ) (d : Result Descriptor Refusal) → IsKind k d → ((flat_item (item_at base d)).kind ≡ 7 → ⊥) → (flat_item (item_at base d)).kind ≡ k
unfolding flat_item blank_item
item_kind base k (Ok d) w n = moved_kind base d ∙ w
item_kind base k (Err r) w n = absurd (n refl)

-- what is whole ends where it says
behind_whole : (q end behind L : ℕ) → q + 6 ≤ end → behind ≤ end → L ≤ 254 → pick (leb (q + 6) end && (leb behind end && leb L 254)) behind end ≡ behind
behind_whole q end behind L six there right = rw (le-leb (q + 6) end six, le-leb behind end there, le-leb L 254 right)

-- ---- at any offset of a loop that is one run of the section

module _ (s : List ℕ) (a : AllBytes s) (i : Identifier) (r : OneRun s i) (offset : ℕ) where
  abbrev q : ℕ
  q = i.start + offset

  abbrev end : ℕ
  end = i.start + i.len

  size : length i.bytes ≡ i.len
  size = length_run s i r

  -- a byte of the loop
  byte : (j k : ℕ) → offset + j < i.len → k ≡ q + j → get_or i.bytes (offset + j) 0 ≡ get_or s k 0
  byte j k h e = get_d_run s i r (offset + j) h ∙ ap (λ (n : ℕ). get_or s n 0) (let z : i.start + (offset + j) ≡ k = omega arith in z)

  module _ (L : ℕ) (t : Stands i.bytes offset L) (four : 4 ≤ L) where
    abbrev payload : List ℕ
    payload = take (L - 4) (drop (offset + 6) i.bytes)

    -- a run of the loop is one of the section
    run : (v : View) → v.at + v.len ≤ i.len → take v.len (drop v.at i.bytes) ≡ take v.len (drop (i.start + v.at) s)
    run v h = sym (viewed_is i.bytes v (omega (arith, size))) ∙ (lent_run s i r v h).run

    identifier : take 4 (drop (offset + 2) i.bytes) ≡ take 4 (drop (q + 2) s)
    identifier =
        run (record { at = offset + 2; len = 4 }) (omega (arith, t.six, size))
        ∙ ap (λ (n : ℕ). take 4 (drop n s)) (let z : i.start + (offset + 2) ≡ q + 2 = omega arith in z)

    tag : get_or i.bytes offset 0 ≡ get_or s q 0
    tag = get_d_run s i r offset (omega (arith, t.six, size))

    length_payload : length payload ≡ L - 4
    length_payload = omega (arith, length-take (L - 4) (drop (offset + 6) i.bytes), length-drop (offset + 6) i.bytes, t.there)

    held : OneRun s (record { start = i.start + (offset + 6); len = L - 4; bytes = payload })
    held =
        let v : View = record { at = offset + 6; len = L - 4 } in
        let h : offset + 6 + (L - 4) ≤ i.len = omega (arith, t.there, size) in
        record { inside = (lent_run s i r v h).inside; run = run v h }

    cancels : 5 ≤ length payload → get_or payload 4 0 / 128 % 2 ≡ get_or s (q + 6 + 4) 0 / 128 % 2
    cancels five =
        ap (λ (n : ℕ). n / 128 % 2)
        (get_d_run s (record { start = i.start + (offset + 6); len = L - 4; bytes = payload }) held 4 (omega (arith, length_payload))
        ∙ ap (λ (n : ℕ). get_or s n 0) (let z : i.start + (offset + 6) + 4 ≡ q + 6 + 4 = omega arith in z))

    payload_bytes : AllBytes payload
    payload_bytes = bytes_take (L - 4) (drop (offset + 6) i.bytes) (bytes_drop (offset + 6) i.bytes (rw r.run (bytes_take i.len (drop i.start s) (bytes_drop i.start s a))))

    complete_kind : IsKind (kind_at s q) (read_at i.bytes offset L)
    unfolding read_at
    complete_kind = rw (tag, identifier) (payload_kind payload (byte_in payload payload_bytes) (get_or s (q + 6 + 4) 0 / 128 % 2) cancels (get_or s q 0) (take 4 (drop (q + 2) s)))

  kind_by : {st : Step} → Clause i.bytes offset st → ((flat_step st).item.kind ≡ 7 → ⊥) → (flat_step st).item.kind ≡ pick (leb end q) 0 (kind_at s q)
  unfolding flat_step flat_item blank_item complete_at
  kind_by (long h) n = absurd (n refl)
  kind_by (ended h) n = rw (le-leb end q (omega (arith, size)))
  kind_by (last x v e) n = absurd (n refl)
  kind_by (small L t) n = absurd (n refl)
  kind_by (entire L t h) n = rw (lt-leb end q (omega (arith, size, t.six))) (item_kind (offset + 6) (kind_at s q) (read_at i.bytes offset L) (complete_kind L t h) n)

  -- past an item that stands there whole
  past : (L : ℕ) → Stands i.bytes offset L → i.start + (offset + (L + 2)) ≡ next_at s q end
  past L t =
      let l : L ≡ get_or s (q + 1) 0 = t.is ∙ byte 1 (q + 1) (omega (arith, t.six, size)) refl in
      let z : i.start + (offset + (L + 2)) ≡ q + 2 + get_or s (q + 1) 0 = omega (arith, l) in
      z ∙ sym (behind_whole q end (q + 2 + get_or s (q + 1) 0) (get_or s (q + 1) 0) (omega (arith, t.six, size)) (omega (arith, t.there, size, l)) (omega (arith, t.right, l)))

  -- an ending rule takes the rest
  takes : Ends (drop offset i.bytes) → i.start + length i.bytes ≡ next_at s q end
  takes (few some h) = rw (lt-leb (q + 6) end (omega (arith, size, length-drop offset i.bytes))) (omega (arith, size))
  takes (over six h) =
      let n : length (drop offset i.bytes) ≡ length i.bytes - offset = length-drop offset i.bytes in
      let l : get_or (drop offset i.bytes) 1 0 ≡ get_or s (q + 1) 0 = get_or-drop offset i.bytes 1 0 ∙ byte 1 (q + 1) (omega (arith, size)) refl in
      rw (le-leb (q + 6) end (omega (arith, size)), lt-leb (q + 2 + get_or s (q + 1) 0) end (omega (arith, size, l))) (omega (arith, size))
  takes (full there h) =
      let n : length (drop offset i.bytes) ≡ length i.bytes - offset = length-drop offset i.bytes in
      let l : get_or (drop offset i.bytes) 1 0 ≡ get_or s (q + 1) 0 = get_or-drop offset i.bytes 1 0 ∙ byte 1 (q + 1) (omega (arith, size)) refl in
      rw (le-leb (q + 6) end (omega (arith, size)), le-leb (q + 2 + get_or s (q + 1) 0) end (omega (arith, size, l)), lt-leb (get_or s (q + 1) 0) 254 (omega (arith, l))) (omega (arith, size))

  next_by_lem : length i.bytes ≤ 4076 → {st : Step} → Clause i.bytes offset st → i.start + (flat_step st).next ≡ next_at s q end
  unfolding flat_step complete_at
  next_by_lem fits (long h) = absurd (omega arith)
  next_by_lem fits (ended h) = rw (lt-leb (q + 6) end (omega (arith, size))) (omega (arith, size))
  next_by_lem fits (last x v e) = takes e
  next_by_lem fits (small L t) = past L t
  next_by_lem fits (entire L t h) = past L t

  pub stands : length i.bytes ≤ 4076 → ItemStands s q end i.start (flat_step (step_of i.bytes offset))
  stands fits = record { kind = kind_by (clause i.bytes offset); next = next_by_lem fits (clause i.bytes offset) }
