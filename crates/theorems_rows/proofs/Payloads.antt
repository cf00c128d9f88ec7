-- What is read of a payload, by the table of its kind: every payload is refused with 21 where its table lacks bytes, and else read.
use Prim.Native.Nat.{ℕ, ◌+◌, ◌*◌, ◌-◌, ◌/◌, ◌%◌, ◌^◌, ◌≤◌, ◌<◌}
use mathlib.Core.Bool.{Bool, true, false}
use mathlib.Core.List.{List, []}
use mathlib.Core.Path.{◌≡◌, refl, ap, sym, subst, ◌∙◌}
use native.Mathlib.Omega.{arith}
use lib.ListN.{length, take, drop, get_or}
use Rattle.descriptor.proofs.Plains.{avail_is, time_is, reserved_is}
use Rattle.descriptor.specs.Descriptor.{◌and_then◌, if_fine, moved_refusal, reported_upid, active_with, active_of, segmentation_of, dtmf_of, is_cuei, cuei, descriptor_of}
use Rattle.descriptor.specs.Plain.{dtmf}
use Rattle.descriptor.specs.Segmentation as table
use Rattle.descriptor.specs.Segmentation.{ListedFront, Head, head, front, back, active_from, segmentation}
use Rattle.descriptor.specs.declared.Descriptor.{Descriptor}
use Rattle.descriptor.specs.declared.plain.DTMFDescriptor.{DTMFDescriptor}
use Rattle.descriptor.specs.declared.segmentation.DescriptorDetail.{DescriptorDetail}
use Rattle.descriptor.specs.declared.segmentation.SegmentationUpid.{SegmentationUpid}
use Rattle.descriptor_loop.specs.Items.{item_at, read_at, complete_at, step_of}
use Rattle.descriptor_loop.specs.Place.{moved_descriptor}
use Rattle.descriptor_loop.specs.declared.Step.{Step}
use Rattle.descriptor_round_trips.proofs.SegmentRead.{segmentation_read}
use Rattle.table.proofs.Bits.{byte_in}
use Rattle.table.proofs.Fields.{byte_field, field_in}
use Rattle.table.proofs.Lists.{zero_one}
use Rattle.table.proofs.Steps.{takes_in, lacks_in, takes_number, lacks_number, takes_ones, takes_part, lacks_part}
use Rattle.table.specs.Bits.{pick, bits_of, field, AllBytes}
use Rattle.table.specs.Lent.{viewed}
use Rattle.table.specs.Table.{Answer, got, short, parse}
use Rattle.table.specs.declared.View.{View}
use Rattle.upid.specs.Upid.{check_of}
use Rattle.upid.specs.declared.Refusal.{Refusal}
use Rattle.theorems_rows.specs.Payloads.{UpidIn, written_in, checked_in, SegmentationReads, Unrefused}
use Rattle.theorems_rows.specs.Refusals.{kind_of}
use Rattle.theorems_rows.proofs.Refusals.{else_read, other_tag, other_identifier}
use Rattle.std.proofs.Common.{Ok, Err, Some, Result}

-- ---- a segmentation descriptor's payload: it is read in one of the four ways

module _ (s : List ℕ) where
  abbrev Reads : Result Descriptor Refusal → Type 0
  Reads r = SegmentationReads s r

  and_then_lem : {X : Type 0} (a : Answer X) (k : X → ℕ → Result Descriptor Refusal) → ((e x : ℕ) → a ≡ short e x → Reads (Err (Refusal.NotEnoughData e x)))
      → ((x : X) (m : ℕ) → a ≡ got x m → Reads (k x m)) → Reads (a and_then k)
  and_then_lem (got x m) k f g = g x m refl
  and_then_lem (short e x) k f g = f e x refl

  picked : (t : Bool) (a b : Result Descriptor Refusal) → (t ≡ true → Reads a) → (t ≡ false → Reads b) → Reads (pick t a b)
  picked true a b p q = p refl
  picked false a b p q = q refl

  if_fine_lem : (c : Result ℕ Refusal) (v : View) (k : SegmentationUpid → Result Descriptor Refusal) → ((q : ℕ) → c ≡ Ok q → Reads (k (reported_upid q v)))
      → ((r : Refusal) → c ≡ Err r → Reads (Err (moved_refusal v.at r))) → Reads (if_fine c v k)
  if_fine_lem (Ok q) v k f g = f q refl
  if_fine_lem (Err r) v k f g = g r refl

  no_head : (e a : ℕ) → parse head (bits_of s) 0 ≡ short e a → Reads (Err (Refusal.NotEnoughData e a))
  unfolding segmentation
  no_head e a eh = SegmentationReads.lacks e a (lacks_in head _ _ (bits_of s) 0 e a eh) (λ u. let z = sym eh ∙ u.heads in zero_one cc)

  module _ (h : Head) (at : ℕ) (eh : parse head (bits_of s) 0 ≡ got h at) where
    cancelled_reads : h.cancel ≡ true
        → Reads (Ok (Descriptor.Segmentation (record { segmentation_event_id = h.event; descriptor_detail = DescriptorDetail.Cancel })))
    unfolding segmentation
    cancelled_reads on =
        SegmentationReads.cancelled (record { descriptor = record { segmentation_event_id = h.event; descriptor_detail = DescriptorDetail.Cancel }; components = [] }) at
        (takes_in head _ _ (bits_of s) 0 h at eh ∙ rw on) refl

    module _ (off : h.cancel ≡ false) where
      seam_is : (u : UpidIn s) → at ≡ u.seam
      seam_is u = let z : got h at ≡ got u.first u.seam = sym eh ∙ u.heads in cc

      no_front : (e a : ℕ) → parse front (bits_of s) at ≡ short e a → Reads (Err (Refusal.NotEnoughData e a))
      unfolding segmentation
      no_front e a ef =
          SegmentationReads.lacks e a (takes_in head _ _ (bits_of s) 0 h at eh ∙ rw off (lacks_in front _ _ (bits_of s) at e a ef))
          (λ u. let z = sym ef ∙ ap (parse front (bits_of s)) (seam_is u) ∙ u.fronts in zero_one cc)

      module _ (f : ListedFront) (m : ℕ) (ef : parse front (bits_of s) at ≡ got f m) where
        there : UpidIn s
        there = record { first = h; seam = at; heads = eh; active = off; fore = f; end = m; fronts = ef }

        fore_is : (u : UpidIn s) → f ≡ u.fore
        fore_is u = let z : got f m ≡ got u.fore u.end = sym ef ∙ ap (parse front (bits_of s)) (seam_is u) ∙ u.fronts in cc

        module _ (k : ℕ) (fine : checked_in s f.front.segmentation_upid ≡ Ok k) where
          no_back : (e a : ℕ) → parse back (bits_of s) m ≡ short e a → Reads (Err (Refusal.NotEnoughData e a))
          unfolding segmentation
          no_back e a eb =
              SegmentationReads.lacks e a
              (takes_in head _ _ (bits_of s) 0 h at eh ∙ rw off (takes_in front _ _ (bits_of s) at f m ef ∙ lacks_in back _ _ (bits_of s) m e a eb))
              (λ u. (k, subst (λ (x : ListedFront). checked_in s x.front.segmentation_upid ≡ Ok k) (fore_is u) fine))

          whole_reads : (b : _) (n : ℕ) → parse back (bits_of s) m ≡ got b n → Reads (active_with h.event f.front (reported_upid k f.front.segmentation_upid.bytes) b)
          unfolding segmentation active_with
          whole_reads b n eb =
              SegmentationReads.complete
              (record {
                descriptor = record {
                  segmentation_event_id = h.event;
                  descriptor_detail = DescriptorDetail.Active (active_from f.front f.front.segmentation_upid b);
                };
                components = f.components;
              }) n (active_from f.front f.front.segmentation_upid b) k
              (takes_in head _ _ (bits_of s) 0 h at eh ∙ rw off (takes_in front _ _ (bits_of s) at f m ef ∙ takes_in back _ _ (bits_of s) m b n eb)) refl fine

      active_reads : Reads (active_of s h.event at)
      unfolding active_of there
      active_reads =
          and_then_lem (parse front (bits_of s) at) _ no_front λ f m ef.
          let w : SegmentationUpid = f.front.segmentation_upid in
          if_fine_lem (check_of w.upid_type (viewed s w.bytes)) w.bytes _
          (λ k fine. and_then_lem (parse back (bits_of s) m) _ (no_back f m ef k fine) (λ b n eb. whole_reads f m ef k fine b n eb))
          (λ r e. SegmentationReads.upid (there f m ef) r e)

  segmentation_reads : Reads (segmentation_of s)
  unfolding segmentation_of
  segmentation_reads = and_then_lem (parse head (bits_of s) 0) _ no_head λ h m e. picked h.cancel _ _ (λ on. cancelled_reads h m e on) (λ off. active_reads h m e off)

  -- ---- and in no other

  lacks_so : (e a : ℕ) → parse segmentation (bits_of s) 0 ≡ short e a → ((u : UpidIn s) → (k : ℕ) × (checked_in s (written_in u) ≡ Ok k)) → {r : Result Descriptor Refusal} → Reads r
      → Err (Refusal.NotEnoughData e a) ≡ r
  lacks_so e a p fine (SegmentationReads.lacks f b q other) = let z : short e a ≡ short f b = sym p ∙ q in cc
  lacks_so e a p fine (SegmentationReads.upid u r c) = let z = sym c ∙ (fine u).1 in zero_one cc
  lacks_so e a p fine (SegmentationReads.cancelled x end q d) = let z = sym p ∙ q in zero_one cc
  lacks_so e a p fine (SegmentationReads.complete x end i k q d c) = let z = sym p ∙ q in zero_one cc

  refused_so : (h : Head) (at : ℕ) (f : ListedFront) (m : ℕ) (r : Refusal) → parse head (bits_of s) 0 ≡ got h at → h.cancel ≡ false → parse front (bits_of s) at ≡ got f m
      → checked_in s f.front.segmentation_upid ≡ Err r → segmentation_of s ≡ Err (moved_refusal f.front.segmentation_upid.bytes.at r)
  unfolding segmentation_of active_of
  refused_so h at f m r eh off ef c = rw (eh, off, ef, c)

  is_read : {r : Result Descriptor Refusal} → Reads r → r ≡ segmentation_of s
  is_read (SegmentationReads.lacks e a p fine) = lacks_so e a p fine segmentation_reads
  is_read (SegmentationReads.upid u r c) = sym (refused_so u.first u.seam u.fore u.end r u.heads u.active u.fronts c)
  is_read (SegmentationReads.cancelled x end p d) = sym (segmentation_read s x end p ∙ rw d)
  is_read (SegmentationReads.complete x end i k p d c) = sym (segmentation_read s x end p ∙ rw (d, c))

  pub reads : Reads (descriptor_of 2 cuei s)
  unfolding descriptor_of is_cuei
  reads = segmentation_reads

  pub reads_one : (a b : Result Descriptor Refusal) → Reads a → Reads b → a ≡ b
  reads_one a b x y = is_read x ∙ sym (is_read y)

  -- ---- DTMF

  pub dtmf_lacks : (e a : ℕ) → parse dtmf (bits_of s) 0 ≡ short e a → descriptor_of 1 cuei s ≡ Err (Refusal.NotEnoughData e a)
  unfolding descriptor_of is_cuei dtmf_of
  dtmf_lacks e a p = rw p

  pub dtmf_reads : (x : DTMFDescriptor) (end : ℕ) → parse dtmf (bits_of s) 0 ≡ got x end → descriptor_of 1 cuei s ≡ Ok (Descriptor.Dtmf x)
  unfolding descriptor_of is_cuei dtmf_of
  dtmf_reads x end p = rw p

  pub no_preroll : length s ≡ 0 → descriptor_of 1 cuei s ≡ Err (Refusal.NotEnoughData 1 0)
  unfolding dtmf
  no_preroll h = dtmf_lacks 1 0 (lacks_number s 0 8 _ _ (omega (arith, h)) ∙ ap (short 1) (let z : (length s * 8 - 0) / 8 ≡ 0 = omega (arith, h) in z))

  pub no_count : length s ≡ 1 → descriptor_of 1 cuei s ≡ Err (Refusal.NotEnoughData 0 0)
  unfolding dtmf
  no_count h =
      dtmf_lacks 0 0
      (takes_number s 0 8 (field (bits_of s) 0 8) _ _ (omega (arith, h)) refl ∙ lacks_number s 8 3 _ _ (omega (arith, h)) ∙ ap (short 0) (let z : (length s * 8 - 8) / 8 ≡ 0 = omega (arith, h) in z))

  module _ (bytes : AllBytes s) (two : 2 ≤ length s) where
    counted : field (bits_of s) 8 3 ≡ get_or s 1 0 / 32
    counted =
        let n : field (bits_of s) (1 * 8 + 0) 3 ≡ get_or s 1 0 / 2 ^ 5 % 2 ^ 3 = field_in s 1 (omega (arith, two)) (byte_in s bytes 1) 0 3 5 refl in
        n ∙ (let k : get_or s 1 0 / 32 % 8 ≡ get_or s 1 0 / 32 = omega (arith, byte_in s bytes 1) in k)

    pub no_characters : length s < 2 + get_or s 1 0 / 32 → descriptor_of 1 cuei s ≡ Err (Refusal.NotEnoughData 1 0)
    unfolding dtmf
    no_characters h =
        dtmf_lacks 1 0
        (takes_number s 0 8 (field (bits_of s) 0 8) _ _ (omega (arith, two)) refl ∙ takes_number s 8 3 (get_or s 1 0 / 32) _ _ (omega (arith, two)) (sym counted)
        ∙ takes_ones s 11 5 _ (omega (arith, two)) ∙ lacks_part s 16 (get_or s 1 0 / 32) _ _ (omega (arith, h)))

    pub characters : 2 + get_or s 1 0 / 32 ≤ length s
        → descriptor_of 1 cuei s ≡ Ok (Descriptor.Dtmf (record { preroll = get_or s 0 0; dtmf_chars = record { at = 2; len = get_or s 1 0 / 32 } }))
    unfolding dtmf
    characters h =
        dtmf_reads _ (16 + get_or s 1 0 / 32 * 8)
        (takes_number s 0 8 (get_or s 0 0) _ _ (omega (arith, two)) (sym (byte_field s 0 (omega (arith, two)) (byte_in s bytes 0))) ∙ takes_number s 8 3 (get_or s 1 0 / 32) _ _ (omega (arith, two)) (sym counted)
        ∙ takes_ones s 11 5 _ (omega (arith, two)) ∙ takes_part s 16 (get_or s 1 0 / 32) _ _ (omega (arith, h)))

-- ---- what nothing refuses is read, as the kind that tag and identifier say

cuei_avail : (p : List ℕ) → 4 ≤ length p → descriptor_of 0 cuei p ≡ Ok (Descriptor.Avail (record { provider_avail_id = field (bits_of p) 0 32 }))
unfolding descriptor_of is_cuei
cuei_avail p h = sym (avail_is p _ h refl)

cuei_time : (p : List ℕ) → 12 ≤ length p
    → descriptor_of 3 cuei p ≡ Ok (Descriptor.Time (record { tai_seconds = field (bits_of p) 0 48; tai_nanoseconds = field (bits_of p) 48 32; utc_offset = field (bits_of p) 80 16 }))
unfolding descriptor_of is_cuei
cuei_time p h = sym (time_is p _ _ _ h refl refl refl)

module _ (tag : ℕ) (id p : List ℕ) where
  by_tag : (n : ℕ) → tag ≡ n → id ≡ cuei → descriptor_of tag id p ≡ descriptor_of n cuei p
  by_tag n t i = ap (λ (x : ℕ). descriptor_of x id p) t ∙ ap (λ (x : List ℕ). descriptor_of n x p) i

  segmentation_kind : (x : table.Segmentation) (end : ℕ) → parse segmentation (bits_of p) 0 ≡ got x end → ((u : UpidIn p) → (k : ℕ) × (checked_in p (written_in u) ≡ Ok k))
      → {r : Result Descriptor Refusal} → SegmentationReads p r → (d : Descriptor) × (r ≡ Ok d) × (kind_of d ≡ 2)
  segmentation_kind x end e fine (SegmentationReads.lacks f b q other) = let z = sym e ∙ q in zero_one cc
  segmentation_kind x end e fine (SegmentationReads.upid u r c) = let z = sym c ∙ (fine u).1 in zero_one cc
  segmentation_kind x end e fine (SegmentationReads.cancelled y n q d) = (_, refl, refl)
  segmentation_kind x end e fine (SegmentationReads.complete y n i k q d c) = (_, refl, refl)

  pub unrefused_is_read : (k : ℕ) → Unrefused tag id p k → (d : Descriptor) × (descriptor_of tag id p ≡ Ok d) × (kind_of d ≡ k)
  unrefused_is_read k (Unrefused.an_avail t i h) = (_, by_tag 0 t i ∙ cuei_avail p h, refl)
  unrefused_is_read k (Unrefused.a_dtmf t i x end e) = (_, by_tag 1 t i ∙ dtmf_reads p x end e, refl)
  unrefused_is_read k (Unrefused.a_segmentation t i x end e fine) = let r = segmentation_kind x end e fine (reads p) in (r.0, by_tag 2 t i ∙ r.1, r.2)
  unrefused_is_read k (Unrefused.a_time t i h) = (_, by_tag 3 t i ∙ cuei_time p h, refl)
  unrefused_is_read k (Unrefused.another_tag h) = (_, other_tag p tag id h ∙ sym (reserved_is p tag), refl)
  unrefused_is_read k (Unrefused.another_identifier a b c d e h) = (_, ap (λ (x : List ℕ). descriptor_of tag x p) e ∙ other_identifier p tag a b c d h ∙ sym (reserved_is p tag), refl)

moved_kind : (base : ℕ) (d : Descriptor) → kind_of (moved_descriptor base d) ≡ kind_of d
moved_kind base (Descriptor.Avail x) = refl
moved_kind base (Descriptor.Dtmf x) = refl
moved_kind base (Descriptor.Segmentation x) = refl
moved_kind base (Descriptor.Time x) = refl
moved_kind base (Descriptor.Reserved tag v) = refl

pub item_read : (loop : List ℕ) (offset : ℕ) → length loop ≤ 4076 → offset + 6 ≤ length loop → get_or loop (offset + 1) 0 + 2 ≤ length loop - offset → 4 ≤ get_or loop (offset + 1) 0
    → get_or loop (offset + 1) 0 ≤ 254 → (k : ℕ) → Unrefused (get_or loop offset 0) (take 4 (drop (offset + 2) loop)) (take (get_or loop (offset + 1) 0 - 4) (drop (offset + 6) loop)) k
    → (d : Descriptor) × ((step_of loop offset).item ≡ Some (Ok d)) × (kind_of d ≡ k)
unfolding complete_at read_at
item_read loop offset fits six there low high k u =
    let r = unrefused_is_read (get_or loop offset 0) (take 4 (drop (offset + 2) loop)) (take (get_or loop (offset + 1) 0 - 4) (drop (offset + 6) loop)) k u in
    (moved_descriptor (offset + 6) r.0, ap (λ (t : Step). t.item) (else_read loop offset fits six there low high) ∙ ap (item_at (offset + 6)) r.1, moved_kind (offset + 6) r.0 ∙ r.2)
