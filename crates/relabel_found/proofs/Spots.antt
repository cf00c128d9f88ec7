-- An item of which all is there but for the rules of its UPID.
--     reads_active              a payload that is complete, with a UPID that is accepted, is read as an active segmentation
--     active_complete           and an active segmentation's payload is complete
--     found_spots, spots_found  the same of an item
use Prim.Native.Nat.{ℕ, ◌+◌, ◌*◌, ◌-◌, ◌/◌, ◌%◌, ◌≤◌, ◌<◌}
use mathlib.Core.Bool.{Bool, true, false, not}
use mathlib.Core.List.{List}
use mathlib.Core.Path.{◌≡◌, refl, ap, sym, subst, ◌∙◌}
use native.Mathlib.Omega.{arith}
use lib.Dec.{leb, eqb}
use lib.ListN.{length, take, drop, get_or, length-drop}
use lib.Seq.{length-take-le}
use borrow.Author.Tests.{eq-eqb, ne_eqb, eqb-true, eqb-false, le-leb, leb-true, lt-ltb, ltb-true, not-true}
use Rattle.upid.proofs.Laws.{by_cases}
use Rattle.upid.specs.Upid.{check_of}
use Rattle.table.proofs.Fields.{byte_field}
use Rattle.table.proofs.Lists.{zero_one, and_true}
use Rattle.table.specs.Bits.{pick, bits_of}
use Rattle.table.specs.Lent.{viewed}
use Rattle.table.specs.Table.{got, short, parse}
use Rattle.descriptor.proofs.Backs.{no_sub_segments, one_left, sub_segments_are, no_counts, back_short, back_is}
use Rattle.descriptor.proofs.Heads.{place, head_ends, front_told}
use Rattle.descriptor.proofs.Parts.{components_there, by_program_lem, by_components, lasts, no_duration, upid_at_lem}
use Rattle.descriptor.proofs.Segmentations.{front_is, head_is}
use Rattle.descriptor.specs.Descriptor.{segmentation_of, cuei, is_cuei, descriptor_of}
use Rattle.descriptor.specs.Segmentation.{Moded, ListedFront, Head, mode, duration, fields_before, written_upid, front, back, head}
use Rattle.descriptor.specs.declared.Descriptor.TheVariants.{Segmentation}
use Rattle.descriptor.specs.declared.segmentation.DescriptorDetail.TheVariants.{Active}
use Rattle.descriptor.specs.declared.segmentation.SegmentationDescriptor.{SegmentationDescriptor}
use Rattle.descriptor.specs.declared.segmentation.SegmentationDetail.{SegmentationDetail}
use Rattle.descriptor.specs.declared.segmentation.SegmentationMode.{SegmentationMode}
use Rattle.descriptor.specs.declared.segmentation.SegmentationUpid.{SegmentationUpid}
use Rattle.descriptor_loop.proofs.Lists.{items_none}
use Rattle.descriptor_loop.proofs.Steps.{step_complete}
use Rattle.descriptor_loop.specs.Items.{item_at, read_at, complete_at, Listed, items_of}
use Rattle.descriptor_loop.specs.declared.Step.{Step}
use Rattle.relabel_payload.proofs.Payloads.{Of, parsed, assemble}
use Rattle.relabel_payload.specs.Payload.{upid_head}
use Rattle.relabel_found.specs.Found.{begins, is_active, found, payload_at, type_in, size_in, upid_in, post_at, titled, complete, spots}
use Rattle.relabel_found.proofs.Actives.{active_at_lem, begun, byte_in}
use Rattle.relabel_found.proofs.Walks.{found_some}
use Rattle.std.proofs.Common.{Ok, None, Option}

-- ---- what `complete` says

module _ (s : List ℕ) where
  pub record Whole : Type 0 where
    pub behind : post_at s + 3 ≤ length s
    pub other : length s ≡ post_at s + 4 → ⊥
    pub stays : get_or s 4 0 < 128

  pub whole_is : complete s ≡ true → Whole
  unfolding complete
  whole_is e =
      let a = and_true (leb (post_at s + 3) (length s)) _ e in
      let b = and_true (not (eqb (length s) (post_at s + 4))) _ a.1 in
      record { behind = leb-true _ _ a.0; other = eqb-false _ _ (not-true _ b.0); stays = ltb-true _ _ b.1 }

  is_whole : Whole → complete s ≡ true
  unfolding complete
  is_whole w = rw (le-leb _ _ w.behind, ne_eqb _ _ w.other, lt-ltb _ _ w.stays)

-- ---- the fields of a payload, by how many bytes there are

module _ (s : List ℕ) (bytes : (k : ℕ) → get_or s k 0 < 256) where
  mode_there : (b : Bool) → 8 + pick b 0 (1 + get_or s 6 0 * 6) ≤ length s → (m : Moded) × (parse (mode b) (bits_of s) 48 ≡ got m ((6 + pick b 0 (1 + get_or s 6 0 * 6)) * 8))
  mode_there true h = (_, by_program_lem s 6 true refl)
  mode_there false h =
      let n : ℕ = get_or s 6 0 in
      let c = components_there s n 7 (omega arith) in
      let z : (7 + n * 6) * 8 ≡ (6 + (1 + n * 6)) * 8 = omega arith in
      let m : Moded = record { mode = SegmentationMode.Component n; components = c.0 } in
      (m, by_components s 6 false refl (omega arith) n (sym (byte_field s 6 (omega arith) (bytes 6))) c.0 _ c.1 ∙ ap (got m) z)

  duration_there : (b : Bool) (i : ℕ) → i + pick b 5 0 ≤ length s → (d : Option ℕ) × (parse (duration b) (bits_of s) (i * 8) ≡ got d ((i + pick b 5 0) * 8))
  duration_there true i h = (_, lasts s i true refl _ refl h)
  duration_there false i h =
      let z : i * 8 ≡ (i + 0) * 8 = omega arith in
      (None, no_duration s i false refl ∙ ap (got None) z)

  -- the UPID as it is written
  abbrev written : SegmentationUpid
  written = record { upid_type = type_in s; bytes = record { at = upid_head s + 2; len = size_in s } }

  record Fronted : Type 0 where
    f : ListedFront
    reads : parse front (bits_of s) 40 ≡ got f (post_at s * 8)
    upid : f.front.segmentation_upid ≡ written

  front_there : post_at s ≤ length s → Fronted
  unfolding upid_head
  front_there h =
      let p : Bool = eqb (get_or s 5 0 / 128 % 2) 1 in
      let l : Bool = eqb (get_or s 5 0 / 64 % 2) 1 in
      let a : ℕ = pick p 0 (1 + get_or s 6 0 * 6) in
      let b : ℕ = pick l 5 0 in
      let e : 6 + a + b ≡ 6 + (a + b) = omega arith in
      let m = mode_there p (omega arith) in
      let d = duration_there l (6 + a) (omega arith) in
      let u = upid_at_lem s (6 + (a + b)) bytes (omega arith) (size_in s) refl (omega arith) in
      record {
        f = _;
        reads = front_is s 5 (omega arith) (bytes 5) m.0 _ m.1 d.0 _ d.1 _ refl _ _ (ap (λ (i : ℕ). parse written_upid (bits_of s) (i * 8)) e ∙ u);
        upid = refl;
      }

  back_there : (i : ℕ) → i + 3 ≤ length s → (length s ≡ i + 4 → ⊥) → (b : Of back) × (m : ℕ) × (parse back (bits_of s) (i * 8) ≡ got b m)
  back_there i h g =
      by_cases 0 (length s - (i + 3))
      (λ some. (_, _, back_is s i h bytes _ _ _ refl (sub_segments_are s (i + 3) (length s - (i + 3)) refl (λ z. omega arith) (λ z. g (omega arith)) bytes)))
      (λ none. (_, _, back_is s i h bytes _ _ _ refl (no_sub_segments s (i + 3) (length s - (i + 3)) refl (omega arith))))

  back_left : (i : ℕ) (b : Of back) (m : ℕ) → i ≤ length s → parse back (bits_of s) (i * 8) ≡ got b m → (i + 3 ≤ length s) × (length s ≡ i + 4 → ⊥)
  back_left i b m h e =
      by_cases (length s - i) 3
      (λ l. let z : got b m ≡ short 1 0 = sym e ∙ no_counts s i (length s - i) refl l h in zero_one cc)
      (λ g. (omega arith, λ x. let z : got b m ≡ short 1 0 = sym e ∙ back_short s i (omega arith) 1 0 (one_left s (i + 3) (length s - (i + 3)) refl (λ y. omega arith) (omega arith)) in zero_one cc))

  -- ---- a payload that is complete

  abbrev cancels : Bool
  cancels = eqb (get_or s 4 0 / 128 % 2) 1

  head_there : 5 ≤ length s → (event : ℕ) × (parse head (bits_of s) 0 ≡ got (record { event = event; cancel = cancels }) 40)
  head_there h = (_, head_is s h (bytes 4) _ refl)

  pub record ActivePayload : Type 0 where
    pub x : SegmentationDescriptor
    pub i : SegmentationDetail
    pub reads : segmentation_of s ≡ Ok (Segmentation x)
    pub detail : x.descriptor_detail ≡ Active i

  upid_viewed : post_at s ≤ length s → viewed s written.bytes ≡ upid_in s
  unfolding viewed
  upid_viewed h = rw (le-leb (post_at s) (length s) h)

  five : post_at s ≤ length s → 5 ≤ length s
  unfolding upid_head
  five h = omega arith

  pub reads_active : complete s ≡ true → (q : ℕ) → check_of (type_in s) (upid_in s) ≡ Ok q → ActivePayload
  reads_active e q fine =
      let w = whole_is s e in
      let h : post_at s ≤ length s = omega (arith, w.behind) in
      let f = front_there h in
      let b = back_there (post_at s) w.behind w.other in
      let d = head_there (five h) in
      let off : cancels ≡ false = ne_eqb (get_or s 4 0 / 128 % 2) 1 (λ z. omega (arith, z, w.stays)) in
      let same : check_of f.f.front.segmentation_upid.upid_type (viewed s f.f.front.segmentation_upid.bytes) ≡ Ok q =
      ap (λ (u : SegmentationUpid). check_of u.upid_type (viewed s u.bytes)) f.upid ∙ ap (check_of (type_in s)) (upid_viewed h) ∙ fine in
      record { x = _; i = _; reads = assemble s _ 40 f.f (post_at s * 8) q b.0 b.1 d.1 off f.reads same b.2; detail = refl }

  room : (f : ListedFront) → place f ≡ 6 + fields_before (get_or s 5 0) (get_or s 6 0) → place f + 2 + get_or s (place f + 1) 0 ≤ length s → post_at s ≤ length s
  unfolding upid_head
  room f before there = subst (λ (q : ℕ). q + 2 + get_or s (q + 1) 0 ≤ length s) before there

  pub active_complete : (x : SegmentationDescriptor) (i : SegmentationDetail) → x.descriptor_detail ≡ Active i → segmentation_of s ≡ Ok (Segmentation x) → complete s ≡ true
  active_complete x i detail e =
      let p = parsed s x i detail e in
      let at : p.a ≡ 40 = head_ends s p.h p.a p.head_is in
      let ef : parse front (bits_of s) 40 ≡ got p.f p.m = ap (parse front (bits_of s)) (sym at) ∙ p.front_is in
      let t = front_told s bytes p.f p.m ef in
      let h : post_at s ≤ length s = room p.f t.before t.there in
      let f = front_there h in
      let z : got f.f (post_at s * 8) ≡ got p.f p.m = sym f.reads ∙ ef in
      let m : post_at s * 8 ≡ p.m = cc z in
      let b = back_left (post_at s) p.b p.n h (ap (parse back (bits_of s)) m ∙ p.back_is) in
      let d = head_there (five h) in
      let y : got (record { event = d.0; cancel = cancels }) 40 ≡ got p.h p.a = sym d.1 ∙ p.head_is in
      let hd : record { event = d.0; cancel = cancels } ≡ p.h = cc y in
      let off : cancels ≡ false = ap (λ (k : Head). k.cancel) hd ∙ p.stays in
      is_whole s (record { behind = b.0; other = b.1; stays = omega (arith, bytes 4, below (eqb-false _ _ off)) })
    where
      below : (get_or s 4 0 / 128 % 2 ≡ 1 → ⊥) → get_or s 4 0 < 128
      below un = by_cases (get_or s 4 0) 128 (λ l. l) (λ g. absurd (un (omega (arith, bytes 4))))

-- ---- an item

module _ (loop : List ℕ) (offset : ℕ) where
  abbrev L : ℕ
  L = get_or loop (offset + 1) 0

  abbrev pay : List ℕ
  pay = payload_at loop offset

  pub record Titled : Type 0 where
    pub long : 15 ≤ L
    pub there : offset + (L + 2) ≤ length loop
    pub right : L ≤ 254
    pub tag : get_or loop offset 0 ≡ 2
    pub id : is_cuei (take 4 (drop (offset + 2) loop)) ≡ true

  pub titled_is : titled loop offset ≡ true → Titled
  unfolding titled
  titled_is e =
      let a = and_true (leb 15 L) _ e in
      let b = and_true (leb (offset + (L + 2)) (length loop)) _ a.1 in
      let c = and_true (leb L 254) _ b.1 in
      let d = and_true (eqb (get_or loop offset 0) 2) _ c.1 in
      record { long = leb-true _ _ a.0; there = leb-true _ _ b.0; right = leb-true _ _ c.0; tag = eqb-true _ _ d.0; id = d.1 }

  is_titled : Titled → titled loop offset ≡ true
  unfolding titled
  is_titled t = rw (le-leb _ _ t.long, le-leb _ _ t.there, le-leb _ _ t.right, eq-eqb _ _ t.tag, t.id)

  pub record Spot : Type 0 where
    pub begun : begins (items_of loop) offset ≡ true
    pub titled : Titled
    pub complete : complete pay ≡ true

  pub spot_is : spots loop offset ≡ true → Spot
  unfolding spots
  spot_is e =
      let a = and_true (begins (items_of loop) offset) _ e in
      let b = and_true (titled loop offset) _ a.1 in
      record { begun = a.0; titled = titled_is b.0; complete = b.1 }

  is_spot : begins (items_of loop) offset ≡ true → titled loop offset ≡ true → complete pay ≡ true → spots loop offset ≡ true
  unfolding spots
  is_spot a b c = rw (a, b, c)

  long_enough_lem : length pay ≡ L - 4 → post_at pay + 3 ≤ length pay → 15 ≤ L
  unfolding upid_head
  long_enough_lem n h = omega arith

  cuei_cuei : is_cuei cuei ≡ true
  unfolding is_cuei
  cuei_cuei = refl

  -- an item begins in no loop that is too long
  short_loop : begins (items_of loop) offset ≡ true → length loop ≤ 4076
  unfolding begins
  short_loop e =
      by_cases 4076 (length loop)
      (λ h. let z : false ≡ true = ap (λ (xs : List Listed). begins xs offset) (sym (items_none loop h)) ∙ e in zero_one cc)
      (λ h. h)

  reads_segmentation : Titled → read_at loop offset L ≡ segmentation_of pay
  unfolding read_at descriptor_of
  reads_segmentation t = rw (t.tag, t.id)

  whole_item : (complete_at loop offset L).item ≡ item_at (offset + 6) (read_at loop offset L)
  unfolding complete_at
  whole_item = refl

  active_item : (base : ℕ) (x : SegmentationDescriptor) (i : SegmentationDetail) → x.descriptor_detail ≡ Active i → is_active (item_at base (Ok (Segmentation x))) ≡ true
  active_item base x i e = rw e

  module _ (bytes : (k : ℕ) → get_or loop k 0 < 256) where
    pay_bytes : (k : ℕ) → get_or pay k 0 < 256
    pay_bytes = byte_in loop (offset + 6) (L - 4) bytes

    -- an item that is spotted is found where its UPID is accepted
    pub found_spots : spots loop offset ≡ true → (q : ℕ) → check_of (type_in pay) (upid_in pay) ≡ Ok q → found loop offset ≡ true
    found_spots e q fine =
        let s = spot_is e in
        let t = s.titled in
        let fits = short_loop s.begun in
        let st = step_complete loop offset fits (omega (arith, t.there)) L refl (omega (arith, t.there, t.long)) (omega (arith, t.there)) t.right (omega (arith, t.long)) in
        let r = reads_active pay pay_bytes s.complete q fine in
        sym (found_some loop offset s.begun)
        ∙ ap (λ (y : Step). is_active y.item) st
        ∙ ap is_active (whole_item ∙ ap (item_at (offset + 6)) (reads_segmentation t ∙ r.reads))
        ∙ active_item (offset + 6) r.x r.i r.detail

    -- and only such an item is found
    pub spots_found : found loop offset ≡ true → spots loop offset ≡ true
    spots_found e =
        let x = active_at_lem loop offset e in
        let c = active_complete pay pay_bytes x.x x.i x.detail x.reads in
        let n : length pay ≡ L - 4 = length-take-le (L - 4) (drop (offset + 6) loop) (omega (arith, length-drop (offset + 6) loop, x.stands.there, x.named)) in
        let t : Titled = record { long = long_enough_lem n (whole_is pay c).behind; there = x.stands.there; right = x.stands.right; tag = x.tag; id = ap is_cuei x.id ∙ cuei_cuei } in
        is_spot (begun loop offset e) (is_titled t) c
