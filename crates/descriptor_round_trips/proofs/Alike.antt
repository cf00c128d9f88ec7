-- What is written of a descriptor depends only on what equal readings compare: its values, the bytes in its view, its identifier, its components up to the
-- count and its EIDR.
--     SameView        a view in one lent run of bytes and a view in another, with the same bytes
--     alike_made      of descriptors that are alike the same is written
--     same_made       equal readings, of both of which something is written, are alike: so it is the same
use Prim.Native.Nat.{ℕ, ◌+◌, ◌≤◌}
use mathlib.Core.Bool.{Bool, true, false, not, ◌&&◌, ◌||◌}
use mathlib.Core.List.{List, [], ◌∷◌}
use mathlib.Core.Path.{◌≡◌, refl, ap, ap₂, sym, subst, ◌∙◌}
use native.Mathlib.Omega.{arith}
use lib.Dec.{leb, eqb}
use lib.ListN.{length, take, drop}
use borrow.Author.Tests.{eqb-true, le-leb, leb-true}
use Rattle.table.specs.Bits.{pick}
use Rattle.table.specs.Lent.{viewed, no_view}
use Rattle.table.specs.Table as fields
use Rattle.table.specs.Writing.{walk, seen, number, bytes, count, contents, Made, made, refused, make_of, make, refusal_in}
use Rattle.table.specs.declared.View.{View}
use Rattle.table.proofs.Lists.{zero_one, and_true}
use Rattle.table.proofs.Structure as laws
use Rattle.upid.specs.Upid.{check_of}
use Rattle.upid.proofs.Walks.{empty}
use Rattle.descriptor.specs.Plain.{avail, dtmf, time, private_table}
use Rattle.descriptor.specs.Segmentation.{component_count, agrees, back_of, count_of, writable_detail, writable_front, front_of, head, active_from, segmentation, detail_upid}
use Rattle.descriptor.specs.Views.{without_view, detail_views, descriptor_views, with_upids}
use Rattle.descriptor.specs.declared.Descriptor.{Descriptor}
use Rattle.descriptor.specs.declared.Descriptor.TheVariants.{Avail, Dtmf, Segmentation, Time, Reserved}
use Rattle.descriptor.specs.declared.plain.DTMFDescriptor.{DTMFDescriptor}
use Rattle.descriptor.specs.declared.segmentation.SegmentationComponent.{SegmentationComponent}
use Rattle.descriptor.specs.declared.segmentation.SegmentationDescriptor.{SegmentationDescriptor}
use Rattle.descriptor.specs.declared.segmentation.DescriptorDetail.{DescriptorDetail}
use Rattle.descriptor.specs.declared.segmentation.DescriptorDetail.TheVariants.{Cancel, Active}
use Rattle.descriptor.specs.declared.segmentation.SegmentationDetail.{SegmentationDetail}
use Rattle.descriptor.specs.declared.segmentation.SegmentationUpid.{SegmentationUpid}
use Rattle.descriptor.specs.declared.full.Beside.{Beside}
use Rattle.descriptor_measure.specs.Private.{upid_fields}
use Rattle.canonical_form.specs.Same.{SameReading, without_places, bytes_of_views, placeless_upid}
use Rattle.descriptor_measure.specs.Writing.{count_beside, enveloped_made, all_zero, alone, writable_reserved, accepts, writable_upid, writable_segment, segmentation_made, payload_made, descriptor_made, tag_of, identifier_of, upid_in, upid_source, written_detail, written_type, written_upid}
use Rattle.descriptor_measure.proofs.Fields.{active_fields_lem}
use Rattle.descriptor_measure.proofs.Making.{all_writable, by_table, counted, zero_view}
use Rattle.descriptor_round_trips.specs.Making.{view_in}
use Rattle.descriptor_round_trips.proofs.PlainLaws.{viewed_at}
use Rattle.descriptor_round_trips.proofs.PlainTrips.{unenveloped}
use Rattle.descriptor_round_trips.proofs.Remade.{same_make, with_upid, active_makes, active_seen}
use Rattle.descriptor_round_trips.proofs.SegmentBack.{viewed_length, viewed_none}

-- ---- a descriptor and its view

-- the view v of the bytes s and the view w of the bytes r, both inside, have the same bytes
pub record SameView (s : List ℕ) (v : View) (r : List ℕ) (w : View) : Type 0 where
  pub size : v.len ≡ w.len
  pub bytes : viewed s v ≡ viewed r w
  pub left : v.at + v.len ≤ length s
  pub right : w.at + w.len ≤ length r

-- the view of a detail: the blank where it is cancelled
abbrev pub detail_view : DescriptorDetail → View
detail_view d = (detail_upid d).bytes

-- the same with another view
abbrev active_at : View → SegmentationDetail → SegmentationDetail
active_at v i = active_from (front_of (Active i)) (record { upid_type = i.segmentation_upid.upid_type; bytes = v }) (back_of (Active i))

abbrev detail_at : View → DescriptorDetail → DescriptorDetail
detail_at v Cancel = Cancel
detail_at v (Active i) = Active (active_at v i)

abbrev with_view : View → Descriptor → Descriptor
with_view v (Avail x) = Avail x
with_view v (Dtmf x) = Dtmf (record { preroll = x.preroll; dtmf_chars = v })
with_view v (Segmentation x) = Segmentation (record { segmentation_event_id = x.segmentation_event_id; descriptor_detail = detail_at v x.descriptor_detail })
with_view v (Time x) = Time x
with_view v (Reserved tag own) = Reserved tag v

detail_own : (d : DescriptorDetail) → detail_at (detail_view d) (with_upids placeless_upid d) ≡ d
detail_own Cancel = refl
detail_own (Active i) = refl

own_view : (d : Descriptor) → with_view (view_in d) (without_places d) ≡ d
own_view (Avail x) = refl
own_view (Dtmf x) = refl
own_view (Segmentation x) = ap (λ (d : DescriptorDetail). Segmentation (record { segmentation_event_id = x.segmentation_event_id; descriptor_detail = d })) (detail_own x.descriptor_detail)
own_view (Time x) = refl
own_view (Reserved tag own) = refl

detail_any : (v : View) (d : DescriptorDetail) → detail_at v (with_upids placeless_upid d) ≡ detail_at v d
detail_any v Cancel = refl
detail_any v (Active i) = refl

any_view : (v : View) (d : Descriptor) → with_view v (without_places d) ≡ with_view v d
any_view v (Avail x) = refl
any_view v (Dtmf x) = refl
any_view v (Segmentation x) = ap (λ (d : DescriptorDetail). Segmentation (record { segmentation_event_id = x.segmentation_event_id; descriptor_detail = d })) (detail_any v x.descriptor_detail)
any_view v (Time x) = refl
any_view v (Reserved tag own) = refl

-- descriptors of equal values differ in their views only
pub views_differ : (d e : Descriptor) → without_places d ≡ without_places e → with_view (view_in e) d ≡ e
views_differ d e h = sym (any_view (view_in e) d) ∙ ap (with_view (view_in e)) h ∙ own_view e

-- ---- what is written

same_run : (s : List ℕ) (v : View) (r : List ℕ) (w : View) → SameView s v r w → take v.len (drop v.at s) ≡ take w.len (drop w.at r)
same_run s v r w h = sym (viewed_at s v.at v.len h.left) ∙ h.bytes ∙ viewed_at r w.at w.len h.right

module _ (s r : List ℕ) (w : View) (p : List ℕ) where
  dtmf_alike : (writable : Bool) (x : DTMFDescriptor) → SameView s x.dtmf_chars r w → make dtmf writable s x ≡ made p → make dtmf writable r (record { preroll = x.preroll; dtmf_chars = w }) ≡ made p
  unfolding dtmf fields.number fields.reserved fields.part
  dtmf_alike writable x h e =
      let y : DTMFDescriptor = record { preroll = x.preroll; dtmf_chars = w } in
      same_make writable writable s r (walk dtmf x 0).fields (walk dtmf y 0).fields p e
      (ap₂ (λ (n : ℕ) (b : List ℕ). number 8 x.preroll ∷ (number 3 n ∷ (number 5 31 ∷ (bytes b ∷ [])))) h.size (same_run s x.dtmf_chars r w h))
      (rw (le-leb (w.at + w.len) (length r) h.right))
      (laws.wrote writable s (walk dtmf x 0).fields p e).fit

  private_alike : (writable : Bool) (v : View) → SameView s v r w → make private_table writable s v ≡ made p → make private_table writable r w ≡ made p
  unfolding private_table fields.remaining fields.part
  private_alike writable v h e =
      same_make writable writable s r (walk private_table v 0).fields (walk private_table w 0).fields p e
      (ap₂ (λ (n : ℕ) (b : List ℕ). count n ∷ (bytes b ∷ [])) h.size (same_run s v r w h))
      (rw (le-leb (w.at + w.len) (length r) h.right))
      (laws.wrote writable s (walk private_table v 0).fields p e).fit

-- what is made of a segmentation descriptor, with its EIDR and its components up to the count
abbrev segment_made : SegmentationDescriptor → List ℕ → List ℕ → List SegmentationComponent → List ℕ → Made
segment_made x id eidr cs lent =
    pick (leb ((upid_in x).bytes.at + (upid_in x).bytes.len) (length lent))
    (pick (leb (upid_in x).bytes.len 255)
    (make segmentation (writable_segment x id eidr lent) (upid_source (upid_in x) eidr lent)
    (record { descriptor = record { segmentation_event_id = x.segmentation_event_id; descriptor_detail = written_detail x.descriptor_detail }; components = cs }))
    (refused 32))
    (refused 31)

segment_is : (x : SegmentationDescriptor) (id : List ℕ) (b : Beside) (lent : List ℕ)
    → segmentation_made x id b lent ≡ segment_made x id b.eidr (take (component_count x) b.components) lent
unfolding segmentation_made
segment_is x id b lent = refl

module _ (s r : List ℕ) (w : View) (p id : List ℕ) (b : Beside) where
  module _ (event : ℕ) where
    cancel_alike : (let x : SegmentationDescriptor = record { segmentation_event_id = event; descriptor_detail = Cancel } in
        segmentation_made x id b s ≡ made p → segmentation_made x id b r ≡ made p)
    unfolding segmentation_made writable_segment writable_upid segmentation head fields.number fields.bit fields.reserved
    cancel_alike e = rw (viewed_none r, le-leb 0 (length r) (omega arith)) (rw (viewed_none s, le-leb 0 (length s) (omega arith)) at e)

    module _ (i : SegmentationDetail) (places : count_of i.segmentation_mode ≤ length b.components) (h : SameView s i.segmentation_upid.bytes r w) where
      abbrev x : SegmentationDescriptor
      x = record { segmentation_event_id = event; descriptor_detail = Active i }

      abbrev y : SegmentationDescriptor
      y = record { segmentation_event_id = event; descriptor_detail = Active (active_at w i) }

      abbrev u : SegmentationUpid
      u = i.segmentation_upid

      abbrev v : SegmentationUpid
      v = record { upid_type = i.segmentation_upid.upid_type; bytes = w }

      abbrev cs : List SegmentationComponent
      cs = take (count_of i.segmentation_mode) b.components

      type_alike : written_type u ≡ written_type v
      unfolding written_type
      type_alike = ap (λ (n : ℕ). pick (eqb u.upid_type 6 && eqb n 8) 5 u.upid_type) h.size

      writable_alike : writable_upid u b.eidr s ≡ writable_upid v b.eidr r
      unfolding writable_upid written_type
      writable_alike =
          ap₂ (λ (n : ℕ) (y : List ℕ).
          pick (eqb u.upid_type 10) (eqb n 0)
          (all_zero b.eidr && (agrees (eqb u.upid_type 0) (eqb n 0) && (not (eqb u.upid_type 5) && accepts (check_of (pick (eqb u.upid_type 6 && eqb n 8) 5 u.upid_type) y))))) h.size h.bytes

      upid_alike : contents (upid_source u b.eidr s) (upid_fields (written_upid u)) ≡ contents (upid_source v b.eidr r) (upid_fields (written_upid v))
      unfolding upid_source written_upid
      upid_alike = go (eqb u.upid_type 10)
        where
          go : (t : Bool) → contents (pick t b.eidr s) (upid_fields (pick t (record { upid_type = 10; bytes = record { at = 0; len = 12 } }) (record { upid_type = written_type u; bytes = u.bytes })))
              ≡ contents (pick t b.eidr r) (upid_fields (pick t (record { upid_type = 10; bytes = record { at = 0; len = 12 } }) (record { upid_type = written_type v; bytes = w })))
          go true = refl
          go false =
              ap₂ (λ (k n : ℕ). number 8 k ∷ (number 8 n ∷ (bytes (take u.bytes.len (drop u.bytes.at s)) ∷ []))) type_alike h.size
              ∙ ap (λ (b : List ℕ). number 8 (written_type v) ∷ (number 8 w.len ∷ (bytes b ∷ []))) (same_run s u.bytes r w h)

      seen_alike : seen (upid_source u b.eidr s) (upid_fields (written_upid u)) ≡ true → seen (upid_source v b.eidr r) (upid_fields (written_upid v)) ≡ true
      unfolding upid_source written_upid
      seen_alike = go (eqb u.upid_type 10)
        where
          go : (t : Bool) → seen (pick t b.eidr s) (upid_fields (pick t (record { upid_type = 10; bytes = record { at = 0; len = 12 } }) (record { upid_type = written_type u; bytes = u.bytes }))) ≡ true
              → seen (pick t b.eidr r) (upid_fields (pick t (record { upid_type = 10; bytes = record { at = 0; len = 12 } }) (record { upid_type = written_type v; bytes = w }))) ≡ true
          go true e = e
          go false e = rw (le-leb (w.at + w.len) (length r) h.right)

      writable_detail_lem : writable_detail (Active i) ≡ true → writable_detail (Active (active_at w i)) ≡ true
      unfolding writable_detail writable_front
      writable_detail_lem e = e

      active_alike : segmentation_made x id b s ≡ made p → segmentation_made y id b r ≡ made p
      unfolding segmentation_made writable_segment
      active_alike e =
          let c = counted x id b s places in
          let f = all_writable x id b s places p e in
          let m = by_table x id b s places p e in
          let n = zero_view x id b s (ap refusal_in e) in
          let writable : Bool = writable_segment y id b.eidr r in
          let is : writable ≡ true = rw (f.0, writable_detail_lem f.1) (sym writable_alike ∙ f.2) in
          let source : List ℕ = upid_source u b.eidr s in
          let other : List ℕ = upid_source v b.eidr r in
          let g = ap (make_of (writable_detail (written_detail (Active i))) source) (sym (active_fields_lem event i (written_upid u) cs c)) ∙ m in
          let t = laws.wrote (writable_detail (written_detail (Active i))) source (with_upid event i cs (written_upid u)) p g in
          rw (le-leb (w.at + w.len) (length r) h.right, le-leb w.len 255 (omega (arith, n.0, h.size)))
          (ap (make_of writable other) (active_fields_lem event i (written_upid v) cs c)
          ∙ active_makes event i cs (writable_detail (written_detail (Active i))) writable source other (written_upid u) (written_upid v) p g upid_alike (seen_alike (sym (active_seen event i cs source (written_upid u)) ∙ t.views)) is)

  detail_alike : (event : ℕ) (d : DescriptorDetail) → count_of (front_of d).segmentation_mode ≤ length b.components → SameView s (detail_view d) r w
      → segmentation_made (record { segmentation_event_id = event; descriptor_detail = d }) id b s ≡ made p
      → segmentation_made (record { segmentation_event_id = event; descriptor_detail = detail_at w d }) id b r ≡ made p
  detail_alike event Cancel places h e = cancel_alike event e
  detail_alike event (Active i) places h e = active_alike event i places h e

  payload_alike : (d : Descriptor) → count_beside d ≤ length b.components → SameView s (view_in d) r w → payload_made d id b s ≡ made p → payload_made (with_view w d) id b r ≡ made p
  unfolding payload_made avail time fields.number
  payload_alike (Avail x) places h e = e
  payload_alike (Dtmf x) places h e = dtmf_alike s r w p (alone id b.eidr) x h e
  payload_alike (Segmentation x) places h e = detail_alike x.segmentation_event_id x.descriptor_detail places h e
  payload_alike (Time x) places h e = e
  payload_alike (Reserved tag own) places h e = private_alike s r w p (writable_reserved tag id b.eidr) own h e

detail_count_lem : (w : View) (d : DescriptorDetail) → count_of (front_of (detail_at w d)).segmentation_mode ≡ count_of (front_of d).segmentation_mode
detail_count_lem w Cancel = refl
detail_count_lem w (Active i) = refl

-- what stands beside is looked at up to the count
module _ (lent id : List ℕ) (b c : Beside) (eidrs : b.eidr ≡ c.eidr) where
  payload_beside : (d : Descriptor) → take (count_beside d) b.components ≡ take (count_beside d) c.components → payload_made d id b lent ≡ payload_made d id c lent
  unfolding payload_made
  payload_beside (Avail x) h = ap (λ (e : List ℕ). make avail (alone id e) lent x) eidrs
  payload_beside (Dtmf x) h = ap (λ (e : List ℕ). make dtmf (alone id e) lent x) eidrs
  payload_beside (Segmentation x) h = segment_is x id b lent ∙ ap₂ (λ (e : List ℕ) (cs : List SegmentationComponent). segment_made x id e cs lent) eidrs h ∙ sym (segment_is x id c lent)
  payload_beside (Time x) h = ap (λ (e : List ℕ). make time (alone id e) lent x) eidrs
  payload_beside (Reserved tag own) h = ap (λ (e : List ℕ). make private_table (writable_reserved tag id e) lent own) eidrs

count_of_lem : (w : View) (d : Descriptor) → count_beside (with_view w d) ≡ count_beside d
count_of_lem w (Avail x) = refl
count_of_lem w (Dtmf x) = refl
count_of_lem w (Segmentation x) = detail_count_lem w x.descriptor_detail
count_of_lem w (Time x) = refl
count_of_lem w (Reserved tag own) = refl

tag_of_lem : (w : View) (d : Descriptor) → tag_of (with_view w d) ≡ tag_of d
tag_of_lem w (Avail x) = refl
tag_of_lem w (Dtmf x) = refl
tag_of_lem w (Segmentation x) = refl
tag_of_lem w (Time x) = refl
tag_of_lem w (Reserved tag own) = refl

identifier_of_lem : (w : View) (d : Descriptor) (id : List ℕ) → identifier_of (with_view w d) id ≡ identifier_of d id
identifier_of_lem w (Avail x) id = refl
identifier_of_lem w (Dtmf x) id = refl
identifier_of_lem w (Segmentation x) id = refl
identifier_of_lem w (Time x) id = refl
identifier_of_lem w (Reserved tag own) id = refl

-- descriptors of equal values have one tag and one identifier
pub same_envelope : (d e : Descriptor) (id : List ℕ) → without_places d ≡ without_places e → (tag_of d ≡ tag_of e) × (identifier_of d id ≡ identifier_of e id)
same_envelope d e id h =
    let k = views_differ d e h in
    (sym (tag_of_lem (view_in e) d) ∙ ap tag_of k, sym (identifier_of_lem (view_in e) d id) ∙ ap (λ (f : Descriptor). identifier_of f id) k)

module _ (s r id : List ℕ) (b c : Beside) (eidrs : b.eidr ≡ c.eidr) (d e : Descriptor) (places : count_beside d ≤ length b.components) (values : without_places d ≡ without_places e)
    (views : SameView s (view_in d) r (view_in e)) (same : take (count_beside d) b.components ≡ take (count_beside e) c.components) where
  -- of descriptors that are alike the same is written
  pub alike_payload : (p : List ℕ) → payload_made d id b s ≡ made p → payload_made e id c r ≡ made p
  alike_payload p m =
      let k : with_view (view_in e) d ≡ e = views_differ d e values in
      let n : count_beside d ≡ count_beside e = sym (count_of_lem (view_in e) d) ∙ ap count_beside k in
      sym (payload_beside r id b c eidrs e (ap (λ (n : ℕ). take n b.components) (sym n) ∙ same))
      ∙ subst (λ (f : Descriptor). payload_made f id b r ≡ made p) k (payload_alike s r (view_in e) p id b d places views m)

  pub alike_made : (t : List ℕ) → descriptor_made d id b s ≡ made t → descriptor_made e id c r ≡ made t
  unfolding descriptor_made
  alike_made t m =
      let u = unenveloped (tag_of d) (identifier_of d id) (payload_made d id b s) t m in
      let f = same_envelope d e id values in
      ap₂ (λ (k : ℕ) (i : List ℕ). enveloped_made k i (payload_made e id c r)) (sym f.0) (sym f.1)
      ∙ ap (enveloped_made (tag_of d) (identifier_of d id)) (alike_payload u.0 u.1 ∙ sym u.1) ∙ m

-- ---- equal readings, of both of which something is written

pub by_bytes : (s : List ℕ) (v : View) (r : List ℕ) (w : View) → v.at + v.len ≤ length s → w.at + w.len ≤ length r → viewed s v ≡ viewed r w → SameView s v r w
by_bytes s v r w hs hr e = record { size = sym (viewed_length s v hs) ∙ ap length e ∙ viewed_length r w hr; bytes = e; left = hs; right = hr }

pub both_none : (s : List ℕ) (v : View) (r : List ℕ) (w : View) → v.at + v.len ≤ length s → w.at + w.len ≤ length r → v.len ≡ 0 → w.len ≡ 0 → SameView s v r w
both_none s v r w hs hr n m = by_bytes s v r w hs hr (empty (viewed s v) (viewed_length s v hs ∙ n) ∙ sym (empty (viewed r w) (viewed_length r w hr ∙ m)))

pub no_views : (s r : List ℕ) → SameView s no_view r no_view
no_views s r = both_none s no_view r no_view (omega arith) (omega arith) refl refl

-- None and EIDR have no bytes
none_writable : (u : SegmentationUpid) (eidr lent : List ℕ) → without_view u.upid_type ≡ true → writable_upid u eidr lent ≡ true → u.bytes.len ≡ 0
unfolding writable_upid
none_writable u eidr lent k f = go (eqb u.upid_type 10) (eqb u.upid_type 0) k f
  where
    go : (ten none : Bool) → none || ten ≡ true
        → pick ten (eqb u.bytes.len 0) (all_zero eidr && (agrees none (eqb u.bytes.len 0) && (not (eqb u.upid_type 5) && accepts (check_of (written_type u) (viewed lent u.bytes))))) ≡ true
        → u.bytes.len ≡ 0
    go true none k f = eqb-true u.bytes.len 0 f
    go false true k f = eqb-true u.bytes.len 0 (and_true (eqb u.bytes.len 0) _ (and_true (all_zero eidr) _ f).1).0
    go false false k f = zero_one cc

-- what is written of a descriptor tells of its view: it lies in the lent bytes, and is empty of None and EIDR
abbrev pub DetailTold : DescriptorDetail → Type 0
DetailTold Cancel = Unit {0}
DetailTold (Active i) = without_view i.segmentation_upid.upid_type ≡ true → i.segmentation_upid.bytes.len ≡ 0

abbrev pub NoneTold : Descriptor → Type 0
NoneTold (Avail x) = Unit {0}
NoneTold (Dtmf x) = Unit {0}
NoneTold (Segmentation x) = DetailTold x.descriptor_detail
NoneTold (Time x) = Unit {0}
NoneTold (Reserved tag own) = Unit {0}

module _ (s p id : List ℕ) (b : Beside) where
  detail_told : (event : ℕ) (d : DescriptorDetail) → count_of (front_of d).segmentation_mode ≤ length b.components
      → segmentation_made (record { segmentation_event_id = event; descriptor_detail = d }) id b s ≡ made p → ((detail_view d).at + (detail_view d).len ≤ length s) × DetailTold d
  detail_told event Cancel places e = (omega arith, tt)
  detail_told event (Active i) places e =
      let x : SegmentationDescriptor = record { segmentation_event_id = event; descriptor_detail = Active i } in
      ((zero_view x id b s (ap refusal_in e)).1, λ k. none_writable i.segmentation_upid b.eidr s k (all_writable x id b s places p e).2)

  pub payload_told : (d : Descriptor) → count_beside d ≤ length b.components → payload_made d id b s ≡ made p → ((view_in d).at + (view_in d).len ≤ length s) × NoneTold d
  unfolding payload_made dtmf private_table fields.number fields.reserved fields.part fields.remaining
  payload_told (Avail x) places e = (omega arith, tt)
  payload_told (Dtmf x) places e =
      let v = x.dtmf_chars in
      (leb-true _ _ (and_true (leb (v.at + v.len) (length s)) true (laws.wrote (alone id b.eidr) s (walk dtmf x 0).fields p e).views).0, tt)
  payload_told (Segmentation x) places e = detail_told x.segmentation_event_id x.descriptor_detail places e
  payload_told (Time x) places e = (omega arith, tt)
  payload_told (Reserved tag v) places e =
      (leb-true _ _ (and_true (leb (v.at + v.len) (length s)) true (laws.wrote (writable_reserved tag id b.eidr) s (walk private_table v 0).fields p e).views).0, tt)

pub made_told : (s t id : List ℕ) (b : Beside) (d : Descriptor) → count_beside d ≤ length b.components → descriptor_made d id b s ≡ made t → ((view_in d).at + (view_in d).len ≤ length s) × NoneTold d
unfolding descriptor_made
made_told s t id b d places e =
    let u = unenveloped (tag_of d) (identifier_of d id) (payload_made d id b s) t e in
    payload_told s u.0 id b d places u.1

first : List (List ℕ) → List ℕ
first [] = []
first (b ∷ bs) = b

module _ (s r : List ℕ) (w : View) where
  detail_view_lem : (d : DescriptorDetail) → ((detail_view d).at + (detail_view d).len ≤ length s) × DetailTold d → (detail_view (detail_at w d)).at + (detail_view (detail_at w d)).len ≤ length r
      → (detail_view d).len ≡ (detail_view (detail_at w d)).len → bytes_of_views s (detail_views d) ≡ bytes_of_views r (detail_views (detail_at w d)) → SameView s (detail_view d) r (detail_view (detail_at w d))
  unfolding first
  detail_view_lem Cancel f g n e = no_views s r
  detail_view_lem (Active i) f g n e = go i.segmentation_upid (without_view i.segmentation_upid.upid_type) f.0 f.1 n refl e
    where
      go : (u : SegmentationUpid) (t : Bool) → u.bytes.at + u.bytes.len ≤ length s → (without_view u.upid_type ≡ true → u.bytes.len ≡ 0) → u.bytes.len ≡ w.len → without_view u.upid_type ≡ t
          → bytes_of_views s (pick t [] (u.bytes ∷ [])) ≡ bytes_of_views r (pick t [] (w ∷ [])) → SameView s u.bytes r w
      go u true a none n t h = both_none s u.bytes r w a g (none t) (sym n ∙ none t)
      go u false a none n t h = by_bytes s u.bytes r w a g (ap first h)

  view_same : (d : Descriptor) → ((view_in d).at + (view_in d).len ≤ length s) × NoneTold d → (view_in (with_view w d)).at + (view_in (with_view w d)).len ≤ length r
      → (view_in d).len ≡ (view_in (with_view w d)).len → bytes_of_views s (descriptor_views d) ≡ bytes_of_views r (descriptor_views (with_view w d)) → SameView s (view_in d) r (view_in (with_view w d))
  unfolding first
  view_same (Avail x) f g n e = no_views s r
  view_same (Dtmf x) f g n e = by_bytes s x.dtmf_chars r w f.0 g (ap first e)
  view_same (Segmentation x) f g n e = detail_view_lem x.descriptor_detail f g n e
  view_same (Time x) f g n e = no_views s r
  view_same (Reserved tag own) f g n e = by_bytes s own r w f.0 g (ap first e)

-- how many bytes a view has is a value
detail_size : (d : DescriptorDetail) → (detail_view (with_upids placeless_upid d)).len ≡ (detail_view d).len
detail_size Cancel = refl
detail_size (Active i) = refl

pub size_is : (d : Descriptor) → (view_in (without_places d)).len ≡ (view_in d).len
size_is (Avail x) = refl
size_is (Dtmf x) = refl
size_is (Segmentation x) = detail_size x.descriptor_detail
size_is (Time x) = refl
size_is (Reserved tag own) = refl

-- the views of equal readings, the first of which is written
pub same_view : (s r : List ℕ) (d e : Descriptor) → without_places d ≡ without_places e → bytes_of_views s (descriptor_views d) ≡ bytes_of_views r (descriptor_views e)
    → ((view_in d).at + (view_in d).len ≤ length s) × NoneTold d → (view_in e).at + (view_in e).len ≤ length r → SameView s (view_in d) r (view_in e)
same_view s r d e values held f g =
    let k : with_view (view_in e) d ≡ e = views_differ d e values in
    let n : (view_in d).len ≡ (view_in e).len = sym (size_is d) ∙ ap (λ (y : Descriptor). (view_in y).len) values ∙ size_is e in
    subst (λ (y : Descriptor). SameView s (view_in d) r (view_in y)) k
    (view_same s r (view_in e) d f (subst (λ (y : Descriptor). (view_in y).at + (view_in y).len ≤ length r) (sym k) g) (n ∙ ap (λ (y : Descriptor). (view_in y).len) (sym k))
    (held ∙ ap (λ (y : Descriptor). bytes_of_views r (descriptor_views y)) (sym k)))

-- what is written of equal readings is equal
pub same_made : (s r t q : List ℕ) (d e : Descriptor) (id other : List ℕ) (b c : Beside) → count_beside d ≤ length b.components → count_beside e ≤ length c.components
    → SameReading s d id b r e other c → descriptor_made d id b s ≡ made t → descriptor_made e other c r ≡ made q → t ≡ q
same_made s r t q d e id other b c pd pe same m n =
    let h = same_view s r d e same.values same.bytes (made_told s t id b d pd m) (made_told r q other c e pe n).0 in
    let o : descriptor_made e id c r ≡ made t = alike_made s r id b c same.eidrs d e pd same.values h same.components t m in
    let z : made t ≡ made q = sym o ∙ ap (λ (i : List ℕ). descriptor_made e i c r) same.identifiers ∙ n in
    cc
