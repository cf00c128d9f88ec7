-- What is made of a descriptor is fixed by the readers and by the widths of its fields.
--     numbers_fit       the fields of an active segmentation hold its numbers, and what always fits: flags, reserved bits, device restrictions
--     tested            31 and 32, by the view and the numbers that are handed in
--     what_is_made      `descriptor_made` is what `DescriptorMakes` allows
--     nothing_else      and allows nothing else
use Prim.Native.Nat.{ℕ, ◌+◌, ◌^◌, ◌≤◌}
use mathlib.Core.Bool.{Bool, true, false, ◌&&◌}
use mathlib.Core.List.{List, [], ◌∷◌, ◌++◌}
use mathlib.Core.Path.{◌≡◌, refl, ap, ap₂, sym, ◌∙◌}
use native.Mathlib.Omega.{arith}
use lib.Dec.{leb, ltb, eqb}
use lib.ListN.{length, take}
use borrow.Author.Tests.{eqb-true, le-leb, lt-leb, leb-true, leb-false, lt-ltb, le-ltb}
use Rattle.names.specs.Segmentation.{segmentation_number}
use Rattle.table.specs.Bits.{pick, bytes_of}
use Rattle.table.specs.Lent.{lies_in}
use Rattle.table.specs.Table as fields
use Rattle.table.specs.Writing.{Field, walk, seen, within, contents, print, Made, made, refused}
use Rattle.table.specs.declared.View.{View}
use Rattle.table.proofs.Lists.{zero_one, and_true}
use Rattle.descriptor.specs.Plain.{avail, dtmf, time, private_table}
use Rattle.descriptor.specs.Segmentation.{by_program, count_of, front_of, head, lasting, segmentation, sub_segment, ticks, unrestricted}
use Rattle.descriptor.specs.declared.Descriptor.{Descriptor}
use Rattle.descriptor.specs.declared.Descriptor.TheVariants.{Avail, Dtmf, Segmentation, Time, Reserved}
use Rattle.descriptor.specs.declared.segmentation.SegmentationComponent.{SegmentationComponent}
use Rattle.descriptor.specs.declared.segmentation.SegmentationDescriptor.{SegmentationDescriptor}
use Rattle.descriptor.specs.declared.segmentation.DescriptorDetail.{DescriptorDetail}
use Rattle.descriptor.specs.declared.segmentation.DescriptorDetail.TheVariants.{Cancel, Active}
use Rattle.descriptor.specs.declared.segmentation.SegmentationDetail.{SegmentationDetail}
use Rattle.descriptor.specs.declared.segmentation.SegmentationMode.{SegmentationMode}
use Rattle.descriptor.specs.declared.segmentation.SegmentationUpid.{SegmentationUpid}
use Rattle.descriptor.specs.declared.full.Beside.{Beside}
use Rattle.descriptor_measure.specs.Writing.{count_beside, enveloped, enveloped_made, alone, writable_reserved, writable_segment, segmentation_made, payload_made, descriptor_made, tag_of, identifier_of, upid_source, written, written_type, written_upid}
use Rattle.descriptor_measure.specs.Private.{delivery_fields, components_fields, mode_fields, duration_fields, upid_fields, sub_fields, back_fields}
use Rattle.descriptor_measure.proofs.Fields.{front_fields, active_fields_lem}
use Rattle.descriptor_measure.proofs.Making as making
use Rattle.descriptor_measure.proofs.Refusals.{within_append, flag_within, within_delivery, upid_seen}
use Rattle.descriptor_round_trips.specs.Making.{view_in, fit, component_numbers, numbers_of, Payload, DescriptorMakes, outside, over, nobodys, long, its}
use Rattle.descriptor_round_trips.specs.Trips.{Handed}
use Rattle.descriptor_round_trips.proofs.Payloads.{counted, payload_write_read, written_if_read}
use Rattle.descriptor_round_trips.proofs.Remade.{and_last, with_upid, active_seen}
use Rattle.std.proofs.Common.{Some, None, Option}
use Rattle.descriptor.specs.declared.segmentation.SubSegment.{SubSegment}

and_none : (b : Bool) → b && false ≡ false
and_none true = refl
and_none false = refl

-- ---- the fields of what is handed in, and of what is written: an EIDR's view and type are written otherwise, and an ISAN's type

-- a UPID of 255 bytes or fewer, whose type as written is within its field
upid_within : (u : SegmentationUpid) → leb u.bytes.len 255 && within (upid_fields (written_upid u)) ≡ within (upid_fields u)
unfolding written_upid written_type
upid_within u = go (leb u.bytes.len 255) (eqb u.upid_type 10) (eqb u.upid_type 6 && eqb u.bytes.len 8) refl refl refl
  where
    go : (short ten six : Bool) → leb u.bytes.len 255 ≡ short → eqb u.upid_type 10 ≡ ten → eqb u.upid_type 6 && eqb u.bytes.len 8 ≡ six
        → short && within (upid_fields (pick ten (record { upid_type = 10; bytes = record { at = 0; len = 12 } }) (record { upid_type = pick six 5 u.upid_type; bytes = u.bytes }))) ≡ within (upid_fields u)
    go false ten six l t s = rw (le-ltb u.bytes.len 256 (omega (arith, leb-false u.bytes.len 255 l))) (sym (and_none (ltb u.upid_type 256)))
    go true true six l t s =
        let k = eqb-true u.upid_type 10 t in
        rw (lt-ltb u.upid_type 256 (omega arith), lt-ltb u.bytes.len 256 (omega (arith, leb-true u.bytes.len 255 l)))
    go true false true l t s =
        let k = eqb-true u.upid_type 6 (and_true (eqb u.upid_type 6) (eqb u.bytes.len 8) s).0 in
        rw (lt-ltb u.upid_type 256 (omega arith))
    go true false false l t s = refl

-- ---- the numbers of an active segmentation

components_fit : (cs : List SegmentationComponent) → within (components_fields cs) ≡ fit (component_numbers cs)
components_fit [] = refl
components_fit (c ∷ cs) = ap (λ (b : Bool). ltb c.component_tag (2 ^ 8) && (ltb c.pts_offset (2 ^ 33) && b)) (components_fit cs)

mode_fits : (k : SegmentationMode) (places : List SegmentationComponent) → within (mode_fields k (take (count_of k) places)) ≡ ltb (count_of k) (2 ^ 8) && fit (component_numbers (take (count_of k) places))
mode_fits SegmentationMode.Program places = refl
mode_fits (SegmentationMode.Component n) places = ap (λ (b : Bool). ltb n (2 ^ 8) && b) (components_fit (take n places))

duration_fits : (d : Option ℕ) → within (duration_fields d) ≡ ltb (ticks d) (2 ^ 40)
duration_fits None = refl
duration_fits (Some t) = and_last (ltb t (2 ^ 40))

sub_fits : (s : Option SubSegment) → within (sub_fields s) ≡ ltb (sub_segment s).sub_segment_num (2 ^ 8) && (ltb (sub_segment s).sub_segments_expected (2 ^ 8) && true)
sub_fits None = refl
sub_fits (Some x) = refl

module _ (event : ℕ) (i : SegmentationDetail) (places : List SegmentationComponent) where
  abbrev counts : List SegmentationComponent
  counts = take (count_of i.segmentation_mode) places

  front_fits : within (front_fields event i counts)
      ≡ ltb event (2 ^ 32) && ((ltb (count_of i.segmentation_mode) (2 ^ 8) && fit (component_numbers counts)) && ltb (ticks i.segmentation_duration) (2 ^ 40))
  front_fits =
      let m = mode_fields i.segmentation_mode counts in
      let t = duration_fields i.segmentation_duration in
      let d = delivery_fields i.delivery_restrictions in
      ap (λ (b : Bool). ltb event (2 ^ 32) && b)
      (rw (flag_within (by_program i.segmentation_mode), flag_within (lasting i.segmentation_duration), flag_within (unrestricted i.delivery_restrictions))
      (within_append d (m ++ t)
      ∙ ap₂ (λ (a b : Bool). a && b) (within_delivery i.delivery_restrictions)
      (within_append m t ∙ ap₂ (λ (a b : Bool). a && b) (mode_fits i.segmentation_mode places) (duration_fits i.segmentation_duration))))

  -- its fields are its numbers, in another order
  pub numbers_fit_lem : within (with_upid event i counts i.segmentation_upid) ≡ fit (numbers_of (Segmentation (record { segmentation_event_id = event; descriptor_detail = Active i })) places)
  numbers_fit_lem =
      let u = i.segmentation_upid in
      let n = ltb (segmentation_number i.segmentation_type_id) (2 ^ 8) in
      within_append (front_fields event i counts) (upid_fields u ++ back_fields i)
      ∙ ap₂ (λ (a b : Bool). a && b) front_fits
      (ap (λ (b : Bool). ltb u.upid_type (2 ^ 8) && (ltb u.bytes.len (2 ^ 8) && (n && (ltb i.segment_num (2 ^ 8) && (ltb i.segments_expected (2 ^ 8) && b))))) (sub_fits i.sub_segments))
      ∙ turned (ltb event (2 ^ 32)) (ltb (count_of i.segmentation_mode) (2 ^ 8)) (fit (component_numbers counts)) (ltb (ticks i.segmentation_duration) (2 ^ 40))
      (ltb u.upid_type (2 ^ 8)) (ltb u.bytes.len (2 ^ 8)) n (ltb i.segment_num (2 ^ 8)) (ltb i.segments_expected (2 ^ 8))
      (ltb (sub_segment i.sub_segments).sub_segment_num (2 ^ 8)) (ltb (sub_segment i.sub_segments).sub_segments_expected (2 ^ 8))
    where
      -- the components last
      last : (c k l t n x a b : Bool) → c && (k && (l && (t && (n && (x && (a && (b && true))))))) ≡ k && (l && (t && (n && (x && (a && (b && c))))))
      last c false l t n x a b = and_none c
      last c true false t n x a b = and_none c
      last c true true false n x a b = and_none c
      last c true true true false x a b = and_none c
      last c true true true true false a b = and_none c
      last c true true true true true false b = and_none c
      last c true true true true true true false = and_none c
      last c true true true true true true true = and_last c

      turned : (e m c d k l t n x a b : Bool)
          → (e && ((m && c) && d)) && (k && (l && (t && (n && (x && (a && (b && true))))))) ≡ e && (m && (d && (k && (l && (t && (n && (x && (a && (b && c)))))))))
      turned false m c d k l t n x a b = refl
      turned true false c d k l t n x a b = refl
      turned true true c false k l t n x a b = ap (λ (z : Bool). z && (k && (l && (t && (n && (x && (a && (b && true)))))))) (and_none c)
      turned true true c true k l t n x a b = ap (λ (z : Bool). z && (k && (l && (t && (n && (x && (a && (b && true)))))))) (and_last c) ∙ last c k l t n x a b

-- of what is made: 31 by a, 32 by b
abbrev checked : Bool → Bool → Bool → List ℕ → Made
checked a b writable q = pick a (pick b (pick writable (made q) (refused 33)) (refused 32)) (refused 31)

pub record Tested (d : Descriptor) (id : List ℕ) (beside : Beside) (lent : List ℕ) : Type 0 where
  pub writable : Bool
  pub bytes : List ℕ
  pub is : payload_made d id beside lent ≡ checked (lies_in lent (view_in d)) (fit (numbers_of d beside.components)) writable bytes

module _ (id : List ℕ) (beside : Beside) (lent : List ℕ) (twelve : length beside.eidr ≡ 12) where
  no_view_lem : leb 0 (length lent) ≡ true
  no_view_lem = le-leb 0 (length lent) (omega arith)

  module _ (event : ℕ) (i : SegmentationDetail) (places : count_of i.segmentation_mode ≤ length beside.components) where
    abbrev x : SegmentationDescriptor
    x = record { segmentation_event_id = event; descriptor_detail = Active i }

    abbrev u : SegmentationUpid
    u = i.segmentation_upid

    abbrev cs : List SegmentationComponent
    cs = take (count_of i.segmentation_mode) beside.components

    abbrev source : List ℕ
    source = upid_source i.segmentation_upid beside.eidr lent

    -- its fields as handed in, and as written
    abbrev given : List Field
    given = with_upid event i cs i.segmentation_upid

    abbrev inks : List Field
    inks = with_upid event i cs (written_upid i.segmentation_upid)

    within_parts : (w : SegmentationUpid) → within (with_upid event i cs w) ≡ within (front_fields event i cs) && (within (upid_fields w) && within (back_fields i))
    within_parts w = within_append (front_fields event i cs) _ ∙ ap (λ (b : Bool). within (front_fields event i cs) && b) (within_append (upid_fields w) (back_fields i))

    all_within : leb u.bytes.len 255 && within inks ≡ within given
    all_within =
        ap (λ (b : Bool). leb u.bytes.len 255 && b) (within_parts (written_upid u))
        ∙ turned (leb u.bytes.len 255) (within (front_fields event i cs)) (within (upid_fields (written_upid u))) (within (back_fields i))
        ∙ ap (λ (b : Bool). within (front_fields event i cs) && (b && within (back_fields i))) (upid_within u)
        ∙ sym (within_parts u)
      where
        turned : (l f w b : Bool) → l && (f && (w && b)) ≡ f && ((l && w) && b)
        turned true f w b = refl
        turned false true w b = refl
        turned false false w b = refl

    active_checked : segmentation_made x id beside lent ≡ checked (lies_in lent u.bytes) (within given) (writable_segment x id beside.eidr lent) (bytes_of (print (contents source inks)))
    unfolding segmentation_made
    active_checked =
        ap (λ (fs : List Field).
        pick (lies_in lent u.bytes)
        (pick (leb u.bytes.len 255) (checked (seen source fs) (within fs) (writable_segment x id beside.eidr lent) (bytes_of (print (contents source fs)))) (refused 32)) (refused 31))
        (active_fields_lem event i (written_upid u) cs (making.counted x id beside lent places))
        ∙ go (lies_in lent u.bytes) refl
      where
        both : (l w : Bool) (m : Made) → pick l (pick w m (refused 32)) (refused 32) ≡ pick (l && w) m (refused 32)
        both true w m = refl
        both false w m = refl

        go : (a : Bool) → lies_in lent u.bytes ≡ a
            → pick a (pick (leb u.bytes.len 255) (checked (seen source inks) (within inks) (writable_segment x id beside.eidr lent) (bytes_of (print (contents source inks)))) (refused 32)) (refused 31)
            ≡ checked a (within given) (writable_segment x id beside.eidr lent) (bytes_of (print (contents source inks)))
        go false e = refl
        go true e =
            let m = pick (writable_segment x id beside.eidr lent) (made (bytes_of (print (contents source inks)))) (refused 33) in
            rw (active_seen event i cs source (written_upid u) ∙ upid_seen u beside.eidr lent twelve e)
            (both (leb u.bytes.len 255) (within inks) m ∙ ap (λ (b : Bool). pick b m (refused 32)) all_within)

    active_tested : Tested (Segmentation x) id beside lent
    unfolding payload_made
    active_tested =
        let q : List ℕ = bytes_of (print (contents source inks)) in
        let writable : Bool = writable_segment x id beside.eidr lent in
        record { writable = writable; bytes = q; is = active_checked ∙ ap (λ (b : Bool). checked (lies_in lent u.bytes) b writable q) (numbers_fit_lem event i beside.components) }

  cancel_tested : (event : ℕ) → Tested (Segmentation (record { segmentation_event_id = event; descriptor_detail = Cancel })) id beside lent
  unfolding payload_made segmentation_made upid_source segmentation head fields.number fields.bit fields.reserved
  cancel_tested event =
      let x : SegmentationDescriptor = record { segmentation_event_id = event; descriptor_detail = Cancel } in
      let fs : List Field = (walk segmentation (written x beside.components) 0).fields in
      record { writable = writable_segment x id beside.eidr lent; bytes = bytes_of (print (contents lent fs)); is = rw no_view_lem }

  detail_tested : (event : ℕ) (d : DescriptorDetail) → count_of (front_of d).segmentation_mode ≤ length beside.components
      → Tested (Segmentation (record { segmentation_event_id = event; descriptor_detail = d })) id beside lent
  detail_tested event Cancel places = cancel_tested event
  detail_tested event (Active i) places = active_tested event i places

  -- a view, and no other field that has one
  by_view : (v : View) (fits writable : Bool) (q : List ℕ) → checked (lies_in lent v && true) fits writable q ≡ checked (lies_in lent v) fits writable q
  by_view v fits writable q = ap (λ (a : Bool). checked a fits writable q) (and_last (lies_in lent v))

  pub tested : (d : Descriptor) → count_beside d ≤ length beside.components → Tested d id beside lent
  unfolding payload_made avail dtmf time private_table fields.number fields.reserved fields.part fields.remaining
  tested (Avail x) places = record { writable = alone id beside.eidr; bytes = bytes_of (print (contents lent (walk avail x 0).fields)); is = rw no_view_lem }
  tested (Dtmf x) places =
      let q : List ℕ = bytes_of (print (contents lent (walk dtmf x 0).fields)) in
      record { writable = alone id beside.eidr; bytes = q; is = by_view x.dtmf_chars (fit (numbers_of (Dtmf x) beside.components)) (alone id beside.eidr) q }
  tested (Segmentation x) places = detail_tested x.segmentation_event_id x.descriptor_detail places
  tested (Time x) places = record { writable = alone id beside.eidr; bytes = bytes_of (print (contents lent (walk time x 0).fields)); is = rw no_view_lem }
  tested (Reserved tag v) places =
      let q : List ℕ = bytes_of (print (contents lent (walk private_table v 0).fields)) in
      record { writable = writable_reserved tag id beside.eidr; bytes = q; is = by_view v true (writable_reserved tag id beside.eidr) q }

-- ---- what is made
module _ (d : Descriptor) (id : List ℕ) (beside : Beside) (lent : List ℕ) (h : Handed d id beside lent) where
  abbrev sees : Bool
  sees = lies_in lent (view_in d)

  abbrev fits : Bool
  fits = fit (numbers_of d beside.components)

  told : Tested d id beside lent
  told = tested id beside lent h.twelve d (counted id beside lent [] d h)

  only : sees ≡ true → (tag : ℕ) (own p : List ℕ) → Payload d id beside lent tag own p → (payload_made d id beside lent ≡ made p) × (tag_of d ≡ tag) × (identifier_of d id ≡ own)
  only s = written_if_read d id beside lent (leb-true ((view_in d).at + (view_in d).len) (length lent) s)

  pub what_is_made : DescriptorMakes d id beside lent (descriptor_made d id beside lent)
  unfolding descriptor_made enveloped_made
  what_is_made = go sees fits told.writable told.bytes refl refl told.is
    where
      go : (a b writable : Bool) (q : List ℕ) → sees ≡ a → fits ≡ b → payload_made d id beside lent ≡ checked a b writable q
          → DescriptorMakes d id beside lent (enveloped_made (tag_of d) (identifier_of d id) (payload_made d id beside lent))
      go false b writable q s w e = rw e (outside s)
      go true false writable q s w e = rw e (over s w)
      go true true false q s w e = rw e (nobodys s w (λ tag own p r. let z : refused 33 ≡ made p = sym e ∙ (only s tag own p r).0 in zero_one cc))
      go true true true q s w e = rw e (sized (leb (length q + 4) 254) refl)
        where
          sized : (l : Bool) → leb (length q + 4) 254 ≡ l → DescriptorMakes d id beside lent (pick l (made (enveloped (tag_of d) (identifier_of d id) q)) (refused 34))
          sized true l = its s (tag_of d) (identifier_of d id) q (payload_write_read id beside lent q d h e) (leb-true (length q + 4) 254 l)
          sized false l = long s (tag_of d) (identifier_of d id) q (payload_write_read id beside lent q d h e) (leb-false (length q + 4) 254 l)

  -- nothing else is allowed
  enveloped_if_read : sees ≡ true → (tag : ℕ) (own p : List ℕ) → Payload d id beside lent tag own p
      → descriptor_made d id beside lent ≡ pick (leb (length p + 4) 254) (made (enveloped tag own p)) (refused 34)
  unfolding descriptor_made enveloped_made
  enveloped_if_read s tag own p r = let w = only s tag own p r in rw (w.0, w.1, w.2)

  refused_if : (a b : Bool) (n : ℕ) → sees ≡ a → fits ≡ b → checked a b told.writable told.bytes ≡ refused n → descriptor_made d id beside lent ≡ refused n
  unfolding descriptor_made enveloped_made
  refused_if a b n s w e = let z : payload_made d id beside lent ≡ refused n = told.is ∙ ap₂ (λ (a b : Bool). checked a b told.writable told.bytes) s w ∙ e in rw z

  pub nothing_else : {m : Made} → DescriptorMakes d id beside lent m → descriptor_made d id beside lent ≡ m
  nothing_else (outside s) = refused_if false fits 31 s refl refl
  nothing_else (over s w) = refused_if true false 32 s w refl
  nothing_else (nobodys s w none) = go told.writable refl
    where
      go : (writable : Bool) → told.writable ≡ writable → descriptor_made d id beside lent ≡ refused 33
      go true f =
          let e : payload_made d id beside lent ≡ made told.bytes = told.is ∙ ap₂ (λ (a b : Bool). checked a b told.writable told.bytes) s w ∙ rw f in
          absurd (none (tag_of d) (identifier_of d id) told.bytes (payload_write_read id beside lent told.bytes d h e))
      go false f = refused_if true true 33 s w (rw f)
  nothing_else (long s tag own p r l) = enveloped_if_read s tag own p r ∙ rw (lt-leb (length p + 4) 254 l)
  nothing_else (its s tag own p r l) = enveloped_if_read s tag own p r ∙ rw (le-leb (length p + 4) 254 l)
