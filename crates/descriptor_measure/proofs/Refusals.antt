-- The refusals of a segmentation descriptor, step by step.
use Prim.Native.Nat.{ℕ, ◌+◌, ◌^◌, ◌<◌, ◌≤◌}
use mathlib.Core.Bool.{Bool, true, false, not, ◌&&◌}
use mathlib.Core.List.{List, [], ◌∷◌, ◌++◌}
use mathlib.Core.Path.{◌≡◌, refl, ap, ap₂, sym, subst, ◌∙◌}
use native.Mathlib.Omega.{arith}
use lib.Dec.{leb, ltb, eqb}
use lib.ListN.{length, take}
use lib.Seq.{length-take-le}
use borrow.Author.Tests.{leb-true, leb-false, not-true, not-false, lt-ltb, le-leb, lt-leb}
use Rattle.names.specs.Flags.{restrictions_bits}
use Rattle.names.specs.declared.flags.DeviceRestrictions.{DeviceRestrictions}
use Rattle.table.specs.Bits.{pick, bytes_of}
use Rattle.table.specs.Table.{flag_number}
use Rattle.table.specs.Writing.{Field, bits, run, rest, seen, within, contents, print, Made, made, refused, make_of, refusal_in}
use Rattle.table.proofs.Lists.{and_assoc}
use Rattle.descriptor.specs.Segmentation.{component_count, blank_upid, by_program, count_of, writable_detail, front_of, lasting, unrestricted}
use Rattle.descriptor.specs.Full.{filled}
use Rattle.descriptor.specs.declared.segmentation.SegmentationComponent.{SegmentationComponent}
use Rattle.descriptor.specs.declared.segmentation.SegmentationDescriptor.{SegmentationDescriptor}
use Rattle.descriptor.specs.declared.segmentation.DescriptorDetail.{DescriptorDetail}
use Rattle.descriptor.specs.declared.segmentation.DescriptorDetail.TheVariants.{Cancel, Active}
use Rattle.descriptor.specs.declared.segmentation.SegmentationDetail.{SegmentationDetail}
use Rattle.descriptor.specs.declared.segmentation.SegmentationMode.{SegmentationMode}
use Rattle.descriptor.specs.declared.segmentation.SegmentationUpid.{SegmentationUpid}
use Rattle.descriptor_measure.specs.Private.{delivery_fields, components_fields, mode_fields, duration_fields, upid_fields, sub_fields, back_fields, segment_fields, numbers_fit}
use Rattle.descriptor_measure.specs.Private.{ModeFits, RefusedSo}
use Rattle.descriptor_measure.specs.Writing.{all_zero, writable_upid, writable_segment, segmentation_made, upid_source, written_type, written_upid}
use Rattle.descriptor_measure.proofs.Fields.{fields_are}
use Rattle.descriptor_measure.proofs.Tests.{blanks_fit, blanks_length, no_mode_fit, upid_beside, upid_none}
use Rattle.std.proofs.Common.{Some, None, Option}
use Rattle.descriptor.specs.declared.segmentation.DeliveryRestrictions.{DeliveryRestrictions}
use Rattle.descriptor.specs.declared.segmentation.SubSegment.{SubSegment}

-- ---- the views and the numbers of fields one after the other
pub seen_append : (l : List ℕ) (fs gs : List Field) → seen l (fs ++ gs) ≡ seen l fs && seen l gs
seen_append l [] gs = refl
seen_append l (bits w v ∷ fs) gs = seen_append l fs gs
seen_append l (run n from ∷ fs) gs = ap (λ (b : Bool). leb (from + n) (length l) && b) (seen_append l fs gs) ∙ and_assoc (leb (from + n) (length l)) (seen l fs) (seen l gs)
seen_append l (rest m ∷ fs) gs = seen_append l fs gs

pub within_append : (fs gs : List Field) → within (fs ++ gs) ≡ within fs && within gs
within_append [] gs = refl
within_append (bits w v ∷ fs) gs = ap (λ (b : Bool). ltb v (2 ^ w) && b) (within_append fs gs) ∙ and_assoc (ltb v (2 ^ w)) (within fs) (within gs)
within_append (run n from ∷ fs) gs = within_append fs gs
within_append (rest m ∷ fs) gs = within_append fs gs

module _ (l : List ℕ) where
  seen_delivery : (d : Option DeliveryRestrictions) → seen l (delivery_fields d) ≡ true
  seen_delivery None = refl
  seen_delivery (Some r) = refl

  seen_components : (cs : List SegmentationComponent) → seen l (components_fields cs) ≡ true
  seen_components [] = refl
  seen_components (c ∷ cs) = seen_components cs

  seen_mode : (k : SegmentationMode) (cs : List SegmentationComponent) → seen l (mode_fields k cs) ≡ true
  seen_mode SegmentationMode.Program cs = refl
  seen_mode (SegmentationMode.Component n) cs = seen_components cs

  seen_duration : (d : Option ℕ) → seen l (duration_fields d) ≡ true
  seen_duration None = refl
  seen_duration (Some t) = refl

  seen_sub : (s : Option SubSegment) → seen l (sub_fields s) ≡ true
  seen_sub None = refl
  seen_sub (Some x) = refl

pub flag_within : (b : Bool) → ltb (flag_number b) 2 ≡ true
flag_within true = refl
flag_within false = refl

pub within_delivery : (d : Option DeliveryRestrictions) → within (delivery_fields d) ≡ true
within_delivery None = refl
within_delivery (Some r) =
    rw (flag_within r.web_delivery_allowed_flag, flag_within r.no_regional_blackout_flag, flag_within r.archive_allowed_flag) (device r.device_restrictions)
  where
    device : (d : DeviceRestrictions) → ltb (restrictions_bits d) 4 && true ≡ true
    device DeviceRestrictions.RestrictGroup0 = refl
    device DeviceRestrictions.RestrictGroup1 = refl
    device DeviceRestrictions.RestrictGroup2 = refl
    device DeviceRestrictions.None = refl

-- ---- a UPID as it is written
pub upid_seen : (u : SegmentationUpid) (eidr lent : List ℕ) → length eidr ≡ 12 → leb (u.bytes.at + u.bytes.len) (length lent) ≡ true
    → seen (upid_source u eidr lent) (upid_fields (written_upid u)) ≡ true
unfolding upid_source written_upid
upid_seen u eidr lent e h = go (eqb u.upid_type 10)
  where
    go : (b : Bool) → seen (pick b eidr lent) (upid_fields (pick b (record { upid_type = 10; bytes = record { at = 0; len = 12 } }) (record { upid_type = written_type u; bytes = u.bytes }))) ≡ true
    go true = rw e
    go false = rw h

pub upid_within : (u : SegmentationUpid) → u.upid_type < 256 → u.bytes.len ≤ 255 → within (upid_fields (written_upid u)) ≡ true
unfolding written_upid written_type
upid_within u k h = go (eqb u.upid_type 10) (eqb u.upid_type 6 && eqb u.bytes.len 8)
  where
    go : (b d : Bool) → within (upid_fields (pick b (record { upid_type = 10; bytes = record { at = 0; len = 12 } }) (record { upid_type = pick d 5 u.upid_type; bytes = u.bytes }))) ≡ true
    go true d = refl
    go false true = rw (lt-ltb u.bytes.len 256 (omega arith))
    go false false = rw (lt-ltb u.upid_type 256 k, lt-ltb u.bytes.len 256 (omega arith))

-- ---- what is made, when the views are seen
numbered : (writable : Bool) (l : List ℕ) (fs : List Field) → seen l fs ≡ true → refusal_in (make_of writable l fs) ≡ pick (within fs) (pick writable 0 33) 32
numbered writable l fs e = rw e (go (within fs) writable)
  where
    go : (w f : Bool) → refusal_in (pick w (pick f (made (bytes_of (print (contents l fs)))) (refused 33)) (refused 32)) ≡ pick w (pick f 0 33) 32
    go true true = refl
    go true false = refl
    go false f = refl

module _ (event : ℕ) (i : SegmentationDetail) (id : List ℕ) (cs : List SegmentationComponent) (eidr lent : List ℕ) where
  abbrev u : SegmentationUpid
  u = i.segmentation_upid

  abbrev x : SegmentationDescriptor
  x = record { segmentation_event_id = event; descriptor_detail = Active i }

  abbrev M : Made
  M = segmentation_made x id (record { components = cs; eidr = eidr }) lent

  module _ (b : Bool) (eb : b ≡ leb (u.bytes.at + u.bytes.len) (length lent)) where
    pub view_out : not b ≡ true → 31 ≡ refusal_in M
    unfolding segmentation_made
    view_out t = rw (← eb, not-true b t)

    module _ (t : not b ≡ false) where
      pub upid_long : 255 < u.bytes.len → 32 ≡ refusal_in M
      unfolding segmentation_made
      upid_long h = rw (← eb, not-false b t, lt-leb u.bytes.len 255 h)

      module _ (h : u.bytes.len ≤ 255) (many : length cs ≡ 255) (twelve : length eidr ≡ 12) (ev : event < 2 ^ 32) (upid_type_number : u.upid_type < 256) (n : Bool)
          (en : (n ≡ numbers_fit i (take (count_of i.segmentation_mode) cs)) × (count_of i.segmentation_mode < 256)) where
        abbrev listed : List SegmentationComponent
        listed = take (count_of i.segmentation_mode) cs

        abbrev source : List ℕ
        source = upid_source u eidr lent

        fs : List Field
        fs = segment_fields event (Active i) listed

        all_seen : seen source fs ≡ true
        unfolding fs segment_fields
        all_seen =
            seen_append source (delivery_fields i.delivery_restrictions) _
            ∙ ap₂ ◌&&◌ (seen_delivery source i.delivery_restrictions)
            (seen_append source (mode_fields i.segmentation_mode listed) _
            ∙ ap₂ ◌&&◌ (seen_mode source i.segmentation_mode listed)
            (seen_append source (duration_fields i.segmentation_duration) _
            ∙ ap₂ ◌&&◌ (seen_duration source i.segmentation_duration)
            (seen_append source (upid_fields (written_upid u)) (back_fields i)
            ∙ ap₂ ◌&&◌ (upid_seen u eidr lent twelve (sym eb ∙ not-false b t)) (seen_sub source i.sub_segments))))

        all_within : within fs ≡ n
        unfolding fs segment_fields numbers_fit
        all_within =
            rw (lt-ltb event (2 ^ 32) ev, flag_within (by_program i.segmentation_mode), flag_within (lasting i.segmentation_duration), flag_within (unrestricted i.delivery_restrictions))
            (within_append (delivery_fields i.delivery_restrictions) _
            ∙ ap₂ ◌&&◌ (within_delivery i.delivery_restrictions)
            (within_append (mode_fields i.segmentation_mode listed) _
            ∙ ap (λ (b : Bool). within (mode_fields i.segmentation_mode listed) && b)
            (within_append (duration_fields i.segmentation_duration) _
            ∙ ap (λ (b : Bool). within (duration_fields i.segmentation_duration) && b)
            (within_append (upid_fields (written_upid u)) (back_fields i)
            ∙ ap (λ (b : Bool). b && within (back_fields i)) (upid_within u upid_type_number h))))
            ∙ sym en.0)

        made_so : refusal_in M ≡ pick n (pick (writable_segment x id eidr lent) 0 33) 32
        unfolding segmentation_made fs
        made_so =
            let e : length listed ≡ count_of i.segmentation_mode = length-take-le (count_of i.segmentation_mode) cs (omega (arith, en.1)) in
            rw (← eb, not-false b t, le-leb u.bytes.len 255 h)
            (ap (λ (l : List Field). refusal_in (make_of (writable_segment x id eidr lent) source l)) (fields_are event (Active i) listed e)
            ∙ numbered (writable_segment x id eidr lent) source fs all_seen
            ∙ ap (λ (b : Bool). pick b (pick (writable_segment x id eidr lent) 0 33) 32) all_within)

        pub numbers_over : not n ≡ true → 32 ≡ refusal_in M
        numbers_over v = sym (made_so ∙ rw (not-true n v))

        module _ (v : not n ≡ false) (z : Bool) (ez : z ≡ all_zero id) where
          pub with_identifier : not z ≡ true → 33 ≡ refusal_in M
          unfolding writable_segment
          with_identifier w = sym (made_so ∙ rw (not-false n v, ← ez, not-true z w))

          module _ (w : not z ≡ false) (f : Bool) (ef : f ≡ writable_detail (Active i)) where
            pub unwritable_active : not f ≡ true → 33 ≡ refusal_in M
            unfolding writable_segment
            unwritable_active y = sym (made_so ∙ rw (not-false n v, ← ez, not-false z w, ← ef, not-true f y))

            module _ (y : not f ≡ false) (g : Bool) (eg : g ≡ writable_upid u eidr lent) where
              pub unwritable_upid : not g ≡ true → 33 ≡ refusal_in M
              unfolding writable_segment
              unwritable_upid q = sym (made_so ∙ rw (not-false n v, ← ez, not-false z w, ← ef, not-false f y, ← eg, not-true g q))

              pub no_refusal : not g ≡ false → 0 ≡ refusal_in M
              unfolding writable_segment
              no_refusal q = sym (made_so ∙ rw (not-false n v, ← ez, not-false z w, ← ef, not-false f y, ← eg, not-false g q))

      -- a component over its field
      pub mode_over : length cs ≡ 255 → length eidr ≡ 12 → event < 2 ^ 32 → u.upid_type < 256 → (m : Bool)
          → (m ≡ within (mode_fields i.segmentation_mode (take (count_of i.segmentation_mode) cs))) × (count_of i.segmentation_mode < 256) → not m ≡ true → 32 ≡ refusal_in M
      mode_over many twelve ev upid_type_number m em v = go (leb u.bytes.len 255) refl
        where
          go : (w : Bool) → leb u.bytes.len 255 ≡ w → 32 ≡ refusal_in M
          go true e = numbers_over (leb-true u.bytes.len 255 e) many twelve ev upid_type_number (numbers_fit i (take (count_of i.segmentation_mode) cs)) (refl, em.1) (sym (ap not (no_mode_fit i (take (count_of i.segmentation_mode) cs) m em.0 v)))
          go false e = upid_long (leb-false u.bytes.len 255 e)

-- ---- a number that holds for all components, or for all that fit
module _ (x : SegmentationDescriptor) (id eidr lent : List ℕ) (n : ℕ) where
  abbrev So : List SegmentationComponent → Type 0
  So cs = n ≡ refusal_in (segmentation_made x id (record { components = cs; eidr = eidr }) lent)

  pub refused_all : ((cs : List SegmentationComponent) → So cs) → RefusedSo x id eidr lent n
  refused_all h = record { no_components_lem = h (filled []); others = λ cs l f. h cs }

  pub refused_fit : component_count x < 256 → ((cs : List SegmentationComponent) → length cs ≡ 255 → ModeFits x cs → So cs) → RefusedSo x id eidr lent n
  refused_fit few h = record { no_components_lem = h (filled []) blanks_length (blanks_fit (front_of x.descriptor_detail).segmentation_mode few); others = h }

  pub refused_active : (i : SegmentationDetail) → x.descriptor_detail ≡ Active i
      → RefusedSo (record { segmentation_event_id = x.segmentation_event_id; descriptor_detail = Active i }) id eidr lent n → RefusedSo x id eidr lent n
  refused_active i is s = subst (λ (d : DescriptorDetail). RefusedSo (record { segmentation_event_id = x.segmentation_event_id; descriptor_detail = d }) id eidr lent n) (sym is) s

pub cancel_fits : (x : SegmentationDescriptor) (cs : List SegmentationComponent) → x.descriptor_detail ≡ Cancel → ModeFits x cs
cancel_fits x cs is = rw is

pub active_fits_lem : (x : SegmentationDescriptor) (i : SegmentationDetail) (cs : List SegmentationComponent) → x.descriptor_detail ≡ Active i → (m : Bool)
    → m ≡ within (mode_fields i.segmentation_mode (take (count_of i.segmentation_mode) cs)) → not m ≡ false → ModeFits x cs
active_fits_lem x i cs is m em v = rw is (sym em ∙ not-false m v)

-- ---- a cancelled one
module _ (x : SegmentationDescriptor) (id : List ℕ) (cs : List SegmentationComponent) (eidr lent : List ℕ) (is : x.descriptor_detail ≡ Cancel) (ev : x.segmentation_event_id < 2 ^ 32) where
  abbrev y : SegmentationDescriptor
  y = record { segmentation_event_id = x.segmentation_event_id; descriptor_detail = Cancel }

  cancel_made : refusal_in (segmentation_made y id (record { components = cs; eidr = eidr }) lent) ≡ pick (writable_segment y id eidr lent) 0 33
  unfolding segmentation_made upid_source segment_fields
  cancel_made =
      rw (le-leb 0 (length lent) (omega arith))
      (ap (λ (l : List Field). refusal_in (make_of (writable_segment y id eidr lent) lent l)) (fields_are x.segmentation_event_id Cancel [] refl)
      ∙ numbered (writable_segment y id eidr lent) lent (segment_fields x.segmentation_event_id Cancel []) refl
      ∙ rw (lt-ltb x.segmentation_event_id (2 ^ 32) ev))

  same : x ≡ y
  same = ap (λ (d : DescriptorDetail). record { segmentation_event_id = x.segmentation_event_id; descriptor_detail = d }) is

  made_cancel : (r : ℕ) → pick (writable_segment y id eidr lent) 0 33 ≡ r → r ≡ refusal_in (segmentation_made x id (record { components = cs; eidr = eidr }) lent)
  made_cancel r e = sym (ap (λ (k : SegmentationDescriptor). refusal_in (segmentation_made k id (record { components = cs; eidr = eidr }) lent)) same ∙ cancel_made ∙ e)

  module _ (z : Bool) (ez : z ≡ all_zero id) where
    pub cancel_identifier : not z ≡ true → 33 ≡ refusal_in (segmentation_made x id (record { components = cs; eidr = eidr }) lent)
    unfolding writable_segment
    cancel_identifier t = made_cancel 33 (rw (← ez, not-true z t))

    module _ (t : not z ≡ false) (w : Bool) (ew : w ≡ all_zero eidr) where
      pub cancel_eidr : not w ≡ true → 33 ≡ refusal_in (segmentation_made x id (record { components = cs; eidr = eidr }) lent)
      unfolding writable_segment writable_detail
      cancel_eidr v = made_cancel 33 (rw (← ez, not-false z t, ← (upid_beside blank_upid eidr lent (λ e. omega arith) w ew v)))

      pub cancel_writable : not w ≡ false → 0 ≡ refusal_in (segmentation_made x id (record { components = cs; eidr = eidr }) lent)
      unfolding writable_segment writable_detail
      cancel_writable v = made_cancel 0 (rw (← ez, not-false z t, ← (upid_none blank_upid eidr lent (λ e. omega arith) w ew v refl)))

-- ---- one that is not
pub active_so : (x : SegmentationDescriptor) (i : SegmentationDetail) (id : List ℕ) (cs : List SegmentationComponent) (eidr lent : List ℕ) (r : ℕ) → x.descriptor_detail ≡ Active i
    → r ≡ refusal_in (segmentation_made (record { segmentation_event_id = x.segmentation_event_id; descriptor_detail = Active i }) id (record { components = cs; eidr = eidr }) lent)
    → r ≡ refusal_in (segmentation_made x id (record { components = cs; eidr = eidr }) lent)
active_so x i id cs eidr lent r is e =
    e ∙ ap (λ (d : DescriptorDetail). refusal_in (segmentation_made (record { segmentation_event_id = x.segmentation_event_id; descriptor_detail = d }) id (record { components = cs; eidr = eidr }) lent)) (sym is)
