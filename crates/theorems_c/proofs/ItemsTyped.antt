-- A descriptor that is written is of its types: each number was within its field, and each flag and number was writable.
use Prim.Native.Nat.{ℕ, ◌+◌, ◌^◌, ◌<◌, ◌≤◌}
use mathlib.Core.Bool.{Bool, true, false, ◌&&◌}
use mathlib.Core.List.{List, ◌++◌}
use mathlib.Core.Path.{◌≡◌, refl, ap, sym, subst, ◌∙◌}
use native.Mathlib.Omega.{arith}
use lib.Dec.{ltb, leb, eqb}
use lib.ListN.{length, take}
use borrow.Author.Tests.{ltb-true, eqb-true}
use Rattle.descriptor.specs.Plain.{avail, dtmf, time}
use Rattle.descriptor.specs.Segmentation.{agrees, by_program, writable_detail, writable_front, front_of, lasting, segmentation, unrestricted}
use Rattle.descriptor.specs.declared.Descriptor.{Descriptor}
use Rattle.descriptor.specs.declared.segmentation.SegmentationComponent.{SegmentationComponent}
use Rattle.descriptor.specs.declared.segmentation.SegmentationDescriptor.{SegmentationDescriptor}
use Rattle.descriptor.specs.declared.segmentation.DescriptorDetail.{DescriptorDetail}
use Rattle.descriptor.specs.declared.segmentation.SegmentationDetail.{SegmentationDetail}
use Rattle.descriptor.specs.declared.segmentation.SegmentationMode.{SegmentationMode}
use Rattle.descriptor.specs.declared.segmentation.SegmentationUpid.{SegmentationUpid}
use Rattle.descriptor.specs.declared.full.Beside.{Beside}
use Rattle.descriptor_measure.proofs.Fields.{fields_are}
use Rattle.descriptor_measure.proofs.Making.{counted, all_writable, by_table}
use Rattle.descriptor_measure.proofs.Refusals.{within_append}
use Rattle.descriptor_measure.specs.Private.{delivery_fields, mode_fields, duration_fields, upid_fields, sub_fields, back_fields, segment_fields}
use Rattle.descriptor_measure.specs.Writing.{enveloped, enveloped_made, alone, written_type, written_upid, written_detail, written, upid_in, upid_source, segmentation_made, payload_made, tag_of, identifier_of, descriptor_made, count_beside}
use Rattle.c_descriptor_writer.proofs.Own.{agree}
use Rattle.c_descriptor_writer.proofs.Typed.{TypedMode, TypedSubs, TypedActive, TypedDetail, Typed}
use Rattle.names.specs.Segmentation.{segmentation_number}
use Rattle.table.proofs.Lists.{zero_one, and_true}
use Rattle.table.proofs.Structure.{wrote}
use Rattle.table.specs.Bits.{pick, AllBytes}
use Rattle.table.specs.Table.{flag_number, number, reserved, part}
use Rattle.table.specs.Writing.{walk, within, Made, made, refused}
use Rattle.std.proofs.Common.{Some, None, Option}
use Rattle.descriptor.specs.declared.segmentation.SubSegment.{SubSegment}

-- ---- a frame that is written, and its payload
enveloped_made_lem : (tag : ℕ) (id : List ℕ) (m : Made) (t : List ℕ) → enveloped_made tag id m ≡ made t → (p : List ℕ) × (m ≡ made p) × (t ≡ enveloped tag id p)
unfolding enveloped_made
enveloped_made_lem tag id (refused n) t e = zero_one cc
enveloped_made_lem tag id (made p) t e = go (leb (length p + 4) 254) e
  where
    go : (b : Bool) → pick b (made (enveloped tag id p)) (refused 34) ≡ made t → (q : List ℕ) × (made p ≡ made q) × (t ≡ enveloped tag id q)
    go true e = (p, refl, cc)
    go false e = zero_one cc

first_byte : (tag : ℕ) (id p t : List ℕ) → t ≡ enveloped tag id p → AllBytes t → tag < 256
unfolding enveloped
first_byte tag id p t e a = (subst AllBytes e a).0

-- ---- the parts of a segmentation descriptor
mode_typed : (m : SegmentationMode) (cs : List SegmentationComponent) → within (mode_fields m cs) ≡ true → TypedMode m
mode_typed SegmentationMode.Program cs w = tt
mode_typed (SegmentationMode.Component n) cs w = ltb-true _ _ (and_true (ltb n (2 ^ 8)) _ w).0

subs_typed : (s : Option SubSegment) → within (sub_fields s) ≡ true → TypedSubs s
subs_typed None w = tt
subs_typed (Some x) w =
    let a = and_true (ltb x.sub_segment_num (2 ^ 8)) _ w in
    let b = and_true (ltb x.sub_segments_expected (2 ^ 8)) _ a.1 in
    (ltb-true _ _ a.0, ltb-true _ _ b.0)

upid_typed : (u : SegmentationUpid) → within (upid_fields (written_upid u)) ≡ true → u.upid_type < 256
unfolding written_upid written_type
upid_typed u w = go (eqb u.upid_type 10) refl (eqb u.upid_type 6) refl (eqb u.bytes.len 8) w
  where
    go : (b : Bool) → eqb u.upid_type 10 ≡ b → (c : Bool) → eqb u.upid_type 6 ≡ c → (d : Bool)
        → within (upid_fields (pick b (record { upid_type = 10; bytes = record { at = 0; len = 12 } }) (record { upid_type = pick (c && d) 5 u.upid_type; bytes = u.bytes }))) ≡ true → u.upid_type < 256
    go true e c f d w = omega (arith, eqb-true u.upid_type 10 e)
    go false e true f d w = omega (arith, eqb-true u.upid_type 6 f)
    go false e false f d w = ltb-true _ _ (and_true (ltb u.upid_type (2 ^ 8)) _ w).0

active_typed : (event : ℕ) (i : SegmentationDetail) (cs : List SegmentationComponent) → within (segment_fields event (DescriptorDetail.Active i) cs) ≡ true → writable_detail (DescriptorDetail.Active i) ≡ true
    → (event < 2 ^ 32) × TypedActive i
unfolding segment_fields writable_detail writable_front
active_typed event i cs w f =
    let delivery = delivery_fields i.delivery_restrictions in
    let mode = mode_fields i.segmentation_mode cs in
    let lasts = duration_fields i.segmentation_duration in
    let upid = upid_fields (written_upid i.segmentation_upid) in
    let back = back_fields i in
    let a = and_true (ltb event (2 ^ 32)) _ w in
    let f₁ = and_true (ltb (flag_number (by_program i.segmentation_mode)) 2) _ a.1 in
    let f₂ = and_true (ltb (flag_number (lasting i.segmentation_duration)) 2) _ f₁.1 in
    let f₃ = and_true (ltb (flag_number (unrestricted i.delivery_restrictions)) 2) _ f₂.1 in
    let d = and_true (within delivery) _ (sym (within_append delivery (mode ++ (lasts ++ (upid ++ back)))) ∙ f₃.1) in
    let m = and_true (within mode) _ (sym (within_append mode (lasts ++ (upid ++ back))) ∙ d.1) in
    let l = and_true (within lasts) _ (sym (within_append lasts (upid ++ back)) ∙ m.1) in
    let u = and_true (within upid) _ (sym (within_append upid back) ∙ l.1) in
    let k = and_true (ltb (segmentation_number i.segmentation_type_id) (2 ^ 8)) _ u.1 in
    let n = and_true (ltb i.segment_num (2 ^ 8)) _ k.1 in
    let x = and_true (ltb i.segments_expected (2 ^ 8)) _ n.1 in
    let g = and_true (writable_front (front_of (DescriptorDetail.Active i))) _ f in
    let p = and_true (agrees i.program_segmentation_flag (by_program i.segmentation_mode)) _ g.0 in
    let q = and_true (agrees i.segmentation_duration_flag (lasting i.segmentation_duration)) _ p.1 in (
      ltb-true _ _ a.0,
      record {
        mode = mode_typed i.segmentation_mode cs m.0;
        subs = subs_typed i.sub_segments x.1;
        upid = upid_typed i.segmentation_upid u.0;
        type_number = ltb-true _ _ k.0;
        num = ltb-true _ _ n.0;
        expected = ltb-true _ _ x.0;
        program_flag = agree _ _ p.0;
        duration_flag = agree _ _ q.0;
        free_flag = agree _ _ q.1;
        type_writable = g.1;
      },
    )

detail_typed : (event : ℕ) (d : DescriptorDetail) (cs : List SegmentationComponent) → within (segment_fields event d cs) ≡ true → writable_detail d ≡ true → (event < 2 ^ 32) × TypedDetail d
unfolding segment_fields
detail_typed event DescriptorDetail.Cancel cs w f = (ltb-true _ _ (and_true (ltb event (2 ^ 32)) _ w).0, tt)
detail_typed event (DescriptorDetail.Active i) cs w f = active_typed event i cs w f

module _ (id : List ℕ) (beside : Beside) (lent : List ℕ) where
  segmentation_typed : (x : SegmentationDescriptor) (b : List ℕ) → count_beside (Descriptor.Segmentation x) ≤ length beside.components → segmentation_made x id beside lent ≡ made b → Typed (Descriptor.Segmentation x)
  segmentation_typed x b all e =
      let cs = take (count_beside (Descriptor.Segmentation x)) beside.components in
      let w = wrote (writable_detail (written_detail x.descriptor_detail)) (upid_source (upid_in x) beside.eidr lent) (walk segmentation (written x beside.components) 0).fields b (by_table x id beside lent all b e) in
      let f = all_writable x id beside lent all b e in
      detail_typed x.segmentation_event_id x.descriptor_detail cs
      (sym (ap within (fields_are x.segmentation_event_id x.descriptor_detail cs (counted x id beside lent all))) ∙ w.widths) f.1

  payload_typed : (d : Descriptor) (p : List ℕ) → tag_of d < 256 → count_beside d ≤ length beside.components → payload_made d id beside lent ≡ made p → Typed d
  unfolding payload_made avail dtmf time number reserved part
  payload_typed (Descriptor.Avail x) p t all e =
      let w = wrote (alone id beside.eidr) lent (walk avail x 0).fields p e in
      ltb-true _ _ (and_true (ltb x.provider_avail_id (2 ^ 32)) _ w.widths).0
  payload_typed (Descriptor.Dtmf x) p t all e =
      let w = wrote (alone id beside.eidr) lent (walk dtmf x 0).fields p e in
      ltb-true _ _ (and_true (ltb x.preroll (2 ^ 8)) _ w.widths).0
  payload_typed (Descriptor.Segmentation x) p t all e = segmentation_typed x p all e
  payload_typed (Descriptor.Time x) p t all e =
      let w = wrote (alone id beside.eidr) lent (walk time x 0).fields p e in
      let a = and_true (ltb x.tai_seconds (2 ^ 48)) _ w.widths in
      let b = and_true (ltb x.tai_nanoseconds (2 ^ 32)) _ a.1 in
      let c = and_true (ltb x.utc_offset (2 ^ 16)) _ b.1 in
      (ltb-true _ _ b.0, ltb-true _ _ c.0)
  payload_typed (Descriptor.Reserved tag v) p t all e = t

  pub written_typed : (d : Descriptor) (t : List ℕ) → AllBytes t → count_beside d ≤ length beside.components → descriptor_made d id beside lent ≡ made t → Typed d
  unfolding descriptor_made
  written_typed d t a all e =
      let f = enveloped_made_lem (tag_of d) (identifier_of d id) (payload_made d id beside lent) t e in
      payload_typed d f.0 (first_byte (tag_of d) (identifier_of d id) f.0 t f.2 a) all f.1
