-- What is read of the fields of a segmentation descriptor can be written: each number is within its field, and each flag agrees with its part. The bytes need not be
-- canonical: reserved bits are any, and bytes may be left over.
--     front_kept, back_kept
use Prim.Native.Nat.{ℕ, zero, suc, ◌+◌, ◌*◌, ◌-◌, ◌/◌, ◌^◌, ◌≤◌, ◌<◌}
use mathlib.Core.Bool.{Bool, true, false}
use mathlib.Core.List.{List, [], ◌∷◌}
use mathlib.Core.Path.{◌≡◌, refl, ap, sym, ◌∙◌}
use native.Mathlib.Omega.{arith}
use lib.Dec.{eqb}
use lib.ListN.{length}
use borrow.Author.Tests.{lt-ltb}
use Rattle.names.proofs.Segmentations.{segmentation_laws}
use Rattle.names.specs.Segmentation.{segmentation_number, segmentation_type_of, writable_segmentation}
use Rattle.names.specs.declared.segmentation.SegmentationTypeId.{SegmentationTypeId}
use Rattle.table.proofs.Reading.{field_lt}
use Rattle.table.proofs.Steps.{reads_in, reads_number, reads_flag, reads_ones, reads_part, takes_remaining}
use Rattle.table.specs.Bits.{pick, bits_of, field}
use Rattle.table.specs.Table.{done, must, uimsbf, list, Answer, got, short, parse}
use Rattle.descriptor.specs.Segmentation.{delivery_restrictions, unrestricted, component, blank_component, Moded, mode, by_program, count_of, duration, ticks, lasting, written_upid, ListedFront, parts, front, blank_front, sub_segments, sub_segment, sub_bytes, back, agrees, writable_front}
use Rattle.descriptor.specs.declared.segmentation.SegmentationComponent.{SegmentationComponent}
use Rattle.descriptor.specs.declared.segmentation.SegmentationMode.{SegmentationMode}
use Rattle.descriptor.specs.declared.segmentation.SegmentationUpid.{SegmentationUpid}
use Rattle.descriptor_round_trips.specs.Making.{fit, component_numbers}
use Rattle.descriptor.proofs.Heads.{mode_ends, duration_ends, delivery_ends, place}
use Rattle.std.proofs.Common.{Some, None, Option}
use Rattle.descriptor.specs.declared.segmentation.DeliveryRestrictions.{DeliveryRestrictions}
use Rattle.descriptor.specs.declared.segmentation.SubSegment.{SubSegment}

module _ (s : List ℕ) where
  component_kept : (at : ℕ) (y : SegmentationComponent) (m : ℕ) → parse component (bits_of s) at ≡ got y m → (y.component_tag < 2 ^ 8) × (y.pts_offset < 2 ^ 33)
  unfolding component
  component_kept at y m e =
      let e₁ = (reads_number s at 8 _ _ y m e).1 in
      let e₂ = (reads_ones s (at + 8) 7 _ y m e₁).1 in
      let e₃ = (reads_number s (at + 8 + 7) 33 _ _ y m e₂).1 in
      let z : y ≡ record { component_tag = field (bits_of s) at 8; pts_offset = field (bits_of s) (at + 8 + 7) 33 } = cc e₃ in
      rw z (field_lt s at 8, field_lt s (at + 8 + 7) 33)

  components_kept : (n at : ℕ) (ys : List SegmentationComponent) (m : ℕ) → parse (list n blank_component component) (bits_of s) at ≡ got ys m
      → (length ys ≡ n) × (fit (component_numbers ys) ≡ true)
  unfolding list
  components_kept zero at ys m e = let z : ys ≡ [] = cc in rw z (refl, refl)
  components_kept (suc n) at ys m e =
      let i = reads_in component _ _ (bits_of s) at ys m e in
      let j = reads_in (list n blank_component component) _ _ (bits_of s) i.seam ys m i.back in
      let z : ys ≡ i.inner ∷ j.inner = cc j.back in
      let c = component_kept at i.inner i.seam i.front in
      let r = components_kept n i.seam j.inner j.seam j.front in
      rw z (ap suc r.0, rw (lt-ltb _ _ c.0, lt-ltb _ _ c.1) r.1)

  pub record ModeKept (b : Bool) (y : Moded) : Type 0 where
    pub flag : by_program y.mode ≡ b
    pub count : count_of y.mode < 2 ^ 8
    pub counted : length y.components ≡ count_of y.mode
    pub numbers : fit (component_numbers y.components) ≡ true

  mode_kept : (b : Bool) (at : ℕ) (y : Moded) (m : ℕ) → parse (mode b) (bits_of s) at ≡ got y m → ModeKept b y
  unfolding mode
  mode_kept true at y m e =
      let z : y ≡ record { mode = SegmentationMode.Program; components = [] } = cc in
      rw z (record { flag = refl; count = omega arith; counted = refl; numbers = refl })
  mode_kept false at y m e =
      let e₁ = (reads_number s at 8 _ _ y m e).1 in
      let i = reads_in (list (field (bits_of s) at 8) blank_component component) _ _ (bits_of s) (at + 8) y m e₁ in
      let z : y ≡ record { mode = SegmentationMode.Component (field (bits_of s) at 8); components = i.inner } = cc i.back in
      let c = components_kept (field (bits_of s) at 8) (at + 8) i.inner i.seam i.front in
      rw z (record { flag = refl; count = field_lt s at 8; counted = c.0; numbers = c.1 })

  duration_kept : (b : Bool) (at : ℕ) (y : Option ℕ) (m : ℕ) → parse (duration b) (bits_of s) at ≡ got y m → (lasting y ≡ b) × (ticks y < 2 ^ 40)
  unfolding duration
  duration_kept true at y m e =
      let e₁ = (reads_number s at 40 _ _ y m e).1 in
      let z : y ≡ Some (field (bits_of s) at 40) = cc e₁ in
      rw z (refl, field_lt s at 40)
  duration_kept false at y m e =
      let z : y ≡ None = cc in
      rw z (refl, omega arith)

  delivery_kept : (b : Bool) (at : ℕ) (y : Option DeliveryRestrictions) (m : ℕ) → parse (delivery_restrictions b) (bits_of s) at ≡ got y m → unrestricted y ≡ b
  unfolding delivery_restrictions
  delivery_kept true at y m e =
      let e₁ = (reads_ones s at 5 _ y m e).1 in
      let z : y ≡ None = cc e₁ in
      rw z
  delivery_kept false at y m e =
      let e₁ = (reads_flag s at _ _ y m e).1 in
      let e₂ = (reads_flag s (at + 1) _ _ y m e₁).1 in
      let e₃ = (reads_flag s (at + 1 + 1) _ _ y m e₂).1 in
      let e₄ = (reads_number s (at + 1 + 1 + 1) 2 _ _ y m e₃).1 in
      go y (sym (ap delivery_in e₄))
    where
      delivery_in : Answer (Option DeliveryRestrictions) → Bool
      delivery_in (got x m) = unrestricted x
      delivery_in (short a b) = true

      go : (y : Option DeliveryRestrictions) → unrestricted y ≡ false → unrestricted y ≡ false
      go y e = e

  upid_ends : (at : ℕ) (u : SegmentationUpid) (m : ℕ) → parse written_upid (bits_of s) at ≡ got u m → m ≡ at + (2 + u.bytes.len) * 8
  unfolding written_upid
  upid_ends at u m e =
      let i₁ = reads_number s at 8 _ _ u m e in
      let i₂ = reads_number s (at + 8) 8 _ _ u m i₁.1 in
      let j = reads_part s (at + 8 + 8) (field (bits_of s) (at + 8) 8) _ _ u m i₂.1 in
      let y : u ≡ record { upid_type = field (bits_of s) at 8; bytes = record { at = (at + 8 + 8) / 8; len = field (bits_of s) (at + 8) 8 } } = cc j.1 in
      let l : u.bytes.len ≡ field (bits_of s) (at + 8) 8 = ap (λ (v : SegmentationUpid). v.bytes.len) y in
      let z : at + 8 + 8 + field (bits_of s) (at + 8) 8 * 8 ≡ m = cc j.1 in
      omega arith

  agrees_same : (b : Bool) → agrees b b ≡ true
  agrees_same true = refl
  agrees_same false = refl

  abbrev read_in : Answer ListedFront → ListedFront
  read_in (got x m) = x
  read_in (short e a) = record { front = blank_front; components = [] }

  pub record FrontKept (x : ListedFront) (m : ℕ) : Type 0 where
    pub writable : writable_front x.front ≡ true
    pub count : count_of x.front.segmentation_mode < 2 ^ 8
    pub counted : length x.components ≡ count_of x.front.segmentation_mode
    pub numbers : fit (component_numbers x.components) ≡ true
    pub lasts : ticks x.front.segmentation_duration < 2 ^ 40
    pub ends : m ≡ (place x + 2 + x.front.segmentation_upid.bytes.len) * 8

  parts_kept : (p l g : Bool) (x : ListedFront) (m : ℕ) → parse (parts p l g) (bits_of s) 43 ≡ got x m → FrontKept x m
  unfolding parts writable_front
  parts_kept p l g x m e =
      let i = reads_in (delivery_restrictions g) _ _ (bits_of s) 43 x m e in
      let j = reads_in (mode p) _ _ (bits_of s) i.seam x m i.back in
      let k = reads_in (duration l) _ _ (bits_of s) j.seam x m j.back in
      let w = reads_in written_upid _ _ (bits_of s) k.seam x m k.back in
      let d = delivery_kept g 43 i.inner i.seam i.front in
      let o = mode_kept p i.seam j.inner j.seam j.front in
      let t = duration_kept l j.seam k.inner k.seam k.front in
      let n : w.seam ≡ m = cc w.back in
      rw (← ap read_in w.back) (record {
        writable = rw (o.flag, t.0, d, agrees_same p, agrees_same l, agrees_same g);
        count = o.count;
        counted = o.counted;
        numbers = o.numbers;
        lasts = t.1;
        ends =
            omega (
              arith,
              n,
              delivery_ends s g 43 i.inner i.seam i.front,
              mode_ends s p i.seam j.inner j.seam j.front,
              duration_ends s l j.seam k.inner k.seam k.front,
              upid_ends k.seam w.inner w.seam w.front,
            );
      })

  pub front_kept : (x : ListedFront) (m : ℕ) → parse front (bits_of s) 40 ≡ got x m → FrontKept x m
  unfolding front
  front_kept x m e =
      let e₁ = (reads_flag s 40 _ _ x m e).1 in
      let e₂ = (reads_flag s 41 _ _ x m e₁).1 in
      let e₃ = (reads_flag s 42 _ _ x m e₂).1 in
      parts_kept _ _ _ x m e₃

  -- ---- behind the UPID

  pub record SubKept (at : ℕ) (y : Option SubSegment) : Type 0 where
    pub num : (sub_segment y).sub_segment_num < 2 ^ 8
    pub expected : (sub_segment y).sub_segments_expected < 2 ^ 8
    pub there : at + sub_bytes y * 8 ≤ length s * 8

  sub_kept : (at : ℕ) (y : Option SubSegment) (m : ℕ) → at ≤ length s * 8 → parse sub_segments (bits_of s) at ≡ got y m → SubKept at y
  unfolding sub_segments
  sub_kept at y m h e = go ((length s * 8 - at) / 8) (eqb ((length s * 8 - at) / 8) 0) (sym (takes_remaining s at _ _) ∙ e)
    where
      go : (n : ℕ) (b : Bool)
          → parse (pick b (done None) (must (eqb n 2) (
          uimsbf 8 (λ x. (sub_segment x).sub_segment_num) λ sub_segment_num.
          uimsbf 8 (λ x. (sub_segment x).sub_segments_expected) λ sub_segments_expected.
          done (Some (record { sub_segment_num = sub_segment_num; sub_segments_expected = sub_segments_expected }))))) (bits_of s) at ≡ got y m
          → SubKept at y
      go n true f =
          let z : y ≡ None = cc f in
          rw z (record { num = omega arith; expected = omega arith; there = omega arith })
      go n false f =
          let e₁ = (reads_number s at 8 _ _ y m f).1 in
          let i = reads_number s (at + 8) 8 _ _ y m e₁ in
          let z : y ≡ Some (record { sub_segment_num = field (bits_of s) at 8; sub_segments_expected = field (bits_of s) (at + 8) 8 }) = cc i.1 in
          rw z (record { num = field_lt s at 8; expected = field_lt s (at + 8) 8; there = omega (arith, i.0) })

  pub record BackKept (at : ℕ) (t : SegmentationTypeId) (n x : ℕ) (y : Option SubSegment) : Type 0 where
    pub writable : writable_segmentation t ≡ true
    pub type_id : segmentation_number t < 2 ^ 8
    pub num : n < 2 ^ 8
    pub expected : x < 2 ^ 8
    pub sub : SubKept (at + 24) y

  pub back_kept : (at : ℕ) (b : _) (m : ℕ) → parse back (bits_of s) at ≡ got b m → BackKept at b.segmentation_type_id b.segment_num b.segments_expected b.sub_segments
  unfolding back
  back_kept at b m e =
      let e₁ = (reads_number s at 8 _ _ b m e).1 in
      let e₂ = (reads_number s (at + 8) 8 _ _ b m e₁).1 in
      let i = reads_number s (at + 8 + 8) 8 _ _ b m e₂ in
      let j = reads_in sub_segments _ _ (bits_of s) (at + 8 + 8 + 8) b m i.1 in
      let sub : SubKept (at + 8 + 8 + 8) j.inner = sub_kept (at + 8 + 8 + 8) j.inner j.seam i.0 j.front in
      let k : ℕ = field (bits_of s) at 8 in
      let z : b ≡ record {
        segmentation_type_id = segmentation_type_of (field (bits_of s) at 8);
        segment_num = field (bits_of s) (at + 8) 8;
        segments_expected = field (bits_of s) (at + 8 + 8) 8;
        sub_segments = j.inner;
      } = cc j.back in
      rw z (record {
        writable = segmentation_laws.is_writable (field (bits_of s) at 8);
        type_id = rw (segmentation_laws.there (field (bits_of s) at 8)) (field_lt s at 8);
        num = field_lt s (at + 8) 8;
        expected = field_lt s (at + 8 + 8) 8;
        sub = record { num = sub.num; expected = sub.expected; there = omega (arith, sub.there) };
      })
