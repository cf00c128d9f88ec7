-- What the tests answer, step by step.
use Prim.Native.Nat.{ℕ, zero, suc, ◌+◌, ◌^◌, ◌<◌, ◌≤◌}
use mathlib.Core.Bool.{Bool, true, false, not, ◌&&◌}
use mathlib.Core.List.{List, [], ◌∷◌}
use mathlib.Core.Path.{◌≡◌, refl, ap, sym, ◌∙◌}
use native.Mathlib.Numerals.{add-one}
use native.Mathlib.Omega.{arith}
use lib.Dec.{leb, ltb, eqb}
use lib.ListN.{length, get_or, take, drop, replicate, length-replicate, drop_of_length-le}
use lib.Seq.{drop-cons}
use Rattle.std.specs.List.{list_all}
use borrow.Author.Tests.{ltb-true, ltb-false, eqb-true, not-true, not-false, lt-ltb, le-ltb, eq-eqb, ne_eqb}
use Rattle.names.specs.Segmentation.{segmentation_number, writable_segmentation}
use Rattle.table.specs.Bits.{pick}
use Rattle.table.specs.Lent.{viewed}
use Rattle.table.specs.Writing.{within}
use Rattle.upid.specs.Upid.{check_of}
use Rattle.descriptor.specs.Descriptor.{is_cuei}
use Rattle.descriptor.specs.Segmentation.{agrees, blank_component, by_program, count_of, lasting, unrestricted, writable_front, writable_detail}
use Rattle.descriptor.specs.Full.{filled}
use Rattle.descriptor.specs.declared.segmentation.SegmentationComponent.{SegmentationComponent}
use Rattle.descriptor.specs.declared.segmentation.DescriptorDetail.TheVariants.{Active}
use Rattle.descriptor.specs.declared.segmentation.SegmentationDetail.{SegmentationDetail}
use Rattle.descriptor.specs.declared.segmentation.SegmentationMode.{SegmentationMode}
use Rattle.descriptor.specs.declared.segmentation.SegmentationUpid.{SegmentationUpid}
use Rattle.descriptor.specs.declared.segmentation.SubSegment.{SubSegment}
use Rattle.descriptor_measure.specs.Private.{components_fields, mode_fields, duration_fields, sub_fields, back_fields, numbers_fit}
use Rattle.descriptor_measure.specs.Writing.{accepts, all_zero, alone, writable_reserved, writable_upid, written_type}
use Rattle.std.proofs.Common.{Some, Option, Result}
use Rattle.upid.specs.declared.Refusal.{Refusal}

-- ---- all zero
pub zero_all : (s : List ℕ) → list_all (λ b. eqb b 0) s ≡ all_zero s
unfolding all_zero
zero_all [] = refl
zero_all (b ∷ s) = ap (λ t. eqb b 0 && t) (zero_all s)

pub zero_alone : (a b : List ℕ) (r s : Bool) → r ≡ all_zero a → r ≡ true → s ≡ all_zero b → s ≡ alone a b
unfolding alone
zero_alone a b r s er t es = rw (← er, t) es

pub not_alone : (a b : List ℕ) (r : Bool) → r ≡ all_zero a → r ≡ false → false ≡ alone a b
unfolding alone
not_alone a b r er t = rw (← er, t)

-- ---- a reserved descriptor
module _ (tag : ℕ) (id eidr : List ℕ) (z : Bool) (ez : z ≡ all_zero eidr) where
  pub reserved_beside : not z ≡ true → false ≡ writable_reserved tag id eidr
  unfolding writable_reserved
  reserved_beside t = rw (← ez, not-true z t) (go (not (is_cuei id && ltb tag 4)))
    where
      go : (b : Bool) → false ≡ b && false
      go true = refl
      go false = refl

  module _ (t : not z ≡ false) (c : Bool) (ec : c ≡ is_cuei id) where
    pub reserved_tag : c ≡ true → ltb 3 tag ≡ writable_reserved tag id eidr
    unfolding writable_reserved
    reserved_tag u = rw (← ez, not-false z t, ← ec, u) (go (ltb tag 4) refl)
      where
        go : (b : Bool) → ltb tag 4 ≡ b → ltb 3 tag ≡ not b && true
        go true e = le-ltb 3 tag (omega (arith, ltb-true tag 4 e))
        go false e = lt-ltb 3 tag (omega (arith, ltb-false tag 4 e))

    pub reserved_other : c ≡ false → true ≡ writable_reserved tag id eidr
    unfolding writable_reserved
    reserved_other u = rw (← ez, not-false z t, ← ec, u)

-- ---- sub-segments: a byte fits
pub sub_over : (s : Option SubSegment) (x : SubSegment) → s ≡ Some x → (w : ℕ) → w ≡ x.sub_segment_num → 255 < w → w < 256 → false ≡ within (sub_fields s)
sub_over s x e w ew h l = absurd (omega arith)

pub sub_byte : (s : Option SubSegment) (x : SubSegment) → s ≡ Some x → (w v : ℕ) → w ≡ x.sub_segment_num → w ≤ 255 → v ≡ x.sub_segments_expected
    → ltb v 256 ≡ within (sub_fields s)
sub_byte s x e w v ew h ev = rw (e, ev, lt-ltb x.sub_segment_num 256 (omega arith)) (go (ltb x.sub_segments_expected 256))
  where
    go : (b : Bool) → b ≡ b && true
    go true = refl
    go false = refl

and_tt : (b : Bool) → b ≡ b && true
and_tt true = refl
and_tt false = refl

pub duration_byte : (d : Option ℕ) (t : ℕ) → d ≡ Some t → ltb t (2 ^ 40) ≡ within (duration_fields d)
duration_byte d t e = rw e (and_tt (ltb t (2 ^ 40)))

pub mode_byte : (k : SegmentationMode) (n : ℕ) (cs : List SegmentationComponent) (r : Bool) → k ≡ SegmentationMode.Component n → n < 256 → r ≡ within (components_fields (take n cs))
    → (r ≡ within (mode_fields k (take (count_of k) cs))) × (count_of k < 256)
mode_byte k n cs r e h er = rw e (rw (lt-ltb n 256 h) er, h)

pub mode_none : (k : SegmentationMode) (cs : List SegmentationComponent) → k ≡ SegmentationMode.Program → (true ≡ within (mode_fields k (take (count_of k) cs))) × (count_of k < 256)
mode_none k cs e = rw e (refl, (let z : 0 < 256 = omega arith in z))

-- a count alone
pub count_byte : (k : SegmentationMode) (n w : ℕ) → k ≡ SegmentationMode.Component n → w ≡ n → n < 256 → (ltb w 256 ≡ within (mode_fields k [])) × (count_of k < 256)
count_byte k n w e ew h = rw (e, ew) (and_tt (ltb n 256), h)

pub count_none : (k : SegmentationMode) → k ≡ SegmentationMode.Program → (true ≡ within (mode_fields k [])) × (count_of k < 256)
count_none k e = rw e (refl, (let z : 0 < 256 = omega arith in z))

none_fits : (k : SegmentationMode) → count_of k < 256 → within (mode_fields k []) ≡ true
none_fits SegmentationMode.Program h = refl
none_fits (SegmentationMode.Component n) h = rw (lt-ltb n 256 h)

-- blank components fit
all_blank : (n m : ℕ) → within (components_fields (take n (replicate m blank_component))) ≡ true
all_blank zero m = refl
all_blank (suc n) zero = refl
all_blank (suc n) (suc m) = all_blank n m

pub blanks_fit : (k : SegmentationMode) → count_of k < 256 → within (mode_fields k (take (count_of k) (filled []))) ≡ true
unfolding filled
blanks_fit SegmentationMode.Program h = refl
blanks_fit (SegmentationMode.Component n) h = rw (lt-ltb n 256 h) (all_blank n 255)

pub blanks_length : length (filled []) ≡ 255
unfolding filled
blanks_length = length-replicate 255 blank_component

-- ---- components: likewise
module _ (cs : List SegmentationComponent) (i : ℕ) (inv : within (components_fields (drop i cs)) ≡ within (components_fields cs)) (h : i < length cs)
    (m : SegmentationComponent) (is : get_or cs i blank_component ≡ m) (tag : m.component_tag < 256) where
  part_next : within (components_fields (drop i cs)) ≡ ltb m.pts_offset (2 ^ 33) && within (components_fields (drop (i + 1) cs))
  part_next = rw (add-one i, drop-cons cs i blank_component h, is, lt-ltb m.component_tag 256 tag)

  pub parts_turn : m.pts_offset ≤ 0x1ffffffff → within (components_fields (drop (i + 1) cs)) ≡ within (components_fields cs)
  parts_turn l = sym (part_next ∙ rw (lt-ltb m.pts_offset (2 ^ 33) (omega arith))) ∙ inv

  pub parts_stop : 0x1ffffffff < m.pts_offset → false ≡ within (components_fields cs)
  parts_stop l = sym (part_next ∙ rw (le-ltb m.pts_offset (2 ^ 33) (omega arith))) ∙ inv

pub parts_end : (cs : List SegmentationComponent) (i : ℕ) → within (components_fields (drop i cs)) ≡ within (components_fields cs) → length cs ≤ i
    → true ≡ within (components_fields cs)
parts_end cs i inv h = sym (ap (λ (l : List SegmentationComponent). within (components_fields l)) (drop_of_length-le cs h)) ∙ inv

-- ---- flags and type id
module _ (i : SegmentationDetail) (p a : Bool) (ep : p ≡ by_program i.segmentation_mode) (ea : a ≡ agrees i.program_segmentation_flag p) where
  pub writable_no_program : not a ≡ true → false ≡ writable_detail (Active i)
  unfolding writable_detail writable_front
  writable_no_program t = rw (← ep, ← ea, not-true a t)

  module _ (t : not a ≡ false) (l b : Bool) (el : l ≡ lasting i.segmentation_duration) (eb : b ≡ agrees i.segmentation_duration_flag l) where
    pub writable_no_lasting : not b ≡ true → false ≡ writable_detail (Active i)
    unfolding writable_detail writable_front
    writable_no_lasting u = rw (← ep, ← ea, not-false a t, ← el, ← eb, not-true b u)

    module _ (u : not b ≡ false) (f d : Bool) (ef : f ≡ unrestricted i.delivery_restrictions) (ed : d ≡ agrees i.delivery_not_restricted_flag f) where
      pub writable_no_free : not d ≡ true → false ≡ writable_detail (Active i)
      unfolding writable_detail writable_front
      writable_no_free v = rw (← ep, ← ea, not-false a t, ← el, ← eb, not-false b u, ← ef, ← ed, not-true d v)

      pub writable_type : not d ≡ false → (r : Bool) → r ≡ writable_segmentation i.segmentation_type_id → r ≡ writable_detail (Active i)
      unfolding writable_detail writable_front
      writable_type v r er = rw (← ep, ← ea, not-false a t, ← el, ← eb, not-false b u, ← ef, ← ed, not-false d v) er

-- ---- a UPID
module _ (u : SegmentationUpid) (eidr lent : List ℕ) where
  pub upid_eidr : u.upid_type ≡ 10 → eqb u.bytes.len 0 ≡ writable_upid u eidr lent
  unfolding writable_upid
  upid_eidr e = rw (eq-eqb u.upid_type 10 e)

  no_bytes : u.bytes.len ≡ 0 → viewed lent u.bytes ≡ []
  unfolding viewed
  no_bytes e = go (leb (u.bytes.at + u.bytes.len) (length lent))
    where
      go : (b : Bool) → pick b (take u.bytes.len (drop u.bytes.at lent)) [] ≡ []
      go true = rw e
      go false = refl

  module _ (ne : u.upid_type ≡ 10 → ⊥) (z : Bool) (ez : z ≡ all_zero eidr) where
    pub upid_beside : not z ≡ true → false ≡ writable_upid u eidr lent
    unfolding writable_upid
    upid_beside t = rw (ne_eqb u.upid_type 10 ne, ← ez, not-true z t)

    module _ (t : not z ≡ false) where
      pub upid_none : u.upid_type ≡ 0 → eqb u.bytes.len 0 ≡ writable_upid u eidr lent
      unfolding writable_upid written_type check_of
      upid_none e =
          let k : eqb u.upid_type 5 ≡ false = rw e in
          rw (ne_eqb u.upid_type 10 ne, ← ez, not-false z t, eq-eqb u.upid_type 0 e, k) (go (eqb u.bytes.len 0) refl)
        where
          go : (b : Bool) → eqb u.bytes.len 0 ≡ b → b ≡ b && accepts (check_of (written_type u) (viewed lent u.bytes))
          go true w = rw (no_bytes (eqb-true u.bytes.len 0 w))
          go false w = refl

      module _ (k : u.upid_type ≡ 0 → ⊥) where
        pub upid_empty : u.bytes.len ≡ 0 → false ≡ writable_upid u eidr lent
        unfolding writable_upid
        upid_empty e = rw (ne_eqb u.upid_type 10 ne, ← ez, not-false z t, ne_eqb u.upid_type 0 k, eq-eqb u.bytes.len 0 e)

        module _ (l : u.bytes.len ≡ 0 → ⊥) where
          pub upid_five : u.upid_type ≡ 5 → false ≡ writable_upid u eidr lent
          unfolding writable_upid
          upid_five e = rw (ne_eqb u.upid_type 10 ne, ← ez, not-false z t, ne_eqb u.upid_type 0 k, ne_eqb u.bytes.len 0 l, eq-eqb u.upid_type 5 e)

          pub upid_read_lem : (u.upid_type ≡ 5 → ⊥) → (part : List ℕ) (w : ℕ) (r : Result ℕ Refusal) → part ≡ viewed lent u.bytes → w ≡ written_type u → r ≡ check_of w part
              → accepts r ≡ writable_upid u eidr lent
          unfolding writable_upid
          upid_read_lem f part w r ep ew er =
              rw (ne_eqb u.upid_type 10 ne, ← ez, not-false z t, ne_eqb u.upid_type 0 k, ne_eqb u.bytes.len 0 l, ne_eqb u.upid_type 5 f, ← ep, ← ew, ← er)

-- ---- the numbers of an active segmentation: those of components that fit change nothing
pub numbers_with : (i : SegmentationDetail) (cs : List SegmentationComponent) (n : Bool) → within (mode_fields i.segmentation_mode cs) ≡ true
    → (n ≡ numbers_fit i []) × (count_of i.segmentation_mode < 256) → (n ≡ numbers_fit i cs) × (count_of i.segmentation_mode < 256)
unfolding numbers_fit
numbers_with i cs n f e =
    (e.0 ∙ ap (λ (b : Bool). b && (within (duration_fields i.segmentation_duration) && within (back_fields i))) (none_fits i.segmentation_mode e.1 ∙ sym f), e.1)

module _ (i : SegmentationDetail) (cs : List SegmentationComponent) (m : Bool) (em : m ≡ within (mode_fields i.segmentation_mode cs)) where
  pub no_mode_fit : not m ≡ true → false ≡ numbers_fit i cs
  unfolding numbers_fit
  no_mode_fit t = rw (← em, not-true m t)

  module _ (t : not m ≡ false) (d : Bool) (ed : d ≡ within (duration_fields i.segmentation_duration)) where
    pub no_duration_fit : not d ≡ true → false ≡ numbers_fit i cs
    unfolding numbers_fit
    no_duration_fit u = rw (← em, not-false m t, ← ed, not-true d u)

    module _ (u : not d ≡ false) (n w : ℕ) (en : n ≡ segmentation_number i.segmentation_type_id) (ew : w ≡ n) where
      pub no_type_fit : 255 < w → false ≡ numbers_fit i cs
      unfolding numbers_fit
      no_type_fit h = rw (← em, not-false m t, ← ed, not-false d u, le-ltb (segmentation_number i.segmentation_type_id) 256 (omega arith))

      pub sub_fits : w ≤ 255 → i.segment_num < 256 → i.segments_expected < 256 → (s : Bool) → s ≡ within (sub_fields i.sub_segments) → s ≡ numbers_fit i cs
      unfolding numbers_fit
      sub_fits h a b s es =
          rw (
            ← em,
            not-false m t,
            ← ed,
            not-false d u,
            lt-ltb (segmentation_number i.segmentation_type_id) 256 (omega arith),
            lt-ltb i.segment_num 256 a,
            lt-ltb i.segments_expected 256 b,
          ) es
