-- An item that is found: a segmentation descriptor that stands there whole, with a hole that its UPID fills.
--     active_at_lem      the item, its tag, its identifier and its reading
--     hole-in        the parts of its payload, by places
use Prim.Native.Nat.{ℕ, suc, ◌+◌, ◌-◌, ◌≤◌, ◌<◌}
use mathlib.Core.Bool.{Bool, true, false, not}
use mathlib.Core.List.{List, [], ◌∷◌, ◌++◌}
use mathlib.Core.Path.{◌≡◌, refl, ap, ap₂, sym, subst, ◌∙◌}
use native.Mathlib.Omega.{arith}
use lib.Dec.{eqb, ltb}
use lib.ListN.{length, take, drop, get_or, length-take, length-drop, length-append, get_or-eq_default}
use lib.Seq.{get_or-take, get_or-drop, get_or-append_seam, get_or-append-add, take-append_seam, drop-append-add, take_at}
use borrow.Author.Tests.{eqb-true}
use Rattle.upid.proofs.Laws.{by_cases}
use Rattle.table.proofs.Lists.{zero_one, and_true}
use Rattle.table.specs.Bits.{pick, bits_of}
use Rattle.table.specs.Table.{Answer, got, short, parse}
use Rattle.descriptor.specs.Descriptor.{◌and_then◌, avail_of, dtmf_of, segmentation_of, time_of, reserved_of, is_cuei, cuei, descriptor_of}
use Rattle.descriptor.specs.Plain.{avail, dtmf, time, private_table}
use Rattle.descriptor.specs.Segmentation.{cancelled}
use Rattle.upid.specs.declared.Refusal.TheVariants.{NotEnoughData}
use Rattle.descriptor.specs.Views.{with_upids}
use Rattle.descriptor.specs.declared.Descriptor.TheVariants.{Avail, Dtmf, Segmentation, Time, Reserved}
use Rattle.descriptor.specs.declared.segmentation.SegmentationDescriptor.{SegmentationDescriptor}
use Rattle.descriptor.specs.declared.segmentation.DescriptorDetail.{DescriptorDetail}
use Rattle.descriptor.specs.declared.segmentation.DescriptorDetail.TheVariants.{Cancel, Active}
use Rattle.descriptor.specs.declared.segmentation.SegmentationDetail.{SegmentationDetail}
use Rattle.descriptor_loop.proofs.Steps.{Clause, long, ended, last, small, entire, clause, Stands}
use Rattle.descriptor_loop.specs.Items.{item_at, read_at, complete_at, step_of, items_of}
use Rattle.descriptor_loop.specs.Place.{moved_descriptor, moved_upid}
use Rattle.descriptor_loop.specs.declared.Step.{Step}
use Rattle.relabel_payload.proofs.Theorems.{of_the_payload_only_the_upid_differs}
use Rattle.relabel_payload.specs.Payload.{upid_head, Holed}
use Rattle.relabel_found.specs.Found.{begins, is_active, found, payload_at, fore_in, type_in, size_in, upid_in, post_in}
use Rattle.std.proofs.Common.{Ok, Err, Some, Result}
use Rattle.descriptor.specs.declared.Descriptor.{Descriptor}
use Rattle.upid.specs.declared.Refusal.{Refusal}

-- ---- which reading is a segmentation descriptor that is not cancelled

abbrev active_or_not : ℕ → Result Descriptor Refusal → Bool
active_or_not base r = is_active (item_at base r)

-- no other reader gives one
then_not : {X : Type 0} (base : ℕ) (a : Answer X) (k : X → ℕ → Result Descriptor Refusal) → ((x : X) (m : ℕ) → active_or_not base (k x m) ≡ false) → active_or_not base (a and_then k) ≡ false
then_not base (got x m) k h = h x m
then_not base (short e f) k h = refl

pick_not : (base : ℕ) (b : Bool) (r q : Result Descriptor Refusal) → active_or_not base r ≡ false → active_or_not base q ≡ false → active_or_not base (pick b r q) ≡ false
pick_not base true r q hr hq = hr
pick_not base false r q hr hq = hq

module _ (base : ℕ) (s : List ℕ) where
  avail_not : active_or_not base (avail_of s) ≡ false
  unfolding avail_of
  avail_not =
      pick_not base (ltb (length s) 4) (Err (NotEnoughData 4 (length s))) (parse avail (bits_of s) 0 and_then λ x at. Ok (Avail x)) refl
      (then_not base (parse avail (bits_of s) 0) (λ x at. Ok (Avail x)) λ x m. refl)

  dtmf_not : active_or_not base (dtmf_of s) ≡ false
  unfolding dtmf_of
  dtmf_not = then_not base (parse dtmf (bits_of s) 0) (λ x at. Ok (Dtmf x)) λ x m. refl

  time_not : active_or_not base (time_of s) ≡ false
  unfolding time_of
  time_not =
      pick_not base (ltb (length s) 12) (Err (NotEnoughData 12 (length s))) (parse time (bits_of s) 0 and_then λ x at. Ok (Time x)) refl
      (then_not base (parse time (bits_of s) 0) (λ x at. Ok (Time x)) λ x m. refl)

  reserved_not : (tag : ℕ) → active_or_not base (reserved_of tag s) ≡ false
  unfolding reserved_of
  reserved_not tag = then_not base (parse private_table (bits_of s) 0) (λ v at. Ok (Reserved tag v)) λ x m. refl

  -- by tag and identifier
  pub record Tagged (tag : ℕ) (id : List ℕ) : Type 0 where
    pub tag_is : tag ≡ 2
    pub id_is : is_cuei id ≡ true
    pub reads : descriptor_of tag id s ≡ segmentation_of s

  false_true : {A : Type 0} (b : Bool) → b ≡ false → b ≡ true → A
  false_true b e f = zero_one cc

  module _ (tag : ℕ) (id : List ℕ) where
    tagged : active_or_not base (descriptor_of tag id s) ≡ true → Tagged tag id
    unfolding descriptor_of
    tagged e = go (is_cuei id) refl e
      where
        in_cuei : is_cuei id ≡ true → (a b c d : Bool) → eqb tag 0 ≡ a → eqb tag 1 ≡ b → eqb tag 2 ≡ c → eqb tag 3 ≡ d
            → active_or_not base (pick a (avail_of s) (pick b (dtmf_of s) (pick c (segmentation_of s) (pick d (time_of s) (reserved_of tag s))))) ≡ true → Tagged tag id
        in_cuei ci true b c d ea eb ec ed h = false_true _ avail_not h
        in_cuei ci false true c d ea eb ec ed h = false_true _ dtmf_not h
        in_cuei ci false false true d ea eb ec ed h = record { tag_is = eqb-true tag 2 ec; id_is = ci; reads = rw (ci, ea, eb, ec) }
        in_cuei ci false false false true ea eb ec ed h = false_true _ time_not h
        in_cuei ci false false false false ea eb ec ed h = false_true _ (reserved_not tag) h

        go : (b : Bool) → is_cuei id ≡ b
            → active_or_not base (pick b (pick (eqb tag 0) (avail_of s) (pick (eqb tag 1) (dtmf_of s) (pick (eqb tag 2) (segmentation_of s) (pick (eqb tag 3) (time_of s) (reserved_of tag s))))) (reserved_of tag s)) ≡ true
            → Tagged tag id
        go true ci h = in_cuei ci (eqb tag 0) (eqb tag 1) (eqb tag 2) (eqb tag 3) refl refl refl refl h
        go false ci h = false_true _ (reserved_not tag) h

-- what it reads as
pub record ActiveIn (base : ℕ) (r : Result Descriptor Refusal) : Type 0 where
  pub x : SegmentationDescriptor
  pub i : SegmentationDetail
  pub is : r ≡ Ok (Segmentation x)
  pub detail : x.descriptor_detail ≡ Active i

active_so : (base : ℕ) (r : Result Descriptor Refusal) → active_or_not base r ≡ true → ActiveIn base r
active_so base (Err q) e = zero_one cc
active_so base (Ok (Avail x)) e = zero_one cc
active_so base (Ok (Dtmf x)) e = zero_one cc
active_so base (Ok (Time x)) e = zero_one cc
active_so base (Ok (Reserved tag v)) e = zero_one cc
active_so base (Ok (Segmentation x)) e = go x.descriptor_detail refl e
  where
    go : (d : DescriptorDetail) → x.descriptor_detail ≡ d → not (cancelled (with_upids (moved_upid base) d)) ≡ true → ActiveIn base (Ok (Segmentation x))
    go Cancel ed h = zero_one cc
    go (Active i) ed h = record { x = x; i = i; is = refl; detail = ed }

-- ---- "CUEI", byte by byte
four : (l : List ℕ) → length l ≡ 4 → l ≡ get_or l 0 0 ∷ (get_or l 1 0 ∷ (get_or l 2 0 ∷ (get_or l 3 0 ∷ [])))
four [] h = absurd (omega arith)
four (a ∷ []) h = absurd (omega arith)
four (a ∷ (b ∷ [])) h = absurd (omega arith)
four (a ∷ (b ∷ (c ∷ []))) h = absurd (omega arith)
four (a ∷ (b ∷ (c ∷ (d ∷ [])))) h = refl
four (a ∷ (b ∷ (c ∷ (d ∷ (e ∷ l))))) h = absurd (omega arith)

cuei_is : (id : List ℕ) → length id ≡ 4 → is_cuei id ≡ true → id ≡ cuei
unfolding is_cuei
cuei_is id n e =
    let t = and_true _ _ e in
    let u = and_true _ _ t.1 in
    let v = and_true _ _ u.1 in
    let a : get_or id 0 0 ≡ 0x43 = eqb-true _ _ t.0 in
    let b : get_or id 1 0 ≡ 0x55 = eqb-true _ _ u.0 in
    let c : get_or id 2 0 ≡ 0x45 = eqb-true _ _ v.0 in
    let d : get_or id 3 0 ≡ 0x49 = eqb-true _ _ v.1 in
    four id n ∙ rw (a, b, c, d)

-- ---- the item

pub record ActiveAt (loop : List ℕ) (offset : ℕ) : Type 0 where
  pub stands : Stands loop offset (get_or loop (offset + 1) 0)
  pub named : 4 ≤ get_or loop (offset + 1) 0
  pub tag : get_or loop offset 0 ≡ 2
  pub id : take 4 (drop (offset + 2) loop) ≡ cuei
  pub next : (step_of loop offset).next ≡ offset + (get_or loop (offset + 1) 0 + 2)
  pub x : SegmentationDescriptor
  pub i : SegmentationDetail
  pub reads : segmentation_of (payload_at loop offset) ≡ Ok (Segmentation x)
  pub detail : x.descriptor_detail ≡ Active i
  pub item : (step_of loop offset).item ≡ Some (Ok (moved_descriptor (offset + 6) (Segmentation x)))

module _ (loop : List ℕ) (offset : ℕ) where
  complete_actives : (L : ℕ) → L ≡ get_or loop (offset + 1) 0 → Stands loop offset L → 4 ≤ L → step_of loop offset ≡ complete_at loop offset L → is_active (complete_at loop offset L).item ≡ true → ActiveAt loop offset
  unfolding complete_at read_at
  complete_actives L is s h st e =
      let pay : List ℕ = take (L - 4) (drop (offset + 6) loop) in
      let t = tagged (offset + 6) pay (get_or loop offset 0) (take 4 (drop (offset + 2) loop)) e in
      let n : length (take 4 (drop (offset + 2) loop)) ≡ 4 = omega (arith, length-take 4 (drop (offset + 2) loop), length-drop (offset + 2) loop, s.six) in
      let f : is_active (item_at (offset + 6) (segmentation_of pay)) ≡ true = ap (λ (r : Result Descriptor Refusal). is_active (item_at (offset + 6) r)) (sym t.reads) ∙ e in
      let j = active_so (offset + 6) (segmentation_of pay) f in
      record {
        stands = subst (λ (l : ℕ). Stands loop offset l) is s;
        named = omega (arith, is);
        tag = t.tag_is;
        id = cuei_is _ n t.id_is;
        next = ap (λ (y : Step). y.next) st ∙ omega (arith, is);
        x = j.x;
        i = j.i;
        reads = ap (λ (l : ℕ). segmentation_of (take (l - 4) (drop (offset + 6) loop))) (sym is) ∙ j.is;
        detail = j.detail;
        item = ap (λ (y : Step). y.item) st ∙ ap (item_at (offset + 6)) (t.reads ∙ j.is);
      }

  by_clause : {s : Step} → Clause loop offset s → step_of loop offset ≡ s → is_active s.item ≡ true → ActiveAt loop offset
  by_clause (long h) st e = zero_one cc
  by_clause (ended h) st e = zero_one cc
  by_clause (last r v h) st e = zero_one cc
  by_clause (small L s) st e = zero_one cc
  by_clause (entire L s h) st e = complete_actives L s.is s h st e

  pub active_at_lem : found loop offset ≡ true → ActiveAt loop offset
  unfolding found
  active_at_lem e = by_clause (clause loop offset) refl (and_true (begins (items_of loop) offset) (is_active (step_of loop offset).item) e).1

  pub begun : found loop offset ≡ true → begins (items_of loop) offset ≡ true
  unfolding found
  begun e = (and_true (begins (items_of loop) offset) (is_active (step_of loop offset).item) e).0

-- ---- its payload, by places

module _ (pay : List ℕ) (event : ℕ) (i : SegmentationDetail) (h : Holed pay event i) where
  tail : List ℕ
  tail = h.upid_type ∷ (length h.bytes ∷ (h.bytes ++ h.post))

  is_tail : pay ≡ h.fore ++ tail
  unfolding tail
  is_tail = h.is

  pub fore_in_lem : h.fore ≡ fore_in pay
  fore_in_lem =
      sym (take_at h.fore tail (upid_head pay) h.place) ∙ ap (take (upid_head pay)) (sym is_tail)

  pub type_in_lem : h.upid_type ≡ type_in pay
  unfolding tail
  type_in_lem =
      sym (get_or-append_seam h.fore h.upid_type (length h.bytes ∷ (h.bytes ++ h.post)) 0)
      ∙ ap₂ (λ (l : List ℕ) (k : ℕ). get_or l k 0) (sym is_tail) h.place

  pub size_in_lem : length h.bytes ≡ size_in pay
  unfolding tail
  size_in_lem =
      sym (get_or-append-add h.fore tail 1 0)
      ∙ ap₂ (λ (l : List ℕ) (k : ℕ). get_or l (k + 1) 0) (sym is_tail) h.place

  after_head : drop (upid_head pay + 2) pay ≡ h.bytes ++ h.post
  unfolding tail
  after_head =
      ap₂ (λ (k : ℕ) (l : List ℕ). drop (k + 2) l) (sym h.place) is_tail ∙ drop-append-add h.fore tail 2

  pub upid_in_lem : h.bytes ≡ upid_in pay
  upid_in_lem = sym (ap₂ take (sym size_in_lem) after_head ∙ take-append_seam h.bytes h.post)

  pub size_all : length pay ≡ upid_head pay + 2 + size_in pay + length h.post
  unfolding tail
  size_all = omega (arith, ap length is_tail, length-append h.fore tail, length-append h.bytes h.post, h.place, size_in_lem)

  pub post_in_lem : h.post ≡ post_in pay
  unfolding tail
  post_in_lem =
      let e : upid_head pay + 2 + size_in pay ≡ length h.fore + suc (suc (length h.bytes)) = omega (arith, h.place, size_in_lem) in
      let d : drop (length h.bytes + 0) (h.bytes ++ h.post) ≡ h.post = drop-append-add h.bytes h.post 0 in
      let z : length h.bytes + 0 ≡ length h.bytes = omega arith in
      sym (ap₂ drop e is_tail ∙ drop-append-add h.fore tail (suc (suc (length h.bytes))) ∙ ap (λ (k : ℕ). drop k (h.bytes ++ h.post)) (sym z) ∙ d)

-- ---- a run of bytes has bytes
pub byte_in : (s : List ℕ) (a n : ℕ) → ((j : ℕ) → get_or s j 0 < 256) → (k : ℕ) → get_or (take n (drop a s)) k 0 < 256
byte_in s a n bytes k =
    by_cases k n
    (λ h. omega (arith, get_or-take n (drop a s) k 0 h, get_or-drop a s k 0, bytes (a + k)))
    (λ h.
    let l : length (take n (drop a s)) ≤ k = omega (arith, length-take n (drop a s)) in
    omega (arith, get_or-eq_default (take n (drop a s)) 0 {n = k} l))

-- the item's payload is a hole that its UPID fills
pub hole_at : (loop : List ℕ) (offset : ℕ) → ((k : ℕ) → get_or loop k 0 < 256) → (x : ActiveAt loop offset) → Holed (payload_at loop offset) x.x.segmentation_event_id x.i
hole_at loop offset bytes x = of_the_payload_only_the_upid_differs (payload_at loop offset) x.x x.i (byte_in loop (offset + 6) (get_or loop (offset + 1) 0 - 4) bytes) x.reads x.detail
