-- A step depends on the bytes from its offset on, and on nothing before them.
--     step_moved     a step in a loop with more bytes before it is the same, moved
--     items_moved    and so are the items from there on
use Prim.Native.Nat.{ℕ, zero, suc, ◌+◌, ◌-◌, ◌≤◌, ◌<◌}
use mathlib.Core.Bool.{Bool, true, false}
use mathlib.Core.List.{List, [], ◌∷◌, ◌++◌, map}
use mathlib.Core.Path.{◌≡◌, refl, ap, ap₂, sym, ◌∙◌}
use native.Mathlib.Nat.{add_assoc}
use native.Mathlib.Omega.{arith}
use lib.ListN.{length, take, drop, get_or, length-append}
use lib.Seq.{drop-append-add, get_or-append-add}
use Rattle.table.specs.Lent.{shifted}
use Rattle.table.specs.declared.View.{View}
use Rattle.upid.specs.declared.Refusal.{Refusal}
use Rattle.upid.specs.declared.Refusal.TheVariants.{InputTooLong, NotEnoughData, UpidLengthTypeMismatch, InvalidUpidContent, InvalidUpidLength}
use Rattle.upid.proofs.Laws.{by_cases}
use Rattle.descriptor.specs.Descriptor.{moved_refusal, descriptor_of}
use Rattle.descriptor.specs.Segmentation.{with_upid}
use Rattle.descriptor.specs.Views.{without_view}
use Rattle.descriptor.specs.Full.{identifier_read}
use Rattle.descriptor.specs.declared.Descriptor.{Descriptor}
use Rattle.descriptor.specs.declared.Descriptor.TheVariants.{Avail, Dtmf, Segmentation, Time, Reserved}
use Rattle.descriptor.specs.declared.segmentation.DescriptorDetail.{DescriptorDetail}
use Rattle.descriptor.specs.declared.segmentation.DescriptorDetail.TheVariants.{Cancel, Active}
use Rattle.descriptor.specs.declared.segmentation.SegmentationUpid.{SegmentationUpid}
use Rattle.descriptor_loop.specs.Items.{short, without_identifier, item_at, read_at, complete_at, step_of, unless_end, Listed, listed, items_from, items_of}
use Rattle.descriptor_loop.specs.Place.{moved_upid, moved_descriptor}
use Rattle.descriptor_loop.specs.Private.{moved_detail}
use Rattle.descriptor_loop.specs.declared.ItemRefusal.TheVariants.{InvalidDescriptorLength, Other}
use Rattle.descriptor_loop.specs.declared.Step.{Step}
use Rattle.descriptor_loop.proofs.Lists.{rest, items_rest}
use Rattle.descriptor_loop.proofs.Steps.{step_end, step_few, step_over, step_full, step_small, step_complete}
use Rattle.relabel_loop.specs.Loop.{moved_item, moved_step, moved_listed}
use Rattle.std.proofs.Common.{Ok, Err, Some, None, Option, Result}
use Rattle.descriptor_loop.specs.declared.ItemRefusal.{ItemRefusal}

-- ---- moved twice

module _ (n b : ℕ) where
  view_twice : (v : View) → shifted n (shifted b v) ≡ shifted (n + b) v
  view_twice v = ap (λ (a : ℕ). record { at = a; len = v.len }) (sym (add_assoc n b v.at))

  upid_twice : (u : SegmentationUpid) → moved_upid n (moved_upid b u) ≡ moved_upid (n + b) u
  upid_twice u = go (without_view u.upid_type) refl
    where
      go : (t : Bool) → without_view u.upid_type ≡ t → moved_upid n (moved_upid b u) ≡ moved_upid (n + b) u
      go true e = rw (e, e)
      go false e = rw (e, e) (ap (λ (v : View). record { upid_type = u.upid_type; bytes = v }) (view_twice u.bytes))

  detail_twice : (d : DescriptorDetail) → moved_detail n (moved_detail b d) ≡ moved_detail (n + b) d
  detail_twice Cancel = refl
  detail_twice (Active i) = ap (λ (u : SegmentationUpid). Active (with_upid i u)) (upid_twice i.segmentation_upid)

  descriptor_twice : (d : Descriptor) → moved_descriptor n (moved_descriptor b d) ≡ moved_descriptor (n + b) d
  descriptor_twice (Avail x) = refl
  descriptor_twice (Dtmf x) = ap (λ (v : View). Dtmf (record { preroll = x.preroll; dtmf_chars = v })) (view_twice x.dtmf_chars)
  descriptor_twice (Segmentation x) =
      ap (λ (d : DescriptorDetail). Segmentation (record { segmentation_event_id = x.segmentation_event_id; descriptor_detail = d })) (detail_twice x.descriptor_detail)
  descriptor_twice (Time x) = refl
  descriptor_twice (Reserved tag v) = ap (Reserved tag) (view_twice v)

  refusal_twice : (r : Refusal) → moved_refusal n (moved_refusal b r) ≡ moved_refusal (n + b) r
  refusal_twice InputTooLong = refl
  refusal_twice (NotEnoughData expected actual) = refl
  refusal_twice UpidLengthTypeMismatch = refl
  refusal_twice (InvalidUpidContent upid_type_number v) = ap (InvalidUpidContent upid_type_number) (view_twice v)
  refusal_twice (InvalidUpidLength upid_type_number expected actual) = refl

  -- what a payload was read as, at a place n bytes later
  item_moved : (r : Result Descriptor Refusal) → moved_item n (item_at b r) ≡ item_at (n + b) r
  item_moved (Ok d) = ap (λ x. Some (Ok x)) (descriptor_twice d)
  item_moved (Err r) = ap (λ (x : Refusal). Some (Err (Other x))) (refusal_twice r)

  item_twice : (i : Option (Result Descriptor ItemRefusal)) → moved_item n (moved_item b i) ≡ moved_item (n + b) i
  item_twice None = refl
  item_twice (Some (Err InvalidDescriptorLength)) = refl
  item_twice (Some (Err (Other r))) = ap (λ (x : Refusal). Some (Err (Other x))) (refusal_twice r)
  item_twice (Some (Ok d)) = ap (λ x. Some (Ok x)) (descriptor_twice d)

  pub listed_twice : (x : Listed) → moved_listed n (moved_listed b x) ≡ moved_listed (n + b) x
  listed_twice x =
      let o : n + (b + x.offset) ≡ n + b + x.offset = omega arith in
      let k : n + (b + x.step.next) ≡ n + b + x.step.next = omega arith in
      ap₂ (λ (p : ℕ) (s : Step). record { offset = p; used = x.used; step = s }) o
      (ap₂ (λ (i : Option (Result Descriptor ItemRefusal)) (q : ℕ). record { item = i; identifier = x.step.identifier; next = q }) (item_twice x.step.item) k)

pub map_twice : (n b : ℕ) (xs : List Listed) → map (moved_listed n) (map (moved_listed b) xs) ≡ map (moved_listed (n + b)) xs
map_twice n b [] = refl
map_twice n b (x ∷ xs) = ap₂ (λ (y : Listed) (ys : List Listed). y ∷ ys) (listed_twice n b x) (map_twice n b xs)

-- ---- more bytes before a loop

module _ (pre s : List ℕ) (fits : length (pre ++ s) ≤ 4076) where
  abbrev n : ℕ
  n = length pre

  size : length (pre ++ s) ≡ n + length s
  size = length-append pre s

  fits_rest : length s ≤ 4076
  fits_rest = omega (arith, size)

  drop_there : (o k : ℕ) → drop (n + o + k) (pre ++ s) ≡ drop (o + k) s
  drop_there o k =
      let e : n + o + k ≡ n + (o + k) = omega arith in
      ap (λ (m : ℕ). drop m (pre ++ s)) e ∙ drop-append-add pre s (o + k)

  byte_there : (o k : ℕ) → get_or (pre ++ s) (n + o + k) 0 ≡ get_or s (o + k) 0
  byte_there o k =
      let e : n + o + k ≡ n + (o + k) = omega arith in
      ap (λ (m : ℕ). get_or (pre ++ s) m 0) e ∙ get_or-append-add pre s (o + k) 0

  read_there : (o L : ℕ) → read_at (pre ++ s) (n + o) L ≡ read_at s o L
  unfolding read_at
  read_there o L =
      ap₂ (λ (t : ℕ) (r : List ℕ). descriptor_of t (take 4 r) (take (L - 4) (drop (n + o + 6) (pre ++ s)))) (get_or-append-add pre s o 0) (drop_there o 2)
      ∙ ap (λ (r : List ℕ). descriptor_of (get_or s o 0) (take 4 (drop (o + 2) s)) (take (L - 4) r)) (drop_there o 6)

  complete_there : (o L : ℕ) → complete_at (pre ++ s) (n + o) L ≡ moved_step n (complete_at s o L)
  unfolding complete_at
  complete_there o L =
      let base : n + o + 6 ≡ n + (o + 6) = omega arith in
      let next : n + o + (L + 2) ≡ n + (o + (L + 2)) = omega arith in
      let item : item_at (n + o + 6) (read_at s o L) ≡ moved_item n (item_at (o + 6) (read_at s o L)) = ap (λ (b : ℕ). item_at b (read_at s o L)) base ∙ sym (item_moved n (o + 6) (read_at s o L)) in
      ap₂ (λ (r : Result Descriptor Refusal) (t : List ℕ). record { item = item_at (n + o + 6) r; identifier = identifier_read r (take 4 t); next = n + o + (L + 2) }) (read_there o L) (drop_there o 2)
      ∙ ap₂ (λ (i : Option (Result Descriptor ItemRefusal)) (m : ℕ). record { item = i; identifier = identifier_read (read_at s o L) (take 4 (drop (o + 2) s)); next = m }) item next

  same_left : (o : ℕ) → length (pre ++ s) - (n + o) ≡ length s - o
  same_left o = omega (arith, size)

  module _ (o : ℕ) (inside : o < length s) where
    inside_there : n + o < length (pre ++ s)
    inside_there = omega (arith, size)

    stands : (L : ℕ) → L ≡ get_or s (o + 1) 0 → 6 ≤ length s - o → L + 2 ≤ length s - o → step_of (pre ++ s) (n + o) ≡ moved_step n (step_of s o)
    stands L is six there =
        let is2 : L ≡ get_or (pre ++ s) (n + o + 1) 0 = is ∙ sym (byte_there o 1) in
        let six2 : 6 ≤ length (pre ++ s) - (n + o) = omega (arith, size) in
        let there2 : L + 2 ≤ length (pre ++ s) - (n + o) = omega (arith, size) in
        by_cases 254 L
        (λ h.
        step_full (pre ++ s) (n + o) fits inside_there L is2 six2 there2 h
        ∙ ap (without_identifier (Some (Err InvalidDescriptorLength))) size ∙ sym (ap (moved_step n) (step_full s o fits_rest inside L is six there h)))
        (λ right.
        by_cases L 4
        (λ h.
        step_small (pre ++ s) (n + o) fits inside_there L is2 six2 there2 right h
        ∙ ap (without_identifier (short 6 (L + 2))) (add_assoc n o (L + 2)) ∙ sym (ap (moved_step n) (step_small s o fits_rest inside L is six there right h)))
        (λ h.
        step_complete (pre ++ s) (n + o) fits inside_there L is2 six2 there2 right h
        ∙ complete_there o L ∙ sym (ap (moved_step n) (step_complete s o fits_rest inside L is six there right h))))

    headed : 6 ≤ length s - o → step_of (pre ++ s) (n + o) ≡ moved_step n (step_of s o)
    headed six =
        let L : ℕ = get_or s (o + 1) 0 in
        by_cases (length s - o) (L + 2)
        (λ h.
        step_over (pre ++ s) (n + o) fits inside_there L (sym (byte_there o 1)) (omega (arith, size)) (omega (arith, size))
        ∙ ap (without_identifier (short (L + 2) 0)) size ∙ sym (ap (moved_step n) (step_over s o fits_rest inside L refl six h)))
        (λ there. stands L refl six there)

    begun : step_of (pre ++ s) (n + o) ≡ moved_step n (step_of s o)
    begun =
        by_cases (length s - o) 6
        (λ h.
        step_few (pre ++ s) (n + o) fits inside_there (omega (arith, size))
        ∙ ap (without_identifier (short 2 0)) size ∙ sym (ap (moved_step n) (step_few s o fits_rest inside h)))
        headed

  pub step_moved : (o : ℕ) → step_of (pre ++ s) (n + o) ≡ moved_step n (step_of s o)
  step_moved o =
      by_cases o (length s) (begun o)
      (λ h. step_end (pre ++ s) (n + o) fits (omega (arith, size)) ∙ ap (without_identifier None) size ∙ sym (ap (moved_step n) (step_end s o fits_rest h)))

  end_moved : (i : Option (Result Descriptor ItemRefusal)) (xs : List Listed) → unless_end (moved_item n i) (map (moved_listed n) xs) ≡ map (moved_listed n) (unless_end i xs)
  end_moved None xs = refl
  end_moved (Some (Err InvalidDescriptorLength)) xs = refl
  end_moved (Some (Err (Other r))) xs = refl
  end_moved (Some (Ok d)) xs = refl

  listed_moved : (o : ℕ) → listed (pre ++ s) (n + o) ≡ moved_listed n (listed s o)
  listed_moved o =
      let st : Step = step_of s o in
      let u : n + st.next - (n + o) ≡ st.next - o = omega arith in
      ap (λ (x : Step). record { offset = n + o; used = x.next - (n + o); step = x }) (step_moved o)
      ∙ ap (λ (k : ℕ). record { offset = n + o; used = k; step = moved_step n st }) u

  from_moved : (m o : ℕ) → items_from m (pre ++ s) (n + o) ≡ map (moved_listed n) (items_from m s o)
  unfolding items_from
  from_moved zero o = refl
  from_moved (suc m) o =
      let st : Step = step_of s o in
      ap₂ (λ (x : Step) (y : Listed). unless_end x.item (y ∷ items_from m (pre ++ s) x.next)) (step_moved o) (listed_moved o)
      ∙ ap (λ (xs : List Listed). unless_end (moved_item n st.item) (moved_listed n (listed s o) ∷ xs)) (from_moved m st.next)
      ∙ end_moved st.item (listed s o ∷ items_from m s st.next)

  pub items_moved : rest (pre ++ s) fits n ≡ map (moved_listed n) (items_of s)
  items_moved =
      let z : n ≡ n + 0 = omega arith in
      let m : length (pre ++ s) - n ≡ length s - 0 = omega (arith, size) in
      ap₂ (λ (k o : ℕ). items_from k (pre ++ s) o) m z ∙ from_moved (length s - 0) 0 ∙ ap (map (moved_listed n)) (sym (items_rest s fits_rest))
