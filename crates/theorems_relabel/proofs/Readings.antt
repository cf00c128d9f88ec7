-- The UPID that is found by the section's bytes is the one that is read there.
use Prim.Native.Nat.{ℕ, ◌+◌, ◌-◌, ◌<◌, ◌≤◌}
use mathlib.Core.Bool.{Bool, true, false, not, ◌||◌}
use mathlib.Core.List.{List, [], ◌∷◌, ◌++◌, append_assoc}
use mathlib.Core.Path.{◌≡◌, refl, ap, ap₂, sym, subst, ◌∙◌}
use native.Mathlib.Omega.{arith}
use borrow.Author.Tests.{eq-eqb, ne_eqb, eqb-false}
use lib.Dec.{eqb}
use lib.ListN.{length, take, drop, get_or}
use Rattle.descriptor.specs.Segmentation.{cancelled}
use Rattle.descriptor.specs.declared.Descriptor.{Descriptor}
use Rattle.descriptor.specs.declared.segmentation.SegmentationDescriptor.{SegmentationDescriptor}
use Rattle.descriptor.specs.declared.segmentation.DescriptorDetail.{DescriptorDetail}
use Rattle.descriptor.specs.declared.segmentation.SegmentationDetail.{SegmentationDetail}
use Rattle.descriptor.specs.declared.segmentation.SegmentationUpid.{SegmentationUpid}
use Rattle.descriptor_loop.proofs.Lists.{walked}
use Rattle.descriptor_loop.specs.Items.{step_of, reading_of, Listed, listed, items_of}
use Rattle.relabel.proofs.Cuts.{run_byte, pay_is, type_is, size_is, old_is, upid_is_lem, spotted, loop_there}
use Rattle.relabel.proofs.Mades.{framing}
use Rattle.relabel_found.proofs.Actives.{active_at_lem, hole_at, byte_in, upid_in_lem, size_in_lem}
use Rattle.relabel.specs.Private.{Spotted, head_in}
use Rattle.relabel.specs.Relabel.{payload_in}
use Rattle.relabel_found.specs.Found.{begins, is_active, found, payload_at, type_in, size_in, upid_in}
use Rattle.relabel_laws.specs.Identifiers.{of_upid, of_payload, of_item}
use Rattle.relabel_payload.specs.Payload.{upid_head}
use Rattle.relabel_upid.specs.Kept.{Identifier, identifiers_of, identifiers_in}
use Rattle.section.specs.Section.{command_length, loop_length, loop_bytes, section_of, loop_in}
use Rattle.section.specs.declared.Section.{Section}
use Rattle.table.specs.Bits.{pick, AllBytes}
use Rattle.table.specs.Lent.{viewed}
use Rattle.theorems_reader.proofs.Framed.{laid}
use Rattle.theorems_reader.proofs.Sections.{each_item, loop_short}
use Rattle.theorems_reader.proofs.Theorems as demands
use Rattle.theorems_reader.specs.Identifiers as readers
use Rattle.theorems_reader.specs.Identifiers.{in_lent, parts_read}
use Rattle.theorems_reader.specs.Whole.{WholeUpid, upid_at}
use Rattle.upid.specs.Cover.{All}
use Rattle.upid.specs.Cover.All.{none, more}
use Rattle.theorems_relabel.specs.Readings.{ReadAs, DetailAs, ItemAs, ListedAs}
use Rattle.theorems_relabel.proofs.Numbers.{all_at}
use Rattle.std.proofs.Common.{Ok, Err, Some, None, Option, Result}
use Rattle.descriptor_loop.specs.declared.ItemRefusal.{ItemRefusal}

-- ---- the same place

module _ (s : List ℕ) (offset base : ℕ) (at : Spotted s offset) (eb : base ≡ 16 + command_length s) where
  abbrev pay : List ℕ
  pay = payload_in s offset

  abbrev c : ℕ
  c = 16 + command_length s

  in_pay : (i : ℕ) → i < 8 → get_or pay i 0 ≡ get_or s (c + offset + 6 + i) 0
  unfolding upid_head
  in_pay i h =
      ap (λ (l : List ℕ). get_or l i 0) (pay_is s offset at)
      ∙ run_byte s (c + offset + 6) (get_or (loop_bytes s) (offset + 1) 0 - 4) i (omega (arith, at.upid))

  head_same : upid_at s (base + offset + 6) ≡ head_in s offset
  unfolding upid_head
  head_same = rw (eb, in_pay 5 (omega arith), in_pay 6 (omega arith))

  type_there : get_or s (upid_at s (base + offset + 6)) 0 ≡ type_in pay
  type_there = ap (λ (h : ℕ). get_or s h 0) head_same ∙ type_is s offset at

  size_there : get_or s (upid_at s (base + offset + 6) + 1) 0 ≡ size_in pay
  size_there = ap (λ (h : ℕ). get_or s (h + 1) 0) head_same ∙ size_is s offset at

  -- that many bytes behind the head are the UPID
  bytes_there : (n : ℕ) → n ≡ size_in pay → take n (drop (upid_at s (base + offset + 6) + 2) s) ≡ upid_in pay
  bytes_there n e =
      ap₂ (λ (m h : ℕ). take m (drop (h + 2) s)) (e ∙ sym (old_is s offset at)) head_same ∙ upid_is_lem s offset at

-- ---- the list of a UPID, by its kind

module _ (pay : List ℕ) (k : ℕ) (e : k ≡ pick (eqb (length (upid_in pay)) 0) 0 (pick (eqb (type_in pay) 5) 6 (type_in pay))) where
  none_listed : length (upid_in pay) ≡ 0 → of_payload pay ≡ []
  unfolding of_upid
  none_listed h = rw (eq-eqb (length (upid_in pay)) 0 h)

  mid_is : k ≡ 13 → (length (upid_in pay) ≡ 0 → ⊥) × (type_in pay ≡ 13)
  mid_is h = go (eqb (length (upid_in pay)) 0) refl (eqb (type_in pay) 5) (sym e ∙ h)
    where
      go : (a : Bool) → eqb (length (upid_in pay)) 0 ≡ a → (b : Bool) → pick a 0 (pick b 6 (type_in pay)) ≡ 13 → (length (upid_in pay) ≡ 0 → ⊥) × (type_in pay ≡ 13)
      go true ea b z = absurd (omega (arith, z))
      go false ea true z = absurd (omega (arith, z))
      go false ea false z = (eqb-false (length (upid_in pay)) 0 ea, z)

  mid_listed : k ≡ 13 → of_payload pay ≡ identifiers_of (upid_in pay)
  unfolding of_upid
  mid_listed h = let m = mid_is h in rw (ne_eqb (length (upid_in pay)) 0 m.0, eq-eqb (type_in pay) 13 m.1)

  one_listed : (length (upid_in pay) ≡ 0 → ⊥) → (k ≡ 13 → ⊥) → of_payload pay ≡ record { level = 0; upid_type = type_in pay; bytes = upid_in pay } ∷ []
  unfolding of_upid
  one_listed n h =
      let other : type_in pay ≡ 13 → ⊥ = λ z. h (e ∙ rw (ne_eqb (length (upid_in pay)) 0 n, z) refl) in
      rw (ne_eqb (length (upid_in pay)) 0 n, ne_eqb (type_in pay) 13 other)

-- ---- together

pub read_as_lem : (s : List ℕ) (offset base : ℕ) (loop eidr : List ℕ) (u : SegmentationUpid) → Spotted s offset → base ≡ 16 + command_length s → length (upid_in (payload_in s offset)) ≡ size_in (payload_in s offset)
    → WholeUpid s (upid_at s (base + offset + 6)) base loop eidr u → ReadAs (payload_in s offset) loop eidr u
read_as_lem s offset base loop eidr u at eb el w =
    let pay : List ℕ = payload_in s offset in
    let size : get_or s (upid_at s (base + offset + 6) + 1) 0 ≡ length (upid_in pay) = size_there s offset base at eb ∙ sym el in
    let k : u.upid_type ≡ pick (eqb (length (upid_in pay)) 0) 0 (pick (eqb (type_in pay) 5) 6 (type_in pay)) =
    w.upid_type ∙ ap₂ (λ (n j : ℕ). pick (eqb n 0) 0 (pick (eqb j 5) 6 j)) size (type_there s offset base at eb) in
    let b : (u.upid_type ≡ 0 → ⊥) → (u.upid_type ≡ 10 → ⊥) → viewed loop u.bytes ≡ upid_in pay =
    λ z t. ap (λ (i : readers.Identifier). i.bytes) (w.bytes z t).is ∙ bytes_there s offset base at eb _ (size_there s offset base at eb) in
    record {
      upid_type = k;
      bytes = b;
      held = λ t. let h = w.eidr t in
          ap (λ (i : readers.Identifier). i.bytes) h.2.is ∙ bytes_there s offset base at eb 12 (sym h.1 ∙ size_there s offset base at eb);
      none = none_listed pay u.upid_type k;
      parts = λ t. mid_listed pay u.upid_type k t ∙ ap (λ (l : List ℕ). identifiers_in l (parts_read 13 l)) (sym (b (λ z. thirteen (sym t ∙ z)) (λ z. thirteen_ten (sym t ∙ z))));
      one = one_listed pay u.upid_type k;
    }
  where
    thirteen : ◌≡◌ {A = ℕ} 13 0 → ⊥
    thirteen e = omega (arith, e)

    thirteen_ten : ◌≡◌ {A = ℕ} 13 10 → ⊥
    thirteen_ten e = omega (arith, e)

-- ---- every item of the loop

begins_there : (lead : List Listed) (y : Listed) (tail : List Listed) → begins (lead ++ (y ∷ tail)) y.offset ≡ true
unfolding begins
begins_there [] y tail = rw (eq-eqb y.offset y.offset refl)
begins_there (z ∷ lead) y tail = go (eqb z.offset y.offset) (begins_there lead y tail)
  where
    go : (b : Bool) → begins (lead ++ (y ∷ tail)) y.offset ≡ true → b || begins (lead ++ (y ∷ tail)) y.offset ≡ true
    go true e = refl
    go false e = e

all_begin : (all lead xs : List Listed) → all ≡ lead ++ xs → All (λ (y : Listed). begins all y.offset ≡ true) xs
all_begin all lead [] e = none
all_begin all lead (y ∷ ys) e =
    more (ap (λ (l : List Listed). begins l y.offset) e ∙ begins_there lead y ys) (all_begin all (lead ++ (y ∷ [])) ys (e ∙ sym (append_assoc lead (y ∷ []) ys)))

both : {P Q : Listed → Type 0} {xs : List Listed} → All P xs → All (λ (y : Listed). P y → Q y) xs → All Q xs
both none none = none
both (more p ps) (more f fs) = more (f p) (both ps fs)

found_there : (loop : List ℕ) (o : ℕ) → begins (items_of loop) o ≡ true → is_active (step_of loop o).item ≡ true → found loop o ≡ true
unfolding found
found_there loop o b i = rw (b, i)

-- what is listed of it is listed of its payload
payload_of_lem : (loop : List ℕ) (o : ℕ) → found loop o ≡ true → is_active (step_of loop o).item ≡ true → of_item loop (listed loop o) ≡ of_payload (payload_at loop o)
unfolding of_item
payload_of_lem loop o f is_so =
    let i = active_at_lem loop o f in
    let z : (step_of loop o).next - o - 6 ≡ get_or loop (o + 1) 0 - 4 = omega (arith, i.next, i.named) in
    ap (λ (b : Bool). pick b (of_payload (take ((step_of loop o).next - o - 6) (drop (o + 6) loop))) []) is_so
    ∙ ap (λ (n : ℕ). of_payload (take n (drop (o + 6) loop))) z

not_listed : (loop : List ℕ) (o : ℕ) → is_active (step_of loop o).item ≡ false → of_item loop (listed loop o) ≡ []
unfolding of_item
not_listed loop o h = ap (λ (b : Bool). pick b (of_payload (take ((step_of loop o).next - o - 6) (drop (o + 6) loop))) []) h

module _ (s : List ℕ) (x : Section) (e : section_of s ≡ Ok x) (a : AllBytes s) where
  abbrev list : List ℕ
  list = loop_bytes s

  loop_here : loop_in s x ≡ list
  loop_here = ap (viewed s) (laid s x e).place

  module _ (o : ℕ) (b : begins (items_of list) o ≡ true) where
    abbrev eidr : List ℕ
    eidr = (reading_of list o).beside.eidr

    abbrev ids : List Identifier
    ids = of_item list (listed list o)

    active_as : (d : SegmentationDescriptor) (i : SegmentationDetail) → (step_of list o).item ≡ Some (Ok (Descriptor.Segmentation d)) → d.descriptor_detail ≡ DescriptorDetail.Active i
        → is_active (step_of list o).item ≡ true → (ids ≡ of_payload (payload_at list o)) × ReadAs (payload_at list o) list eidr i.segmentation_upid
    active_as d i st detail is_so =
        let f = found_there list o b is_so in
        let fr = framing s x e in
        let bytes = all_at s a in
        let at = spotted s o bytes fr.fits fr.short f in
        let byte_of : (j : ℕ) → get_or list j 0 < 256 = λ j. subst (λ (l : List ℕ). get_or l j 0 < 256) (sym (loop_there s fr.fits)) (byte_in s (16 + command_length s) (loop_length s) bytes j) in
        let h = hole_at list o byte_of (active_at_lem list o f) in
        let el : length (upid_in (payload_in s o)) ≡ size_in (payload_in s o) = ap length (sym (upid_in_lem (payload_in s o) _ _ h)) ∙ size_in_lem (payload_in s o) _ _ h in
        let w : WholeUpid s (upid_at s (x.descriptors.at + o + 6)) x.descriptors.at list eidr i.segmentation_upid =
        subst (λ (l : List ℕ). (step_of l o).item ≡ Some (Ok (Descriptor.Segmentation d)) → WholeUpid s (upid_at s (x.descriptors.at + o + 6)) x.descriptors.at l (reading_of l o).beside.eidr i.segmentation_upid) loop_here
        (λ z. demands.every_upid_of_the_section_is_whole s x e o d i z detail a) st in
        (payload_of_lem list o f is_so, read_as_lem s o x.descriptors.at list eidr i.segmentation_upid at fr.at el w)

    detail_as : (d : SegmentationDescriptor) → (step_of list o).item ≡ Some (Ok (Descriptor.Segmentation d)) → (t : DescriptorDetail) → d.descriptor_detail ≡ t
        → DetailAs (payload_at list o) list eidr ids t
    detail_as d st DescriptorDetail.Cancel h = not_listed list o (ap is_active st ∙ ap (λ (t : DescriptorDetail). not (cancelled t)) h)
    detail_as d st (DescriptorDetail.Active i) h = active_as d i st h (ap is_active st ∙ ap (λ (t : DescriptorDetail). not (cancelled t)) h)

    item_as : (it : Option (Result Descriptor ItemRefusal)) → (step_of list o).item ≡ it → ItemAs (payload_at list o) list eidr ids it
    item_as None st = not_listed list o (ap is_active st)
    item_as (Some (Err r)) st = not_listed list o (ap is_active st)
    item_as (Some (Ok (Descriptor.Avail y))) st = not_listed list o (ap is_active st)
    item_as (Some (Ok (Descriptor.Dtmf y))) st = not_listed list o (ap is_active st)
    item_as (Some (Ok (Descriptor.Segmentation d))) st = detail_as d st d.descriptor_detail refl
    item_as (Some (Ok (Descriptor.Time y))) st = not_listed list o (ap is_active st)
    item_as (Some (Ok (Descriptor.Reserved tag v))) st = not_listed list o (ap is_active st)

  pub listed_as : All (ListedAs list) (items_of list)
  listed_as =
      let fits : length list ≤ 4076 = subst (λ (l : List ℕ). length l ≤ 4076) loop_here (loop_short s x e) in
      both (all_begin (items_of list) [] (items_of list) refl)
      (each_item {P = λ (y : Listed). begins (items_of list) y.offset ≡ true → ListedAs list y} (λ o inside. λ b. item_as o b (step_of list o).item refl) (walked list fits))
