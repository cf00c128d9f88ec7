-- Laws of an item that is read.
--     is_movable, refused_movable    the views of a payload's reading lie inside it, so no place grows too large
--     avail_is, .., complete_refused    the answer, by what was read
use Prim.Native.Nat.{ℕ, suc, ◌+◌, ◌-◌, ◌≤◌, ◌<◌}
use mathlib.Core.List.{List, [], ◌∷◌}
use mathlib.Core.Path.{◌≡◌, ap, sym, ◌∙◌}
use native.Mathlib.Numerals.{add-one}
use native.Mathlib.Omega.{arith}
use lib.ListN.{length, take, drop, get_or, length-take, length-drop}
use lib.Seq.{drop-cons}
use Rattle.table.specs.declared.View.{View}
use Rattle.upid.specs.declared.Refusal.{Refusal}
use Rattle.descriptor.specs.Descriptor.{moved_refusal, descriptor_of}
use Rattle.descriptor.specs.Views.{descriptor_views, refusal_views}
use Rattle.descriptor.specs.Private.{read_views}
use Rattle.descriptor.specs.Full.{identifier_read}
use Rattle.descriptor.specs.declared.Descriptor.{Descriptor}
use Rattle.descriptor.specs.declared.Descriptor.TheVariants.{Avail, Dtmf, Segmentation, Time, Reserved}
use Rattle.descriptor.specs.declared.plain.AvailDescriptor.{AvailDescriptor}
use Rattle.descriptor.specs.declared.plain.DTMFDescriptor.{DTMFDescriptor}
use Rattle.descriptor.specs.declared.plain.TimeDescriptor.{TimeDescriptor}
use Rattle.descriptor.specs.declared.segmentation.SegmentationDescriptor.{SegmentationDescriptor}
use Rattle.descriptor.proofs.Insides.{read_inside}
use Rattle.descriptor_loop.specs.Items.{without_identifier, item_at, read_at, complete_at}
use Rattle.descriptor_loop.specs.Place.{moved_descriptor}
use Rattle.descriptor_loop.specs.Private.{Movable}
use Rattle.descriptor_loop.specs.declared.ItemRefusal.TheVariants.{Other}
use Rattle.descriptor_loop.specs.declared.Step.{Step}
use Rattle.descriptor_loop.proofs.Places.{all_into}
use Rattle.std.proofs.Common.{Ok, Err, Some, Option, Result}
use Rattle.descriptor_loop.specs.declared.ItemRefusal.{ItemRefusal}

-- ---- a part of the loop and its reading

module _ (loop : List ℕ) (start n tag : ℕ) (id : List ℕ) (r : Result Descriptor Refusal) where
  movable : r ≡ descriptor_of tag id (take n (drop start loop)) → length loop ≤ 4076 → start ≤ 4076 → Movable start (read_views r)
  movable e fits h =
      let size = length-take n (drop start loop) in
      let left = length-drop start loop in
      rw e (all_into (λ v i. omega (arith, size, left, i)) (read_inside tag id (take n (drop start loop))))

  pub is_movable : (d : Descriptor) → r ≡ descriptor_of tag id (take n (drop start loop)) → r ≡ Ok d → length loop ≤ 4076 → start ≤ 4076 → Movable start (descriptor_views d)
  is_movable d e f fits h = rw f at (movable e fits h)

  pub refused_movable : (q : Refusal) → r ≡ descriptor_of tag id (take n (drop start loop)) → r ≡ Err q → length loop ≤ 4076 → start ≤ 4076 → Movable start (refusal_views q)
  refused_movable q e f fits h = rw f at (movable e fits h)

-- ---- the answer

part_cons : (s : List ℕ) (i n : ℕ) → i < length s → take (suc n) (drop i s) ≡ get_or s i 0 ∷ take n (drop (i + 1) s)
part_cons s i n h = rw (add-one, drop-cons s i 0)

-- the four bytes of the identifier
four : List ℕ → ℕ → List ℕ
four s at = get_or s (at + 2) 0 ∷ get_or s (at + 3) 0 ∷ get_or s (at + 4) 0 ∷ get_or s (at + 5) 0 ∷ []

four_is : (s : List ℕ) (at : ℕ) → at + 6 ≤ length s → four s at ≡ take 4 (drop (at + 2) s)
unfolding four
four_is s at h =
    let e3 : at + 2 + 1 ≡ at + 3 = omega arith in
    let e4 : at + 3 + 1 ≡ at + 4 = omega arith in
    let e5 : at + 4 + 1 ≡ at + 5 = omega arith in
    cc (part_cons s (at + 2) 3 (omega arith), part_cons s (at + 3) 2 (omega arith), part_cons s (at + 4) 1 (omega arith), part_cons s (at + 5) 0 (omega arith))

module _ (loop : List ℕ) (offset L : ℕ) (h : 4 ≤ L) (there : offset + (L + 2) ≤ length loop) (r : Result Descriptor Refusal)
    (is : r ≡ descriptor_of (get_or loop offset 0) (get_or loop (offset + 2) 0 ∷ get_or loop (offset + 3) 0 ∷ get_or loop (offset + 4) 0 ∷ get_or loop (offset + 5) 0 ∷ []) (take (offset + (L + 2) - (offset + 6)) (drop (offset + 6) loop))) where
  abbrev name : List ℕ
  name = get_or loop (offset + 2) 0 ∷ get_or loop (offset + 3) 0 ∷ get_or loop (offset + 4) 0 ∷ get_or loop (offset + 5) 0 ∷ []

  reading : r ≡ read_at loop offset L
  unfolding read_at four
  reading =
      let n : offset + (L + 2) - (offset + 6) ≡ L - 4 = omega arith in
      is ∙ rw (n, four_is loop offset (omega arith))

  answer : (i : Option (Result Descriptor ItemRefusal)) (id : List ℕ) → i ≡ item_at (offset + 6) r → id ≡ identifier_read r name → ◌≡◌ {A = Step} (record { item = i; identifier = id; next = offset + (L + 2) }) (complete_at loop offset L)
  unfolding complete_at four
  answer i id e beside = rw (e, beside, four_is loop offset (omega arith), reading)

  -- an item at its place, which was read as d
  placed : (d m : Descriptor) (id : List ℕ) → r ≡ Ok d → m ≡ moved_descriptor (offset + 6) d → id ≡ identifier_read (Ok d) name
      → ◌≡◌ {A = Step} (record { item = Some (Ok m); identifier = id; next = offset + (L + 2) }) (complete_at loop offset L)
  placed d m id e f g = answer (Some (Ok m)) id (ap (λ x. Some (Ok x)) f ∙ sym (ap (item_at (offset + 6)) e)) (g ∙ sym (ap (λ (x : Result Descriptor Refusal). identifier_read x name) e))

  pub avail_is : (d : Descriptor) (x : AvailDescriptor) → r ≡ Ok d → d ≡ Avail x → without_identifier (Some (Ok d)) (offset + (L + 2)) ≡ complete_at loop offset L
  avail_is d x e f = placed d d _ e (f ∙ sym (ap (moved_descriptor (offset + 6)) f)) (sym (ap (λ (y : Descriptor). identifier_read (Ok y) name) f))

  pub dtmf_is : (d m : Descriptor) (x : DTMFDescriptor) → r ≡ Ok d → d ≡ Dtmf x → m ≡ moved_descriptor (offset + 6) d → without_identifier (Some (Ok m)) (offset + (L + 2)) ≡ complete_at loop offset L
  dtmf_is d m x e f g = placed d m _ e g (sym (ap (λ (y : Descriptor). identifier_read (Ok y) name) f))

  pub segmentation_is_lem : (d m : Descriptor) (x : SegmentationDescriptor) → r ≡ Ok d → d ≡ Segmentation x → m ≡ moved_descriptor (offset + 6) d → without_identifier (Some (Ok m)) (offset + (L + 2)) ≡ complete_at loop offset L
  segmentation_is_lem d m x e f g = placed d m _ e g (sym (ap (λ (y : Descriptor). identifier_read (Ok y) name) f))

  pub time_is : (d : Descriptor) (x : TimeDescriptor) → r ≡ Ok d → d ≡ Time x → without_identifier (Some (Ok d)) (offset + (L + 2)) ≡ complete_at loop offset L
  time_is d x e f = placed d d _ e (f ∙ sym (ap (moved_descriptor (offset + 6)) f)) (sym (ap (λ (y : Descriptor). identifier_read (Ok y) name) f))

  pub reserved_is : (d m : Descriptor) (tag : ℕ) (v : View) → r ≡ Ok d → d ≡ Reserved tag v → m ≡ moved_descriptor (offset + 6) d
      → ◌≡◌ {A = Step} (record { item = Some (Ok m); identifier = name; next = offset + (L + 2) }) (complete_at loop offset L)
  reserved_is d m tag v e f g = placed d m name e g (sym (ap (λ (y : Descriptor). identifier_read (Ok y) name) f))

  pub complete_refused : (q m : Refusal) → r ≡ Err q → m ≡ moved_refusal (offset + 6) q → without_identifier (Some (Err (Other m))) (offset + (L + 2)) ≡ complete_at loop offset L
  complete_refused q m e f =
      answer (Some (Err (Other m))) _ (ap (λ (x : Refusal). Some (Err (Other x))) f ∙ sym (ap (item_at (offset + 6)) e)) (sym (ap (λ (x : Result Descriptor Refusal). identifier_read x name) e))
