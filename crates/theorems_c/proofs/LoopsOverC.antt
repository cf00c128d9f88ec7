-- The loop of a canonical section is what is written over C of the words that are read of its items over C.
use Prim.Native.Nat.{ℕ, zero, suc, ◌+◌, ◌-◌, ◌<◌, ◌≤◌}
use mathlib.Core.Bool.{Bool, true, false, ◌&&◌}
use mathlib.Core.List.{List, [], ◌∷◌, ◌++◌}
use mathlib.Core.Path.{◌≡◌, refl, ap, ap₂, sym, subst, ◌∙◌}
use native.Mathlib.Omega.{arith}
use lib.Dec.{eqb}
use lib.ListN.{length, get_or, take, drop, replicate, length-replicate, length-drop}
use lib.Seq.{length-take-le}
use borrow.Author.Tests.{eqb-true}
use Rattle.descriptor.specs.Descriptor.{descriptor_of}
use Rattle.descriptor.specs.Segmentation as table
use Rattle.descriptor.specs.Segmentation.{Moded, ListedFront, Head, blank_component, component, mode, duration, delivery_restrictions, parts, front, back, head, front_of, segmentation}
use Rattle.descriptor.specs.Full.{filled, blank_beside, beside_in, beside_of, beside_read, identifier_read, full_of}
use Rattle.descriptor.specs.declared.Descriptor.{Descriptor}
use Rattle.descriptor.specs.declared.segmentation.SegmentationComponent.{SegmentationComponent}
use Rattle.descriptor.specs.declared.segmentation.DescriptorDetail.{DescriptorDetail}
use Rattle.descriptor.specs.declared.full.Beside.{Beside}
use Rattle.descriptor_round_trips.specs.Trips.{full_in}
use Rattle.c_descriptor_writer.proofs.Own.{filled_length}
use Rattle.c_descriptor_writer.specs.ItemGiven.{descriptor_words_made}
use Rattle.c_items.specs.FlatItem.{flat_step, flat_beside}
use Rattle.descriptor_loop.specs.Cover.{run_of}
use Rattle.descriptor_loop.specs.Items.{step_of, reading_of, listed, items_of}
use Rattle.descriptor_loop.specs.declared.Step.{Step}
use Rattle.descriptor_loop.specs.declared.reading.Reading.{Reading}
use Rattle.loop_round_trips.proofs.Loops.{back_at, identifier_is, beside_is}
use Rattle.loop_round_trips.proofs.Pieces.{At, said, run_is}
use Rattle.section.specs.Section.{section_of, loop_in}
use Rattle.section.specs.declared.Section.{Section}
use Rattle.canonical_form.specs.Section.{canonical_section}
use Rattle.table.proofs.Reading.{field_lt}
use Rattle.table.proofs.Steps.{reads_in, reads_number, reads_flag, reads_ones}
use Rattle.table.specs.Bits.{pick, bits_of, field, AllBytes}
use Rattle.table.specs.Lent.{viewed}
use Rattle.table.specs.Table.{done, inside, list, Answer, got, short, parse}
use Rattle.table.specs.Writing.{made}
use Rattle.table.proofs.Structure.{bytes_take, bytes_drop}
use Rattle.upid.specs.Cover.{All}
use Rattle.upid.specs.Upid.{eidr_of}
use Rattle.theorems_c.specs.OverC.{step_words, beside_words, words_made_at}
use Rattle.theorems_c.proofs.ItemsOverC.{ModeTags, TypedBeside, descriptor_taken}
use Rattle.theorems_c.proofs.ItemsTyped.{written_typed}
use Rattle.theorems_writer.proofs.ItemsWritten.{all_viewed, each_item}
use Rattle.theorems_reader.proofs.Sections.{loop_short}
use Rattle.std.proofs.Common.{Ok, Err, Some, Option, Result}
use Rattle.upid.specs.declared.Refusal.{Refusal}
use Rattle.descriptor_loop.specs.declared.ItemRefusal.{ItemRefusal}

got_same : {X : Type 0} {x y : X} {m n : ℕ} → got x m ≡ got y n → x ≡ y
got_same e = cc

-- ---- the components of a payload that is read: at most 255, and their tags are bytes
module _ (s : List ℕ) where
  component_tag : (at : ℕ) (c : SegmentationComponent) (m : ℕ) → parse component (bits_of s) at ≡ got c m → c.component_tag < 256
  unfolding component
  component_tag at c m e =
      let r = (reads_number s (at + 8 + 7) 33 _ _ c m (reads_ones s (at + 8) 7 _ c m (reads_number s at 8 _ _ c m e).1).1).1 in
      let z = got_same r in
      subst (λ (k : SegmentationComponent). k.component_tag < 256) z (field_lt s at 8)

  list_has : (n at : ℕ) (cs : List SegmentationComponent) (m : ℕ) → parse (list n blank_component component) (bits_of s) at ≡ got cs m → (length cs ≡ n) × ModeTags cs
  unfolding list
  list_has zero at cs m e = let z : cs ≡ [] = cc in rw z (refl, tt)
  list_has (suc n) at cs m e =
      let r = reads_in component _ _ (bits_of s) at cs m e in
      let q = reads_in (list n blank_component component) _ _ (bits_of s) r.seam cs m r.back in
      let z : r.inner ∷ q.inner ≡ cs = got_same q.back in
      let i = list_has n r.seam q.inner q.seam q.front in
      subst (λ (l : List SegmentationComponent). (length l ≡ suc n) × ModeTags l) z (ap suc i.0, (component_tag at r.inner r.seam r.front, i.1))

  abbrev Small : List SegmentationComponent → Type 0
  Small cs = (length cs ≤ 255) × ModeTags cs

  mode_small : (b : Bool) (at : ℕ) (x : Moded) (m : ℕ) → parse (mode b) (bits_of s) at ≡ got x m → Small x.components
  unfolding mode
  mode_small true at x m e = subst (λ (y : Moded). Small y.components) (got_same e) (omega arith, tt)
  mode_small false at x m e =
      let n = field (bits_of s) at 8 in
      let r = reads_in (list n blank_component component) _ _ (bits_of s) (at + 8) x m (reads_number s at 8 _ _ x m e).1 in
      let i = list_has n (at + 8) r.inner r.seam r.front in
      subst (λ (y : Moded). Small y.components) (got_same r.back) (omega (arith, i.0, field_lt s at 8), i.1)

  parts_small : (p l f : Bool) (at : ℕ) (x : ListedFront) (m : ℕ) → parse (parts p l f) (bits_of s) at ≡ got x m → Small x.components
  unfolding parts
  parts_small p l f at x m e =
      let r₁ = reads_in (delivery_restrictions f) _ _ (bits_of s) at x m e in
      let r₂ = reads_in (mode p) _ _ (bits_of s) r₁.seam x m r₁.back in
      let r₃ = reads_in (duration l) _ _ (bits_of s) r₂.seam x m r₂.back in
      let r₄ = reads_in table.written_upid _ _ (bits_of s) r₃.seam x m r₃.back in
      subst (λ (y : ListedFront). Small y.components) (got_same r₄.back) (mode_small p r₁.seam r₂.inner r₂.seam r₂.front)

  front_small : (at : ℕ) (x : ListedFront) (m : ℕ) → parse front (bits_of s) at ≡ got x m → Small x.components
  unfolding front
  front_small at x m e =
      let a = (reads_flag s at _ _ x m e).1 in
      let b = (reads_flag s (at + 1) _ _ x m a).1 in
      let c = (reads_flag s (at + 1 + 1) _ _ x m b).1 in
      parts_small _ _ _ (at + 1 + 1 + 1) x m c

  segmentation_small : (x : table.Segmentation) (m : ℕ) → parse segmentation (bits_of s) 0 ≡ got x m → Small x.components
  unfolding segmentation
  segmentation_small x m e =
      let r = reads_in head _ _ (bits_of s) 0 x m e in
      go r.inner r.seam r.inner.cancel r.back
    where
      go : (h : Head) (at : ℕ) (b : Bool)
          → parse (pick b
          (done (record { descriptor = record { segmentation_event_id = h.event; descriptor_detail = DescriptorDetail.Cancel }; components = [] }))
          (inside front (λ x. record { front = front_of x.descriptor.descriptor_detail; components = x.components }) λ f.
          inside back (λ x. table.back_of x.descriptor.descriptor_detail) λ k.
          done (record {
            descriptor = record { segmentation_event_id = h.event; descriptor_detail = DescriptorDetail.Active (table.active_from f.front f.front.segmentation_upid k) };
            components = f.components;
          }))) (bits_of s) at ≡ got x m
          → Small x.components
      go h at true e = subst (λ (y : table.Segmentation). Small y.components) (got_same e) (omega arith, tt)
      go h at false e =
          let r = reads_in front _ _ (bits_of s) at x m e in
          let q = reads_in back _ _ (bits_of s) r.seam x m r.back in
          subst (λ (y : table.Segmentation). Small y.components) (got_same q.back) (front_small at r.inner r.seam r.front)

-- ---- what stands beside an item that is read is of its types
zeros : (n : ℕ) → AllBytes (replicate n 0)
zeros zero = tt
zeros (suc n) = (omega arith, zeros n)

blank_tags : (n : ℕ) → ModeTags (replicate n blank_component)
blank_tags zero = tt
blank_tags (suc n) = (omega arith, blank_tags n)

tags_append : (cs ds : List SegmentationComponent) → ModeTags cs → ModeTags ds → ModeTags (cs ++ ds)
tags_append [] ds t u = u
tags_append (c ∷ cs) ds t u = (t.0, tags_append cs ds t.1 u)

filled_small : (cs : List SegmentationComponent) → length cs ≤ 255 → ModeTags cs → (length (filled cs) ≡ 255) × ModeTags (filled cs)
unfolding filled
filled_small cs h t =
    (filled_length cs h, tags_append cs (replicate (255 - length cs) blank_component) t (blank_tags (255 - length cs)))

eidr_small : (k : ℕ) (bytes : List ℕ) → AllBytes bytes → (length (eidr_of k bytes) ≡ 12) × AllBytes (eidr_of k bytes)
unfolding eidr_of
eidr_small k bytes a = go (eqb k 10) (eqb (length bytes) 12) refl
  where
    go : (b c : Bool) → eqb (length bytes) 12 ≡ c → (length (pick (b && c) bytes (replicate 12 0)) ≡ 12) × AllBytes (pick (b && c) bytes (replicate 12 0))
    go true true e = (eqb-true (length bytes) 12 e, a)
    go true false e = (refl, zeros 12)
    go false c e = (refl, zeros 12)

pub record Sized (beside : Beside) : Type 0 where
  pub places : length beside.components ≡ 255
  pub tags : ModeTags beside.components
  pub twelve : length beside.eidr ≡ 12
  pub eidr_bytes : AllBytes beside.eidr

blank_sized : Sized blank_beside
unfolding blank_beside filled
blank_sized = record { places = length-replicate 255 blank_component; tags = blank_tags 255; twelve = refl; eidr_bytes = zeros 12 }

beside_sized : (p : List ℕ) → AllBytes p → Sized (beside_of p)
unfolding beside_of beside_in
beside_sized p a = go (parse segmentation (bits_of p) 0) refl
  where
    go : (r : Answer table.Segmentation) → parse segmentation (bits_of p) 0 ≡ r → Sized (beside_in p r)
    go (got x m) e =
        let c = segmentation_small p x m e in
        let f = filled_small x.components c.0 c.1 in
        let u = (front_of x.descriptor.descriptor_detail).segmentation_upid in
        let i = eidr_small u.upid_type (viewed p u.bytes) (all_viewed p u.bytes a) in
        record { places = f.0; tags = f.1; twelve = i.0; eidr_bytes = i.1 }
    go (short expected actual) e = blank_sized

module _ (id p : List ℕ) (a : AllBytes p) where
  read_sized : (r : Result Descriptor Refusal) → Sized (beside_read r p)
  read_sized (Ok (Descriptor.Avail x)) = blank_sized
  read_sized (Ok (Descriptor.Dtmf x)) = blank_sized
  read_sized (Ok (Descriptor.Segmentation x)) = beside_sized p a
  read_sized (Ok (Descriptor.Time x)) = blank_sized
  read_sized (Ok (Descriptor.Reserved tag v)) = blank_sized
  read_sized (Err n) = blank_sized

  read_identified : (r : Result Descriptor Refusal) → length id ≡ 4 → AllBytes id → (length (identifier_read r id) ≡ 4) × AllBytes (identifier_read r id)
  read_identified (Ok (Descriptor.Avail x)) l b = (refl, zeros 4)
  read_identified (Ok (Descriptor.Dtmf x)) l b = (refl, zeros 4)
  read_identified (Ok (Descriptor.Segmentation x)) l b = (refl, zeros 4)
  read_identified (Ok (Descriptor.Time x)) l b = (refl, zeros 4)
  read_identified (Ok (Descriptor.Reserved tag v)) l b = (l, b)
  read_identified (Err n) l b = (refl, zeros 4)

full_typed : (t : List ℕ) → AllBytes t → 6 ≤ length t → TypedBeside (full_in t).identifier (full_in t).beside
unfolding full_of
full_typed t a h =
    let id = take 4 (drop 2 t) in
    let p = drop 6 t in
    let read = descriptor_of (get_or t 0 0) id p in
    let s = read_sized id p (bytes_drop 6 t a) read in
    let i = read_identified id p (bytes_drop 6 t a) read (length-take-le 4 (drop 2 t) (omega (arith, length-drop 2 t, h))) (bytes_take 4 (drop 2 t) (bytes_drop 2 t a)) in
    record { four = i.0; identifier_bytes = i.1; places = s.places; tags = s.tags; twelve = s.twelve; eidr_bytes = s.eidr_bytes }

-- ---- an item, and all of them
step_is : (s : Step) (d : Descriptor) → s.item ≡ Some (Ok d) → s ≡ record { item = Some (Ok d); identifier = s.identifier; next = s.next }
step_is s d e = ap (λ (i : Option (Result Descriptor ItemRefusal)). record { item = i; identifier = s.identifier; next = s.next }) e

reading_is_lem : (loop : List ℕ) (o : ℕ) (d : Descriptor) → (step_of loop o).item ≡ Some (Ok d)
    → reading_of loop o ≡ record { step = record { item = Some (Ok d); identifier = (step_of loop o).identifier; next = (step_of loop o).next }; beside = (reading_of loop o).beside }
unfolding reading_of
reading_is_lem loop o d e = ap (λ (s : Step). record { step = s; beside = (reading_of loop o).beside }) (step_is (step_of loop o) d e)

module _ (loop : List ℕ) (fits : length loop ≤ 4076) where
  words_at : (o : ℕ) (t : List ℕ) → At loop o t → AllBytes t → words_made_at loop (listed loop o) ≡ made (run_of loop (listed loop o))
  words_at o t a all =
      let b = back_at loop o t a all in
      let d = b.read in
      let id = (step_of loop o).identifier in
      let side = (reading_of loop o).beside in
      let types : TypedBeside id side = subst (λ (i : List ℕ). TypedBeside i side) (sym (identifier_is loop o t a)) (subst (TypedBeside (full_in t).identifier) (sym (beside_is loop o t a)) (full_typed t all (said t a.canon).0)) in
      let typed = written_typed id side loop d t all b.places b.writes in
      ap₂ (λ (s : Step) (r : Reading). descriptor_words_made (step_words (flat_step s)) (beside_words (flat_beside r)) loop) (step_is (step_of loop o) d b.is) (reading_is_lem loop o d b.is)
      ∙ descriptor_taken d (step_of loop o).next id side loop typed types (omega (arith, fits)) ∙ b.writes ∙ ap made (sym (run_is loop fits o t a))

pub items_again : (s : List ℕ) (x : Section) → AllBytes s → section_of s ≡ Ok x → canonical_section s ≡ true
    → All (λ y. words_made_at (loop_in s x) y ≡ made (run_of (loop_in s x) y)) (items_of (loop_in s x))
items_again s x a e c = each_item s x a e c (words_at (loop_in s x) (loop_short s x e))
