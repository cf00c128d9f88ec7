-- What a table makes depends only on what its fields hold.
--     same_make       fields that hold the same make the same bytes
--     active_makes    of an active segmentation: only its UPID's fields have a view
--     upid_found      of an active segmentation that reads back: the UPID's bytes
use Prim.Native.Nat.{ℕ, ◌^◌}
use mathlib.Core.Bool.{Bool, true, false, ◌&&◌}
use mathlib.Core.List.{List, [], ◌∷◌, ◌++◌}
use mathlib.Core.Path.{◌≡◌, refl, ap, ap₂, sym, ◌∙◌}
use lib.Dec.{ltb}
use lib.ListN.{length, take, drop}
use Rattle.table.specs.Bits.{bytes_of}
use Rattle.table.specs.Writing.{Field, bits, run, rest, seen, within, Content, number, bytes, count, content, contents, print, made, make_of}
use Rattle.table.proofs.Lists.{zero_one}
use Rattle.table.proofs.Structure as laws
use Rattle.descriptor.specs.declared.segmentation.SegmentationComponent.{SegmentationComponent}
use Rattle.descriptor.specs.declared.segmentation.SegmentationDetail.{SegmentationDetail}
use Rattle.descriptor.specs.declared.segmentation.SegmentationMode.{SegmentationMode}
use Rattle.descriptor.specs.declared.segmentation.SegmentationUpid.{SegmentationUpid}
use Rattle.descriptor_measure.specs.Private.{delivery_fields, components_fields, mode_fields, duration_fields, upid_fields, sub_fields, back_fields}
use Rattle.descriptor_measure.proofs.Fields.{front_fields}
use Rattle.descriptor_measure.proofs.Refusals.{seen_append}
use Rattle.std.proofs.Common.{Some, None, Option}
use Rattle.descriptor.specs.declared.segmentation.DeliveryRestrictions.{DeliveryRestrictions}
use Rattle.descriptor.specs.declared.segmentation.SubSegment.{SubSegment}

-- ---- fields that hold the same

-- refusal 32, by what the fields hold
abbrev fitting : List Content → Bool
fitting [] = true
fitting (number w v ∷ cs) = ltb v (2 ^ w) && fitting cs
fitting (bytes b ∷ cs) = fitting cs
fitting (count m ∷ cs) = fitting cs

within_held : (l : List ℕ) (fs : List Field) → within fs ≡ fitting (contents l fs)
within_held l [] = refl
within_held l (bits w v ∷ fs) = ap (λ (b : Bool). ltb v (2 ^ w) && b) (within_held l fs)
within_held l (run n from ∷ fs) = within_held l fs
within_held l (rest m ∷ fs) = within_held l fs

pub same_make : (writable other : Bool) (l r : List ℕ) (fs gs : List Field) (b : List ℕ) → make_of writable l fs ≡ made b → contents l fs ≡ contents r gs → seen r gs ≡ true → other ≡ true
    → make_of other r gs ≡ made b
same_make writable other l r fs gs b e same s o =
    let w = laws.wrote writable l fs b e in
    let k : within gs ≡ true = within_held r gs ∙ ap fitting (sym same) ∙ sym (within_held l fs) ∙ w.widths in
    rw (s, k, o) (ap (λ (cs : List Content). made (bytes_of (print cs))) (sym same) ∙ ap made (sym w.bytes))

pub and_last : (b : Bool) → b && true ≡ b
and_last true = refl
and_last false = refl

-- ---- fields without a view
abbrev dry : List Field → Bool
dry [] = true
dry (bits w v ∷ fs) = dry fs
dry (run n from ∷ fs) = false
dry (rest m ∷ fs) = dry fs

dry_append : (fs gs : List Field) → dry (fs ++ gs) ≡ dry fs && dry gs
dry_append [] gs = refl
dry_append (bits w v ∷ fs) gs = dry_append fs gs
dry_append (run n from ∷ fs) gs = refl
dry_append (rest m ∷ fs) gs = dry_append fs gs

module _ (l r : List ℕ) where
  dry_seen : (fs : List Field) → dry fs ≡ true → seen l fs ≡ true
  dry_seen [] e = refl
  dry_seen (bits w v ∷ fs) e = dry_seen fs e
  dry_seen (run n from ∷ fs) e = zero_one cc
  dry_seen (rest m ∷ fs) e = dry_seen fs e

  dry_held : (fs : List Field) → dry fs ≡ true → contents l fs ≡ contents r fs
  dry_held [] e = refl
  dry_held (bits w v ∷ fs) e = ap (λ (cs : List Content). number w v ∷ cs) (dry_held fs e)
  dry_held (run n from ∷ fs) e = zero_one cc
  dry_held (rest m ∷ fs) e = ap (λ (cs : List Content). count m ∷ cs) (dry_held fs e)

contents_append : (l : List ℕ) (fs gs : List Field) → contents l (fs ++ gs) ≡ contents l fs ++ contents l gs
contents_append l [] gs = refl
contents_append l (f ∷ fs) gs = ap (λ (cs : List Content). content l f ∷ cs) (contents_append l fs gs)

-- ---- an active segmentation's fields: those before its UPID's and those after have no view

dry_delivery : (d : Option DeliveryRestrictions) → dry (delivery_fields d) ≡ true
dry_delivery None = refl
dry_delivery (Some r) = refl

dry_components : (cs : List SegmentationComponent) → dry (components_fields cs) ≡ true
dry_components [] = refl
dry_components (c ∷ cs) = dry_components cs

dry_mode : (k : SegmentationMode) (cs : List SegmentationComponent) → dry (mode_fields k cs) ≡ true
dry_mode SegmentationMode.Program cs = refl
dry_mode (SegmentationMode.Component n) cs = dry_components cs

dry_duration : (d : Option ℕ) → dry (duration_fields d) ≡ true
dry_duration None = refl
dry_duration (Some t) = refl

dry_sub : (s : Option SubSegment) → dry (sub_fields s) ≡ true
dry_sub None = refl
dry_sub (Some x) = refl

dry_both : (fs gs : List Field) → dry fs ≡ true → dry gs ≡ true → dry (fs ++ gs) ≡ true
dry_both fs gs e f = dry_append fs gs ∙ rw e f

dry_front : (event : ℕ) (i : SegmentationDetail) (cs : List SegmentationComponent) → dry (front_fields event i cs) ≡ true
dry_front event i cs =
    dry_both (delivery_fields i.delivery_restrictions) _ (dry_delivery i.delivery_restrictions)
    (dry_both (mode_fields i.segmentation_mode cs) (duration_fields i.segmentation_duration) (dry_mode i.segmentation_mode cs) (dry_duration i.segmentation_duration))

-- the fields of an active segmentation with a UPID
abbrev pub with_upid : ℕ → SegmentationDetail → List SegmentationComponent → SegmentationUpid → List Field
with_upid event i cs u = front_fields event i cs ++ (upid_fields u ++ back_fields i)

module _ (event : ℕ) (i : SegmentationDetail) (cs : List SegmentationComponent) where
  split_held : (l : List ℕ) (u : SegmentationUpid) → contents l (with_upid event i cs u) ≡ contents l (front_fields event i cs) ++ (contents l (upid_fields u) ++ contents l (back_fields i))
  split_held l u =
      contents_append l (front_fields event i cs) (upid_fields u ++ back_fields i)
      ∙ ap (λ (k : List Content). contents l (front_fields event i cs) ++ k) (contents_append l (upid_fields u) (back_fields i))

  -- only the UPID's fields have a view
  pub active_seen : (l : List ℕ) (u : SegmentationUpid) → seen l (with_upid event i cs u) ≡ seen l (upid_fields u)
  active_seen l u =
      seen_append l (front_fields event i cs) (upid_fields u ++ back_fields i)
      ∙ rw (dry_seen l l (front_fields event i cs) (dry_front event i cs))
      (seen_append l (upid_fields u) (back_fields i) ∙ rw (dry_seen l l (back_fields i) (dry_sub i.sub_segments)) (and_last (seen l (upid_fields u))))

  -- the same with another UPID, that holds the same
  pub active_makes : (writable other : Bool) (l r : List ℕ) (u v : SegmentationUpid) (b : List ℕ) → make_of writable l (with_upid event i cs u) ≡ made b
      → contents l (upid_fields u) ≡ contents r (upid_fields v) → seen r (upid_fields v) ≡ true → other ≡ true → make_of other r (with_upid event i cs v) ≡ made b
  active_makes writable other l r u v b e same s o =
      let held : contents l (with_upid event i cs u) ≡ contents r (with_upid event i cs v) =
      split_held l u
      ∙ ap₂ (λ (p q : List Content). p ++ q) (dry_held l r (front_fields event i cs) (dry_front event i cs))
      (ap₂ (λ (p q : List Content). p ++ q) same (dry_held l r (back_fields i) (dry_sub i.sub_segments)))
      ∙ sym (split_held r v) in
      same_make writable other l r (with_upid event i cs u) (with_upid event i cs v) b e held (active_seen r v ∙ s) o

  -- what is after the first fields
  past_first : (l : List ℕ) (fs gs : List Field) → drop (length fs) (contents l (fs ++ gs)) ≡ contents l gs
  past_first l [] gs = refl
  past_first l (f ∷ fs) gs = past_first l fs gs

  third : List Content → List ℕ
  third [] = []
  third (a ∷ []) = []
  third (a ∷ (b ∷ [])) = []
  third (a ∷ (b ∷ (number w v ∷ cs))) = []
  third (a ∷ (b ∷ (bytes x ∷ cs))) = x
  third (a ∷ (b ∷ (count m ∷ cs))) = []

  -- the UPIDs of two active segmentations that hold the same have the same bytes
  pub upid_found : (l r : List ℕ) (u v : SegmentationUpid) → contents l (with_upid event i cs u) ≡ contents r (with_upid event i cs v)
      → take u.bytes.len (drop u.bytes.at l) ≡ take v.bytes.len (drop v.bytes.at r)
  unfolding third
  upid_found l r u v e =
      let fs = front_fields event i cs in
      ap third (sym (past_first l fs (upid_fields u ++ back_fields i)) ∙ ap (drop (length fs)) e ∙ past_first r fs (upid_fields v ++ back_fields i))
