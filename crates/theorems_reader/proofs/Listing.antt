-- The list of a section's identifiers is complete.
use Prim.Native.Nat.{ℕ, ◌+◌}
use mathlib.Core.Bool.{cond as pick}
use mathlib.Core.List.Memᴰ
use mathlib.Core.List.{List, [], ◌∷◌, ◌++◌, map, Memᴰ}
use mathlib.Core.Path.{◌≡◌, refl, subst}
use lib.Dec.{eqb}
use borrow.Author.Tests.{eq-eqb, ne_eqb}
use Rattle.command.specs.Command.{of_private}
use Rattle.command.specs.declared.SpliceCommand.{SpliceCommand}
use Rattle.descriptor.specs.Views.{upid_views}
use Rattle.descriptor.specs.declared.Descriptor.{Descriptor}
use Rattle.descriptor.specs.declared.segmentation.SegmentationDescriptor.{SegmentationDescriptor}
use Rattle.descriptor.specs.declared.segmentation.DescriptorDetail.{DescriptorDetail}
use Rattle.descriptor.specs.declared.segmentation.SegmentationDetail.{SegmentationDetail}
use Rattle.descriptor.specs.declared.segmentation.SegmentationUpid.{SegmentationUpid}
use Rattle.descriptor_loop.specs.Items.{Listed, items_of}
use Rattle.descriptor_loop.specs.Place.{views_of}
use Rattle.descriptor_loop.specs.declared.ItemRefusal.{ItemRefusal}
use Rattle.section.specs.declared.Section.{Section}
use Rattle.table.specs.Lent.{viewed}
use Rattle.upid.specs.Cover.{All, none, more}
use Rattle.upid.specs.Upid.{part_view}
use Rattle.upid.specs.declared.Part.{Part}
use Rattle.upid.specs.declared.Refusal.{Refusal}
use Rattle.theorems_reader.specs.Identifiers.{Identifier, in_section, in_lent, upids_of, parts_of, parts_read, eidr_of, besides_of, each, identifiers_of_item, identifiers_of}
use Rattle.section.specs.Section.{loop_in}
use Rattle.theorems_reader.specs.Listing.{ListsUpid, ListsItem, ListsCommand}
use Rattle.std.proofs.Common.{Ok, Err, Some, Option, Result}

module _ (ids : List Identifier) where
  -- all of a list are among the identifiers
  abbrev Into : List Identifier → Type 0
  Into l = (i : Identifier) → Memᴰ i l → Memᴰ i ids

  into_left : (l r : List Identifier) → Into (l ++ r) → Into l
  into_left l r f i m = f i (Memᴰ.append_left r m)

  into_right : (l r : List Identifier) → Into (l ++ r) → Into r
  into_right l r f i m = f i (Memᴰ.append_right l m)

  into_first : (i : Identifier) (l : List Identifier) → Into (i ∷ l) → Memᴰ i ids
  into_first i l f = f i (Memᴰ.head refl)

  map_lists : {A : Type 0} (f : A → Identifier) (xs : List A) → Into (map f xs) → All (λ (x : A). Memᴰ (f x) ids) xs
  map_lists f [] g = none
  map_lists f (x ∷ xs) g = more (into_first (f x) (map f xs) g) (map_lists f xs (λ i m. g i (Memᴰ.tail m)))

  each_lists : {A : Type 0} {P : A → Type 0} (f : A → List Identifier) → ((x : A) → Into (f x) → P x) → (xs : List A) → Into (each f xs) → All P xs
  each_lists f h [] g = none
  each_lists f h (x ∷ xs) g = more (h x (into_left (f x) (each f xs) g)) (each_lists f h xs (into_right (f x) (each f xs) g))

  module _ (base : ℕ) (loop : List ℕ) (y : Listed) where
    abbrev of_upid : SegmentationUpid → List Identifier
    of_upid u = parts_of base loop u ++ pick (eqb u.upid_type 10) (eidr_of base loop y ∷ []) []

    abbrev of_item : Option (Result Descriptor ItemRefusal) → List Identifier
    of_item it = map (in_lent base loop) (views_of it) ++ (each of_upid (upids_of it) ++ besides_of base y.offset y.step.identifier it)

    upid_lists : (u : SegmentationUpid) → Into (map (in_lent base loop) (upid_views u)) → Into (of_upid u) → ListsUpid ids base loop y u
    upid_lists u f g =
        record {
          view = λ none ten. into_first (in_lent base loop u.bytes) [] (rw (ne_eqb u.upid_type 0 none, ne_eqb u.upid_type 10 ten) at f);
          eidr = λ ten. into_first (eidr_of base loop y) [] (rw (eq-eqb u.upid_type 10 ten) at (into_right (parts_of base loop u) (pick (eqb u.upid_type 10) (eidr_of base loop y ∷ []) []) g));
          parts = map_lists (λ (p : Part). in_lent (base + u.bytes.at) (viewed loop u.bytes) (part_view p)) (parts_read u.upid_type (viewed loop u.bytes)) (into_left (parts_of base loop u) _ g);
        }

    detail_lists : (x : SegmentationDescriptor) (i : SegmentationDetail) → x.descriptor_detail ≡ DescriptorDetail.Active i → Into (of_item (Some (Ok (Descriptor.Segmentation x))))
        → ListsUpid ids base loop y i.segmentation_upid
    detail_lists x i e f =
        let g = rw e at f in
        upid_lists i.segmentation_upid
        (into_left (map (in_lent base loop) (upid_views i.segmentation_upid)) _ g)
        (into_left (of_upid i.segmentation_upid) [] (into_left (each of_upid (i.segmentation_upid ∷ [])) [] (into_right (map (in_lent base loop) (upid_views i.segmentation_upid)) _ g)))

    item_lists : Into (of_item y.step.item) → ListsItem ids base loop y
    item_lists f =
        record {
          dtmf = λ d e. into_first (in_lent base loop d.dtmf_chars) _ (seen (Some (Ok (Descriptor.Dtmf d))) e);
          upid = λ d i e g. detail_lists d i g (seen (Some (Ok (Descriptor.Segmentation d))) e);
          reserved = λ tag v e.
              let g : Into (of_item (Some (Ok (Descriptor.Reserved tag v)))) = seen (Some (Ok (Descriptor.Reserved tag v))) e in
              (into_first (in_lent base loop v) _ g, into_first _ [] (λ i m. g i (Memᴰ.tail m)));
          text = λ k v e. into_first (in_lent base loop v) _ (seen (Some (Err (ItemRefusal.Other (Refusal.InvalidUpidContent k v)))) e);
        }
      where
        seen : (it : Option (Result Descriptor ItemRefusal)) → y.step.item ≡ it → Into (of_item it)
        seen it e = subst (λ (z : Option (Result Descriptor ItemRefusal)). Into (of_item z)) e f

-- ---- of a section

command_lists : (ids : List Identifier) (s : List ℕ) (c : SpliceCommand) → Into ids (of_private (λ p. in_section s p.private_bytes ∷ []) [] c) → ListsCommand ids s c
command_lists ids s c f p e =
    into_first ids (in_section s p.private_bytes) [] (subst (λ (d : SpliceCommand). Into ids (of_private (λ p. in_section s p.private_bytes ∷ []) [] d)) e f)

module _ (s : List ℕ) (x : Section) where
  abbrev own : List Identifier
  own = of_private (λ p. in_section s p.private_bytes ∷ []) [] x.command

  pub lists_command : ListsCommand (identifiers_of s x) s x.command
  unfolding identifiers_of
  lists_command = command_lists (identifiers_of s x) s x.command (into_left (identifiers_of s x) own _ (λ i m. m))

  pub lists_items : All (ListsItem (identifiers_of s x) x.descriptors.at (loop_in s x)) (items_of (loop_in s x))
  unfolding identifiers_of
  lists_items =
      each_lists (identifiers_of s x) (identifiers_of_item x.descriptors.at (loop_in s x))
      (λ y f. item_lists (identifiers_of s x) x.descriptors.at (loop_in s x) y f) (items_of (loop_in s x))
      (into_right (identifiers_of s x) own (each (identifiers_of_item x.descriptors.at (loop_in s x)) (items_of (loop_in s x))) (λ i m. m))
