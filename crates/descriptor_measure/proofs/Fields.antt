-- The fields that a segmentation descriptor's table has of what is written, part by part.
--     fields_are     they are those of specs/Parts.antt
--     active_fields  the same of an active segmentation with any UPID, cut at the UPID
use Prim.Native.Nat.{ℕ, ◌+◌}
use mathlib.Core.Bool.{Bool, true, false}
use mathlib.Core.List.{List, [], ◌∷◌, ◌++◌, append_assoc}
use mathlib.Core.Path.{◌≡◌, refl, ap, ap₂, ◌∙◌}
use lib.Dec.{eqb}
use lib.ListN.{length, get_or, drop}
use Rattle.names.specs.Segmentation.{segmentation_number}
use Rattle.table.specs.Table.{Table, inside, flag_number, number, bit, reserved, part, remaining, list, flag}
use Rattle.table.specs.Writing.{Field, bits, Walk, walk}
use Rattle.table.proofs.Lists.{append_nil}
use Rattle.table.proofs.Walks.{past, walk_inside}
use Rattle.descriptor.specs.Segmentation.{delivery_restrictions, blank_component, component, count_of, Moded, mode, duration, written_upid, ListedFront, parts, front, sub_segments, back, head, front_of, back_of, with_upid, Segmentation, segmentation, by_program, lasting, unrestricted}
use Rattle.descriptor.specs.declared.segmentation.SegmentationComponent.{SegmentationComponent}
use Rattle.descriptor.specs.declared.segmentation.DescriptorDetail.{DescriptorDetail}
use Rattle.descriptor.specs.declared.segmentation.DescriptorDetail.TheVariants.{Cancel, Active}
use Rattle.descriptor.specs.declared.segmentation.SegmentationDetail.{SegmentationDetail}
use Rattle.descriptor.specs.declared.segmentation.SegmentationMode.{SegmentationMode}
use Rattle.descriptor.specs.declared.segmentation.SegmentationUpid.{SegmentationUpid}
use Rattle.descriptor_measure.specs.Private.{delivery_fields, component_fields, components_fields, mode_fields, duration_fields, upid_fields, sub_fields, back_fields, flag_fields, head_fields, segment_fields}
use Rattle.descriptor_measure.specs.Writing as writing
use Rattle.descriptor_measure.specs.Writing.{written_detail}
use Rattle.std.proofs.Common.{Some, None, Option}
use Rattle.descriptor.specs.declared.segmentation.DeliveryRestrictions.{DeliveryRestrictions}
use Rattle.descriptor.specs.declared.segmentation.SubSegment.{SubSegment}

-- the fields of a table inside another, and then those of the outer one
in_fields : {X Y : Type 0} (t : Table Y) (q : X → Y) (k : Y → Table X) (x : X) (at : ℕ) (fs gs : List Field) → (walk t (q x) at).fields ≡ fs
    → (walk (k (walk t (q x) at).value) x (past (walk t (q x) at).fields at)).fields ≡ gs → (walk (inside t q k) x at).fields ≡ fs ++ gs
in_fields {X} t q k x at fs gs e f = ap (λ (w : Walk X). w.fields) (walk_inside t q k x at) ∙ ap₂ ◌++◌ e f

delivery_fields_lem : (x : Option DeliveryRestrictions) (at : ℕ) → (walk (delivery_restrictions (unrestricted x)) x at).fields ≡ delivery_fields x
unfolding delivery_restrictions number bit reserved
delivery_fields_lem None at = refl
delivery_fields_lem (Some r) at = refl

component_fields_lem : (x : SegmentationComponent) (at : ℕ) → (walk component x at).fields ≡ component_fields x
unfolding component number reserved
component_fields_lem x at = refl

list_fields_lem : (cs : List SegmentationComponent) (at : ℕ) → (walk (list (length cs) blank_component component) cs at).fields ≡ components_fields cs
unfolding list
list_fields_lem [] at = refl
list_fields_lem (c ∷ cs) at =
    in_fields component (λ ys. get_or ys 0 blank_component) _ (c ∷ cs) at (component_fields c) (components_fields cs) (component_fields_lem c at)
    (in_fields (list (length cs) blank_component component) (drop 1) _ (c ∷ cs) _ (components_fields cs) [] (list_fields_lem cs _) refl ∙ append_nil (components_fields cs))

mode_fields_lem : (k : SegmentationMode) (cs : List SegmentationComponent) (at : ℕ) → length cs ≡ count_of k
    → (walk (mode (by_program k)) (record { mode = k; components = cs }) at).fields ≡ mode_fields k cs
unfolding mode number
mode_fields_lem SegmentationMode.Program cs at e = refl
mode_fields_lem (SegmentationMode.Component n) cs at e =
    ap (λ (l : List Field). bits 8 n ∷ l)
    (rw (← e) (in_fields (list (length cs) blank_component component) (λ (x : Moded). x.components) _ _ (at + 8) (components_fields cs) [] (list_fields_lem cs (at + 8)) refl ∙ append_nil (components_fields cs)))

duration_fields_lem : (x : Option ℕ) (at : ℕ) → (walk (duration (lasting x)) x at).fields ≡ duration_fields x
unfolding duration number
duration_fields_lem None at = refl
duration_fields_lem (Some t) at = refl

upid_fields_lem : (u : SegmentationUpid) (at : ℕ) → (walk written_upid u at).fields ≡ upid_fields u
unfolding written_upid number part
upid_fields_lem u at = refl

sub_fields_lem : (x : Option SubSegment) (at : ℕ) → (walk sub_segments x at).fields ≡ sub_fields x
unfolding sub_segments remaining number
sub_fields_lem None at = refl
sub_fields_lem (Some x) at = refl

-- a flag, and then what follows it
flag_fields_lem : {X : Type 0} (p : X → Bool) (k : Bool → Table X) (x : X) (at : ℕ) (fs : List Field) → (walk (k (p x)) x (at + 1)).fields ≡ fs
    → (walk (flag p k) x at).fields ≡ bits 1 (flag_number (p x)) ∷ fs
unfolding bit
flag_fields_lem p k x at fs e = ap (λ (b : Bool). bits 1 (flag_number (p x)) ∷ (walk (k b) x (at + 1)).fields) (again (p x)) ∙ ap (λ (l : List Field). bits 1 (flag_number (p x)) ∷ l) e
  where
    again : (b : Bool) → eqb (flag_number b) 1 ≡ b
    again true = refl
    again false = refl

module _ (i : SegmentationDetail) (upid : SegmentationUpid) (cs : List SegmentationComponent) (fits : length cs ≡ count_of i.segmentation_mode) where
  abbrev listed : ListedFront
  listed = record { front = front_of (Active (with_upid i upid)); components = cs }

  parts_fields : (at : ℕ) → (walk (parts (by_program i.segmentation_mode) (lasting i.segmentation_duration) (unrestricted i.delivery_restrictions)) listed at).fields
      ≡ delivery_fields i.delivery_restrictions
      ++ (mode_fields i.segmentation_mode cs
      ++ (duration_fields i.segmentation_duration
      ++ (upid_fields upid ++ [])))
  unfolding parts
  parts_fields at =
      in_fields (delivery_restrictions (unrestricted i.delivery_restrictions)) _ _ listed at _ _ (delivery_fields_lem i.delivery_restrictions at)
      (in_fields (mode (by_program i.segmentation_mode)) _ _ listed _ _ _ (mode_fields_lem i.segmentation_mode cs _ fits)
      (in_fields (duration (lasting i.segmentation_duration)) _ _ listed _ _ _ (duration_fields_lem i.segmentation_duration _)
      (in_fields written_upid _ _ listed _ _ _ (upid_fields_lem upid _) refl)))

  front_fields_lem : (at : ℕ) → (walk front listed at).fields
      ≡ flag_fields (by_program i.segmentation_mode) (lasting i.segmentation_duration) (unrestricted i.delivery_restrictions)
      ++ (delivery_fields i.delivery_restrictions
      ++ (mode_fields i.segmentation_mode cs
      ++ (duration_fields i.segmentation_duration
      ++ (upid_fields upid ++ []))))
  unfolding front
  front_fields_lem at =
      flag_fields_lem _ _ listed at _
      (flag_fields_lem _ _ listed (at + 1) _
      (flag_fields_lem _ _ listed (at + 1 + 1) _
      (parts_fields (at + 1 + 1 + 1))))

  back_fields_lem : (at : ℕ) → (walk back (back_of (Active (with_upid i upid))) at).fields ≡ back_fields i
  unfolding back number
  back_fields_lem at =
      ap (λ (l : List Field). bits 8 (segmentation_number i.segmentation_type_id) ∷ (bits 8 i.segment_num ∷ (bits 8 i.segments_expected ∷ l)))
      (in_fields sub_segments _ _ (back_of (Active (with_upid i upid))) (at + 8 + 8 + 8) _ _ (sub_fields_lem i.sub_segments _) refl ∙ append_nil (sub_fields i.sub_segments))

  all_fields : (event : ℕ) → (let x : Segmentation = record { descriptor = record { segmentation_event_id = event; descriptor_detail = Active (with_upid i upid) }; components = cs } in
      (walk segmentation x 0).fields
      ≡ head_fields event false
      ++ (flag_fields (by_program i.segmentation_mode) (lasting i.segmentation_duration) (unrestricted i.delivery_restrictions)
      ++ (delivery_fields i.delivery_restrictions
      ++ (mode_fields i.segmentation_mode cs
      ++ (duration_fields i.segmentation_duration ++ (upid_fields upid ++ back_fields i))))))
  unfolding segmentation head number bit reserved
  all_fields event =
      let x : Segmentation = record { descriptor = record { segmentation_event_id = event; descriptor_detail = Active (with_upid i upid) }; components = cs } in
      ap (λ (l : List Field). head_fields event false ++ l)
      (in_fields front _ _ x 40 _ _ (front_fields_lem 40) (in_fields back _ _ x _ _ _ (back_fields_lem _) refl ∙ append_nil (back_fields i))
      ∙ simp (append_assoc, append_nil))

-- the fields before the UPID's
abbrev pub front_fields : ℕ → SegmentationDetail → List SegmentationComponent → List Field
front_fields event i cs =
    head_fields event false
    ++ (flag_fields (by_program i.segmentation_mode) (lasting i.segmentation_duration) (unrestricted i.delivery_restrictions)
    ++ (delivery_fields i.delivery_restrictions ++ (mode_fields i.segmentation_mode cs ++ duration_fields i.segmentation_duration)))

pub active_fields_lem : (event : ℕ) (i : SegmentationDetail) (upid : SegmentationUpid) (cs : List SegmentationComponent) → length cs ≡ count_of i.segmentation_mode
    → (let x : Segmentation = record { descriptor = record { segmentation_event_id = event; descriptor_detail = Active (with_upid i upid) }; components = cs } in
    (walk segmentation x 0).fields ≡ front_fields event i cs ++ (upid_fields upid ++ back_fields i))
active_fields_lem event i upid cs e = all_fields i upid cs e event ∙ simp append_assoc

pub fields_are : (event : ℕ) (d : DescriptorDetail) (cs : List SegmentationComponent) → length cs ≡ count_of (front_of d).segmentation_mode
    → (let x : Segmentation = record { descriptor = record { segmentation_event_id = event; descriptor_detail = written_detail d }; components = cs } in
    (walk segmentation x 0).fields ≡ segment_fields event d cs)
unfolding segmentation segment_fields head number bit reserved
fields_are event Cancel cs e = refl
fields_are event (Active i) cs e = all_fields i (writing.written_upid i.segmentation_upid) cs e event
