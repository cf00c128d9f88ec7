-- Laws of views that are moved.
--     all_first, all_into, all_map    what holds of all of a list
--     upid_none .. text_first         the answers of the functions that move
--     item_views                      the views of an item are those of its payload's reading, moved
use Prim.Native.Nat.{ℕ, ◌+◌, ◌^◌, ◌<◌}
use mathlib.Core.Bool.{Bool, true, false, cond as pick}
use mathlib.Core.List.{List, [], ◌∷◌, map}
use mathlib.Core.Path.{◌≡◌, refl, ap, sym}
use borrow.Author.Tests.{eq-eqb, ne_eqb}
use Rattle.table.specs.Lent.{shifted}
use Rattle.table.specs.declared.View.{View}
use Rattle.upid.specs.Cover.{All, none, more}
use Rattle.upid.specs.declared.Refusal.{Refusal}
use Rattle.upid.specs.declared.Refusal.TheVariants.{InputTooLong, NotEnoughData, UpidLengthTypeMismatch, InvalidUpidContent, InvalidUpidLength}
use Rattle.descriptor.specs.Descriptor.{moved_refusal}
use Rattle.descriptor.specs.Views.{without_view, upid_views, detail_views, descriptor_views, refusal_views}
use Rattle.descriptor.specs.Private.{read_views}
use Rattle.descriptor.specs.declared.Descriptor.{Descriptor}
use Rattle.descriptor.specs.declared.Descriptor.TheVariants.{Avail, Dtmf, Segmentation, Time, Reserved}
use Rattle.descriptor.specs.declared.segmentation.DescriptorDetail.{DescriptorDetail}
use Rattle.descriptor.specs.declared.segmentation.DescriptorDetail.TheVariants.{Cancel, Active}
use Rattle.descriptor.specs.declared.plain.DTMFDescriptor.{DTMFDescriptor}
use Rattle.descriptor.specs.declared.segmentation.SegmentationDescriptor.{SegmentationDescriptor}
use Rattle.descriptor.specs.declared.segmentation.SegmentationDetail.{SegmentationDetail}
use Rattle.descriptor.specs.declared.segmentation.SegmentationUpid.{SegmentationUpid}
use Rattle.descriptor.specs.Segmentation.{with_upid}
use Rattle.descriptor_loop.specs.Place.{views_of, moved_upid, moved_descriptor}
use Rattle.descriptor_loop.specs.Private.{Movable, moved_active, moved_detail}
use Rattle.descriptor_loop.specs.Items.{item_at}
use Rattle.std.proofs.Common.{Ok, Err, Result}

module _ {A : Type 0} {P : A → Type 0} where
  pub all_first : {x : A} {xs : List A} → All P (x ∷ xs) → P x
  all_first (more p ps) = p

  pub all_into : {Q : A → Type 0} {xs : List A} → ((x : A) → P x → Q x) → All P xs → All Q xs
  all_into f none = none
  all_into f (more {x = x} p ps) = more (f x p) (all_into f ps)

  pub all_map : {B : Type 0} (f : B → A) {xs : List B} → All (λ (x : B). P (f x)) xs → All P (map f xs)
  all_map f none = none
  all_map f (more p ps) = more p (all_map f ps)

pub upid_view : (u : SegmentationUpid) → (u.upid_type ≡ 0 → ⊥) → (u.upid_type ≡ 10 → ⊥) → upid_views u ≡ u.bytes ∷ []
upid_view u some plain = rw (ne_eqb _ _ some, ne_eqb _ _ plain)

-- ---- the answers of the functions that move

module _ (base : ℕ) (u : SegmentationUpid) where
  pub upid_none : u.upid_type ≡ 0 → u ≡ moved_upid base u
  upid_none h = rw (eq-eqb _ _ h)

  module _ (some : u.upid_type ≡ 0 → ⊥) where
    pub upid_eidr : u.upid_type ≡ 10 → u ≡ moved_upid base u
    upid_eidr h = rw (ne_eqb _ _ some, eq-eqb _ _ h)

    module _ (plain : u.upid_type ≡ 10 → ⊥) where
      pub upid_first : Movable base (upid_views u) → base + u.bytes.at < 2 ^ 64
      upid_first m = all_first (rw (upid_view u some plain) at m)

      pub upid_there : (v : View) → v ≡ shifted base u.bytes → ◌≡◌ {A = SegmentationUpid} (record { upid_type = u.upid_type; bytes = v }) (moved_upid base u)
      upid_there v e = rw (ne_eqb _ _ some, ne_eqb _ _ plain, e)

pub active_there : (base : ℕ) (i : SegmentationDetail) (u : SegmentationUpid) → u ≡ moved_upid base i.segmentation_upid → with_upid i u ≡ moved_active base i
active_there base i u e = rw e

module _ (base : ℕ) (d : Descriptor) where
  pub dtmf_first : (x : DTMFDescriptor) → d ≡ Dtmf x → Movable base (descriptor_views d) → base + x.dtmf_chars.at < 2 ^ 64
  dtmf_first x e m = all_first (rw e at m)

  pub private_first : (tag : ℕ) (v : View) → d ≡ Reserved tag v → Movable base (descriptor_views d) → base + v.at < 2 ^ 64
  private_first tag v e m = all_first (rw e at m)

  pub active_all : (s : SegmentationDescriptor) (i : SegmentationDetail) → d ≡ Segmentation s → s.descriptor_detail ≡ Active i
      → Movable base (descriptor_views d) → Movable base (upid_views i.segmentation_upid)
  active_all s i e f m = let n : Movable base (detail_views s.descriptor_detail) = rw e at m in rw f at n

  pub cancel_stays : (s : SegmentationDescriptor) → d ≡ Segmentation s → s.descriptor_detail ≡ Cancel → Segmentation s ≡ moved_descriptor base d
  cancel_stays s e f =
      let g : moved_detail base s.descriptor_detail ≡ s.descriptor_detail = rw f in
      rw e (ap (λ (x : DescriptorDetail). Segmentation (record { segmentation_event_id = s.segmentation_event_id; descriptor_detail = x })) (sym g))

  pub active_moves : (s : SegmentationDescriptor) (i j : SegmentationDetail) → d ≡ Segmentation s → s.descriptor_detail ≡ Active i → j ≡ moved_active base i
      → Segmentation (record { segmentation_event_id = s.segmentation_event_id; descriptor_detail = Active j }) ≡ moved_descriptor base d
  active_moves s i j e f g = rw (e, f, g)

pub text_first : (base : ℕ) (r : Refusal) (upid_type_number : ℕ) (v : View) → r ≡ InvalidUpidContent upid_type_number v → Movable base (refusal_views r) → base + v.at < 2 ^ 64
text_first base r upid_type_number v e m = all_first (rw e at m)

-- ---- the views of what is moved

by_test : (t : Bool) (base : ℕ) (u : SegmentationUpid)
    → let there : SegmentationUpid = pick t u (record { upid_type = u.upid_type; bytes = shifted base u.bytes }) in
    pick t [] (there.bytes ∷ []) ≡ map (shifted base) (pick t [] (u.bytes ∷ []))
by_test true base u = refl
by_test false base u = refl

same_type : (t : Bool) (base : ℕ) (u : SegmentationUpid) → (let there : SegmentationUpid = pick t u (record { upid_type = u.upid_type; bytes = shifted base u.bytes }) in there.upid_type) ≡ u.upid_type
same_type true base u = refl
same_type false base u = refl

upid_views_lem : (base : ℕ) (u : SegmentationUpid) → upid_views (moved_upid base u) ≡ map (shifted base) (upid_views u)
upid_views_lem base u =
    let t : Bool = without_view u.upid_type in
    rw (same_type t base u) (by_test t base u)

detail_views_lem : (base : ℕ) (d : DescriptorDetail) → detail_views (moved_detail base d) ≡ map (shifted base) (detail_views d)
detail_views_lem base Cancel = refl
detail_views_lem base (Active i) = upid_views_lem base i.segmentation_upid

descriptor_views_lem : (base : ℕ) (d : Descriptor) → descriptor_views (moved_descriptor base d) ≡ map (shifted base) (descriptor_views d)
descriptor_views_lem base (Avail x) = refl
descriptor_views_lem base (Dtmf x) = refl
descriptor_views_lem base (Segmentation x) = detail_views_lem base x.descriptor_detail
descriptor_views_lem base (Time x) = refl
descriptor_views_lem base (Reserved tag bytes) = refl

refusal_views_lem : (base : ℕ) (r : Refusal) → refusal_views (moved_refusal base r) ≡ map (shifted base) (refusal_views r)
refusal_views_lem base InputTooLong = refl
refusal_views_lem base (NotEnoughData expected actual) = refl
refusal_views_lem base UpidLengthTypeMismatch = refl
refusal_views_lem base (InvalidUpidContent upid_type_number bytes) = refl
refusal_views_lem base (InvalidUpidLength upid_type_number expected actual) = refl

-- the views of an item are those of its payload's reading, moved
pub item_views : (base : ℕ) (d : Result Descriptor Refusal) → views_of (item_at base d) ≡ map (shifted base) (read_views d)
item_views base (Ok d) = descriptor_views_lem base d
item_views base (Err r) = refusal_views_lem base r

pub type_stays : (base : ℕ) (u : SegmentationUpid) → (moved_upid base u).upid_type ≡ u.upid_type
type_stays base u = go (without_view u.upid_type)
  where
    go : (t : Bool) → (let there : SegmentationUpid = pick t u (record { upid_type = u.upid_type; bytes = shifted base u.bytes }) in there.upid_type) ≡ u.upid_type
    go true = refl
    go false = refl
