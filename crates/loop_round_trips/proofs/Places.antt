-- A descriptor whose payload lies in a loop: the same with its view counted from the loop's first byte.
--     run_of_run       a run of a run
--     moved_values, moved_count, moved_view, moved_bytes
use Prim.Native.Nat.{ℕ, ◌+◌, ◌≤◌}
use mathlib.Core.Bool.{Bool, true, false, cond as pick}
use mathlib.Core.List.{List, ◌∷◌, map}
use mathlib.Core.Path.{◌≡◌, refl, ap, ap₂, sym, ◌∙◌}
use native.Mathlib.Omega.{arith}
use lib.ListN.{length, take, drop, length-take, length-drop}
use Rattle.table.specs.Lent.{viewed, shifted}
use Rattle.table.specs.declared.View.{View}
use Rattle.upid.specs.Cover.{All, none, more}
use Rattle.descriptor.specs.Segmentation.{count_of, front_of}
use Rattle.descriptor.specs.Views.{without_view, descriptor_views, with_upids}
use Rattle.descriptor.specs.declared.Descriptor.{Descriptor}
use Rattle.descriptor.specs.declared.Descriptor.TheVariants.{Avail, Dtmf, Segmentation, Time, Reserved}
use Rattle.descriptor.specs.declared.segmentation.DescriptorDetail.{DescriptorDetail}
use Rattle.descriptor.specs.declared.segmentation.DescriptorDetail.TheVariants.{Cancel, Active}
use Rattle.descriptor.specs.declared.segmentation.SegmentationUpid.{SegmentationUpid}
use Rattle.canonical_form.specs.Same.{without_places, bytes_of_views, placeless_upid}
use Rattle.descriptor_measure.specs.Writing.{count_beside}
use Rattle.descriptor_round_trips.specs.Making.{view_in}
use Rattle.descriptor_round_trips.proofs.Alike.{SameView, DetailTold, NoneTold, by_bytes, both_none, no_views, detail_view}
use Rattle.descriptor_round_trips.proofs.PlainLaws.{viewed_at}
use Rattle.descriptor_loop.specs.Place.{moved_upid, moved_descriptor}
use Rattle.descriptor_loop.proofs.Places.{item_views}
use Rattle.descriptor_loop.specs.Private.{moved_detail}
use Rattle.table.proofs.Lists.{run_of_run}
use Rattle.std.proofs.Common.{Ok}

-- ---- values and counts

upid_values : (base : ℕ) (u : SegmentationUpid) → placeless_upid (moved_upid base u) ≡ placeless_upid u
upid_values base u = go (without_view u.upid_type)
  where
    go : (t : Bool) → (let there : SegmentationUpid = pick t u (record { upid_type = u.upid_type; bytes = shifted base u.bytes }) in placeless_upid there) ≡ placeless_upid u
    go true = refl
    go false = refl

detail_values : (base : ℕ) (d : DescriptorDetail) → with_upids placeless_upid (moved_detail base d) ≡ with_upids placeless_upid d
detail_values base Cancel = refl
detail_values base (Active i) = rw (upid_values base i.segmentation_upid)

pub moved_values : (base : ℕ) (d : Descriptor) → without_places (moved_descriptor base d) ≡ without_places d
moved_values base (Avail x) = refl
moved_values base (Dtmf x) = refl
moved_values base (Segmentation x) = ap (λ (d : DescriptorDetail). Segmentation (record { segmentation_event_id = x.segmentation_event_id; descriptor_detail = d })) (detail_values base x.descriptor_detail)
moved_values base (Time x) = refl
moved_values base (Reserved tag v) = refl

detail_count_lem : (base : ℕ) (d : DescriptorDetail) → count_of (front_of (moved_detail base d)).segmentation_mode ≡ count_of (front_of d).segmentation_mode
detail_count_lem base Cancel = refl
detail_count_lem base (Active i) = refl

pub moved_count : (base : ℕ) (d : Descriptor) → count_beside (moved_descriptor base d) ≡ count_beside d
moved_count base (Avail x) = refl
moved_count base (Dtmf x) = refl
moved_count base (Segmentation x) = detail_count_lem base x.descriptor_detail
moved_count base (Time x) = refl
moved_count base (Reserved tag v) = refl

-- ---- views

module _ (loop : List ℕ) (base n : ℕ) (there : base + n ≤ length loop) where
  abbrev payload : List ℕ
  payload = take n (drop base loop)

  payload_size_lem : length payload ≡ n
  payload_size_lem = omega (arith, length-take n (drop base loop), length-drop base loop)

  pub viewed_there : (v : View) → v.at + v.len ≤ length payload → viewed payload v ≡ viewed loop (shifted base v)
  viewed_there v h =
      let z = payload_size_lem in
      viewed_at payload v.at v.len h ∙ run_of_run loop base n v.at v.len (omega arith) ∙ sym (viewed_at loop (base + v.at) v.len (omega arith))

  same_there : (v : View) → v.at + v.len ≤ length payload → SameView payload v loop (shifted base v)
  same_there v h = let z = payload_size_lem in by_bytes payload v loop (shifted base v) h (omega arith) (viewed_there v h)

  detail_view_lem : (d : DescriptorDetail) → ((detail_view d).at + (detail_view d).len ≤ length payload) × DetailTold d → SameView payload (detail_view d) loop (detail_view (moved_detail base d))
  detail_view_lem Cancel f = no_views payload loop
  detail_view_lem (Active i) f = go i.segmentation_upid (without_view i.segmentation_upid.upid_type) refl f.0 f.1
    where
      go : (u : SegmentationUpid) (t : Bool) → without_view u.upid_type ≡ t → u.bytes.at + u.bytes.len ≤ length payload → (without_view u.upid_type ≡ true → u.bytes.len ≡ 0)
          → SameView payload u.bytes loop (let there : SegmentationUpid = pick t u (record { upid_type = u.upid_type; bytes = shifted base u.bytes }) in there.bytes)
      go u true t h blank = let z = payload_size_lem in both_none payload u.bytes loop u.bytes h (omega arith) (blank t) (blank t)
      go u false t h blank = same_there u.bytes h

  pub moved_view : (d : Descriptor) → ((view_in d).at + (view_in d).len ≤ length payload) × NoneTold d → SameView payload (view_in d) loop (view_in (moved_descriptor base d))
  moved_view (Avail x) f = no_views payload loop
  moved_view (Dtmf x) f = same_there x.dtmf_chars f.0
  moved_view (Segmentation x) f = detail_view_lem x.descriptor_detail f
  moved_view (Time x) f = no_views payload loop
  moved_view (Reserved tag v) f = same_there v f.0

  views_there : {vs : List View} → All (λ (v : View). v.at + v.len ≤ length payload) vs → bytes_of_views loop (map (shifted base) vs) ≡ bytes_of_views payload vs
  views_there none = refl
  views_there (more {x = v} h hs) = ap₂ (λ (b : List ℕ) (bs : List (List ℕ)). b ∷ bs) (sym (viewed_there v h)) (views_there hs)

  pub moved_bytes : (d : Descriptor) → All (λ (v : View). v.at + v.len ≤ length payload) (descriptor_views d)
      → bytes_of_views loop (descriptor_views (moved_descriptor base d)) ≡ bytes_of_views payload (descriptor_views d)
  moved_bytes d h = ap (bytes_of_views loop) (item_views base (Ok d)) ∙ views_there h
