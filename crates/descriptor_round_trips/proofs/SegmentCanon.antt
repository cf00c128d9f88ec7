-- A segmentation descriptor: a canonical payload is what is written of its own reading.
--     segmentation_counted      as many components as the count says
--     segmentation_payload_read_write        the payload
use Prim.Native.Nat.{ℕ, zero, suc, ◌+◌, ◌*◌, ◌-◌, ◌≤◌}
use mathlib.Core.Bool.{Bool, true, false, ◌&&◌}
use mathlib.Core.List.{List, [], ◌∷◌}
use mathlib.Core.Path.{◌≡◌, refl, ap, ap₂, sym, subst, ◌∙◌}
use native.Mathlib.Omega.{arith}
use lib.Dec.{leb, eqb}
use lib.ListN.{length, take, drop, replicate, length-append}
use lib.Seq.{take_all}
use borrow.Author.Tests.{eqb-true, eqb-false, ne_eqb, le-leb, leb-true}
use Rattle.table.specs.Bits.{pick, bits_of, AllBytes}
use Rattle.table.specs.Lent.{viewed}
use Rattle.table.specs.Table.{Table, inside, bit, list, Answer, got, short, parse, canonical_by}
use Rattle.table.specs.Table as fields
use Rattle.table.specs.Writing.{walk, seen, contents, number, bytes, made, make_of, make}
use Rattle.table.proofs.Lists.{zero_one, and_true}
use Rattle.table.proofs.Steps.{onward, parse_inside}
use Rattle.table.proofs.Structure as laws
use Rattle.upid.specs.Upid.{check_of, eidr_of, length_of, reported_of}
use Rattle.upid.proofs.Walks.{check_short}
use Rattle.descriptor.specs.Descriptor.{reported_upid, if_fine, segmentation_of}
use Rattle.descriptor.specs.Segmentation as table
use Rattle.descriptor.specs.Segmentation.{component, blank_component, count_of, Moded, mode, duration, delivery_restrictions, ListedFront, parts, front, Head, head, back, front_of, back_of, writable_detail, writable_front, active_from, segmentation}
use Rattle.descriptor.specs.Full.{filled, beside_in, beside_of}
use Rattle.descriptor.specs.declared.Descriptor.TheVariants.{Segmentation}
use Rattle.descriptor.specs.declared.segmentation.SegmentationComponent.{SegmentationComponent}
use Rattle.descriptor.specs.declared.segmentation.SegmentationDescriptor.{SegmentationDescriptor}
use Rattle.descriptor.specs.declared.segmentation.DescriptorDetail.{DescriptorDetail}
use Rattle.descriptor.specs.declared.segmentation.DescriptorDetail.TheVariants.{Cancel, Active}
use Rattle.descriptor.specs.declared.segmentation.SegmentationDetail.{SegmentationDetail}
use Rattle.descriptor.specs.declared.segmentation.SegmentationUpid.{SegmentationUpid}
use Rattle.descriptor.specs.declared.full.Beside.{Beside}
use Rattle.descriptor.proofs.SegmentationLaws.{Counted}
use Rattle.canonical_form.specs.Descriptor.{canonical_upid, canonical_segmentation, upid_canonical}
use Rattle.descriptor_measure.specs.Private.{upid_fields}
use Rattle.descriptor_measure.specs.Writing.{all_zero, accepts, writable_upid, writable_segment, segmentation_made, upid_in, upid_source, written_type, written_upid}
use Rattle.descriptor_measure.proofs.Fields.{active_fields_lem}
use Rattle.descriptor_round_trips.proofs.PlainLaws.{viewed_at}
use Rattle.descriptor_round_trips.proofs.Remade.{with_upid, active_makes, active_seen}
use Rattle.upid.proofs.Reported.{check_none, reports, eidr_is_written}
use Rattle.descriptor_round_trips.proofs.SegmentBack.{viewed_length, viewed_none, counted_again}
use Rattle.descriptor_round_trips.proofs.SegmentRead.{after, segmentation_read}
use Rattle.descriptor_round_trips.proofs.SegmentTrips.{segmentation_read_write}
use Rattle.std.proofs.Common.{Ok, Err, Result}
use Rattle.upid.specs.declared.Refusal.{Refusal}

-- ---- as many components as the count says

-- the reading, if there is one, has P
abbrev Every : {X : Type 0} → (X → Type 0) → Answer X → Type 0
Every P (got x m) = P x
Every P (short expected actual) = Unit {0}

every_in : {X Y : Type 0} (P : X → Type 0) (t : Table Y) (q : X → Y) (k : Y → Table X) (bs : List ℕ) (at : ℕ)
    → ((y : Y) (m : ℕ) → parse t bs at ≡ got y m → Every P (parse (k y) bs m)) → Every P (parse (inside t q k) bs at)
every_in {X} {Y} P t q k bs at f = subst (Every P) (sym (parse_inside t q k bs at)) (go (parse t bs at) refl)
  where
    go : (r : Answer Y) → parse t bs at ≡ r → Every P (onward bs k r)
    go (got y m) e = f y m e
    go (short expected actual) e = tt

every_got : {X : Type 0} (P : X → Type 0) (r : Answer X) (x : X) (m : ℕ) → r ≡ got x m → Every P r → P x
every_got P r x m e f = subst (Every P) e f

module _ (bs : List ℕ) where
  list_counted : {Y : Type 0} (n : ℕ) (d : Y) (t : Table Y) (at : ℕ) → Every (λ ys. length ys ≡ n) (parse (list n d t) bs at)
  unfolding list
  list_counted zero d t at = refl
  list_counted {Y} (suc n) d t at =
      every_in (λ (ys : List Y). length ys ≡ suc n) t _ _ bs at λ y m e.
      every_in (λ (ys : List Y). length ys ≡ suc n) (list n d t) _ _ bs m λ ys k f.
      ap suc (every_got (λ (ys : List Y). length ys ≡ n) (parse (list n d t) bs m) ys k f (list_counted n d t m))

  abbrev ModeCounted : Moded → Type 0
  ModeCounted x = length x.components ≡ count_of x.mode

  abbrev FrontCounted : ListedFront → Type 0
  FrontCounted x = length x.components ≡ count_of x.front.segmentation_mode

  mode_counted : (b : Bool) (at : ℕ) → Every ModeCounted (parse (mode b) bs at)
  unfolding mode
  mode_counted true at = refl
  mode_counted false at =
      every_in ModeCounted (fields.number 8) _ _ bs at λ n m e.
      every_in ModeCounted (list n blank_component component) _ _ bs m λ cs k f.
      every_got (λ (ys : List SegmentationComponent). length ys ≡ n) (parse (list n blank_component component) bs m) cs k f (list_counted n blank_component component m)

  parts_counted : (p l f : Bool) (at : ℕ) → Every FrontCounted (parse (parts p l f) bs at)
  unfolding parts
  parts_counted p l f at =
      every_in FrontCounted (delivery_restrictions f) _ _ bs at λ r m₁ e₁.
      every_in FrontCounted (mode p) _ _ bs m₁ λ moded m₂ e₂.
      every_in FrontCounted (duration l) _ _ bs m₂ λ lasts m₃ e₃.
      every_in FrontCounted table.written_upid _ _ bs m₃ λ upid m₄ e₄.
      every_got ModeCounted (parse (mode p) bs m₁) moded m₂ e₂ (mode_counted p m₁)

  front_counted : (at : ℕ) → Every FrontCounted (parse front bs at)
  unfolding front
  front_counted at =
      every_in FrontCounted bit _ _ bs at λ p m₁ e₁.
      every_in FrontCounted bit _ _ bs m₁ λ l m₂ e₂.
      every_in FrontCounted bit _ _ bs m₂ λ f m₃ e₃.
      parts_counted p l f m₃

  all_counted : Every Counted (parse segmentation bs 0)
  unfolding segmentation
  all_counted = every_in Counted head _ _ bs 0 λ h m e. go h m h.cancel refl
    where
      go : (h : Head) (m : ℕ) (t : Bool) → h.cancel ≡ t → Every Counted (parse (after h) bs m)
      go h m true e = rw e refl
      go h m false e =
          rw e
          (every_in Counted front _ _ bs m λ f m₁ e₁.
          every_in Counted back _ _ bs m₁ λ b m₂ e₂.
          every_got FrontCounted (parse front bs m) f m₁ e₁ (front_counted m))

pub segmentation_counted : (s : List ℕ) (x : table.Segmentation) (m : ℕ) → parse segmentation (bits_of s) 0 ≡ got x m → Counted x
segmentation_counted s x m e = every_got Counted (parse segmentation (bits_of s) 0) x m e (all_counted (bits_of s))

-- ---- the UPID u of a payload p, as it is reported: v, with the EIDR beside it. Written again it holds the same

pub record Rewritten (p : List ℕ) (u v : SegmentationUpid) (eidr : List ℕ) : Type 0 where
  pub there : v.bytes.at + v.bytes.len ≤ length p
  pub short : v.bytes.len ≤ 255
  pub writable : writable_upid v eidr p ≡ true
  pub views : seen (upid_source v eidr p) (upid_fields (written_upid v)) ≡ true
  pub holds : contents p (upid_fields u) ≡ contents (upid_source v eidr p) (upid_fields (written_upid v))

reported_some : (k : ℕ) → (k ≡ 0 → ⊥) → reported_of k ≡ 0 → ⊥
unfolding reported_of
reported_some k n = go (eqb k 5)
  where
    go : (t : Bool) → pick t 6 k ≡ 0 → ⊥
    go true e = absurd (omega arith)
    go false e = n e

-- "both report type 6": none reports 5
reported_five : (k : ℕ) → reported_of k ≡ 5 → ⊥
unfolding reported_of
reported_five k = go (eqb k 5) refl
  where
    go : (t : Bool) → eqb k 5 ≡ t → pick t 6 k ≡ 5 → ⊥
    go true t e = absurd (omega arith)
    go false t e = eqb-false k 5 t e

reported_ten : (k : ℕ) → k ≡ 10 → reported_of k ≡ 10
unfolding reported_of
reported_ten k e = rw e

-- "Writing type 6 for an eight-byte ISAN: its type is 5"
written_again : (k n : ℕ) → ((length_of k ≡ 0 → ⊥) → n ≡ length_of k) → pick (eqb (reported_of k) 6 && eqb n 8) 5 (reported_of k) ≡ k
unfolding reported_of length_of
written_again k n f = go (eqb k 5) refl
  where
    go : (t : Bool) → eqb k 5 ≡ t → pick (eqb (pick t 6 k) 6 && eqb n 8) 5 (pick t 6 k) ≡ k
    go true t =
        let is : k ≡ 5 = eqb-true k 5 t in
        let l : length_of k ≡ 8 = rw is in
        let m : n ≡ 8 = f (λ z. omega (arith, l)) ∙ l in
        rw m (sym is)
    go false t = six (eqb k 6) refl
      where
        six : (s : Bool) → eqb k 6 ≡ s → pick (s && eqb n 8) 5 k ≡ k
        six false s = refl
        six true s =
            let is : k ≡ 6 = eqb-true k 6 s in
            let l : length_of k ≡ 12 = rw is in
            let m : n ≡ 12 = f (λ z. omega (arith, l)) ∙ l in
            rw m

module _ (p : List ℕ) (u : SegmentationUpid) (there : u.bytes.at + u.bytes.len ≤ length p) where
  abbrev held : List ℕ
  held = eidr_of u.upid_type (viewed p u.bytes)

  none_again : u.bytes.len ≡ 0 → u.upid_type ≡ 0 → Rewritten p u (reported_upid 0 u.bytes) held
  unfolding writable_upid upid_source written_upid written_type eidr_of all_zero
  none_again n k =
      let c : check_of 0 (viewed p (record { at = 0; len = 0 })) ≡ Ok 0 = check_none 0 _ (ap length (viewed_none p)) in
      let e : eidr_of u.upid_type (viewed p u.bytes) ≡ replicate 12 0 = rw k in
      record {
        there = omega arith;
        short = omega arith;
        writable = rw (e, c);
        views = rw (le-leb 0 (length p) (omega arith));
        holds = ap₂ (λ (k n : ℕ). number 8 k ∷ (number 8 n ∷ (bytes (take n (drop u.bytes.at p)) ∷ []))) k n;
      }

  eidr_again : u.upid_type ≡ 10 → u.bytes.len ≡ 12 → Rewritten p u (reported_upid 10 u.bytes) held
  unfolding writable_upid upid_source written_upid eidr_of
  eidr_again k n =
      let l : length (viewed p u.bytes) ≡ 12 = viewed_length p u.bytes there ∙ n in
      let e : eidr_of u.upid_type (viewed p u.bytes) ≡ viewed p u.bytes = rw (k, l) in
      let z : length (eidr_of u.upid_type (viewed p u.bytes)) ≡ 12 = ap length e ∙ l in
      let b : take u.bytes.len (drop u.bytes.at p) ≡ take 12 (drop 0 (eidr_of u.upid_type (viewed p u.bytes))) =
      sym (viewed_at p u.bytes.at u.bytes.len there) ∙ sym e ∙ sym (take_all 12 (eidr_of u.upid_type (viewed p u.bytes)) (omega arith)) in
      record {
        there = omega arith;
        short = omega arith;
        writable = refl;
        views = rw z;
        holds =
            ap₂ (λ (k n : ℕ). number 8 k ∷ (number 8 n ∷ (bytes (take u.bytes.len (drop u.bytes.at p)) ∷ []))) k n
            ∙ ap (λ (x : List ℕ). number 8 10 ∷ (number 8 12 ∷ (bytes x ∷ []))) b;
      }

  bytes_again : (q : ℕ) → check_of u.upid_type (viewed p u.bytes) ≡ Ok q → 1 ≤ u.bytes.len → (q ≡ 10 → ⊥) → Rewritten p u (reported_upid q u.bytes) held
  unfolding writable_upid upid_source written_upid written_type eidr_of all_zero
  bytes_again q c n ten =
      let m : length (viewed p u.bytes) ≡ u.bytes.len = viewed_length p u.bytes there in
      let r = reports u.upid_type (viewed p u.bytes) q c (omega arith) in
      let k : pick (eqb q 6 && eqb u.bytes.len 8) 5 q ≡ u.upid_type =
      ap (λ (j : ℕ). pick (eqb j 6 && eqb u.bytes.len 8) 5 j) (sym r.0) ∙ written_again u.upid_type u.bytes.len (λ some. sym m ∙ r.1 some) in
      let zero : eqb q 0 ≡ false = ne_eqb q 0 (λ z. reported_some u.upid_type r.2 (r.0 ∙ z)) in
      let five : eqb q 5 ≡ false = ne_eqb q 5 (λ z. reported_five u.upid_type (r.0 ∙ z)) in
      let other : eqb q 10 ≡ false = ne_eqb q 10 ten in
      let upid_type_number : eqb u.upid_type 10 ≡ false = ne_eqb u.upid_type 10 (λ z. ten (sym r.0 ∙ reported_ten u.upid_type z)) in
      record {
        there = rw (zero, other) there;
        short = rw (zero, other) (omega (arith, check_short u.upid_type (viewed p u.bytes) (rw c tt)));
        writable = rw (zero, other, five, upid_type_number, ne_eqb u.bytes.len 0 (λ z. omega arith), k, c);
        views = rw (zero, other, le-leb _ _ there);
        holds = rw (zero, other, k);
      }

  pub upid_again : (q : ℕ) → check_of u.upid_type (viewed p u.bytes) ≡ Ok q → canonical_upid p u ≡ true → Rewritten p u (reported_upid q u.bytes) held
  unfolding canonical_upid
  upid_again q c e = go (eqb u.bytes.len 0) (eqb q 10) refl refl (and_true (accepts (check_of u.upid_type (viewed p u.bytes))) _ e).1
    where
      go : (n t : Bool) → eqb u.bytes.len 0 ≡ n → eqb q 10 ≡ t → pick n (eqb u.upid_type 0) true ≡ true → Rewritten p u (reported_upid q u.bytes) held
      go true t en et f =
          let n : u.bytes.len ≡ 0 = eqb-true u.bytes.len 0 en in
          let z : Ok 0 ≡ Ok q = sym (check_none u.upid_type (viewed p u.bytes) (viewed_length p u.bytes there ∙ n)) ∙ c in
          let o : 0 ≡ q = cc in
          subst (λ (k : ℕ). Rewritten p u (reported_upid k u.bytes) held) o (none_again n (eqb-true u.upid_type 0 f))
      go false true en et f =
          let o : q ≡ 10 = eqb-true q 10 et in
          let w = eidr_is_written u.upid_type (viewed p u.bytes) (c ∙ ap Ok o) in
          subst (λ (k : ℕ). Rewritten p u (reported_upid k u.bytes) held) (sym o) (eidr_again w.0 (sym (viewed_length p u.bytes there) ∙ w.1))
      go false false en et f = let n = eqb-false u.bytes.len 0 en in bytes_again q c (omega (arith, n)) (eqb-false q 10 et)

-- ---- the descriptor

filled_places : (cs : List SegmentationComponent) → length cs ≤ length (filled cs)
unfolding filled
filled_places cs = omega (arith, length-append cs (replicate (255 - length cs) blank_component))

module _ (p : List ℕ) (a : AllBytes p) where
  -- canonical bytes are what is written of their reading
  abbrev Back : SegmentationDescriptor → Type 0
  Back d =
      (segmentation_of p ≡ Ok (Segmentation d))
      × (segmentation_made d (replicate 4 0) (beside_of p) p ≡ made p)
      × (count_of (front_of d.descriptor_detail).segmentation_mode ≤ length (beside_of p).components)

  module _ (event : ℕ) where
    module _ (cs : List SegmentationComponent) (m : ℕ) where
      cancel_again : (let x : table.Segmentation = record { descriptor = record { segmentation_event_id = event; descriptor_detail = Cancel }; components = cs } in
          parse segmentation (bits_of p) 0 ≡ got x m → make segmentation (writable_detail Cancel) p x ≡ made p → Back x.descriptor)
      unfolding segmentation_made writable_segment writable_detail writable_upid upid_source written_upid written_type eidr_of all_zero beside_of beside_in
      cancel_again e f =
          let x : table.Segmentation = record { descriptor = record { segmentation_event_id = event; descriptor_detail = Cancel }; components = cs } in
          let c : check_of 0 (viewed p (record { at = 0; len = 0 })) ≡ Ok 0 = check_none 0 _ (ap length (viewed_none p)) in
          let n : length cs ≡ 0 = segmentation_counted p x m e in
          let z : cs ≡ [] = nothing cs n in
          (segmentation_read p x m e, rw (e, le-leb 0 (length p) (omega arith), c) (rw z at f), omega arith)
        where
          nothing : (cs : List SegmentationComponent) → length cs ≡ 0 → cs ≡ []
          nothing [] e = refl
          nothing (c ∷ cs) e = absurd (omega arith)

      module _ (i : SegmentationDetail) where
        abbrev x : table.Segmentation
        x = record { descriptor = record { segmentation_event_id = event; descriptor_detail = Active i }; components = cs }

        abbrev u : SegmentationUpid
        u = i.segmentation_upid

        module _ (e : parse segmentation (bits_of p) 0 ≡ got x m) (f : make segmentation (writable_detail (Active i)) p x ≡ made p) (canon : canonical_upid p i.segmentation_upid ≡ true) where
          counts : length cs ≡ count_of i.segmentation_mode
          counts = segmentation_counted p x m e

          told : laws.Wrote (writable_detail (Active i)) p (walk segmentation x 0).fields p
          told = laws.wrote (writable_detail (Active i)) p (walk segmentation x 0).fields p f

          fields_of : (walk segmentation x 0).fields ≡ with_upid event i cs u
          fields_of = active_fields_lem event i u cs counts

          there : u.bytes.at + u.bytes.len ≤ length p
          there =
              let s : seen p (upid_fields u) ≡ true = sym (active_seen event i cs p u) ∙ ap (seen p) (sym fields_of) ∙ told.views in
              leb-true _ _ (and_true (leb (u.bytes.at + u.bytes.len) (length p)) true s).0

          beside_is : beside_of p ≡ record { components = filled cs; eidr = eidr_of u.upid_type (viewed p u.bytes) }
          unfolding beside_of beside_in
          beside_is = rw e

          abbrev with : SegmentationUpid → SegmentationDescriptor
          with v = record { segmentation_event_id = event; descriptor_detail = Active (active_from (front_of (Active i)) v (back_of (Active i))) }

          writable_with : (v : SegmentationUpid) → writable_detail (with v).descriptor_detail ≡ true
          unfolding writable_detail writable_front
          writable_with v = told.fit

          remade : (v : SegmentationUpid) (eidr : List ℕ) → Rewritten p u v eidr → segmentation_made (with v) (replicate 4 0) (record { components = filled cs; eidr = eidr }) p ≡ made p
          unfolding segmentation_made writable_segment all_zero
          remade v eidr r =
              let writable : Bool = writable_segment (with v) (replicate 4 0) eidr p in
              let is : writable ≡ true = rw (writable_with v) r.writable in
              let source : List ℕ = upid_source v eidr p in
              let g : make_of writable source (with_upid event i cs (written_upid v)) ≡ made p =
              active_makes event i cs (writable_detail (Active i)) writable p source u (written_upid v) p (ap (make_of (writable_detail (Active i)) p) (sym fields_of) ∙ f) r.holds r.views is in
              rw (le-leb (v.bytes.at + v.bytes.len) (length p) r.there, le-leb v.bytes.len 255 r.short)
              (ap (λ (l : List SegmentationComponent). make_of writable source (walk segmentation (record { descriptor = record { segmentation_event_id = event; descriptor_detail = Active (table.with_upid i (written_upid v)) }; components = l }) 0).fields)
              (counted_again (count_of i.segmentation_mode) cs counts)
              ∙ ap (make_of writable source) (active_fields_lem event i (written_upid v) cs counts) ∙ g)

          active_again : (c : Result ℕ Refusal) → check_of u.upid_type (viewed p u.bytes) ≡ c → accepts c ≡ true → (d : SegmentationDescriptor) × Back d
          active_again (Err r) c t = zero_one cc
          active_again (Ok q) c t = (
            with (reported_upid q u.bytes),
            (
              segmentation_read p x m e ∙ ap (λ (c : Result ℕ Refusal). if_fine c u.bytes λ (w : SegmentationUpid). Ok (Segmentation (with w))) c,
              ap (λ (b : Beside). segmentation_made (with (reported_upid q u.bytes)) (replicate 4 0) b p) beside_is
                  ∙ remade (reported_upid q u.bytes) (eidr_of u.upid_type (viewed p u.bytes)) (upid_again p u there q c canon),
              subst (λ (b : Beside). count_of i.segmentation_mode ≤ length b.components) (sym beside_is) (omega (arith, filled_places cs, counts)),
            ),
          )

  by_detail : (event : ℕ) (d : DescriptorDetail) (cs : List SegmentationComponent) (m : ℕ)
      → (let x : table.Segmentation = record { descriptor = record { segmentation_event_id = event; descriptor_detail = d }; components = cs } in
      parse segmentation (bits_of p) 0 ≡ got x m → make segmentation (writable_detail d) p x ≡ made p → canonical_upid p (upid_in x.descriptor) ≡ true → (d : SegmentationDescriptor) × Back d)
  unfolding canonical_upid
  by_detail event Cancel cs m e f c = (record { segmentation_event_id = event; descriptor_detail = Cancel }, cancel_again event cs m e f)
  by_detail event (Active i) cs m e f c =
      active_again event cs m i e f c (check_of i.segmentation_upid.upid_type (viewed p i.segmentation_upid.bytes)) refl (and_true (accepts (check_of i.segmentation_upid.upid_type (viewed p i.segmentation_upid.bytes))) _ c).0

  pub segmentation_payload_read_write : canonical_segmentation p ≡ true → (d : SegmentationDescriptor) × (segmentation_of p ≡ Ok (Segmentation d)) × (segmentation_made d (replicate 4 0) (beside_of p) p ≡ made p)
      × (count_of (front_of d.descriptor_detail).segmentation_mode ≤ length (beside_of p).components)
  unfolding canonical_segmentation
  segmentation_payload_read_write e =
      let i = and_true (canonical_by segmentation p) _ e in
      let x = segmentation_read_write p a i.0 in
      let c : upid_canonical p (parse segmentation (bits_of p) 0) ≡ true = i.1 in
      let r = by_detail x.0.descriptor.segmentation_event_id x.0.descriptor.descriptor_detail x.0.components (length p * 8) x.1 x.2 (rw x.1 at c) in
      (r.0, r.1.0, r.1.1, r.1.2)
