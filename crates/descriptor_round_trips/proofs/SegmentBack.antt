-- A segmentation descriptor: what is written of it reads back equal to what was handed in, and is canonical.
use Prim.Native.Nat.{ℕ, ◌+◌, ◌≤◌}
use mathlib.Core.Bool.{Bool, true, false, not, ◌&&◌}
use mathlib.Core.List.{List, [], ◌∷◌}
use mathlib.Core.Path.{◌≡◌, refl, ap, ap₂, sym, ◌∙◌}
use native.Mathlib.Omega.{arith}
use lib.Dec.{eqb}
use lib.ListN.{length, take, drop, replicate, length-drop}
use lib.Seq.{length-take-le, take_all, take_at}
use borrow.Author.Tests.{eqb-true, eqb-false, ne_eqb, not-true}
use Rattle.table.specs.Bits.{pick, AllBytes}
use Rattle.table.specs.Lent.{viewed}
use Rattle.table.specs.Writing.{contents, made, refusal_in}
use Rattle.table.specs.declared.View.{View}
use Rattle.table.proofs.Lists.{zero_one, and_true}
use Rattle.table.proofs.Structure as laws
use Rattle.upid.specs.Upid.{check_of, eidr_of, reported_of, upid_of}
use Rattle.upid.proofs.Theorems.{eidr_is_held_by_value}
use Rattle.descriptor.specs.Descriptor.{is_cuei, descriptor_of, reported_upid, if_fine, segmentation_of}
use Rattle.descriptor.specs.Segmentation as table
use Rattle.descriptor.specs.Segmentation.{component_count, agrees, count_of, front_of, segmentation}
use Rattle.descriptor.specs.Views.{without_view}
use Rattle.descriptor.specs.Full.{filled, beside_in, beside_of}
use Rattle.descriptor.specs.declared.Descriptor.TheVariants.{Segmentation}
use Rattle.descriptor.specs.declared.segmentation.SegmentationComponent.{SegmentationComponent}
use Rattle.descriptor.specs.declared.segmentation.SegmentationDescriptor.{SegmentationDescriptor}
use Rattle.descriptor.specs.declared.segmentation.DescriptorDetail.{DescriptorDetail}
use Rattle.descriptor.specs.declared.segmentation.DescriptorDetail.TheVariants.{Cancel, Active}
use Rattle.descriptor.specs.declared.segmentation.SegmentationDetail.{SegmentationDetail}
use Rattle.descriptor.specs.declared.segmentation.SegmentationUpid.{SegmentationUpid}
use Rattle.descriptor.specs.declared.full.Beside.{Beside}
use Rattle.descriptor.proofs.SegmentationLaws.{segmentation_structure, upid_at, upid_place}
use Rattle.canonical_form.specs.Descriptor.{canonical_upid, canonical_segmentation, canonical_payload}
use Rattle.canonical_form.specs.Same.{SameReading, bytes_of_views}
use Rattle.descriptor_measure.specs.Writing.{cuei, all_zero, accepts, writable_upid, segmentation_made, payload_made, upid_source, written, written_type, written_upid}
use Rattle.descriptor_measure.proofs.Fields.{active_fields_lem}
use Rattle.descriptor_measure.proofs.Making.{all_writable, by_table, counted, zero_view}
use Rattle.descriptor_round_trips.proofs.PlainLaws.{viewed_at}
use Rattle.descriptor_round_trips.proofs.PlainTrips.{ReadsBack, zeros}
use Rattle.descriptor_round_trips.proofs.Remade.{with_upid, upid_found}
use Rattle.upid.proofs.Reported.{check_none, reports}
use Rattle.descriptor_round_trips.proofs.SegmentTrips.{segmentation_write_read}
use Rattle.std.proofs.Common.{Ok, Err, None, Result}
use Rattle.upid.specs.declared.Refusal.{Refusal}

-- ---- views
pub viewed_length : (s : List ℕ) (v : View) → v.at + v.len ≤ length s → length (viewed s v) ≡ v.len
viewed_length s v h = ap length (viewed_at s v.at v.len h) ∙ length-take-le v.len (drop v.at s) (omega (arith, length-drop v.at s))

pub viewed_none : (s : List ℕ) → viewed s (record { at = 0; len = 0 }) ≡ []
viewed_none s = viewed_at s 0 0 (omega arith)

-- ---- a UPID that is written: w, of the bytes `source`

pub record Written (u : SegmentationUpid) (eidr lent source : List ℕ) (w : SegmentationUpid) : Type 0 where
  pub checked : check_of w.upid_type (viewed source w.bytes) ≡ Ok u.upid_type
  pub held : eidr_of w.upid_type (viewed source w.bytes) ≡ eidr
  pub kinds : pick (eqb w.bytes.len 0) (eqb w.upid_type 0) true ≡ true
  pub bytes : without_view u.upid_type ≡ false → viewed source w.bytes ≡ viewed lent u.bytes
  pub size : (at : ℕ) → (reported_upid u.upid_type (record { at = at; len = w.bytes.len })).bytes.len ≡ u.bytes.len
  pub inside : w.bytes.at + w.bytes.len ≤ length source
  pub are : AllBytes source

module _ (u : SegmentationUpid) (eidr lent : List ℕ) (twelve : length eidr ≡ 12) (held : AllBytes eidr) (all : AllBytes lent) (there : u.bytes.at + u.bytes.len ≤ length lent) where
  of_eidr : u.upid_type ≡ 10 → u.bytes.len ≡ 0 → Written u eidr lent eidr (record { upid_type = 10; bytes = record { at = 0; len = 12 } })
  unfolding upid_of
  of_eidr k n =
      let v : viewed eidr (record { at = 0; len = 12 }) ≡ eidr = viewed_at eidr 0 12 (omega arith) ∙ take_all 12 eidr (omega arith) in
      let h = eidr_is_held_by_value eidr twelve in
      record {
        checked = ap (check_of 10) v ∙ h.0 ∙ ap Ok (sym k);
        held = ap (eidr_of 10) v ∙ h.1;
        kinds = refl;
        bytes = λ e. (let z : true ≡ false = rw k at e in zero_one cc);
        size = λ at. rw k (sym n);
        inside = omega arith;
        are = held;
      }

  type_back : (t : Bool) → eqb u.upid_type 6 && eqb u.bytes.len 8 ≡ t → (u.upid_type ≡ 5 → ⊥) → reported_of (pick t 5 u.upid_type) ≡ u.upid_type
  unfolding reported_of
  type_back true e n = sym (eqb-true u.upid_type 6 (and_true (eqb u.upid_type 6) (eqb u.bytes.len 8) e).0)
  type_back false e n = rw (ne_eqb u.upid_type 5 n)

  type_some : (t : Bool) → (u.upid_type ≡ 10 → ⊥) → pick t 5 u.upid_type ≡ 10 → ⊥
  type_some true n e = absurd (omega arith)
  type_some false n e = n e

  type_none : u.upid_type ≡ 0 → written_type u ≡ 0
  unfolding written_type
  type_none k = rw k

  -- None: no bytes
  of_none : u.bytes.len ≡ 0 → u.upid_type ≡ 0 → all_zero eidr ≡ true → Written u eidr lent lent (record { upid_type = written_type u; bytes = u.bytes })
  unfolding eidr_of
  of_none n k z =
      let k₂ : written_type u ≡ 0 = type_none k in
      record {
        checked = check_none (written_type u) (viewed lent u.bytes) (viewed_length lent u.bytes there ∙ n) ∙ ap Ok (sym k);
        held = rw k₂ (zeros eidr 12 z twelve);
        kinds = ap₂ (λ (a b : ℕ). pick (eqb a 0) (eqb b 0) true) n k₂;
        bytes = λ e. refl;
        size = λ at. rw k (sym n);
        inside = there;
        are = all;
      }

  -- any other
  of_bytes : 1 ≤ u.bytes.len → (u.upid_type ≡ 0 → ⊥) → (u.upid_type ≡ 10 → ⊥) → (u.upid_type ≡ 5 → ⊥) → all_zero eidr ≡ true → (c : Result ℕ Refusal) → check_of (written_type u) (viewed lent u.bytes) ≡ c → accepts c ≡ true
      → Written u eidr lent lent (record { upid_type = written_type u; bytes = u.bytes })
  unfolding written_type eidr_of
  of_bytes n none ten five z (Err r) c a = zero_one cc
  of_bytes n none ten five z (Ok q) c a =
      let t = eqb u.upid_type 6 && eqb u.bytes.len 8 in
      let m : length (viewed lent u.bytes) ≡ u.bytes.len = viewed_length lent u.bytes there in
      let r = reports (written_type u) (viewed lent u.bytes) q c (omega arith) in
      record {
        checked = c ∙ ap Ok (sym r.0 ∙ type_back t refl five);
        held = rw (ne_eqb (written_type u) 10 (type_some t ten)) (zeros eidr 12 z twelve);
        kinds = rw (ne_eqb u.bytes.len 0 (λ (o : u.bytes.len ≡ 0). omega arith));
        bytes = λ e. refl;
        size = λ at. rw (ne_eqb u.upid_type 0 none, ne_eqb u.upid_type 10 ten);
        inside = there;
        are = all;
      }

  pub upid_written : writable_upid u eidr lent ≡ true → Written u eidr lent (upid_source u eidr lent) (written_upid u)
  unfolding writable_upid upid_source written_upid
  upid_written f = go (eqb u.upid_type 10) refl f
    where
      go : (t : Bool) → eqb u.upid_type 10 ≡ t
          → pick t (eqb u.bytes.len 0)
          (all_zero eidr && (agrees (eqb u.upid_type 0) (eqb u.bytes.len 0) && (not (eqb u.upid_type 5) && accepts (check_of (written_type u) (viewed lent u.bytes))))) ≡ true
          → Written u eidr lent (pick t eidr lent) (pick t (record { upid_type = 10; bytes = record { at = 0; len = 12 } }) (record { upid_type = written_type u; bytes = u.bytes }))
      go true t f = of_eidr (eqb-true u.upid_type 10 t) (eqb-true u.bytes.len 0 f)
      go false t f = sized (eqb u.upid_type 0) (eqb u.bytes.len 0) refl refl (and_true (agrees (eqb u.upid_type 0) (eqb u.bytes.len 0)) _ (and_true (all_zero eidr) _ f).1).0
        where
          sized : (k n : Bool) → eqb u.upid_type 0 ≡ k → eqb u.bytes.len 0 ≡ n → agrees k n ≡ true → Written u eidr lent lent (record { upid_type = written_type u; bytes = u.bytes })
          sized true true ek en g = of_none (eqb-true u.bytes.len 0 en) (eqb-true u.upid_type 0 ek) (and_true (all_zero eidr) _ f).0
          sized true false ek en g = zero_one cc
          sized false true ek en g = zero_one cc
          sized false false ek en g =
              let a = and_true (all_zero eidr) _ f in
              let b = and_true (agrees (eqb u.upid_type 0) (eqb u.bytes.len 0)) _ a.1 in
              let c = and_true (not (eqb u.upid_type 5)) (accepts (check_of (written_type u) (viewed lent u.bytes))) b.1 in
              let n = eqb-false u.bytes.len 0 en in
              of_bytes (omega (arith, n)) (eqb-false u.upid_type 0 ek) (eqb-false u.upid_type 10 t) (eqb-false u.upid_type 5 (not-true (eqb u.upid_type 5) c.0)) a.0 (check_of (written_type u) (viewed lent u.bytes)) refl c.1

-- ---- the descriptor

-- the views of a UPID that is reported: none of None and EIDR
same_views : (s lent : List ℕ) (t : Bool) (v w : View) → (t ≡ false → viewed s v ≡ viewed lent w)
    → bytes_of_views s (pick t [] (pick t (record { at = 0; len = 0 }) v ∷ [])) ≡ bytes_of_views lent (pick t [] (w ∷ []))
same_views s lent true v w f = refl
same_views s lent false v w f = ap (λ (b : List ℕ). b ∷ []) (f refl)

-- the components up to the count
pub counted_again : (n : ℕ) (cs : List SegmentationComponent) → length cs ≡ n → take n (filled cs) ≡ cs
unfolding filled
counted_again n cs e = take_at cs _ n e

module _ (id : List ℕ) (beside : Beside) (lent : List ℕ) (four : length id ≡ 4) (twelve : length beside.eidr ≡ 12) (held : AllBytes beside.eidr) (all : AllBytes lent) (p : List ℕ) where
  -- a payload that reads back as x
  pub record PayloadBack (x : SegmentationDescriptor) : Type 0 where
    pub again : SegmentationDescriptor
    pub reading : segmentation_of p ≡ Ok (Segmentation again)
    pub same : SameReading p (Segmentation again) (replicate 4 0) (beside_of p) lent (Segmentation x) id beside
    pub canon : canonical_segmentation p ≡ true

  module _ (event : ℕ) where
    cancel_write_read : (let x : SegmentationDescriptor = record { segmentation_event_id = event; descriptor_detail = Cancel } in
        segmentation_made x id beside lent ≡ made p → PayloadBack x)
    unfolding beside_of beside_in canonical_segmentation canonical_upid writable_upid eidr_of
    cancel_write_read e =
        let x : SegmentationDescriptor = record { segmentation_event_id = event; descriptor_detail = Cancel } in
        let r = segmentation_write_read x id beside lent p (omega arith) e in
        let f = all_writable x id beside lent (omega arith) p e in
        let z = (and_true (all_zero beside.eidr) _ f.2).0 in
        let c : check_of 0 (viewed p (record { at = 0; len = 0 })) ≡ Ok 0 = check_none 0 _ (ap length (viewed_none p)) in
        record {
          again = x;
          reading = r.2;
          same = record { values = refl; bytes = refl; identifiers = zeros id 4 f.0 four; components = refl; eidrs = rw r.0 (zeros beside.eidr 12 z twelve) };
          canon = rw (r.1, r.0, c);
        }

    module _ (i : SegmentationDetail) (places : count_of i.segmentation_mode ≤ length beside.components) where
      abbrev x : SegmentationDescriptor
      x = record { segmentation_event_id = event; descriptor_detail = Active i }

      abbrev u : SegmentationUpid
      u = i.segmentation_upid

      abbrev w : SegmentationUpid
      w = written_upid i.segmentation_upid

      abbrev source : List ℕ
      source = upid_source i.segmentation_upid beside.eidr lent

      abbrev cs : List SegmentationComponent
      cs = take (count_of i.segmentation_mode) beside.components

      abbrev there : SegmentationUpid
      there = upid_at (upid_place (front_of (Active (table.with_upid i (written_upid i.segmentation_upid))))) (written_upid i.segmentation_upid)

      module _ (e : segmentation_made x id beside lent ≡ made p) where
        upid_is_lem : Written u beside.eidr lent source w
        upid_is_lem = upid_written u beside.eidr lent twelve held all (zero_view x id beside lent (ap refusal_in e)).1 (all_writable x id beside lent places p e).2

        -- its bytes are where they are written
        upid_bytes : viewed p there.bytes ≡ viewed source w.bytes
        upid_bytes =
            let c = counted x id beside lent places in
            let t : table.Segmentation = written x beside.components in
            let m = by_table x id beside lent places p e in
            let n = laws.write_size segmentation segmentation_structure source t p c m in
            let s = laws.write_same segmentation segmentation_structure source t p upid_is_lem.are c m in
            let g : contents p (with_upid event i cs there) ≡ contents source (with_upid event i cs w) =
            ap (contents p) (sym (active_fields_lem event i there cs c)) ∙ s ∙ ap (contents source) (active_fields_lem event i w cs c) in
            viewed_at p there.bytes.at there.bytes.len (omega (arith, n)) ∙ upid_found event i cs p source there w g ∙ sym (viewed_at source w.bytes.at w.bytes.len upid_is_lem.inside)

        checked : check_of w.upid_type (viewed p there.bytes) ≡ Ok u.upid_type
        checked = ap (check_of w.upid_type) upid_bytes ∙ upid_is_lem.checked

        active_write_read : PayloadBack x
        unfolding beside_of beside_in canonical_segmentation canonical_upid
        active_write_read =
            let r = segmentation_write_read x id beside lent p places e in
            let f = all_writable x id beside lent places p e in
            let c = counted x id beside lent places in
            let k = table.with_upid i (reported_upid u.upid_type there.bytes) in
            record {
              again = record { segmentation_event_id = event; descriptor_detail = Active k };
              reading = r.2 ∙ ap (λ (c : Result ℕ Refusal). if_fine c there.bytes λ v. Ok (Segmentation (record { segmentation_event_id = event; descriptor_detail = Active (table.with_upid i v) }))) checked;
              same = record {
                values =
                    ap (λ (n : ℕ). Segmentation (record { segmentation_event_id = event; descriptor_detail = Active (table.with_upid i (record { upid_type = u.upid_type; bytes = record { at = 0; len = n } })) })) (upid_is_lem.size there.bytes.at);
                bytes = same_views p lent (without_view u.upid_type) there.bytes u.bytes (λ t. upid_bytes ∙ upid_is_lem.bytes t);
                identifiers = zeros id 4 f.0 four;
                components = rw r.0 (counted_again (count_of i.segmentation_mode) cs c);
                eidrs = rw r.0 (ap (eidr_of w.upid_type) upid_bytes ∙ upid_is_lem.held);
              };
              canon = rw (r.1, r.0, checked) upid_is_lem.kinds;
            }

  payload_write_read : (event : ℕ) (d : DescriptorDetail) → (let x : SegmentationDescriptor = record { segmentation_event_id = event; descriptor_detail = d } in
      count_of (front_of d).segmentation_mode ≤ length beside.components → segmentation_made x id beside lent ≡ made p → PayloadBack x)
  payload_write_read event Cancel h e = cancel_write_read event e
  payload_write_read event (Active i) h e = active_write_read event i h e

-- The payload that is written of a segmentation descriptor reads back, and is canonical. (Its array has as many places as its count, or more.)
pub segmentation_payload_write_read : (x : SegmentationDescriptor) (id : List ℕ) (beside : Beside) (lent p : List ℕ) → length id ≡ 4 → length beside.eidr ≡ 12 → AllBytes beside.eidr → AllBytes lent
    → component_count x ≤ length beside.components → payload_made (Segmentation x) id beside lent ≡ made p → ReadsBack (Segmentation x) id beside lent p × (canonical_payload 2 cuei p ≡ true)
unfolding payload_made descriptor_of canonical_payload is_cuei
segmentation_payload_write_read x id beside lent p four twelve held all places e =
    let b = payload_write_read id beside lent four twelve held all p x.segmentation_event_id x.descriptor_detail places e in
    (record { again = Segmentation b.again; reading = b.reading; same = b.same }, b.canon)
