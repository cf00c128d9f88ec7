-- Whatever is read of a descriptor's payload is written. The payload need not be canonical.
--     ready          what is read of a payload is within its fields and writable
--     is_written     so something is made of it
use Prim.Native.Nat.{ℕ, ◌+◌, ◌-◌, ◌^◌, ◌≤◌, ◌<◌}
use mathlib.Core.Bool.{Bool, true, false, ◌&&◌}
use mathlib.Core.List.{List, []}
use mathlib.Core.Path.{◌≡◌, refl, ap, sym, ◌∙◌}
use native.Mathlib.Omega.{arith}
use lib.Dec.{eqb, ltb, leb}
use lib.ListN.{length, take, get_or, replicate, length-replicate, length-append}
use borrow.Author.Tests.{lt-ltb, le-ltb, le-leb, eqb-true, eqb-false}
use Rattle.table.proofs.Lists.{zero_one}
use Rattle.table.proofs.Reading.{field_lt}
use Rattle.table.proofs.Steps.{takes_in, reads_number, reads_flag, reads_ones, reads_part}
use Rattle.table.proofs.Structure.{write_size}
use Rattle.table.specs.Bits.{pick, bits_of, bytes_of, field, AllBytes}
use Rattle.table.specs.Lent.{lies_in, viewed, no_view}
use Rattle.table.specs.Table.{Answer, got, short, parse}
use Rattle.table.specs.Writing.{Field, walk, seen, within, contents, print, Made, made, refused, make_of, refusal_in}
use Rattle.table.specs.declared.View.{View}
use Rattle.upid.specs.Upid.{check_of, eidr_of}
use Rattle.descriptor.proofs.Plains.{reserved_is}
use Rattle.descriptor.proofs.Structures.{avail_structure, dtmf_structure, time_structure, private_structure}
use Rattle.descriptor.specs.Descriptor.{◌and_then◌, reported_upid, if_fine, avail_of, dtmf_of, time_of, reserved_of, active_with, active_of, segmentation_of, is_cuei, descriptor_of}
use Rattle.descriptor.specs.Plain.{avail, dtmf, time, private_table}
use Rattle.descriptor.specs.Segmentation.{blank_component, ListedFront, Head, head, front, back, active_from, segmentation, writable_front, writable_detail, count_of}
use Rattle.descriptor.specs.Full.{filled, blank_beside, beside_in, beside_of, beside_read, identifier_read}
use Rattle.descriptor.specs.declared.Descriptor.{Descriptor}
use Rattle.descriptor.specs.declared.Descriptor.TheVariants.{Avail, Dtmf, Segmentation, Time, Reserved}
use Rattle.descriptor.specs.declared.plain.DTMFDescriptor.{DTMFDescriptor}
use Rattle.descriptor.specs.declared.segmentation.SegmentationComponent.{SegmentationComponent}
use Rattle.descriptor.specs.declared.segmentation.SegmentationDescriptor.{SegmentationDescriptor}
use Rattle.descriptor.specs.declared.segmentation.DescriptorDetail.{DescriptorDetail}
use Rattle.descriptor.specs.declared.segmentation.SegmentationUpid.{SegmentationUpid}
use Rattle.descriptor.specs.declared.full.Beside.{Beside}
use Rattle.descriptor_measure.proofs.Making.{made_size}
use Rattle.descriptor_measure.specs.Writing.{count_beside, enveloped, enveloped_made, alone, writable_reserved, writable_upid, written_type, writable_segment, segmentation_made, payload_made, descriptor_made, tag_of, identifier_of, upid_source, written, upid_in}
use Rattle.descriptor_measure.specs.Private.{payload_size}
use Rattle.descriptor_round_trips.proofs.MadeSo.{what_is_made}
use Rattle.descriptor_round_trips.proofs.Payloads.{written_if_read}
use Rattle.upid.proofs.Reported.{check_none}
use Rattle.descriptor_round_trips.proofs.SegmentBack.{counted_again}
use Rattle.descriptor_round_trips.specs.Making.{fit, component_numbers, numbers_of, view_in, DescriptorMakes, outside, over, nobodys, long, its}
use Rattle.descriptor_round_trips.specs.Trips.{Handed}
use Rattle.table.proofs.Bits.{byte_in}
use Rattle.theorems_writer.proofs.ItemsWritten.{all_viewed}
use Rattle.descriptor.proofs.Heads.{head_ends, place, Placed, front_told}
use Rattle.theorems_writer.proofs.WritableFields.{FrontKept, front_kept, back_kept}
use Rattle.theorems_writer.proofs.WritableUpids as upids
use Rattle.theorems_writer.proofs.WritableUpids.{zeros_all, zeros_bytes, no_bytes}
use Rattle.std.proofs.Common.{Ok, Err, Result}
use Rattle.upid.specs.declared.Refusal.{Refusal}

-- ---- what a writer's own rules say of 33

abbrev writable_of : Descriptor → List ℕ → Beside → List ℕ → Bool
writable_of (Avail x) id beside lent = alone id beside.eidr
writable_of (Dtmf x) id beside lent = alone id beside.eidr
writable_of (Segmentation x) id beside lent = writable_segment x id beside.eidr lent
writable_of (Time x) id beside lent = alone id beside.eidr
writable_of (Reserved tag v) id beside lent = writable_reserved tag id beside.eidr

apart : {A : Type 0} (m n : ℕ) → m ≡ n → (m ≡ n → ⊥) → A
apart m n e f = absurd (f e)

make_33 : {A : Type 0} (writable : Bool) (l : List ℕ) (fs : List Field) → writable ≡ true → make_of writable l fs ≡ refused 33 → A
make_33 {A} writable l fs f e = go (seen l fs) (within fs) writable f e
  where
    go : (a b c : Bool) → c ≡ true → pick a (pick b (pick c (made (bytes_of (print (contents l fs)))) (refused 33)) (refused 32)) (refused 31) ≡ refused 33 → A
    go false b c f e = apart 31 33 (ap refusal_in e) (λ z. omega arith)
    go true false c f e = apart 32 33 (ap refusal_in e) (λ z. omega arith)
    go true true true f e = zero_one cc
    go true true false f e = zero_one cc

not_33 : {A : Type 0} (d : Descriptor) (id : List ℕ) (beside : Beside) (lent : List ℕ) → writable_of d id beside lent ≡ true → payload_made d id beside lent ≡ refused 33 → A
unfolding payload_made segmentation_made
not_33 (Avail x) id beside lent f e = make_33 (alone id beside.eidr) lent (walk avail x 0).fields f e
not_33 (Dtmf x) id beside lent f e = make_33 (alone id beside.eidr) lent (walk dtmf x 0).fields f e
not_33 {A} (Segmentation x) id beside lent f e = go (lies_in lent (upid_in x).bytes) (leb (upid_in x).bytes.len 255) e
  where
    go : (a b : Bool)
        → pick a (pick b (make_of (writable_segment x id beside.eidr lent) (upid_source (upid_in x) beside.eidr lent) (walk segmentation (written x beside.components) 0).fields) (refused 32)) (refused 31) ≡ refused 33 → A
    go false b e = apart 31 33 (ap refusal_in e) (λ z. omega arith)
    go true false e = apart 32 33 (ap refusal_in e) (λ z. omega arith)
    go true true e = make_33 (writable_segment x id beside.eidr lent) (upid_source (upid_in x) beside.eidr lent) (walk segmentation (written x beside.components) 0).fields f e
not_33 (Time x) id beside lent f e = make_33 (alone id beside.eidr) lent (walk time x 0).fields f e
not_33 (Reserved tag v) id beside lent f e = make_33 (writable_reserved tag id beside.eidr) lent (walk private_table v 0).fields f e

enveloped_33 : (tag : ℕ) (id : List ℕ) (m : Made) → enveloped_made tag id m ≡ refused 33 → m ≡ refused 33
unfolding enveloped_made
enveloped_33 tag id (refused n) e = e
enveloped_33 tag id (made p) e = go (leb (length p + 4) 254) e
  where
    go : (b : Bool) → pick b (made (enveloped tag id p)) (refused 34) ≡ refused 33 → made p ≡ refused 33
    go true e = zero_one cc
    go false e = apart 34 33 (ap refusal_in e) (λ z. omega arith)

-- ---- a descriptor with what stands beside it that is within its fields and writable, in no more bytes than n

pub record Ready (d : Descriptor) (id : List ℕ) (beside : Beside) (lent : List ℕ) (n : ℕ) : Type 0 where
  pub handed : Handed d id beside lent
  pub sees : (view_in d).at + (view_in d).len ≤ length lent
  pub numbers : fit (numbers_of d beside.components) ≡ true
  pub writable : writable_of d id beside lent ≡ true
  pub size : (p : List ℕ) → payload_made d id beside lent ≡ made p → length p ≤ n

pub is_written : (d : Descriptor) (id : List ℕ) (beside : Beside) (lent : List ℕ) (n : ℕ) → n + 4 ≤ 254 → Ready d id beside lent n → (b : List ℕ) × (descriptor_made d id beside lent ≡ made b)
unfolding descriptor_made
is_written d id beside lent n fits r = go (descriptor_made d id beside lent) refl (what_is_made d id beside lent r.handed)
  where
    go : (m : Made) → descriptor_made d id beside lent ≡ m → DescriptorMakes d id beside lent m → (b : List ℕ) × (m ≡ made b)
    go m e (outside s) = let z : true ≡ false = sym (le-leb ((view_in d).at + (view_in d).len) (length lent) r.sees) ∙ s in zero_one cc
    go m e (over s w) = let z : true ≡ false = sym r.numbers ∙ w in zero_one cc
    go m e (nobodys s w none) = not_33 d id beside lent r.writable (enveloped_33 (tag_of d) (identifier_of d id) (payload_made d id beside lent) e)
    go m e (long s tag own p q l) = absurd (omega (arith, r.size p (written_if_read d id beside lent r.sees tag own p q).0))
    go m e (its s tag own p q l) = (_, refl)

-- ---- of a payload s, under an identifier

filled_length : (cs : List SegmentationComponent) → length cs ≤ 255 → length (filled cs) ≡ 255
unfolding filled
filled_length cs h = length-append cs (replicate (255 - length cs) blank_component) ∙ omega (arith, length-replicate (255 - length cs) blank_component)

module _ (s id : List ℕ) (four : length id ≡ 4) (a : AllBytes s) where
  abbrev ReadyOf : Descriptor → Type 0
  ReadyOf d = Ready d (identifier_read (Ok d) id) (beside_read (Ok d) s) s (length s)

  abbrev Keeps : Result Descriptor Refusal → Type 0
  Keeps (Ok d) = ReadyOf d
  Keeps (Err r) = Unit {0}

  picked : (t : Bool) (x y : Result Descriptor Refusal) → (t ≡ true → Keeps x) → (t ≡ false → Keeps y) → Keeps (pick t x y)
  picked true x y p q = p refl
  picked false x y p q = q refl

  and_then_lem : {X : Type 0} (r : Answer X) (k : X → ℕ → Result Descriptor Refusal) → ((x : X) (m : ℕ) → r ≡ got x m → Keeps (k x m)) → Keeps (r and_then k)
  and_then_lem (got x m) k f = f x m refl
  and_then_lem (short expected actual) k f = tt

  if_fine_lem : (c : Result ℕ Refusal) (v : View) (k : SegmentationUpid → Result Descriptor Refusal) → ((q : ℕ) → c ≡ Ok q → Keeps (k (reported_upid q v))) → Keeps (if_fine c v k)
  if_fine_lem (Ok q) v k f = f q refl
  if_fine_lem (Err r) v k f = tt

  -- ---- nothing stands beside it

  lone_handed : (d : Descriptor) (own : List ℕ) → length own ≡ 4 → count_beside d ≤ 255 → Handed d own blank_beside s
  unfolding blank_beside
  lone_handed d own n c = record { four = n; twelve = refl; held = zeros_bytes 12; places = filled_length [] (omega arith); count = c; are = a }

  lone : alone (replicate 4 0) blank_beside.eidr ≡ true
  unfolding alone blank_beside
  lone = rw (zeros_all 4, zeros_all 12)

  in_avail : Keeps (avail_of s)
  unfolding avail_of avail payload_made
  in_avail =
      picked (ltb (length s) 4) _ _ (λ t. tt) λ t.
      and_then_lem (parse avail (bits_of s) 0) _ λ x m e.
      let i = reads_number s 0 32 _ _ x m e in
      let z : x ≡ record { provider_avail_id = field (bits_of s) 0 32 } = cc i.1 in
      let b : x.provider_avail_id < 2 ^ 32 = rw z (field_lt s 0 32) in
      record {
        handed = lone_handed (Avail x) (replicate 4 0) refl (omega arith);
        sees = omega arith;
        numbers = rw (lt-ltb _ _ b);
        writable = lone;
        size = λ p w. omega (arith, i.0, write_size avail avail_structure s x p tt (ap (λ (f : Bool). make_of f s (walk avail x 0).fields) (sym lone) ∙ w));
      }

  in_time : Keeps (time_of s)
  unfolding time_of time payload_made
  in_time =
      picked (ltb (length s) 12) _ _ (λ t. tt) λ t.
      and_then_lem (parse time (bits_of s) 0) _ λ x m e.
      let e₁ = (reads_number s 0 48 _ _ x m e).1 in
      let e₂ = (reads_number s 48 32 _ _ x m e₁).1 in
      let i = reads_number s 80 16 _ _ x m e₂ in
      let z : x ≡ record { tai_seconds = field (bits_of s) 0 48; tai_nanoseconds = field (bits_of s) 48 32; utc_offset = field (bits_of s) 80 16 } = cc i.1 in
      let b : x.tai_seconds < 2 ^ 48 = rw z (field_lt s 0 48) in
      let c : x.tai_nanoseconds < 2 ^ 32 = rw z (field_lt s 48 32) in
      let d : x.utc_offset < 2 ^ 16 = rw z (field_lt s 80 16) in
      record {
        handed = lone_handed (Time x) (replicate 4 0) refl (omega arith);
        sees = omega arith;
        numbers = rw (lt-ltb _ _ b, lt-ltb _ _ c, lt-ltb _ _ d);
        writable = lone;
        size = λ p w. omega (arith, i.0, write_size time time_structure s x p tt (ap (λ (f : Bool). make_of f s (walk time x 0).fields) (sym lone) ∙ w));
      }

  in_dtmf : Keeps (dtmf_of s)
  unfolding dtmf_of dtmf payload_made
  in_dtmf =
      and_then_lem (parse dtmf (bits_of s) 0) _ λ x m e.
      let e₁ = (reads_number s 0 8 _ _ x m e).1 in
      let e₂ = (reads_number s 8 3 _ _ x m e₁).1 in
      let e₃ = (reads_ones s 11 5 _ x m e₂).1 in
      let j = reads_part s 16 (field (bits_of s) 8 3) _ _ x m e₃ in
      let z : x ≡ record { preroll = field (bits_of s) 0 8; dtmf_chars = record { at = 2; len = field (bits_of s) 8 3 } } = cc j.1 in
      let b : x.preroll < 2 ^ 8 = rw z (field_lt s 0 8) in
      let c : x.dtmf_chars.len < 2 ^ 3 = rw z (field_lt s 8 3) in
      let at : x.dtmf_chars.at ≡ 2 = ap (λ (y : DTMFDescriptor). y.dtmf_chars.at) z in
      let l : x.dtmf_chars.len ≡ field (bits_of s) 8 3 = ap (λ (y : DTMFDescriptor). y.dtmf_chars.len) z in
      record {
        handed = lone_handed (Dtmf x) (replicate 4 0) refl (omega arith);
        sees = omega (arith, j.0, at, l);
        numbers = rw (lt-ltb _ _ b, lt-ltb _ _ c);
        writable = lone;
        size = λ p w. omega (arith, j.0, l, write_size dtmf dtmf_structure s x p tt (ap (λ (f : Bool). make_of f s (walk dtmf x 0).fields) (sym lone) ∙ w));
      }

  in_reserved : (tag : ℕ) → is_cuei id && ltb tag 4 ≡ false → Keeps (reserved_of tag s)
  unfolding payload_made writable_reserved blank_beside
  in_reserved tag other =
      let v : View = record { at = 0; len = length s } in
      let f : writable_reserved tag id blank_beside.eidr ≡ true = rw (other, zeros_all 12) in
      let r : ReadyOf (Reserved tag v) = record {
        handed = lone_handed (Reserved tag v) id four (omega arith);
        sees = omega arith;
        numbers = refl;
        writable = f;
        size = λ p w. omega (arith, write_size private_table private_structure s v p tt (ap (λ (f : Bool). make_of f s (walk private_table v 0).fields) (sym f) ∙ w));
      } in
      rw (← reserved_is s tag) r

  -- ---- a segmentation descriptor

  head_kept : (h : Head) (m : ℕ) → parse head (bits_of s) 0 ≡ got h m → (h.event < 2 ^ 32) × (5 ≤ length s)
  unfolding head
  head_kept h m e =
      let e₁ = (reads_number s 0 32 _ _ h m e).1 in
      let e₂ = (reads_flag s 32 _ _ h m e₁).1 in
      let i = reads_ones s 33 7 _ h m e₂ in
      let z : h ≡ record { event = field (bits_of s) 0 32; cancel = eqb (field (bits_of s) 32 1) 1 } = cc i.1 in
      (rw z (field_lt s 0 32), omega (arith, i.0))

  cancelled : (event : ℕ) → event < 2 ^ 32 → 5 ≤ length s
      → Ready (Segmentation (record { segmentation_event_id = event; descriptor_detail = DescriptorDetail.Cancel })) (replicate 4 0) blank_beside s (length s)
  unfolding writable_segment writable_detail writable_upid written_type blank_beside payload_size payload_made
  cancelled event e n =
      let x : SegmentationDescriptor = record { segmentation_event_id = event; descriptor_detail = DescriptorDetail.Cancel } in
      let c : check_of 0 (viewed s no_view) ≡ Ok 0 = check_none 0 (viewed s no_view) (no_bytes s) in
      record {
        handed = lone_handed (Segmentation x) (replicate 4 0) refl (omega arith);
        sees = omega arith;
        numbers = rw (lt-ltb event (2 ^ 32) e);
        writable = rw (zeros_all 4, zeros_all 12, c);
        size = λ p w. omega (arith, made_size x (replicate 4 0) blank_beside s (omega arith) p w);
      }

  in_cancel : (h : Head) (m : ℕ) → parse head (bits_of s) 0 ≡ got h m → h.cancel ≡ true
      → ReadyOf (Segmentation (record { segmentation_event_id = h.event; descriptor_detail = DescriptorDetail.Cancel }))
  unfolding segmentation beside_of beside_in blank_beside eidr_of
  in_cancel h m eh on =
      let g : parse segmentation (bits_of s) 0 ≡ got (record {
        descriptor = record { segmentation_event_id = h.event; descriptor_detail = DescriptorDetail.Cancel };
        components = [];
      }) m = takes_in head _ _ (bits_of s) 0 h m eh ∙ rw on in
      let b : beside_of s ≡ blank_beside = rw g in
      let k = head_kept h m eh in
      rw b (cancelled h.event k.0 k.1)

  -- an EIDR, or its blank
  eidr_held : (k : ℕ) (l : List ℕ) → AllBytes l → (length (eidr_of k l) ≡ 12) × AllBytes (eidr_of k l)
  unfolding eidr_of
  eidr_held k l al = go (eqb k 10) (eqb (length l) 12) refl
    where
      go : (c d : Bool) → eqb (length l) 12 ≡ d → (length (pick (c && d) l (replicate 12 0)) ≡ 12) × AllBytes (pick (c && d) l (replicate 12 0))
      go true true e = (eqb-true _ _ e, al)
      go true false e = (refl, zeros_bytes 12)
      go false d e = (refl, zeros_bytes 12)

  fits : (w v : ℕ) (rest : Bool) → v < 2 ^ w → rest ≡ true → ltb v (2 ^ w) && rest ≡ true
  fits w v rest h e = rw (lt-ltb v (2 ^ w) h) e

  abbrev bytes : (k : ℕ) → get_or s k 0 < 256
  bytes = byte_in s a

  module _ (h : Head) (m : ℕ) (eh : parse head (bits_of s) 0 ≡ got h m) (off : h.cancel ≡ false) where
    module _ (f : ListedFront) (m₁ : ℕ) (ef : parse front (bits_of s) m ≡ got f m₁) (q : ℕ)
        (ec : check_of f.front.segmentation_upid.upid_type (viewed s f.front.segmentation_upid.bytes) ≡ Ok q) where
      abbrev w : SegmentationUpid
      w = f.front.segmentation_upid

      from : parse front (bits_of s) 40 ≡ got f m₁
      from = sym (ap (parse front (bits_of s)) (head_ends s h m eh)) ∙ ef

      placed : Placed s bytes f
      placed = front_told s bytes f m₁ from

      kept : FrontKept s f m₁
      kept = front_kept s f m₁ from

      upid_there : (w.upid_type < 256) × (w.bytes.len < 256) × (w.bytes.at + w.bytes.len ≤ length s)
      upid_there = rw placed.is (bytes (place f), bytes (place f + 1), placed.there)

      writable : upids.Writable s w.upid_type w.bytes q upid_there.2 ec
      writable = upids.upid_writable s w.upid_type w.bytes q upid_there.2 ec

      abbrev beside : Beside
      beside = record { components = filled f.components; eidr = eidr_of w.upid_type (viewed s w.bytes) }

      inserts : (b : _) (m₂ : ℕ) → parse back (bits_of s) m₁ ≡ got b m₂
          → Ready (Segmentation (record { segmentation_event_id = h.event; descriptor_detail = DescriptorDetail.Active (active_from f.front (reported_upid q w.bytes) b) })) (replicate 4 0) beside s (length s)
      unfolding writable_segment writable_detail writable_front payload_size payload_made
      inserts b m₂ eb =
          let u : SegmentationUpid = reported_upid q w.bytes in
          let x : SegmentationDescriptor = record { segmentation_event_id = h.event; descriptor_detail = DescriptorDetail.Active (active_from f.front u b) } in
          let k = back_kept s m₁ b m₂ eb in
          let n : ℕ = count_of f.front.segmentation_mode in
          let c : take n (filled f.components) ≡ f.components = counted_again n f.components kept.counted in
          let few : length f.components ≤ 255 = omega (arith, kept.count, kept.counted) in
          let held = eidr_held w.upid_type (viewed s w.bytes) (all_viewed s w.bytes a) in
          let all : n ≤ length (filled f.components) = omega (arith, kept.count, filled_length f.components few) in
          let last : fit (component_numbers (take n (filled f.components))) ≡ true = ap (λ (cs : List SegmentationComponent). fit (component_numbers cs)) c ∙ kept.numbers in
          let l : u.bytes.len < 2 ^ 8 = omega (arith, writable.shorter, upid_there.1) in
          record {
            handed = record { four = refl; twelve = held.0; held = held.1; places = filled_length f.components few; count = omega (arith, kept.count); are = a };
            sees = writable.there;
            numbers =
                fits 32 h.event _ (head_kept h m eh).0
                (fits 8 n _ kept.count
                (fits 40 _ _ kept.lasts
                (fits 8 q _ (upids.reported_byte s w.upid_type w.bytes q upid_there.2 ec upid_there.0)
                (fits 8 u.bytes.len _ l
                (fits 8 _ _ k.type_id
                (fits 8 _ _ k.num
                (fits 8 _ _ k.expected
                (fits 8 _ _ k.sub.num
                (fits 8 _ _ k.sub.expected
                last)))))))));
            writable = rw (zeros_all 4, k.writable, writable.writable) (rw kept.writable);
            size = λ p Made-so. omega (arith, made_size x (replicate 4 0) beside s all p Made-so, writable.size, k.sub.there, kept.ends);
          }

      inserted_is : (b : _) (m₂ : ℕ) → parse back (bits_of s) m₁ ≡ got b m₂
          → ReadyOf (Segmentation (record { segmentation_event_id = h.event; descriptor_detail = DescriptorDetail.Active (active_from f.front (reported_upid q w.bytes) b) }))
      unfolding segmentation beside_of beside_in
      inserted_is b m₂ eb =
          let g : parse segmentation (bits_of s) 0 ≡ got (record {
            descriptor = record { segmentation_event_id = h.event; descriptor_detail = DescriptorDetail.Active (active_from f.front w b) };
            components = f.components;
          }) m₂ =
          takes_in head _ _ (bits_of s) 0 h m eh
          ∙ rw off
          (takes_in front _ _ (bits_of s) m f m₁ ef
          ∙ takes_in back _ _ (bits_of s) m₁ b m₂ eb) in
          let z : beside_of s ≡ beside = rw g in
          rw z (inserts b m₂ eb)

    in_active : Keeps (active_of s h.event m)
    unfolding active_of active_with
    in_active =
        and_then_lem (parse front (bits_of s) m) _ λ f m₁ ef.
        if_fine_lem (check_of f.front.segmentation_upid.upid_type (viewed s f.front.segmentation_upid.bytes)) f.front.segmentation_upid.bytes _ λ q ec.
        and_then_lem (parse back (bits_of s) m₁) _ λ b m₂ eb. inserted_is f m₁ ef q ec b m₂ eb

  in_segmentation : Keeps (segmentation_of s)
  unfolding segmentation_of
  in_segmentation = and_then_lem (parse head (bits_of s) 0) _ λ h m e. picked h.cancel _ _ (λ on. in_cancel h m e on) (λ off. in_active h m e off)

  -- ---- by identifier and tag

  above : (tag : ℕ) → eqb tag 0 ≡ false → eqb tag 1 ≡ false → eqb tag 2 ≡ false → eqb tag 3 ≡ false → 4 ≤ tag
  above tag e₀ e₁ e₂ e₃ =
      let n₀ : tag ≡ 0 → ⊥ = eqb-false tag 0 e₀ in
      let n₁ : tag ≡ 1 → ⊥ = eqb-false tag 1 e₁ in
      let n₂ : tag ≡ 2 → ⊥ = eqb-false tag 2 e₂ in
      let n₃ : tag ≡ 3 → ⊥ = eqb-false tag 3 e₃ in
      omega arith

  pub ready : (tag : ℕ) → Keeps (descriptor_of tag id s)
  unfolding descriptor_of
  ready tag =
      picked (is_cuei id) _ _
      (λ t.
      picked (eqb tag 0) _ _ (λ t. in_avail) λ t₀.
      picked (eqb tag 1) _ _ (λ t. in_dtmf) λ t₁.
      picked (eqb tag 2) _ _ (λ t. in_segmentation) λ t₂.
      picked (eqb tag 3) _ _ (λ t. in_time) λ t₃. in_reserved tag (rw (t, le-ltb tag 4 (above tag t₀ t₁ t₂ t₃))))
      (λ t. in_reserved tag (rw t))

  -- so something is written of it
  pub written_of : (tag : ℕ) (d : Descriptor) → descriptor_of tag id s ≡ Ok d → length s + 4 ≤ 254
      → Handed d (identifier_read (Ok d) id) (beside_read (Ok d) s) s
      × ((b : List ℕ) × (descriptor_made d (identifier_read (Ok d) id) (beside_read (Ok d) s) s ≡ made b))
  written_of tag d e n =
      let r : ReadyOf d = rw e at (ready tag) in
      (r.handed, is_written d _ _ s (length s) n r)
