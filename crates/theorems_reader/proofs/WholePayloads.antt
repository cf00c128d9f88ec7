-- What a descriptor's payload says of its identifiers, in its own bytes.
--     payload_says_lem     of whatever is read of it
use Prim.Native.Nat.{ℕ, zero, suc, ◌+◌, ◌*◌, ◌-◌, ◌/◌, ◌%◌, ◌^◌, ◌≤◌, ◌<◌}
use mathlib.Core.Bool.{Bool, true, false}
use mathlib.Core.List.{List, ◌∷◌}
use mathlib.Core.Path.{◌≡◌, refl, ap, sym, ◌∙◌}
use native.Mathlib.Omega.{arith}
use lib.Dec.{eqb, ltb}
use lib.ListN.{length, drop, get_or}
use lib.Seq.{get_or-take, get_or-drop}
use Rattle.table.proofs.Fields.{field_in}
use Rattle.table.proofs.Steps.{takes_in, reads_number, reads_ones, reads_part}
use Rattle.table.specs.Bits.{pick, bits_of, field}
use Rattle.table.specs.Lent.{viewed}
use Rattle.table.specs.Table.{Answer, got, short, parse}
use Rattle.table.specs.declared.View.{View}
use Rattle.upid.specs.Upid as upid
use Rattle.upid.specs.Upid.{check_of}
use Rattle.upid.specs.declared.Refusal.{Refusal}
use Rattle.upid.specs.declared.Refusal.TheVariants.{InputTooLong, NotEnoughData, UpidLengthTypeMismatch, InvalidUpidContent, InvalidUpidLength}
use Rattle.descriptor.proofs.Plains.{reserved_is}
use Rattle.descriptor.specs.Descriptor.{◌and_then◌, moved_refusal, reported_upid, if_fine, avail_of, dtmf_of, time_of, reserved_of, active_with, active_of, segmentation_of, is_cuei, descriptor_of}
use Rattle.descriptor.specs.Plain.{avail, dtmf, time}
use Rattle.descriptor.specs.Segmentation.{ListedFront, Head, head, front, back, active_from, segmentation, mode_size, duration_size, fields_before}
use Rattle.descriptor.specs.Full.{beside_in, beside_of}
use Rattle.descriptor.specs.declared.Descriptor.{Descriptor}
use Rattle.descriptor.specs.declared.plain.DTMFDescriptor.{DTMFDescriptor}
use Rattle.descriptor.specs.declared.segmentation.DescriptorDetail.{DescriptorDetail}
use Rattle.descriptor.specs.declared.segmentation.SegmentationDetail.{SegmentationDetail}
use Rattle.descriptor.specs.declared.segmentation.SegmentationUpid.{SegmentationUpid}
use Rattle.theorems_reader.proofs.Runs.{viewed_is, length_viewed}
use Rattle.descriptor.proofs.Heads.{head_ends, head_cancels, place, upid_in, Placed, front_told}
use Rattle.theorems_reader.proofs.WholeTexts.{Headed, text_headed}
use Rattle.std.proofs.Common.{Ok, Err, Result}

-- where it stands in its payload, by what is read of the fields before it
abbrev pub upid_place : SegmentationDetail → ℕ
upid_place i = 6 + (mode_size i.segmentation_mode + duration_size i.segmentation_duration)

-- the UPID of an insert: it is the one that is written in the payload at its place, as it is reported; and what stands beside it
pub record Told (s : List ℕ) (i : SegmentationDetail) : Type 0 where
  pub before : upid_place i ≡ 6 + fields_before (get_or s 5 0) (get_or s 6 0)
  pub there : upid_place i + 2 + get_or s (upid_place i + 1) 0 ≤ length s
  pub checked : check_of (get_or s (upid_place i) 0) (viewed s (upid_in s (upid_place i)).bytes) ≡ Ok i.segmentation_upid.upid_type
  pub is : i.segmentation_upid ≡ reported_upid i.segmentation_upid.upid_type (upid_in s (upid_place i)).bytes
  pub beside : (beside_of s).eidr ≡ upid.eidr_of (get_or s (upid_place i) 0) (viewed s (upid_in s (upid_place i)).bytes)

abbrev pub SaysDetail : List ℕ → DescriptorDetail → Type 0
SaysDetail s DescriptorDetail.Cancel = (5 ≤ length s) × (get_or s 4 0 / 128 % 2 ≡ 1)
SaysDetail s (DescriptorDetail.Active i) = Told s i

abbrev pub SaysRefusal : List ℕ → Refusal → Type 0
SaysRefusal s InputTooLong = Unit {0}
SaysRefusal s (NotEnoughData expected actual) = Unit {0}
SaysRefusal s UpidLengthTypeMismatch = Unit {0}
SaysRefusal s (InvalidUpidContent upid_type_number v) = Headed s 0 upid_type_number v
SaysRefusal s (InvalidUpidLength upid_type_number expected actual) = Unit {0}

abbrev pub Says : List ℕ → Result Descriptor Refusal → Type 0
Says s (Ok (Descriptor.Avail x)) = Unit {0}
Says s (Ok (Descriptor.Dtmf x)) = (x.dtmf_chars ≡ record { at = 2; len = get_or s 1 0 / 32 }) × (2 + get_or s 1 0 / 32 ≤ length s)
Says s (Ok (Descriptor.Segmentation x)) = SaysDetail s x.descriptor_detail
Says s (Ok (Descriptor.Time x)) = Unit {0}
Says s (Ok (Descriptor.Reserved tag v)) = v ≡ record { at = 0; len = length s }
Says s (Err r) = SaysRefusal s r

module _ (s : List ℕ) (bytes : (k : ℕ) → get_or s k 0 < 256) where
  picked : (t : Bool) (a b : Result Descriptor Refusal) → (t ≡ true → Says s a) → (t ≡ false → Says s b) → Says s (pick t a b)
  picked true a b p q = p refl
  picked false a b p q = q refl

  and_then_lem : {X : Type 0} (a : Answer X) (k : X → ℕ → Result Descriptor Refusal) → ((x : X) (m : ℕ) → a ≡ got x m → Says s (k x m)) → Says s (a and_then k)
  and_then_lem (got x m) k f = f x m refl
  and_then_lem (short expected actual) k f = tt

  if_fine_lem : (c : Result ℕ Refusal) (v : View) (k : SegmentationUpid → Result Descriptor Refusal) → ((q : ℕ) → c ≡ Ok q → Says s (k (reported_upid q v)))
      → ((r : Refusal) → c ≡ Err r → SaysRefusal s (moved_refusal v.at r)) → Says s (if_fine c v k)
  if_fine_lem (Ok q) v k f g = f q refl
  if_fine_lem (Err r) v k f g = g r refl

  -- ---- a refused UPID

  module _ (q : ℕ) (there : q + 2 + get_or s (q + 1) 0 ≤ length s) where
    abbrev its : List ℕ
    its = viewed s (upid_in s q).bytes

    its_length : length its ≡ get_or s (q + 1) 0
    its_length = length_viewed s (upid_in s q).bytes there

    -- the UPID with its head, byte by byte
    head_byte : (j : ℕ) → j < 2 + length its → get_or (get_or s q 0 ∷ (length its ∷ its)) j 0 ≡ get_or s (q + j) 0
    head_byte zero h = ap (λ (i : ℕ). get_or s i 0) (let z : q ≡ q + 0 = omega arith in z)
    head_byte (suc zero) h = its_length
    head_byte (suc (suc j)) h =
        ap (λ (l : List ℕ). get_or l j 0) (viewed_is s (upid_in s q).bytes there)
        ∙ get_or-take (get_or s (q + 1) 0) (drop (q + 2) s) j 0 (omega (arith, its_length)) ∙ get_or-drop (q + 2) s j 0
        ∙ ap (λ (i : ℕ). get_or s i 0) (let z : q + 2 + j ≡ q + suc (suc j) = omega arith in z)

    refused_upid : (r : Refusal) → check_of (get_or s q 0) its ≡ Err r → SaysRefusal s (moved_refusal (q + 2) r)
    refused_upid InputTooLong e = tt
    refused_upid (NotEnoughData expected actual) e = tt
    refused_upid UpidLengthTypeMismatch e = tt
    refused_upid (InvalidUpidContent k v) e =
        let h = text_headed (get_or s q 0) its k v e in
        record {
          behind = omega arith;
          upid_type =
              h.upid_type ∙ head_byte (2 + v.at - 0 - 2) (omega (arith, h.inside))
              ∙ ap (λ (i : ℕ). get_or s i 0) (let z : q + (2 + v.at - 0 - 2) ≡ q + 2 + v.at - 0 - 2 = omega arith in z);
          len =
              h.len ∙ head_byte (2 + v.at - 0 - 1) (omega (arith, h.inside))
              ∙ ap (λ (i : ℕ). get_or s i 0) (let z : q + (2 + v.at - 0 - 1) ≡ q + 2 + v.at - 0 - 1 = omega arith in z);
          inside = omega (arith, h.inside, its_length);
        }
    refused_upid (InvalidUpidLength k expected actual) e = tt

  -- ---- a segmentation descriptor

  module _ (h : Head) (m : ℕ) (eh : parse head (bits_of s) 0 ≡ got h m) (off : h.cancel ≡ false) where
    told : (f : ListedFront) (m₁ : ℕ) (b : _) (m₂ q : ℕ) → parse front (bits_of s) m ≡ got f m₁ → parse back (bits_of s) m₁ ≡ got b m₂ → Placed s bytes f
        → check_of f.front.segmentation_upid.upid_type (viewed s f.front.segmentation_upid.bytes) ≡ Ok q
        → Told s (active_from f.front (reported_upid q f.front.segmentation_upid.bytes) b)
    unfolding segmentation beside_of beside_in
    told f m₁ b m₂ q ef eb p ec =
        let g : parse segmentation (bits_of s) 0 ≡ got (record {
          descriptor = record { segmentation_event_id = h.event; descriptor_detail = DescriptorDetail.Active (active_from f.front f.front.segmentation_upid b) };
          components = f.components;
        }) m₂ =
        takes_in head _ _ (bits_of s) 0 h m eh
        ∙ rw off
        (takes_in front _ _ (bits_of s) m f m₁ ef
        ∙ takes_in back _ _ (bits_of s) m₁ b m₂ eb) in
        record {
          before = p.before;
          there = p.there;
          checked = ap (λ (u : SegmentationUpid). check_of u.upid_type (viewed s u.bytes)) (sym p.is) ∙ ec;
          is = ap (λ (u : SegmentationUpid). reported_upid q u.bytes) p.is;
          beside = rw g (ap (λ (u : SegmentationUpid). upid.eidr_of u.upid_type (viewed s u.bytes)) p.is);
        }

    in_active : Says s (active_of s h.event m)
    unfolding active_of active_with
    in_active =
        and_then_lem (parse front (bits_of s) m) _ λ f m₁ ef.
        let p : Placed s bytes f = front_told s bytes f m₁ (sym (ap (parse front (bits_of s)) (head_ends s h m eh)) ∙ ef) in
        let w : SegmentationUpid = f.front.segmentation_upid in
        if_fine_lem (check_of w.upid_type (viewed s w.bytes)) w.bytes _
        (λ q ec. and_then_lem (parse back (bits_of s) m₁) _ λ b m₂ eb. told f m₁ b m₂ q ef eb p ec)
        (λ r ec.
        rw (ap (λ (u : SegmentationUpid). u.bytes.at) p.is)
        (refused_upid (place f) p.there r (ap (λ (u : SegmentationUpid). check_of u.upid_type (viewed s u.bytes)) (sym p.is) ∙ ec)))

  in_segmentation : Says s (segmentation_of s)
  unfolding segmentation_of
  in_segmentation = and_then_lem (parse head (bits_of s) 0) _ λ h m e. picked h.cancel _ _ (λ on. head_cancels s bytes h m e on) (λ off. in_active h m e off)

  -- ---- the others

  in_avail : Says s (avail_of s)
  unfolding avail_of
  in_avail = picked (ltb (length s) 4) _ _ (λ t. tt) (λ t. and_then_lem (parse avail (bits_of s) 0) _ λ x m e. tt)

  in_time : Says s (time_of s)
  unfolding time_of
  in_time = picked (ltb (length s) 12) _ _ (λ t. tt) (λ t. and_then_lem (parse time (bits_of s) 0) _ λ x m e. tt)

  characters : (x : DTMFDescriptor) (m : ℕ) → parse dtmf (bits_of s) 0 ≡ got x m → (x.dtmf_chars ≡ record { at = 2; len = get_or s 1 0 / 32 }) × (2 + get_or s 1 0 / 32 ≤ length s)
  unfolding dtmf
  characters x m e =
      let e₁ = (reads_number s 0 8 _ _ x m e).1 in
      let e₂ = (reads_number s 8 3 _ _ x m e₁).1 in
      let i = reads_ones s 11 5 _ x m e₂ in
      let j = reads_part s 16 (field (bits_of s) 8 3) _ _ x m i.1 in
      let n : field (bits_of s) (1 * 8 + 0) 3 ≡ get_or s 1 0 / 2 ^ 5 % 2 ^ 3 = field_in s 1 (omega (arith, i.0)) (bytes 1) 0 3 5 refl in
      let k : get_or s 1 0 / 32 % 8 ≡ get_or s 1 0 / 32 = omega (arith, bytes 1) in
      let z : x.dtmf_chars ≡ record { at = 2; len = field (bits_of s) 8 3 } = cc j.1 in
      (z ∙ ap (λ (l : ℕ). record { at = 2; len = l }) (n ∙ k), omega (arith, j.0, n, k))

  in_dtmf : Says s (dtmf_of s)
  unfolding dtmf_of
  in_dtmf = and_then_lem (parse dtmf (bits_of s) 0) _ λ x m e. characters x m e

  in_reserved : (tag : ℕ) → Says s (reserved_of tag s)
  in_reserved tag = rw (← reserved_is s tag) refl

  pub payload_says_lem : (tag : ℕ) (id : List ℕ) → Says s (descriptor_of tag id s)
  unfolding descriptor_of
  payload_says_lem tag id =
      picked (is_cuei id) _ _
      (λ t.
      picked (eqb tag 0) _ _ (λ t. in_avail) λ t.
      picked (eqb tag 1) _ _ (λ t. in_dtmf) λ t.
      picked (eqb tag 2) _ _ (λ t. in_segmentation) λ t.
      picked (eqb tag 3) _ _ (λ t. in_time) λ t. in_reserved tag)
      (λ t. in_reserved tag)
