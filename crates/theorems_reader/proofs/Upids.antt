-- The UPID of a segmentation descriptor that is read, and the one that is written in its payload.
--     sources          each UPID of a reading has one that is written, which was checked
use Prim.Native.Nat.{ℕ}
use mathlib.Core.Bool.{Bool, true, false}
use mathlib.Core.List.{List, []}
use mathlib.Core.Path.{◌≡◌, refl, ap, ◌∙◌}
use lib.Dec.{eqb, ltb}
use lib.ListN.{length}
use Rattle.table.proofs.Steps.{takes_in}
use Rattle.table.specs.Bits.{pick, bits_of}
use Rattle.table.specs.Lent.{viewed}
use Rattle.table.specs.Table.{Answer, got, short, parse}
use Rattle.table.specs.declared.View.{View}
use Rattle.upid.specs.Cover.{All, none, more}
use Rattle.upid.specs.Upid as upid
use Rattle.upid.specs.Upid.{check_of}
use Rattle.descriptor.specs.Descriptor.{◌and_then◌, reported_upid, if_fine, avail_of, dtmf_of, time_of, reserved_of, active_with, active_of, segmentation_of, is_cuei, descriptor_of}
use Rattle.descriptor.specs.Plain.{avail, dtmf, time, private_table}
use Rattle.descriptor.specs.Segmentation.{ListedFront, Head, head, front, back, active_from, segmentation}
use Rattle.descriptor.specs.Full.{beside_in, beside_of}
use Rattle.descriptor.specs.declared.segmentation.DescriptorDetail.{DescriptorDetail}
use Rattle.descriptor.specs.declared.segmentation.SegmentationUpid.{SegmentationUpid}
use Rattle.theorems_reader.specs.Identifiers.{upid_start, upids_of}
use Rattle.std.proofs.Common.{Ok, Err, Some, Result}
use Rattle.upid.specs.declared.Refusal.{Refusal}
use Rattle.descriptor.specs.declared.Descriptor.{Descriptor}

-- ---- each UPID of a reading

abbrev pub upids_read : Result Descriptor Refusal → List SegmentationUpid
upids_read (Ok d) = upids_of (Some (Ok d))
upids_read (Err r) = []

-- the UPID u of a payload's reading is this one, which is written there and was checked; and what stands beside it
pub record Source (s : List ℕ) (u : SegmentationUpid) : Type 0 where
  pub written : SegmentationUpid
  pub checked : check_of written.upid_type (viewed s written.bytes) ≡ Ok u.upid_type
  pub is : u ≡ reported_upid u.upid_type written.bytes
  pub beside : (beside_of s).eidr ≡ upid.eidr_of written.upid_type (viewed s written.bytes)
  pub start : upid_start (parse segmentation (bits_of s) 0) ≡ written.bytes.at

module _ (s : List ℕ) where
  abbrev Every : Result Descriptor Refusal → Type 0
  Every r = All (Source s) (upids_read r)

  picked : (t : Bool) (a b : Result Descriptor Refusal) → (t ≡ true → Every a) → (t ≡ false → Every b) → Every (pick t a b)
  picked true a b p q = p refl
  picked false a b p q = q refl

  and_then_lem : {X : Type 0} (a : Answer X) (k : X → ℕ → Result Descriptor Refusal) → ((x : X) (m : ℕ) → a ≡ got x m → Every (k x m)) → Every (a and_then k)
  and_then_lem (got x m) k f = f x m refl
  and_then_lem (short expected actual) k f = none

  if_fine_lem : (c : Result ℕ Refusal) (v : View) (k : SegmentationUpid → Result Descriptor Refusal) → ((q : ℕ) → c ≡ Ok q → Every (k (reported_upid q v))) → Every (if_fine c v k)
  if_fine_lem (Ok q) v k f = f q refl
  if_fine_lem (Err r) v k f = none

  module _ (h : Head) (m : ℕ) (eh : parse head (bits_of s) 0 ≡ got h m) (off : h.cancel ≡ false) where
    source : (f : ListedFront) (m₁ : ℕ) (b : _) (m₂ q : ℕ) → parse front (bits_of s) m ≡ got f m₁ → parse back (bits_of s) m₁ ≡ got b m₂
        → check_of f.front.segmentation_upid.upid_type (viewed s f.front.segmentation_upid.bytes) ≡ Ok q → Source s (reported_upid q f.front.segmentation_upid.bytes)
    unfolding segmentation beside_of beside_in
    source f m₁ b m₂ q ef eb ec =
        let w : SegmentationUpid = f.front.segmentation_upid in
        let g : parse segmentation (bits_of s) 0 ≡ got (record {
          descriptor = record { segmentation_event_id = h.event; descriptor_detail = DescriptorDetail.Active (active_from f.front w b) };
          components = f.components;
        }) m₂ =
        takes_in head _ _ (bits_of s) 0 h m eh
        ∙ rw off
        (takes_in front _ _ (bits_of s) m f m₁ ef
        ∙ takes_in back _ _ (bits_of s) m₁ b m₂ eb) in
        record { written = w; checked = ec; is = refl; beside = rw g; start = ap upid_start g }

    in_active : Every (active_of s h.event m)
    unfolding active_of active_with
    in_active =
        and_then_lem (parse front (bits_of s) m) _ λ f m₁ ef.
        let w : SegmentationUpid = f.front.segmentation_upid in
        if_fine_lem (check_of w.upid_type (viewed s w.bytes)) w.bytes _ λ q ec.
        and_then_lem (parse back (bits_of s) m₁) _ λ b m₂ eb.
        more (source f m₁ b m₂ q ef eb ec) none

  in_segmentation : Every (segmentation_of s)
  unfolding segmentation_of
  in_segmentation = and_then_lem (parse head (bits_of s) 0) _ λ h m e. picked h.cancel _ _ (λ on. none) (λ off. in_active h m e off)

  in_avail : Every (avail_of s)
  unfolding avail_of
  in_avail = picked (ltb (length s) 4) _ _ (λ t. none) (λ t. and_then_lem (parse avail (bits_of s) 0) _ λ x m e. none)

  in_time : Every (time_of s)
  unfolding time_of
  in_time = picked (ltb (length s) 12) _ _ (λ t. none) (λ t. and_then_lem (parse time (bits_of s) 0) _ λ x m e. none)

  in_dtmf : Every (dtmf_of s)
  unfolding dtmf_of
  in_dtmf = and_then_lem (parse dtmf (bits_of s) 0) _ λ x m e. none

  in_reserved : (tag : ℕ) → Every (reserved_of tag s)
  unfolding reserved_of
  in_reserved tag = and_then_lem (parse private_table (bits_of s) 0) _ λ v m e. none

  pub sources : (tag : ℕ) (id : List ℕ) → Every (descriptor_of tag id s)
  unfolding descriptor_of
  sources tag id =
      picked (is_cuei id) _ _
      (λ t.
      picked (eqb tag 0) _ _ (λ t. in_avail) λ t.
      picked (eqb tag 1) _ _ (λ t. in_dtmf) λ t.
      picked (eqb tag 2) _ _ (λ t. in_segmentation) λ t.
      picked (eqb tag 3) _ _ (λ t. in_time) λ t. in_reserved tag)
      (λ t. in_reserved tag)
