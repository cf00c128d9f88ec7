-- The views of a descriptor, and of a refusal, lie in its payload.
use Prim.Native.Nat.{ℕ, ◌+◌, ◌*◌, ◌/◌, ◌≤◌}
use mathlib.Core.Bool.{Bool, true, false}
use mathlib.Core.List.{List, [], ◌∷◌}
use mathlib.Core.Path.{◌≡◌, refl, ap, sym}
use native.Mathlib.Omega.{arith}
use lib.Dec.{ltb, eqb}
use lib.ListN.{length, drop, length-take}
use borrow.Author.Tests.{le-leb}
use Rattle.table.specs.Bits.{pick, bits_of, field}
use Rattle.table.specs.Lent.{viewed}
use Rattle.table.specs.Table.{Table, inside, reserved, part, Answer, got, short, parse}
use Rattle.table.specs.declared.View.{View}
use Rattle.table.proofs.Bits.{length_bits}
use Rattle.table.proofs.Laws.{view_there}
use Rattle.table.proofs.Steps.{reads_in, reads_number, reads_flag}
use Rattle.upid.specs.Cover.{All, none, more}
use Rattle.upid.specs.Upid.{check_of}
use Rattle.upid.specs.declared.Refusal.{Refusal}
use Rattle.upid.specs.declared.Refusal.TheVariants.{InputTooLong, NotEnoughData, UpidLengthTypeMismatch, InvalidUpidContent, InvalidUpidLength}
use Rattle.upid.proofs.Theorems.{view_of_24_lies_inside}
use Rattle.descriptor.specs.Descriptor.{
  ◌and_then◌,
  avail_of,
  dtmf_of,
  time_of,
  reserved_of,
  moved_refusal,
  reported_upid,
  if_fine,
  active_with,
  active_of,
  segmentation_of,
  is_cuei,
  descriptor_of,
}
use Rattle.descriptor.specs.Plain.{avail, dtmf, time}
use Rattle.descriptor.specs.Segmentation.{ListedFront, blank_upid, delivery_restrictions, mode, duration, written_upid, parts, front, back, head}
use Rattle.descriptor.specs.Views.{without_view, upid_views, refusal_views}
use Rattle.descriptor.specs.Private.{read_views}
use Rattle.descriptor.specs.declared.Descriptor.TheVariants.{Avail, Dtmf, Time}
use Rattle.descriptor.specs.declared.plain.DTMFDescriptor.{DTMFDescriptor}
use Rattle.descriptor.specs.declared.segmentation.SegmentationUpid.{SegmentationUpid}
use Rattle.descriptor.proofs.Plains.{reserved_is}
use Rattle.std.proofs.Common.{Ok, Err, Result}
use Rattle.descriptor.specs.declared.Descriptor.{Descriptor}

-- ---- a run that was read is there
reads_part : {X : Type 0} (s : List ℕ) (at n : ℕ) (q : X → View) (k : View → Table X) (y : X) (m : ℕ) → parse (inside (part n) q k) (bits_of s) at ≡ got y m
    → (at + n * 8 ≤ length s * 8) × (parse (k (record { at = at / 8; len = n })) (bits_of s) (at + n * 8) ≡ got y m)
unfolding part
reads_part {X} s at n q k y m e = rw (length_bits s) at (view_there n (λ (x : X). (q x).at) (λ a. k (record { at = a; len = n })) (bits_of s) at y m e)

abbrev pub Inside : List ℕ → View → Type 0
Inside s v = v.at + v.len ≤ length s

-- ---- the views of the tables
dtmf_inside : (s : List ℕ) (x : DTMFDescriptor) (m : ℕ) → parse dtmf (bits_of s) 0 ≡ got x m → Inside s x.dtmf_chars
unfolding dtmf
dtmf_inside s x m e =
    let e₁ = (reads_number s 0 8 _ _ x m e).1 in
    let e₂ = (reads_number s 8 3 _ _ x m e₁).1 in
    let i = reads_in (reserved 5) _ _ (bits_of s) 11 x m e₂ in
    let n = field (bits_of s) 8 3 in
    let j = reads_part s i.seam n _ _ x m i.back in
    let z : x.dtmf_chars ≡ record { at = i.seam / 8; len = n } = cc j.1 in
    rw z (omega (arith, j.0))

upid_inside : (s : List ℕ) (at : ℕ) (u : SegmentationUpid) (m : ℕ) → parse written_upid (bits_of s) at ≡ got u m → Inside s u.bytes
unfolding written_upid
upid_inside s at u m e =
    let e₁ = (reads_number s at 8 _ _ u m e).1 in
    let e₂ = (reads_number s (at + 8) 8 _ _ u m e₁).1 in
    let n = field (bits_of s) (at + 8) 8 in
    let j = reads_part s (at + 8 + 8) n _ _ u m e₂ in
    let z : u.bytes ≡ record { at = (at + 8 + 8) / 8; len = n } = cc j.1 in
    rw z (omega (arith, j.0))

-- the UPID in a reading
abbrev written : Answer ListedFront → SegmentationUpid
written (got x m) = x.front.segmentation_upid
written (short e a) = blank_upid

-- the parts that were read, one after the other
parts_inside : (s : List ℕ) (p l f : Bool) (at : ℕ) (x : ListedFront) (m : ℕ) → parse (parts p l f) (bits_of s) at ≡ got x m → Inside s x.front.segmentation_upid.bytes
unfolding parts
parts_inside s p l f at x m e =
    let i = reads_in (delivery_restrictions f) _ _ (bits_of s) at x m e in
    let j = reads_in (mode p) _ _ (bits_of s) i.seam x m i.back in
    let k = reads_in (duration l) _ _ (bits_of s) j.seam x m j.back in
    let w = reads_in written_upid _ _ (bits_of s) k.seam x m k.back in
    let z : x.front.segmentation_upid ≡ w.inner = sym (ap written w.back) in
    rw z (upid_inside s k.seam w.inner w.seam w.front)

pub front_inside : (s : List ℕ) (at : ℕ) (x : ListedFront) (m : ℕ) → parse front (bits_of s) at ≡ got x m → Inside s x.front.segmentation_upid.bytes
unfolding front
front_inside s at x m e =
    let e₁ = (reads_flag s at _ _ x m e).1 in
    let e₂ = (reads_flag s (at + 1) _ _ x m e₁).1 in
    let e₃ = (reads_flag s (at + 1 + 1) _ _ x m e₂).1 in
    parts_inside s _ _ _ (at + 1 + 1 + 1) x m e₃

-- ---- the views of what is made of them
abbrev AllInside : List ℕ → Result Descriptor Refusal → Type 0
AllInside s r = All (Inside s) (read_views r)

then_inside : {X : Type 0} (s : List ℕ) (r : Answer X) (k : X → ℕ → Result Descriptor Refusal) → ((x : X) (m : ℕ) → r ≡ got x m → AllInside s (k x m)) → AllInside s (r and_then k)
then_inside s (got x m) k f = f x m refl
then_inside s (short e a) k f = none

pick_inside : (s : List ℕ) (b : Bool) (x y : Result Descriptor Refusal) → AllInside s x → AllInside s y → AllInside s (pick b x y)
pick_inside s true x y f g = f
pick_inside s false x y f g = g

viewed_length : (s : List ℕ) (v : View) → Inside s v → length (viewed s v) ≤ v.len
unfolding viewed
viewed_length s v h = rw (le-leb (v.at + v.len) (length s) h) (omega (arith, length-take v.len (drop v.at s)))

reported_inside : (s : List ℕ) (v : View) (b : Bool) → Inside s v → All (Inside s) (pick b [] (pick b (record { at = 0; len = 0 }) v ∷ []))
reported_inside s v true h = none
reported_inside s v false h = more h none

refusal_inside : (s : List ℕ) (v : View) (k : ℕ) (r : Refusal) → Inside s v → check_of k (viewed s v) ≡ Err r → All (Inside s) (refusal_views (moved_refusal v.at r))
refusal_inside s v k InputTooLong h e = none
refusal_inside s v k (NotEnoughData x a) h e = none
refusal_inside s v k UpidLengthTypeMismatch h e = none
refusal_inside s v k (InvalidUpidContent q t) h e = more {x = record { at = v.at + t.at; len = t.len }} (omega (arith, view_of_24_lies_inside k (viewed s v) q t e, viewed_length s v h)) none
refusal_inside s v k (InvalidUpidLength q x a) h e = none

fine_inside : (s : List ℕ) (v : View) (k : ℕ) (a : Result ℕ Refusal) (f : SegmentationUpid → Result Descriptor Refusal) → Inside s v → check_of k (viewed s v) ≡ a
    → ((u : SegmentationUpid) → All (Inside s) (upid_views u) → AllInside s (f u)) → AllInside s (if_fine a v f)
fine_inside s v k (Ok q) f h e g = g (reported_upid q v) (reported_inside s v (without_view q) h)
fine_inside s v k (Err r) f h e g = refusal_inside s v k r h e

active_inside : (s : List ℕ) (event at : ℕ) → AllInside s (active_of s event at)
unfolding active_of active_with
active_inside s event at =
    then_inside s (parse front (bits_of s) at) _ λ f m e.
    fine_inside s f.front.segmentation_upid.bytes _ _ _ (front_inside s at f m e) refl λ u h.
    then_inside s (parse back (bits_of s) m) (λ b n. active_with event f.front u b) λ b n i. h

segmentation_inside : (s : List ℕ) → AllInside s (segmentation_of s)
unfolding segmentation_of
segmentation_inside s = then_inside s (parse head (bits_of s) 0) _ λ h m e. pick_inside s h.cancel _ _ none (active_inside s h.event m)

reserved_inside : (tag : ℕ) (s : List ℕ) → AllInside s (reserved_of tag s)
reserved_inside tag s =
    let h : Inside s (record { at = 0; len = length s }) = omega arith in
    rw (← reserved_is s tag) (more h none)

avail_inside : (s : List ℕ) → AllInside s (avail_of s)
unfolding avail_of
avail_inside s =
    pick_inside s (ltb (length s) 4) (Err (NotEnoughData 4 (length s))) (parse avail (bits_of s) 0 and_then λ x at. Ok (Avail x)) none
    (then_inside s (parse avail (bits_of s) 0) (λ x at. Ok (Avail x)) λ x m e. none)

time_inside : (s : List ℕ) → AllInside s (time_of s)
unfolding time_of
time_inside s =
    pick_inside s (ltb (length s) 12) (Err (NotEnoughData 12 (length s))) (parse time (bits_of s) 0 and_then λ x at. Ok (Time x)) none
    (then_inside s (parse time (bits_of s) 0) (λ x at. Ok (Time x)) λ x m e. none)

characters_inside : (s : List ℕ) → AllInside s (dtmf_of s)
unfolding dtmf_of
characters_inside s = then_inside s (parse dtmf (bits_of s) 0) (λ x at. Ok (Dtmf x)) λ x m e. more (dtmf_inside s x m e) none

-- the views of whatever is read lie in the payload
pub read_inside : (tag : ℕ) (identifier payload : List ℕ) → All (λ (v : View). v.at + v.len ≤ length payload) (read_views (descriptor_of tag identifier payload))
unfolding descriptor_of
read_inside tag id s =
    let three = pick (eqb tag 3) (time_of s) (reserved_of tag s) in
    let two = pick (eqb tag 2) (segmentation_of s) three in
    let one = pick (eqb tag 1) (dtmf_of s) two in
    pick_inside s (is_cuei id) (pick (eqb tag 0) (avail_of s) one) (reserved_of tag s)
    (pick_inside s (eqb tag 0) (avail_of s) one (avail_inside s)
    (pick_inside s (eqb tag 1) (dtmf_of s) two (characters_inside s)
    (pick_inside s (eqb tag 2) (segmentation_of s) three (segmentation_inside s)
    (pick_inside s (eqb tag 3) (time_of s) (reserved_of tag s) (time_inside s) (reserved_inside tag s)))))
    (reserved_inside tag s)
