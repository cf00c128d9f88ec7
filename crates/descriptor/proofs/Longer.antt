-- "Bytes left over are tolerated": descriptors whose payload is longer read the same.
use Prim.Native.Nat.{ℕ, ◌+◌, ◌-◌, ◌/◌}
use mathlib.Core.Bool.{Bool, true, false}
use mathlib.Core.List.{List, ◌++◌}
use mathlib.Core.Path.{◌≡◌, refl, ap, sym, ◌∙◌}
use native.Mathlib.Omega.{arith}
use lib.Dec.{ltb, eqb}
use lib.ListN.{length, length-append}
use borrow.Author.Tests.{le-ltb, ltb-false, eqb-false, ne_eqb}
use Rattle.table.specs.Bits.{pick, bits_of}
use Rattle.table.specs.Lent.{viewed}
use Rattle.table.specs.Table.{Table, done, uint, must, inside, number, bit, reserved, part, remaining, list, Answer, got, short, parse}
use Rattle.table.proofs.Bits.{bits_append}
use Rattle.table.proofs.Lists.{zero_one}
use Rattle.table.proofs.Longer.{Blind, on_number, goes_on_lem, tolerates, blind_inside, blind_pick, blind_list, viewed_on}
use Rattle.table.proofs.Steps.{takes_in, reads_in}
use Rattle.upid.specs.Upid.{check_of}
use Rattle.upid.specs.declared.Refusal.TheVariants.{NotEnoughData}
use Rattle.descriptor.specs.Descriptor.{◌and_then◌, at_least, avail_of, dtmf_of, time_of, reported_upid, if_fine, active_with, active_of, segmentation_of, cuei, is_cuei, descriptor_of}
use Rattle.descriptor.specs.Plain.{avail, dtmf, time}
use Rattle.descriptor.specs.Segmentation.{delivery_restrictions, component, blank_component, mode, duration, written_upid, ListedFront, parts, front, sub_segment, sub_segments, back, Head, head, active_from}
use Rattle.descriptor.specs.declared.Descriptor.{Descriptor}
use Rattle.descriptor.specs.declared.Descriptor.TheVariants.{Avail, Dtmf, Segmentation, Time}
use Rattle.descriptor.specs.declared.back.Back.{Back}
use Rattle.descriptor.specs.declared.front.Front.{Front}
use Rattle.descriptor.specs.declared.segmentation.SegmentationDescriptor.{SegmentationDescriptor}
use Rattle.descriptor.specs.declared.segmentation.DescriptorDetail.{DescriptorDetail}
use Rattle.descriptor.specs.declared.segmentation.DescriptorDetail.TheVariants.{Cancel, Active}
use Rattle.descriptor.specs.declared.segmentation.SegmentationDetail.{SegmentationDetail}
use Rattle.descriptor.specs.declared.segmentation.SegmentationUpid.{SegmentationUpid}
use Rattle.descriptor.specs.declared.segmentation.SubSegment.{SubSegment}
use Rattle.descriptor.proofs.Insides.{front_inside}
use Rattle.std.proofs.Common.{Ok, Err, Some, None, Option, Result}
use Rattle.upid.specs.declared.Refusal.{Refusal}

then_on : {X : Type 0} (f : X → Descriptor) (t : Table X) → Blind t → (s more : List ℕ) (d : Descriptor) → (parse t (bits_of s) 0 and_then λ x at. Ok (f x)) ≡ Ok d
    → (parse t (bits_of (s ++ more)) 0 and_then λ x at. Ok (f x)) ≡ Ok d
then_on {X} f t h s more d e = go (parse t (bits_of s) 0) refl e
  where
    go : (r : Answer X) → parse t (bits_of s) 0 ≡ r → (r and_then λ x at. Ok (f x)) ≡ Ok d
        → (parse t (bits_of (s ++ more)) 0 and_then λ x at. Ok (f x)) ≡ Ok d
    go (got x m) i e = rw (tolerates t h s more 0 x m i) e
    go (short expected actual) i e = zero_one cc

long_on : (n : ℕ) (s more : List ℕ) (r q : Result Descriptor Refusal) (d : Descriptor) → (r ≡ Ok d → q ≡ Ok d) → at_least n s r ≡ Ok d → at_least n (s ++ more) q ≡ Ok d
long_on n s more r q d f e = go (ltb (length s) n) refl e
  where
    go : (less : Bool) → ltb (length s) n ≡ less → pick less (Err (NotEnoughData n (length s))) r ≡ Ok d → at_least n (s ++ more) q ≡ Ok d
    go true i e = zero_one cc
    go false i e = rw (le-ltb (length (s ++ more)) n (omega (arith, ltb-false (length s) n i, length-append s more))) (f e)

pub avail_on : (s more : List ℕ) (d : Descriptor) → avail_of s ≡ Ok d → avail_of (s ++ more) ≡ Ok d
unfolding avail_of avail number
avail_on s more d e = long_on 4 s more _ _ d (then_on Avail avail (λ v. tt) s more d) e

pub dtmf_on : (s more : List ℕ) (d : Descriptor) → dtmf_of s ≡ Ok d → dtmf_of (s ++ more) ≡ Ok d
unfolding dtmf_of dtmf number reserved part
dtmf_on s more d e = then_on Dtmf dtmf (λ v n r at. tt) s more d e

pub time_on : (s more : List ℕ) (d : Descriptor) → time_of s ≡ Ok d → time_of (s ++ more) ≡ Ok d
unfolding time_of time number
time_on s more d e = long_on 12 s more _ _ d (then_on Time time (λ v n o. tt) s more d) e

-- ---- a segmentation descriptor: bytes behind the head of a cancelled one, and behind sub-segments
pub blind_head : Blind head
unfolding head number bit reserved
blind_head = λ event cancel kept. tt

pub blind_delivery : (free : Bool) → Blind (delivery_restrictions free)
unfolding delivery_restrictions number bit reserved
blind_delivery free = blind_pick free _ _ (λ kept. tt) (λ web blackout archive device. tt)

pub blind_mode : (program : Bool) → Blind (mode program)
unfolding mode component number reserved
blind_mode program =
    blind_pick program _ _ tt
    λ n. blind_inside (list n blank_component component) _ _ (blind_list n blank_component component (λ tag kept offset. tt)) λ cs. tt

pub blind_duration : (flagged : Bool) → Blind (duration flagged)
unfolding duration number
blind_duration flagged = blind_pick flagged _ _ (λ t. tt) tt

blind_parts : (program lasting free : Bool) → Blind (parts program lasting free)
unfolding parts written_upid number part
blind_parts program lasting free =
    blind_inside (delivery_restrictions free) _ _ (blind_delivery free) λ r.
    blind_inside (mode program) _ _ (blind_mode program) λ m.
    blind_inside (duration lasting) _ _ (blind_duration lasting) λ d upid_type_number n at. tt

blind_front : Blind front
unfolding front bit
blind_front = λ program lasting free. blind_parts (eqb program 1) (eqb lasting 1) (eqb free 1)

-- sub-segments that are read are there still, though more bytes are left
sub_on : (bs more : List ℕ) (at : ℕ) (x : SubSegment) (m : ℕ) → parse sub_segments bs at ≡ got (Some x) m → parse sub_segments (bs ++ more) at ≡ got (Some x) m
unfolding sub_segments remaining number
sub_on bs more at x m e = go (eqb ((length bs - at) / 8) 0) refl e
  where
    two : Table (Option SubSegment)
    two =
        uint 8 (λ x. (sub_segment x).sub_segment_num) λ n.
        uint 8 (λ x. (sub_segment x).sub_segments_expected) λ of.
        done (Some (record { sub_segment_num = n; sub_segments_expected = of }))

    -- of bits l, by whether no byte is left
    chosen : List ℕ → Bool → Answer (Option SubSegment)
    chosen l none = parse (pick none (done None) (must (eqb ((length l - at) / 8) 2) two)) l at

    go : (none : Bool) → eqb ((length bs - at) / 8) 0 ≡ none → chosen bs none ≡ got (Some x) m → parse sub_segments (bs ++ more) at ≡ got (Some x) m
    go true i e = zero_one cc
    go false i e =
        let some : (length (bs ++ more) - at) / 8 ≡ 0 → ⊥ = λ z. eqb-false ((length bs - at) / 8) 0 i (omega (arith, length-append bs more)) in
        ap (chosen (bs ++ more)) (ne_eqb ((length (bs ++ more) - at) / 8) 0 some) ∙ goes_on_lem two (λ n of. tt) bs more at (Some x) m e

-- the last field of a table, which are the sub-segments
sub_last : (q : Back → Option SubSegment) (f : Option SubSegment → Back) (bs more : List ℕ) (at : ℕ) (b : Back) (x : SubSegment) (m : ℕ)
    → ((y : Option SubSegment) → (f y).sub_segments ≡ y) → b.sub_segments ≡ Some x
    → parse (inside sub_segments q (λ y. done (f y))) bs at ≡ got b m → parse (inside sub_segments q (λ y. done (f y))) (bs ++ more) at ≡ got b m
sub_last q f bs more at b x m its is e =
    let i = reads_in sub_segments q (λ y. done (f y)) bs at b m e in
    let z : f i.inner ≡ b = cc i.back in
    let u : i.inner ≡ Some x = sym (its i.inner) ∙ ap (λ (b : Back). b.sub_segments) z ∙ is in
    let v : parse sub_segments bs at ≡ got (Some x) i.seam = i.front ∙ ap (λ (y : Option SubSegment). got y i.seam) u in
    takes_in sub_segments q (λ y. done (f y)) (bs ++ more) at i.inner i.seam (sub_on bs more at x i.seam v ∙ ap (λ (y : Option SubSegment). got y i.seam) (sym u)) ∙ i.back

back_on : (bs more : List ℕ) (at : ℕ) (b : Back) (x : SubSegment) (m : ℕ) → b.sub_segments ≡ Some x → parse back bs at ≡ got b m → parse back (bs ++ more) at ≡ got b m
unfolding back
back_on bs more at b x m is e =
    on_number 8 _ _ bs more at b m
    (λ type_id. on_number 8 _ _ bs more (at + 8) b m
    (λ n. on_number 8 _ _ bs more (at + 8 + 8) b m
    (λ of. sub_last _ _ bs more (at + 8 + 8 + 8) b x m (λ y. refl) is))) e

-- cancelled, or with sub-segments
abbrev Closed : DescriptorDetail → Type 0
Closed Cancel = Unit {0}
Closed (Active i) = (x : SubSegment) × (i.sub_segments ≡ Some x)

module _ (s more : List ℕ) (x : SegmentationDescriptor) (closed : Closed x.descriptor_detail) where
  abbrev Reads : Result Descriptor Refusal → Type 0
  Reads r = r ≡ Ok (Segmentation x)

  back_then : (event : ℕ) (f : Front) (u : SegmentationUpid) (at : ℕ) → Reads (parse back (bits_of s) at and_then λ b m. active_with event f u b)
      → Reads (parse back (bits_of (s ++ more)) at and_then λ b m. active_with event f u b)
  unfolding active_with
  back_then event f u at e = go (parse back (bits_of s) at) refl e
    where
      go : (r : Answer Back) → parse back (bits_of s) at ≡ r → Reads (r and_then λ b m. active_with event f u b) → Reads (parse back (bits_of (s ++ more)) at and_then λ b m. active_with event f u b)
      go (got b m) i e =
          let z : x.descriptor_detail ≡ Active (active_from f u b) = cc e in
          let c : Closed (Active (active_from f u b)) = rw z at closed in
          rw (bits_append s more, back_on (bits_of s) (bits_of more) at b c.0 m c.1 i) e
      go (short expected actual) i e = zero_one cc

  fine_then : (event : ℕ) (f : Front) (at : ℕ) (a : Result ℕ Refusal) → Reads (if_fine a f.segmentation_upid.bytes λ u. parse back (bits_of s) at and_then λ b m. active_with event f u b)
      → Reads (if_fine a f.segmentation_upid.bytes λ u. parse back (bits_of (s ++ more)) at and_then λ b m. active_with event f u b)
  fine_then event f at (Ok upid_type_number) e = back_then event f (reported_upid upid_type_number f.segmentation_upid.bytes) at e
  fine_then event f at (Err r) e = zero_one cc

  abbrev verdict : ListedFront → Result ℕ Refusal
  verdict f = check_of f.front.segmentation_upid.upid_type (viewed s f.front.segmentation_upid.bytes)

  front_then : (event at : ℕ) → Reads (active_of s event at) → Reads (active_of (s ++ more) event at)
  unfolding active_of
  front_then event at e = go (parse front (bits_of s) at) refl e
    where
      go : (r : Answer ListedFront) → parse front (bits_of s) at ≡ r
          → Reads (r and_then λ f m. if_fine (verdict f) f.front.segmentation_upid.bytes λ u. parse back (bits_of s) m and_then λ b n. active_with event f.front u b)
          → Reads (active_of (s ++ more) event at)
      go (got f m) i e = rw (tolerates front blind_front s more at f m i, viewed_on s more f.front.segmentation_upid.bytes (front_inside s at f m i)) (fine_then event f.front m (verdict f) e)
      go (short expected actual) i e = zero_one cc

  abbrev cancels : Head → Result Descriptor Refusal
  cancels h = Ok (Segmentation (record { segmentation_event_id = h.event; descriptor_detail = Cancel }))

  segmentation_on : Reads (descriptor_of 2 cuei s) → descriptor_of 2 cuei (s ++ more) ≡ descriptor_of 2 cuei s
  unfolding descriptor_of is_cuei segmentation_of
  segmentation_on e = go (parse head (bits_of s) 0) refl e ∙ sym e
    where
      unless : (b : Bool) (r : Result Descriptor Refusal) (event at : ℕ) → Reads (pick b r (active_of s event at)) → Reads (pick b r (active_of (s ++ more) event at))
      unless true r event at e = e
      unless false r event at e = front_then event at e

      go : (r : Answer Head) → parse head (bits_of s) 0 ≡ r
          → Reads (r and_then λ h at. pick h.cancel (cancels h) (active_of s h.event at))
          → Reads (segmentation_of (s ++ more))
      go (got h at) i e = rw (tolerates head blind_head s more 0 h at i) (unless h.cancel (cancels h) h.event at e)
      go (short expected actual) i e = zero_one cc

pub cancelled_on : (s more : List ℕ) (x : SegmentationDescriptor) → descriptor_of 2 cuei s ≡ Ok (Segmentation x) → x.descriptor_detail ≡ Cancel → descriptor_of 2 cuei (s ++ more) ≡ descriptor_of 2 cuei s
cancelled_on s more x e c = segmentation_on s more x (rw c tt) e

pub sub_segments_on : (s more : List ℕ) (x : SegmentationDescriptor) (i : SegmentationDetail) (sub : SubSegment) → descriptor_of 2 cuei s ≡ Ok (Segmentation x) → x.descriptor_detail ≡ Active i
    → i.sub_segments ≡ Some sub → descriptor_of 2 cuei (s ++ more) ≡ descriptor_of 2 cuei s
sub_segments_on s more x i sub e c is = segmentation_on s more x (rw c (sub, is)) e
