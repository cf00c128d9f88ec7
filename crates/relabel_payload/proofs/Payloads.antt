-- A segmentation payload is a hole that its UPID fills.
use Prim.Native.Nat.{ℕ, ◌+◌, ◌*◌, ◌/◌, ◌%◌, ◌≤◌, ◌<◌}
use mathlib.Core.Bool.{Bool, true, false, ◌&&◌}
use mathlib.Core.List.{List, ◌∷◌, ◌++◌, append_assoc}
use mathlib.Core.Path.{◌≡◌, refl, ap, ap₂, sym, subst, ◌∙◌}
use native.Mathlib.Omega.{arith}
use lib.Dec.{eqb}
use lib.ListN.{length, take, get_or, length-append}
use lib.Seq.{length-take-le, drop-append-add, take-append_seam}
use borrow.Author.Tests.{le-leb, eq-eqb, ne_eqb, eqb-true, eqb-false}
use Rattle.table.specs.Bits.{pick, bits_of}
use Rattle.table.specs.Lent.{viewed}
use Rattle.table.specs.Table.{Table, number, remaining, Answer, got, short, parse, canonical, canonical_by, takes_all}
use Rattle.table.proofs.Bits.{bits_append, length_bits}
use Rattle.table.proofs.Lists.{zero_one}
use Rattle.table.proofs.Steps.{takes_in, canonical_inside}
use Rattle.table.proofs.Swaps.{swap, swap_form, Sightless, sightless_inside, sightless_pick, later, shift, shift_form, ends_at}
use Rattle.upid.specs.Upid.{check_of, eidr_of}
use Rattle.upid.specs.Private.{Accepted}
use Rattle.upid.proofs.Walks.{check_short}
use Rattle.descriptor.specs.Descriptor.{◌and_then◌, reported_upid, if_fine, active_with, active_of, segmentation_of}
use Rattle.descriptor.specs.Segmentation as table
use Rattle.descriptor.specs.Segmentation.{ListedFront, Head, head, front, back, sub_segments, written_upid, active_from, with_upid, segmentation}
use Rattle.descriptor.specs.Full.{filled, beside_in, beside_of}
use Rattle.descriptor.specs.declared.Descriptor.TheVariants.{Segmentation}
use Rattle.descriptor.specs.declared.segmentation.SegmentationDescriptor.{SegmentationDescriptor}
use Rattle.descriptor.specs.declared.segmentation.DescriptorDetail.{DescriptorDetail}
use Rattle.descriptor.specs.declared.segmentation.DescriptorDetail.TheVariants.{Cancel, Active}
use Rattle.descriptor.specs.declared.segmentation.SegmentationDetail.{SegmentationDetail}
use Rattle.descriptor.specs.declared.segmentation.SegmentationComponent.{SegmentationComponent}
use Rattle.descriptor.specs.declared.segmentation.SegmentationUpid.{SegmentationUpid}
use Rattle.descriptor.specs.declared.full.Beside.{Beside}
use Rattle.descriptor.proofs.Heads.{head_ends, front_told}
use Rattle.descriptor.proofs.Longer.{blind_head}
use Rattle.relabel_payload.specs.Payload.{payload, upid_head, upid_place, Tabled, Holed}
use Rattle.relabel_payload.proofs.Fronts.{ends_head, Split, split_front, Written, written_is, written_puts}
use Rattle.std.proofs.Common.{Ok, Err, Result}
use Rattle.upid.specs.declared.Refusal.{Refusal}

-- what a table reads
abbrev pub Of : {X : Type 0} → Table X → Type 0
Of {X} t = X

-- the head of the UPID that is read stands where the payload's own bytes say
head_at_lem : (s : List ℕ) → ((k : ℕ) → get_or s k 0 < 256) → (h : Head) (a : ℕ) → parse head (bits_of s) 0 ≡ got h a → (x : ListedFront) (m : ℕ) → parse front (bits_of s) a ≡ got x m
    → x.front.segmentation_upid.bytes.at ≡ upid_head s + 2
unfolding upid_head
head_at_lem s bytes h a eh x m e =
    let p = front_told s bytes x m (ap (parse front (bits_of s)) (sym (head_ends s h a eh)) ∙ e) in
    ap (λ (u : SegmentationUpid). u.bytes.at) p.is ∙ ap (λ (n : ℕ). n + 2) p.before

-- ---- an active segmentation that was read, field by field

pub record Parsed (s : List ℕ) (event : ℕ) (i : SegmentationDetail) : Type 0 where
  pub h : Head
  pub a : ℕ
  pub head_is : parse head (bits_of s) 0 ≡ got h a
  pub stays : h.cancel ≡ false
  pub event_is : h.event ≡ event
  pub f : ListedFront
  pub m : ℕ
  pub front_is : parse front (bits_of s) a ≡ got f m
  pub q : ℕ
  pub fine : check_of f.front.segmentation_upid.upid_type (viewed s f.front.segmentation_upid.bytes) ≡ Ok q
  pub b : Of back
  pub n : ℕ
  pub back_is : parse back (bits_of s) m ≡ got b n
  pub is : active_from f.front (reported_upid q f.front.segmentation_upid.bytes) b ≡ i

module _ (s : List ℕ) (x : SegmentationDescriptor) (i : SegmentationDetail) (detail : x.descriptor_detail ≡ Active i) where
  module _ (h : Head) (a : ℕ) (eh : parse head (bits_of s) 0 ≡ got h a) (stays : h.cancel ≡ false) (f : ListedFront) (m : ℕ) (ef : parse front (bits_of s) a ≡ got f m) where
    abbrev upid₀ : SegmentationUpid
    upid₀ = f.front.segmentation_upid

    of_back : (q : ℕ) → check_of upid₀.upid_type (viewed s upid₀.bytes) ≡ Ok q → (r : Answer (Of back)) → parse back (bits_of s) m ≡ r
        → (r and_then λ b n. active_with h.event f.front (reported_upid q upid₀.bytes) b) ≡ Ok (Segmentation x) → Parsed s x.segmentation_event_id i
    unfolding active_with
    of_back q fine (got b n) eb e =
        let z : ◌≡◌ {A = SegmentationDescriptor} (record { segmentation_event_id = h.event; descriptor_detail = Active (active_from f.front (reported_upid q upid₀.bytes) b) }) x = cc in
        let y : Active (active_from f.front (reported_upid q upid₀.bytes) b) ≡ Active i = ap (λ (d : SegmentationDescriptor). d.descriptor_detail) z ∙ detail in
        record {
          h = h;
          a = a;
          head_is = eh;
          stays = stays;
          event_is = ap (λ (d : SegmentationDescriptor). d.segmentation_event_id) z;
          f = f;
          m = m;
          front_is = ef;
          q = q;
          fine = fine;
          b = b;
          n = n;
          back_is = eb;
          is = cc y;
        }
    of_back q fine (short expected actual) eb e = zero_one cc

    of_check : (r : Result ℕ Refusal) → check_of upid₀.upid_type (viewed s upid₀.bytes) ≡ r
        → (if_fine r upid₀.bytes λ upid. parse back (bits_of s) m and_then λ b n. active_with h.event f.front upid b) ≡ Ok (Segmentation x) → Parsed s x.segmentation_event_id i
    of_check (Ok q) ec e = of_back q ec (parse back (bits_of s) m) refl e
    of_check (Err r) ec e = zero_one cc

  module _ (h : Head) (a : ℕ) (eh : parse head (bits_of s) 0 ≡ got h a) where
    of_front : h.cancel ≡ false → (r : Answer ListedFront) → parse front (bits_of s) a ≡ r
        → (r and_then λ f m. if_fine (check_of f.front.segmentation_upid.upid_type (viewed s f.front.segmentation_upid.bytes)) f.front.segmentation_upid.bytes λ upid.
        parse back (bits_of s) m and_then λ b n. active_with h.event f.front upid b) ≡ Ok (Segmentation x) → Parsed s x.segmentation_event_id i
    of_front stays (got f m) ef e = of_check h a eh stays f m ef (check_of f.front.segmentation_upid.upid_type (viewed s f.front.segmentation_upid.bytes)) refl e
    of_front stays (short expected actual) ef e = zero_one cc

    of_cancel : (t : Bool) → h.cancel ≡ t
        → pick t (Ok (Segmentation (record { segmentation_event_id = h.event; descriptor_detail = Cancel }))) (active_of s h.event a) ≡ Ok (Segmentation x)
        → Parsed s x.segmentation_event_id i
    unfolding active_of
    of_cancel true ec e =
        let z : ◌≡◌ {A = SegmentationDescriptor} (record { segmentation_event_id = h.event; descriptor_detail = Cancel }) x = cc in
        let y : ◌≡◌ {A = DescriptorDetail} Cancel (Active i) = ap (λ (d : SegmentationDescriptor). d.descriptor_detail) z ∙ detail in
        zero_one cc
    of_cancel false ec e = of_front ec (parse front (bits_of s) a) refl e

  of_head : (r : Answer Head) → parse head (bits_of s) 0 ≡ r
      → (r and_then λ h at. pick h.cancel (Ok (Segmentation (record { segmentation_event_id = h.event; descriptor_detail = Cancel }))) (active_of s h.event at)) ≡ Ok (Segmentation x)
      → Parsed s x.segmentation_event_id i
  of_head (got h a) eh e = of_cancel h a eh h.cancel refl e
  of_head (short expected actual) eh e = zero_one cc

  pub parsed : segmentation_of s ≡ Ok (Segmentation x) → Parsed s x.segmentation_event_id i
  unfolding segmentation_of
  parsed e = of_head (parse head (bits_of s) 0) refl e

-- and the other way round
pub assemble : (s : List ℕ) (h : Head) (a : ℕ) (f : ListedFront) (m q : ℕ) (b : Of back) (n : ℕ) → parse head (bits_of s) 0 ≡ got h a → h.cancel ≡ false → parse front (bits_of s) a ≡ got f m
    → check_of f.front.segmentation_upid.upid_type (viewed s f.front.segmentation_upid.bytes) ≡ Ok q → parse back (bits_of s) m ≡ got b n
    → segmentation_of s ≡ Ok (Segmentation (record { segmentation_event_id = h.event; descriptor_detail = Active (active_from f.front (reported_upid q f.front.segmentation_upid.bytes) b) }))
unfolding segmentation_of active_of active_with
assemble s h a f m q b n eh stays ef ec eb = rw (eh, stays, ef, ec, eb)

-- ---- the table

-- of a payload, part by part: its reading, and whether it is canonical
module _ (s : List ℕ) (h : Head) (a : ℕ) (f : ListedFront) (m : ℕ) (b : Of back) (n : ℕ) (eh : parse head (bits_of s) 0 ≡ got h a) (stays : h.cancel ≡ false) (ef : parse front (bits_of s) a ≡ got f m)
    (eb : parse back (bits_of s) m ≡ got b n) where
  abbrev overall : table.Segmentation
  overall = record {
    descriptor = record { segmentation_event_id = h.event; descriptor_detail = Active (active_from f.front f.front.segmentation_upid b) };
    components = f.components;
  }

  table_reads : parse segmentation (bits_of s) 0 ≡ got overall n
  unfolding segmentation
  table_reads = takes_in head _ _ (bits_of s) 0 h a eh ∙ rw stays (takes_in front _ _ (bits_of s) a f m ef ∙ takes_in back _ _ (bits_of s) m b n eb)

  table_form : canonical segmentation (bits_of s) 0 ≡ canonical head (bits_of s) 0 && (canonical front (bits_of s) a && (canonical back (bits_of s) m && true))
  unfolding segmentation
  table_form =
      canonical_inside head _ _ (bits_of s) 0 h a eh
      ∙ ap (λ (x : Bool). canonical head (bits_of s) 0 && x)
      (rw stays (canonical_inside front _ _ (bits_of s) a f m ef ∙ ap (λ (x : Bool). canonical front (bits_of s) a && x) (canonical_inside back _ _ (bits_of s) m b n eb)))

  table_by : canonical_by segmentation s ≡ eqb n (length s * 8) && (canonical head (bits_of s) 0 && (canonical front (bits_of s) a && (canonical back (bits_of s) m && true)))
  unfolding canonical_by
  table_by = ap₂ (λ (r : Answer table.Segmentation) (x : Bool). takes_all r s && x) table_reads table_form

  table_beside : beside_of s ≡ record { components = filled f.components; eidr = eidr_of f.front.segmentation_upid.upid_type (viewed s f.front.segmentation_upid.bytes) }
  unfolding beside_of beside_in
  table_beside = ap (beside_in s) table_reads

-- ---- the fields behind the UPID

sightless_sub : Sightless sub_segments
unfolding sub_segments remaining number
sightless_sub = λ m. sightless_pick (eqb m 0) _ _ tt (λ n of. tt)

sightless_back : Sightless back
unfolding back number
sightless_back = λ type_id n of. sightless_inside sub_segments _ _ sightless_sub λ y. tt

later_got : {X : Type 0} (k : ℕ) (r : Answer X) (x : X) (n : ℕ) → later k r ≡ got x n → (m : ℕ) × (r ≡ got x m) × (k + m ≡ n)
later_got k (got y m) x n e =
    let z : y ≡ x = cc in
    let w : k + m ≡ n = cc in
    (m, ap (λ (w : _). got w m) z, w)
later_got k (short a c) x n e = zero_one cc

back_there : (lead post : List ℕ) → parse back (bits_of (lead ++ post)) (length lead * 8) ≡ later (length lead * 8) (parse back (bits_of post) 0)
back_there lead post =
    let l : length (bits_of lead) ≡ length lead * 8 = length_bits lead in
    let z : length lead * 8 ≡ length (bits_of lead) + 0 = omega arith in
    ap₂ (λ (bs : List ℕ) (at : ℕ). parse back bs at) (bits_append lead post) z
    ∙ shift (bits_of lead) (bits_of post) back sightless_back 0 ∙ ap (λ (k : ℕ). later k (parse back (bits_of post) 0)) l

-- how many bits behind the UPID they end
back_same : (lead other post : List ℕ) (b : Of back) (n : ℕ) → parse back (bits_of (lead ++ post)) (length lead * 8) ≡ got b n
    → (m : ℕ) × (parse back (bits_of (other ++ post)) (length other * 8) ≡ got b (length other * 8 + m)) × (length lead * 8 + m ≡ n)
back_same lead other post b n e =
    let r = later_got (length lead * 8) (parse back (bits_of post) 0) b n (sym (back_there lead post) ∙ e) in
    (r.0, back_there other post ∙ ap (later (length other * 8)) r.1, r.2)

back_form : (lead post : List ℕ) → canonical back (bits_of (lead ++ post)) (length lead * 8) ≡ canonical back (bits_of post) 0
back_form lead post =
    let l : length (bits_of lead) ≡ length lead * 8 = length_bits lead in
    let z : length lead * 8 ≡ length (bits_of lead) + 0 = omega arith in
    ap₂ (λ (bs : List ℕ) (at : ℕ). canonical back bs at) (bits_append lead post) z ∙ shift_form (bits_of lead) (bits_of post) back sightless_back 0

-- ---- the hole

-- the bytes of the UPID are where its head says
viewed_payload : (fore post : List ℕ) (k : ℕ) (u : List ℕ) → viewed (payload fore post k u) (upid_place fore u) ≡ u
unfolding viewed
viewed_payload fore post k u =
    let s : List ℕ = payload fore post k u in
    let size : length s ≡ length fore + (2 + (length u + length post)) = omega (arith, length-append fore (k ∷ (length u ∷ (u ++ post))), length-append u post) in
    let h : length fore + 2 + length u ≤ length s = omega arith in
    rw (le-leb (length fore + 2 + length u) (length s) h)
    (ap (take (length u)) (drop-append-add fore (k ∷ (length u ∷ (u ++ post))) 2) ∙ take-append_seam u post)

-- a payload as what stands up to the UPID's end, and what stands after it
abbrev lead : List ℕ → ℕ → List ℕ → List ℕ
lead fore k u = fore ++ (k ∷ (length u ∷ u))

payload_lead : (fore post : List ℕ) (k : ℕ) (u : List ℕ) → payload fore post k u ≡ lead fore k u ++ post
payload_lead fore post k u = sym (append_assoc fore (k ∷ (length u ∷ u)) post)

lead_size : (fore : List ℕ) (k : ℕ) (u : List ℕ) → length (lead fore k u) ≡ length fore + 2 + length u
lead_size fore k u = omega (arith, length-append fore (k ∷ (length u ∷ u)))

-- the fields behind the UPID, whatever UPID it is
back_refilled : (fore post : List ℕ) (k : ℕ) (u : List ℕ) (c : ℕ) (v : List ℕ) (b : Of back) (n : ℕ) → parse back (bits_of (payload fore post k u)) ((length fore + 2 + length u) * 8) ≡ got b n
    → (m : ℕ) × (parse back (bits_of (payload fore post c v)) ((length fore + 2 + length v) * 8) ≡ got b ((length fore + 2 + length v) * 8 + m))
    × ((length fore + 2 + length u) * 8 + m ≡ n)
back_refilled fore post k u c v b n e =
    let old : parse back (bits_of (lead fore k u ++ post)) (length (lead fore k u) * 8) ≡ got b n =
    ap₂ (λ (s : List ℕ) (l : ℕ). parse back (bits_of s) (l * 8)) (sym (payload_lead fore post k u)) (lead_size fore k u) ∙ e in
    let r = back_same (lead fore k u) (lead fore c v) post b n old in (
      r.0,
      ap₂ (λ (s : List ℕ) (l : ℕ). parse back (bits_of s) (l * 8)) (payload_lead fore post c v) (sym (lead_size fore c v)) ∙ r.1 ∙ ap (λ (l : ℕ). got b (l * 8 + r.0)) (lead_size fore c v),
      omega (arith, r.2, lead_size fore k u),
    )

back_forms : (fore post : List ℕ) (k : ℕ) (u : List ℕ) (c : ℕ) (v : List ℕ)
    → canonical back (bits_of (payload fore post c v)) ((length fore + 2 + length v) * 8) ≡ canonical back (bits_of (payload fore post k u)) ((length fore + 2 + length u) * 8)
back_forms fore post k u c v = of c v ∙ sym (of k u)
  where
    of : (c : ℕ) (v : List ℕ) → canonical back (bits_of (payload fore post c v)) ((length fore + 2 + length v) * 8) ≡ canonical back (bits_of post) 0
    of c v = ap₂ (λ (s : List ℕ) (l : ℕ). canonical back (bits_of s) (l * 8)) (payload_lead fore post c v) (sym (lead_size fore c v)) ∙ back_form (lead fore c v) post

module _ (s : List ℕ) (event : ℕ) (i : SegmentationDetail) (bytes : (k : ℕ) → get_or s k 0 < 256) (p : Parsed s event i) where
  split : Split (bits_of s) p.a p.f p.m
  split = split_front (bits_of s) p.a p.f p.m p.front_is

  q : ℕ
  q = split.seam / 8

  seam_is : split.seam ≡ q * 8
  unfolding q
  seam_is =
      let z : split.seam % 8 ≡ 0 = split.aligned (ends_at head 0 0 ends_head (bits_of s) 0 p.h p.a refl p.head_is) in
      omega arith

  written : Written s q split.upid p.m
  written = written_is s q split.upid p.m bytes (subst (λ (n : ℕ). parse written_upid (bits_of s) n ≡ got split.upid p.m) seam_is split.reads)

  fore : List ℕ
  fore = take q s

  fore_size : length fore ≡ q
  unfolding fore
  fore_size = length-take-le q s written.inside

  rest : List ℕ
  rest = written.upid_type ∷ (length written.bytes ∷ (written.bytes ++ written.post))

  is_holed : s ≡ payload fore written.post written.upid_type written.bytes
  unfolding fore
  is_holed = written.is

  cut : bits_of s ≡ bits_of fore ++ bits_of rest
  unfolding rest
  cut = ap bits_of is_holed ∙ bits_append fore rest

  upid_is_lem : p.f.front.segmentation_upid ≡ record { upid_type = written.upid_type; bytes = record { at = length fore + 2; len = length written.bytes } }
  upid_is_lem =
      ap (λ (x : ListedFront). x.front.segmentation_upid) (sym split.is) ∙ split.has split.upid ∙ written.upid
      ∙ ap (λ (n : ℕ). record { upid_type = written.upid_type; bytes = record { at = n + 2; len = length written.bytes } }) (sym fore_size)

  place_is : length fore ≡ upid_head s
  place_is = omega (arith, ap (λ (u : SegmentationUpid). u.bytes.at) upid_is_lem, head_at_lem s bytes p.h p.a p.head_is p.f p.m p.front_is)

  fine_is : check_of written.upid_type written.bytes ≡ Ok p.q
  fine_is =
      sym (ap (λ (u : SegmentationUpid). check_of u.upid_type (viewed s u.bytes)) upid_is_lem
      ∙ ap (λ (l : List ℕ). check_of written.upid_type (viewed l (record { at = length fore + 2; len = length written.bytes }))) is_holed
      ∙ ap (check_of written.upid_type) (viewed_payload fore written.post written.upid_type written.bytes))
      ∙ p.fine

  old_back : parse back (bits_of (payload fore written.post written.upid_type written.bytes)) ((length fore + 2 + length written.bytes) * 8) ≡ got p.b p.n
  old_back =
      ap₂ (λ (l : List ℕ) (n : ℕ). parse back (bits_of l) ((n + 2 + length written.bytes) * 8)) (sym is_holed) fore_size
      ∙ ap (parse back (bits_of s)) (sym written.end) ∙ p.back_is

  module _ (k : ℕ) (u : List ℕ) (r : ℕ) (hk : k < 256) (ec : check_of k u ≡ Ok r) where
    new : List ℕ
    new = payload fore written.post k u

    after : List ℕ
    after = k ∷ (length u ∷ (u ++ written.post))

    new_cut : bits_of new ≡ bits_of fore ++ bits_of after
    unfolding new after
    new_cut = bits_append fore after

    size : length (bits_of fore) ≡ q * 8
    size = length_bits fore ∙ ap (λ (n : ℕ). n * 8) fore_size

    short_enough : length u < 256
    short_enough = let a : Accepted (check_of k u) = rw ec tt in omega (arith, check_short k u a)

    place : SegmentationUpid
    place = record { upid_type = k; bytes = record { at = length fore + 2; len = length u } }

    new_head : parse head (bits_of new) 0 ≡ got p.h p.a
    new_head =
        ap (λ (bs : List ℕ). parse head bs 0) new_cut
        ∙ swap head blind_head (bits_of fore) (bits_of rest) (bits_of after) 0 p.h p.a (ap (λ (bs : List ℕ). parse head bs 0) (sym cut) ∙ p.head_is)
        (omega (arith, split.from, seam_is, size))

    new_written : parse written_upid (bits_of new) (length fore * 8) ≡ got place ((length fore + 2 + length u) * 8)
    unfolding new place
    new_written = written_puts fore written.post k u hk short_enough

    new_front : parse front (bits_of new) p.a ≡ got (split.make place) ((length fore + 2 + length u) * 8)
    new_front =
        let e : split.seam ≡ length fore * 8 = omega (arith, seam_is, fore_size) in
        ap (λ (bs : List ℕ). parse front bs p.a) new_cut
        ∙ split.again (bits_of fore) (bits_of rest) (bits_of after) cut (omega (arith, seam_is, size)) place ((length fore + 2 + length u) * 8)
        (ap₂ (λ (bs : List ℕ) (n : ℕ). parse written_upid bs n) (sym new_cut) e ∙ new_written)

    new_bytes_lem : viewed new (upid_place fore u) ≡ u
    unfolding new
    new_bytes_lem = viewed_payload fore written.post k u

    new_fine : check_of (split.make place).front.segmentation_upid.upid_type (viewed new (split.make place).front.segmentation_upid.bytes) ≡ Ok r
    unfolding new place
    new_fine =
        ap (λ (x : SegmentationUpid). check_of x.upid_type (viewed new x.bytes)) (split.has place)
        ∙ ap (check_of k) new_bytes_lem ∙ ec

    new_back : (n : ℕ) × (parse back (bits_of new) ((length fore + 2 + length u) * 8) ≡ got p.b ((length fore + 2 + length u) * 8 + n))
        × ((length fore + 2 + length written.bytes) * 8 + n ≡ p.n)
    unfolding new
    new_back = back_refilled fore written.post written.upid_type written.bytes k u p.b p.n old_back

    same_active : active_from (split.make place).front (reported_upid r (split.make place).front.segmentation_upid.bytes) p.b
        ≡ with_upid i (reported_upid r (record { at = length fore + 2; len = length u }))
    unfolding place
    same_active =
        ap (λ (x : SegmentationUpid). active_from (split.make place).front (reported_upid r x.bytes) p.b) (split.has place)
        ∙ split.keeps place (reported_upid r (record { at = length fore + 2; len = length u })) p.b
        ∙ ap (λ (j : SegmentationDetail). with_upid j (reported_upid r (record { at = length fore + 2; len = length u }))) p.is

    new_reads : segmentation_of new ≡ Ok (Segmentation (record { segmentation_event_id = event; descriptor_detail = Active (with_upid i (reported_upid r (record { at = length fore + 2; len = length u }))) }))
    new_reads =
        assemble new p.h p.a (split.make place) ((length fore + 2 + length u) * 8) r p.b ((length fore + 2 + length u) * 8 + new_back.0) new_head p.stays new_front new_fine new_back.1
        ∙ ap₂ (λ (e : ℕ) (j : SegmentationDetail). Ok (Segmentation (record { segmentation_event_id = e; descriptor_detail = Active j }))) p.event_is same_active

    -- ---- the same by its table

    abbrev end : ℕ
    end = (length fore + 2 + length u) * 8 + new_back.0

    new_size : length new ≡ length fore + 2 + length u + length written.post
    unfolding new after
    new_size = omega (arith, length-append fore (k ∷ (length u ∷ (u ++ written.post))), length-append u written.post)

    old_size_lem : length s ≡ length fore + 2 + length written.bytes + length written.post
    unfolding rest
    old_size_lem = omega (arith, ap length is_holed, length-append fore rest, length-append written.bytes written.post)

    -- a byte is spare in the one where it is in the other
    same_end : eqb end (length new * 8) ≡ eqb p.n (length s * 8)
    same_end = go (eqb p.n (length s * 8)) refl
      where
        go : (t : Bool) → eqb p.n (length s * 8) ≡ t → eqb end (length new * 8) ≡ t
        go true e = eq-eqb end (length new * 8) (omega (arith, eqb-true p.n (length s * 8) e, new_back.2, new_size, old_size_lem))
        go false e = ne_eqb end (length new * 8) (λ z. eqb-false p.n (length s * 8) e (omega (arith, z, new_back.2, new_size, old_size_lem)))

    head_form : canonical head (bits_of new) 0 ≡ canonical head (bits_of s) 0
    head_form =
        ap (λ (bs : List ℕ). canonical head bs 0) new_cut
        ∙ swap_form head blind_head (bits_of fore) (bits_of rest) (bits_of after) 0 p.h p.a (ap (λ (bs : List ℕ). parse head bs 0) (sym cut) ∙ p.head_is)
        (omega (arith, split.from, seam_is, size))
        ∙ ap (λ (bs : List ℕ). canonical head bs 0) (sym cut)

    front_form : canonical front (bits_of new) p.a ≡ canonical front (bits_of s) p.a
    front_form =
        let e : split.seam ≡ length fore * 8 = omega (arith, seam_is, fore_size) in
        ap (λ (bs : List ℕ). canonical front bs p.a) new_cut
        ∙ split.form (bits_of fore) (bits_of rest) (bits_of after) cut (omega (arith, seam_is, size)) place ((length fore + 2 + length u) * 8)
        (ap₂ (λ (bs : List ℕ) (n : ℕ). parse written_upid bs n) (sym new_cut) e ∙ new_written)

    behind_form : canonical back (bits_of new) ((length fore + 2 + length u) * 8) ≡ canonical back (bits_of s) p.m
    unfolding new
    behind_form =
        back_forms fore written.post written.upid_type written.bytes k u
        ∙ ap₂ (λ (l : List ℕ) (n : ℕ). canonical back (bits_of l) ((n + 2 + length written.bytes) * 8)) (sym is_holed) fore_size
        ∙ ap (canonical back (bits_of s)) (sym written.end)

    new_form : canonical_by segmentation new ≡ canonical_by segmentation s
    new_form =
        table_by new p.h p.a (split.make place) ((length fore + 2 + length u) * 8) p.b end new_head p.stays new_front new_back.1
        ∙ four same_end head_form front_form behind_form
        ∙ sym (table_by s p.h p.a p.f p.m p.b p.n p.head_is p.stays p.front_is p.back_is)
      where
        four : {a b c d w x y z : Bool} → a ≡ w → b ≡ x → c ≡ y → d ≡ z → a && (b && (c && (d && true))) ≡ w && (x && (y && (z && true)))
        four e f g h = rw (e, f, g, h)

    new_beside : beside_of new ≡ record { components = (beside_of s).components; eidr = eidr_of k u }
    unfolding place
    new_beside =
        table_beside new p.h p.a (split.make place) ((length fore + 2 + length u) * 8) p.b end new_head p.stays new_front new_back.1
        ∙ ap₂ (λ (cs : List SegmentationComponent) (l : List ℕ). record { components = cs; eidr = l })
        (ap filled (split.beside place)
        ∙ sym (ap (λ (x : Beside). x.components) (table_beside s p.h p.a p.f p.m p.b p.n p.head_is p.stays p.front_is p.back_is)))
        (ap (λ (x : SegmentationUpid). eidr_of x.upid_type (viewed new x.bytes)) (split.has place) ∙ ap (eidr_of k) new_bytes_lem)

    new_tabled : Tabled s fore written.post k u
    unfolding new place
    new_tabled =
        record {
          reading = overall new p.h p.a (split.make place) ((length fore + 2 + length u) * 8) p.b end new_head p.stays new_front new_back.1;
          end = end;
          reads = table_reads new p.h p.a (split.make place) ((length fore + 2 + length u) * 8) p.b end new_head p.stays new_front new_back.1;
          upid = split.has place;
          bytes = new_bytes_lem;
          form = new_form;
          beside = new_beside;
        }

  holed_parsed : Holed s event i
  unfolding new
  holed_parsed =
      record {
        fore = fore;
        upid_type = written.upid_type;
        bytes = written.bytes;
        post = written.post;
        is = is_holed;
        place = place_is;
        reported = p.q;
        fine = fine_is;
        upid = ap (λ (j : SegmentationDetail). j.segmentation_upid) (sym p.is) ∙ ap (λ (w : SegmentationUpid). reported_upid p.q w.bytes) upid_is_lem;
        refilled = new_reads;
        tabled = new_tabled;
      }

pub holed : (s : List ℕ) (x : SegmentationDescriptor) (i : SegmentationDetail) → ((k : ℕ) → get_or s k 0 < 256) → segmentation_of s ≡ Ok (Segmentation x) → x.descriptor_detail ≡ Active i
    → Holed s x.segmentation_event_id i
holed s x i bytes e d = holed_parsed s x.segmentation_event_id i bytes (parsed s x i d e)
