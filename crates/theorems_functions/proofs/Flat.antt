-- The words of an answer over C say what the answer says.
--     item_lies     an item whose identifier is whole
--     parts_flat    the parts of a UPID, field by field
--     upid_says_lem     its type, and an EIDR
use Prim.Native.Nat.{ℕ, zero, suc, ◌+◌, ◌≤◌}
use mathlib.Core.Bool.{Bool, true, false}
use mathlib.Core.List.{List, [], ◌∷◌, map}
use mathlib.Core.Path.{◌≡◌, refl, ap, sym, ◌∙◌}
use native.Mathlib.Omega.{arith}
use lib.Dec.{eqb}
use lib.ListN.{length, take, replicate}
use lib.Seq.{take_at}
use borrow.Author.Tests.{eqb-true, eqb-false}
use Rattle.descriptor.specs.declared.Descriptor.{Descriptor}
use Rattle.descriptor.specs.declared.segmentation.DescriptorDetail.{DescriptorDetail}
use Rattle.descriptor.specs.declared.segmentation.SegmentationDescriptor.{SegmentationDescriptor}
use Rattle.descriptor.specs.declared.segmentation.SegmentationDetail.{SegmentationDetail}
use Rattle.c_section.specs.Flat.{flat_view}
use Rattle.c_items.specs.FlatItem.{active_segmentation, segmentation_item, flat_descriptor, blank_item, flat_item, refusal_in, values_in, flat_step}
use Rattle.c_items.specs.FlatUpid.{three, flat_part, flat_upid_read, flat_upid}
use Rattle.c_items.specs.declared.steps.FlatStep.{FlatStep}
use Rattle.descriptor_loop.specs.Items as items
use Rattle.descriptor_loop.specs.declared.ItemRefusal.{ItemRefusal}
use Rattle.descriptor_loop.specs.declared.Step.{Step}
use Rattle.descriptor_loop.specs.declared.reading.Reading.{Reading}
use Rattle.canonical_form.specs.Same.{Pairs}
use Rattle.canonical_form.specs.Same.Pairs.{over, pair}
use Rattle.table.specs.Bits.{pick, bits_of, field}
use Rattle.table.specs.declared.View.{View}
use Rattle.theorems_reader.specs.Identifiers.{Identifier, in_lent}
use Rattle.theorems_reader.specs.Whole.{Exactly}
use Rattle.theorems_reader.proofs.WholeCases.{DetailCase, RefusalCase, ItemCase}
use Rattle.upid.specs.Upid as upid
use Rattle.upid.proofs.Reported.{check_none, reports, eidr_is_written}
use Rattle.upid.specs.Upid.{upid_of, check_of, read_of, plain_of, length_of, is_text, reported_of, eidr_of, list_of, listed, unless_refused, parts_in}
use Rattle.upid.specs.declared.Part.{Part}
use Rattle.upid.specs.declared.Refusal.{Refusal}
use Rattle.upid.specs.declared.Upid.{Upid}
use Rattle.theorems_functions.specs.Flat.{Lies, TextLies, ItemLies, SamePart, upid_refusal, UpidSays}
use Rattle.theorems_functions.specs.Slices.{reported_as}
use Rattle.theorems_functions.proofs.Slices.{reported_as_lem}
use Rattle.std.proofs.Common.{Ok, Err, Some, None, Option, Result}

-- a refusal has a number
numbered : (r : ItemRefusal) → 1 ≤ items.number_of r
unfolding items.number_of upid.number_of
numbered ItemRefusal.InvalidDescriptorLength = omega arith
numbered (ItemRefusal.Other Refusal.InputTooLong) = omega arith
numbered (ItemRefusal.Other (Refusal.NotEnoughData expected actual)) = omega arith
numbered (ItemRefusal.Other Refusal.UpidLengthTypeMismatch) = omega arith
numbered (ItemRefusal.Other (Refusal.InvalidUpidContent upid_type v)) = omega arith
numbered (ItemRefusal.Other (Refusal.InvalidUpidLength upid_type expected actual)) = omega arith

some_number : (r : Refusal) → upid.number_of r ≡ 0 → ⊥
unfolding items.number_of
some_number r z = omega (arith, numbered (ItemRefusal.Other r))

module _ (s : List ℕ) (base : ℕ) (loop : List ℕ) where
  lies_of : (at n : ℕ) (v : View) → Exactly s at n (in_lent base loop v) → Lies s base at n (flat_view v)
  lies_of at n v e = record { there = e.there; starts = ap (λ (i : Identifier). i.start) e.is; long = ap (λ (i : Identifier). i.len) e.is }

  module _ (offset : ℕ) (r : Reading) (next : ℕ) where
    abbrev step_with : Option (Result Descriptor ItemRefusal) → Step
    step_with it = record { item = it; identifier = r.step.identifier; next = next }

    -- an item of a kind without an identifier
    none_lies : (f : FlatStep) (k : ℕ) → f.item.kind ≡ k → k ≤ 5 → (k ≡ 2 → ⊥) → (k ≡ 4 → ⊥) → f.refusal ≡ 0 → ItemLies s (base + offset) base f
    none_lies f k e h two four z = record {
      dtmf = λ d. absurd (two (sym e ∙ d));
      segmentation = λ d. absurd (four (sym e ∙ d));
      reserved = λ d. absurd (omega (arith, e));
      refused = λ d. absurd (omega (arith, e));
      text = λ d. absurd (omega (arith, z));
      read = λ n. z;
    }

    -- a segmentation descriptor with its detail
    abbrev with_detail : ℕ → DescriptorDetail → Option (Result Descriptor ItemRefusal)
    with_detail event d = Some (Ok (Descriptor.Segmentation (record { segmentation_event_id = event; descriptor_detail = d })))

    detail_lies : (event : ℕ) (d : DescriptorDetail) → DetailCase s (base + offset + 6) base loop r.beside.eidr d → ItemLies s (base + offset) base (flat_step (step_with (with_detail event d)))
    unfolding flat_step flat_item refusal_in flat_descriptor segmentation_item blank_item active_segmentation
    detail_lies event DescriptorDetail.Cancel w = none_lies (flat_step (step_with (with_detail event DescriptorDetail.Cancel))) 3 refl (omega arith) (eqb-false 3 2 refl) (eqb-false 3 4 refl) refl
    detail_lies event (DescriptorDetail.Active i) w = record {
      dtmf = λ d. absurd (eqb-false 4 2 refl d);
      segmentation = λ d. record { upid_type = w.upid_type; bytes = λ some plain. lies_of _ _ i.segmentation_upid.bytes (w.bytes some plain) };
      reserved = λ d. absurd (eqb-false 4 6 refl d);
      refused = λ d. absurd (eqb-false 4 7 refl d);
      text = λ d. absurd (eqb-false 0 24 refl d);
      read = λ n. refl;
    }

    -- a refused one, which has a text if it is refused with 24
    refused_lies : (q : ItemRefusal) → (items.number_of q ≡ 24 → TextLies s (base + offset + 6) base (three (items.values_of q))) → ItemLies s (base + offset) base (flat_step (step_with (Some (Err q))))
    unfolding flat_step flat_item refusal_in values_in blank_item
    refused_lies q text = record {
      dtmf = λ d. absurd (eqb-false 7 2 refl d);
      segmentation = λ d. absurd (eqb-false 7 4 refl d);
      reserved = λ d. absurd (eqb-false 7 6 refl d);
      refused = λ d. numbered q;
      text = text;
      read = λ n. absurd (n refl);
    }

    refusal_lies : (q : ItemRefusal) → RefusalCase s (base + offset + 6) base loop q → ItemLies s (base + offset) base (flat_step (step_with (Some (Err q))))
    unfolding items.number_of upid.number_of items.values_of upid.values_of
    refusal_lies ItemRefusal.InvalidDescriptorLength w = refused_lies ItemRefusal.InvalidDescriptorLength (λ e. absurd (eqb-false 22 24 refl e))
    refusal_lies (ItemRefusal.Other Refusal.InputTooLong) w = refused_lies (ItemRefusal.Other Refusal.InputTooLong) (λ e. absurd (eqb-false 2 24 refl e))
    refusal_lies (ItemRefusal.Other (Refusal.NotEnoughData expected actual)) w = refused_lies (ItemRefusal.Other (Refusal.NotEnoughData expected actual)) (λ e. absurd (eqb-false 21 24 refl e))
    refusal_lies (ItemRefusal.Other Refusal.UpidLengthTypeMismatch) w = refused_lies (ItemRefusal.Other Refusal.UpidLengthTypeMismatch) (λ e. absurd (eqb-false 23 24 refl e))
    refusal_lies (ItemRefusal.Other (Refusal.InvalidUpidContent upid_type v)) w = refused_lies (ItemRefusal.Other (Refusal.InvalidUpidContent upid_type v)) (λ e. record {
      upid_type = upid_type;
      at = v.at;
      len = v.len;
      are = refl;
      behind = w.behind;
      there = omega (arith, w.whole.there, ap (λ (i : Identifier). i.len) w.whole.is);
      type = w.upid_type;
      long = ap (λ (i : Identifier). i.len) w.whole.is;
    })
    refusal_lies (ItemRefusal.Other (Refusal.InvalidUpidLength upid_type expected actual)) w = refused_lies (ItemRefusal.Other (Refusal.InvalidUpidLength upid_type expected actual)) (λ e. absurd (eqb-false 25 24 refl e))

    item_lies : (it : Option (Result Descriptor ItemRefusal)) → ItemCase s base loop offset r it → ItemLies s (base + offset) base (flat_step (step_with it))
    unfolding flat_step flat_item refusal_in flat_descriptor segmentation_item blank_item active_segmentation
    item_lies None w = none_lies (flat_step (step_with None)) 0 refl (omega arith) (eqb-false 0 2 refl) (eqb-false 0 4 refl) refl
    item_lies (Some (Err q)) w = refusal_lies q w
    item_lies (Some (Ok (Descriptor.Avail x))) w = none_lies (flat_step (step_with (Some (Ok (Descriptor.Avail x))))) 1 refl (omega arith) (eqb-false 1 2 refl) (eqb-false 1 4 refl) refl
    item_lies (Some (Ok (Descriptor.Dtmf x))) w = record {
      dtmf = λ d. lies_of _ _ x.dtmf_chars w;
      segmentation = λ d. absurd (eqb-false 2 4 refl d);
      reserved = λ d. absurd (eqb-false 2 6 refl d);
      refused = λ d. absurd (eqb-false 2 7 refl d);
      text = λ d. absurd (eqb-false 0 24 refl d);
      read = λ n. refl;
    }
    item_lies (Some (Ok (Descriptor.Segmentation x))) w = detail_lies x.segmentation_event_id x.descriptor_detail w
    item_lies (Some (Ok (Descriptor.Time x))) w = none_lies (flat_step (step_with (Some (Ok (Descriptor.Time x))))) 5 refl (omega arith) (eqb-false 5 2 refl) (eqb-false 5 4 refl) refl
    item_lies (Some (Ok (Descriptor.Reserved tag v))) w = record {
      dtmf = λ d. absurd (eqb-false 6 2 refl d);
      segmentation = λ d. absurd (eqb-false 6 4 refl d);
      reserved = λ d. (lies_of _ _ v w.0, ap (λ (l : List ℕ). field (bits_of l) 0 32) (ap (λ (i : Identifier). i.bytes) w.1.is));
      refused = λ d. absurd (eqb-false 6 7 refl d);
      text = λ d. absurd (eqb-false 0 24 refl d);
      read = λ n. refl;
    }

  pub step_lies : (offset : ℕ) (r : Reading) → ItemCase s base loop offset r r.step.item → ItemLies s (base + offset) base (flat_step r.step)
  step_lies offset r w = item_lies offset r r.step.next r.step.item w

-- ---- an item that has a UPID of type k by its words

pub record UpidOf (k : ℕ) (st : Step) : Type 0 where
  pub descriptor : SegmentationDescriptor
  pub active : SegmentationDetail
  pub is : st.item ≡ Some (Ok (Descriptor.Segmentation descriptor))
  pub detail : descriptor.descriptor_detail ≡ DescriptorDetail.Active active
  pub upid_type : active.segmentation_upid.upid_type ≡ k
  pub bytes : (flat_step st).item.bytes ≡ flat_view active.segmentation_upid.bytes

module _ (k : ℕ) (id : List ℕ) (next : ℕ) where
  upid_detail : (event : ℕ) (d : DescriptorDetail) → (segmentation_item event d).kind ≡ 4 → (segmentation_item event d).segmentation.segmentation_upid_type ≡ k
      → UpidOf k (record { item = Some (Ok (Descriptor.Segmentation (record { segmentation_event_id = event; descriptor_detail = d }))); identifier = id; next = next })
  unfolding flat_item flat_descriptor segmentation_item blank_item active_segmentation flat_step
  upid_detail event DescriptorDetail.Cancel e t = absurd (eqb-false 3 4 refl e)
  upid_detail event (DescriptorDetail.Active i) e t =
      record { descriptor = record { segmentation_event_id = event; descriptor_detail = DescriptorDetail.Active i }; active = i; is = refl; detail = refl; upid_type = t; bytes = refl }

  upid_by : (it : Option (Result Descriptor ItemRefusal)) → (flat_item it).kind ≡ 4 → (flat_item it).segmentation.segmentation_upid_type ≡ k → UpidOf k (record { item = it; identifier = id; next = next })
  unfolding flat_item flat_descriptor segmentation_item blank_item active_segmentation flat_step
  upid_by None e t = absurd (eqb-false 0 4 refl e)
  upid_by (Some (Err q)) e t = absurd (eqb-false 7 4 refl e)
  upid_by (Some (Ok (Descriptor.Avail x))) e t = absurd (eqb-false 1 4 refl e)
  upid_by (Some (Ok (Descriptor.Dtmf x))) e t = absurd (eqb-false 2 4 refl e)
  upid_by (Some (Ok (Descriptor.Segmentation x))) e t = upid_detail x.segmentation_event_id x.descriptor_detail e t
  upid_by (Some (Ok (Descriptor.Time x))) e t = absurd (eqb-false 5 4 refl e)
  upid_by (Some (Ok (Descriptor.Reserved tag v))) e t = absurd (eqb-false 6 4 refl e)

pub upid_of_item : (k : ℕ) (st : Step) → (flat_step st).item.kind ≡ 4 → (flat_step st).item.segmentation.segmentation_upid_type ≡ k → UpidOf k st
unfolding flat_step
upid_of_item k st e t = upid_by k st.identifier st.next st.item e t

-- ---- the parts of a UPID

pairs_flat : (n : ℕ) (ps : List Part) → Pairs SamePart (take n (map flat_part ps)) (take n ps)
unfolding flat_part
pairs_flat zero ps = over
pairs_flat (suc n) [] = over
pairs_flat (suc n) (p ∷ ps) = pair (record { kinds = refl; levels = refl; starts = refl; lens = refl }) (pairs_flat n ps)

by_read : (c : Result ℕ Refusal) (eidr : List ℕ) (ps : List Part) → let u : Upid = record { read = c; eidr = eidr; list = listed (unless_refused c ps) } in
    ((flat_upid u).refusal ≡ upid_refusal c) × ((flat_upid u).count ≡ length (parts_in u)) × Pairs SamePart (take (flat_upid u).count (flat_upid u).parts) (parts_in u)
unfolding flat_upid flat_upid_read listed unless_refused
by_read (Ok k) eidr ps = (refl, sym (ap length (take_at ps _ (length ps) refl)), pairs_flat (length ps) _)
by_read (Err r) eidr ps = (refl, refl, over)

pub parts_flat : (upid_type : ℕ) (bytes : List ℕ) → ((flat_upid (upid_of upid_type bytes)).refusal ≡ upid_refusal (check_of upid_type bytes)) × ((flat_upid (upid_of upid_type bytes)).count ≡ length (parts_in (upid_of upid_type bytes)))
    × Pairs SamePart (take (flat_upid (upid_of upid_type bytes)).count (flat_upid (upid_of upid_type bytes)).parts) (parts_in (upid_of upid_type bytes))
unfolding upid_of
parts_flat upid_type bytes = by_read (check_of upid_type bytes) (eidr_of upid_type bytes) (list_of upid_type 1 0 bytes)

-- ---- the type of a UPID, and an EIDR

-- an EIDR of twelve bytes is read
eidr_fine : (bytes : List ℕ) → length bytes ≡ 12 → check_of 10 bytes ≡ Ok 10
unfolding check_of read_of plain_of length_of is_text reported_of
eidr_fine bytes n = rw n

type_by : (k : ℕ) (bytes : List ℕ) (c : Result ℕ Refusal) (eidr : List ℕ) (ps : List Part) → check_of k bytes ≡ c → eidr_of k bytes ≡ eidr
    → UpidSays k bytes (flat_upid (record { read = c; eidr = eidr; list = listed (unless_refused c ps) }))
unfolding flat_upid flat_upid_read eidr_of
type_by k bytes (Ok q) eidr ps e held = record {
  read = λ z. go (eqb (length bytes) 0) refl;
  refused = λ n. absurd (n refl);
  held = λ ten. sym held ∙ own (eidr_is_written k bytes (e ∙ ap Ok ten));
  plain = λ other. sym held ∙ none other (eqb k 10) (eqb (length bytes) 12) refl refl;
}
  where
    go : (t : Bool) → eqb (length bytes) 0 ≡ t → q ≡ pick t 0 (reported_as k)
    go true t = let z : Ok q ≡ Ok 0 = sym e ∙ check_none k bytes (eqb-true _ _ t) in cc
    go false t =
        let n : length bytes ≡ 0 → ⊥ = eqb-false _ _ t in
        sym (reports k bytes q e (some n)).0 ∙ reported_as_lem k
      where
        some : (length bytes ≡ 0 → ⊥) → 1 ≤ length bytes
        some n = omega arith

    own : (k ≡ 10) × (length bytes ≡ 12) → eidr_of k bytes ≡ bytes
    own w = rw (w.0, w.1)

    none : (q ≡ 10 → ⊥) → (a b : Bool) → eqb k 10 ≡ a → eqb (length bytes) 12 ≡ b → eidr_of k bytes ≡ replicate 12 0
    none other true true ea eb =
        let f : check_of k bytes ≡ Ok 10 = rw (eqb-true k 10 ea) (eidr_fine bytes (eqb-true _ _ eb)) in
        absurd (other (let z : Ok q ≡ Ok 10 = sym e ∙ f in cc))
    none other true false ea eb = rw (ea, eb)
    none other false b ea eb = rw ea
type_by k bytes (Err r) eidr ps e held = record { read = λ z. absurd (some_number r z); refused = λ n. refl; held = λ ten. absurd (eqb-false 0 10 refl ten); plain = λ other. refl }

pub upid_says_lem : (upid_type : ℕ) (bytes : List ℕ) → UpidSays upid_type bytes (flat_upid (upid_of upid_type bytes))
unfolding upid_of
upid_says_lem upid_type bytes = type_by upid_type bytes (check_of upid_type bytes) (eidr_of upid_type bytes) (list_of upid_type 1 0 bytes) refl refl
