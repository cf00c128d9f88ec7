-- Each refusal of an item and of a UPID by its own words.
use Prim.Native.Nat.{ℕ, zero, suc, ◌+◌, ◌-◌, ◌≤◌, ◌<◌}
use mathlib.Core.Bool.{Bool, true, false, ◌&&◌}
use mathlib.Core.List.{List, [], ◌∷◌}
use mathlib.Core.Path.{◌≡◌, refl, ap, ◌∙◌}
use native.Mathlib.Omega.{arith}
use lib.Dec.{eqb, ltb}
use lib.ListN.{length, take, drop, get_or, replicate, length-drop}
use lib.Seq.{get_or-drop}
use borrow.Author.Tests.{eq-eqb, ne_eqb, lt-ltb, le-ltb, eqb-true}
use Rattle.command.specs.Command.{number_of}
use Rattle.descriptor.specs.Descriptor.{avail_of, dtmf_of, time_of, reserved_of, segmentation_of, active_of, active_with, is_cuei, cuei, descriptor_of, ◌and_then◌, if_fine}
use Rattle.descriptor.specs.Plain.{avail, dtmf, time}
use Rattle.descriptor.specs.Segmentation.{head, front, back}
use Rattle.descriptor.specs.Full.{blank_beside, identifier_read}
use Rattle.descriptor.specs.declared.Descriptor.{Descriptor}
use Rattle.descriptor.specs.declared.segmentation.DescriptorDetail.{DescriptorDetail}
use Rattle.descriptor.specs.declared.segmentation.SegmentationUpid.{SegmentationUpid}
use Rattle.descriptor_loop.proofs.Steps.{Clause, clause, step_long, step_end, step_few, step_over, step_full, step_small, step_complete}
use Rattle.descriptor_loop.specs.Cover.{Ends}
use Rattle.descriptor_loop.specs.Items.{without_identifier, short, item_at, read_at, step_of, reading_of, complete_at}
use Rattle.descriptor_loop.specs.Items as items
use Rattle.descriptor_loop.specs.declared.ItemRefusal.{ItemRefusal}
use Rattle.descriptor_loop.specs.declared.Step.{Step}
use Rattle.table.proofs.Lists.{zero_one}
use Rattle.table.specs.Bits.{pick, bits_of}
use Rattle.table.specs.Lent.{viewed}
use Rattle.table.specs.Table.{Answer, got, short as lacks, parse}
use Rattle.table.specs.declared.View.{View}
use Rattle.upid.specs.Cover.{All}
use Rattle.upid.specs.Cover.All.{none, more}
use Rattle.upid.specs.Text.{text_of}
use Rattle.upid.specs.Upid as upid
use Rattle.upid.specs.Upid.{check_of, read_of, plain_of, length_of, is_text, reported_of}
use Rattle.upid.specs.declared.Refusal.{Refusal}
use Rattle.theorems_rows.specs.Refusals.{StepRefused, end_number, end_values, UpidRefused, kind_of, fixed_lengths, texts, plain_lengths}
use Rattle.std.proofs.Common.{Ok, Err, Some, None, Result}
use Rattle.command.specs.declared.SpliceCommand.{SpliceCommand}
use Rattle.command.specs.declared.CommandRefusal.{CommandRefusal}

-- ---- a step

refused_without_identifier : (s : Step) (r : ItemRefusal) (n : ℕ) (values : List ℕ) (next : ℕ) → s ≡ without_identifier (Some (Err r)) next → items.number_of r ≡ n → items.values_of r ≡ values → StepRefused s n values next
refused_without_identifier s r n values next e a b = record { refusal = r; is = ap (λ (t : Step). t.item) e; number = a; told = b; goes = ap (λ (t : Step). t.next) e }

module _ (loop : List ℕ) (offset : ℕ) where
  pub refusal_2 : 4076 < length loop → StepRefused (step_of loop offset) 2 [] (length loop)
  unfolding items.number_of items.values_of upid.number_of upid.values_of
  refusal_2 h = refused_without_identifier _ (ItemRefusal.Other Refusal.InputTooLong) 2 [] (length loop) (step_long loop offset h) refl refl

  module _ (fits : length loop ≤ 4076) where
    pub at_the_end : length loop ≤ offset → ((step_of loop offset).item ≡ None) × ((step_of loop offset).next ≡ length loop)
    at_the_end h = (ap (λ (t : Step). t.item) (step_end loop offset fits h), ap (λ (t : Step). t.next) (step_end loop offset fits h))

    pub few_left : offset < length loop → length loop - offset ≤ 5 → StepRefused (step_of loop offset) 21 (2 ∷ 0 ∷ []) (length loop)
    unfolding items.number_of items.values_of upid.number_of upid.values_of
    few_left inside h = refused_without_identifier _ (ItemRefusal.Other (Refusal.NotEnoughData 2 0)) 21 _ (length loop) (step_few loop offset fits inside (omega arith)) refl refl

    module _ (six : offset + 6 ≤ length loop) where
      abbrev L : ℕ
      L = get_or loop (offset + 1) 0

      pub too_long_for_the_rest : length loop - offset < L + 2 → StepRefused (step_of loop offset) 21 ((L + 2) ∷ 0 ∷ []) (length loop)
      unfolding items.number_of items.values_of upid.number_of upid.values_of
      too_long_for_the_rest h = refused_without_identifier _ (ItemRefusal.Other (Refusal.NotEnoughData (L + 2) 0)) 21 _ (length loop) (step_over loop offset fits (omega arith) L refl (omega arith) h) refl refl

      module _ (there : L + 2 ≤ length loop - offset) where
        pub length_255 : 254 < L → StepRefused (step_of loop offset) 22 [] (length loop)
        unfolding items.number_of items.values_of
        length_255 h = refused_without_identifier _ ItemRefusal.InvalidDescriptorLength 22 [] (length loop) (step_full loop offset fits (omega arith) L refl (omega arith) there h) refl refl

        pub length_below_4 : L ≤ 3 → StepRefused (step_of loop offset) 21 (6 ∷ (L + 2) ∷ []) (offset + (L + 2))
        unfolding items.number_of items.values_of upid.number_of upid.values_of
        length_below_4 h = refused_without_identifier _ (ItemRefusal.Other (Refusal.NotEnoughData 6 (L + 2))) 21 _ (offset + (L + 2)) (step_small loop offset fits (omega arith) L refl (omega arith) there (omega arith) (omega arith)) refl refl

        pub else_read : 4 ≤ L → L ≤ 254 → step_of loop offset ≡ complete_at loop offset L
        else_read low high = step_complete loop offset fits (omega arith) L refl (omega arith) there high low

-- ---- the kind of a descriptor

abbrev KindIs : ℕ → Result Descriptor Refusal → Type 0
KindIs k (Ok d) = kind_of d ≡ k
KindIs k (Err r) = Unit {0}

kind_then : {X : Type 0} (k : ℕ) (r : Answer X) (f : X → ℕ → Result Descriptor Refusal) → ((x : X) (at : ℕ) → KindIs k (f x at)) → KindIs k (r and_then f)
kind_then k (got x at) f h = h x at
kind_then k (lacks e a) f h = tt

kind_pick : (k : ℕ) (b : Bool) (x y : Result Descriptor Refusal) → KindIs k x → KindIs k y → KindIs k (pick b x y)
kind_pick k true x y h g = h
kind_pick k false x y h g = g

kind_fine : (k : ℕ) (r : Result ℕ Refusal) (v : View) (f : SegmentationUpid → Result Descriptor Refusal) → ((u : SegmentationUpid) → KindIs k (f u)) → KindIs k (if_fine r v f)
kind_fine k (Ok n) v f h = h _
kind_fine k (Err r) v f h = tt

module _ (s : List ℕ) where
  avail_kind : KindIs 0 (avail_of s)
  unfolding avail_of
  avail_kind =
      kind_pick 0 (ltb (length s) 4) (Err (Refusal.NotEnoughData 4 (length s))) (parse avail (bits_of s) 0 and_then λ x at. Ok (Descriptor.Avail x)) tt
      (kind_then 0 (parse avail (bits_of s) 0) (λ x at. Ok (Descriptor.Avail x)) (λ x at. refl))

  dtmf_kind : KindIs 1 (dtmf_of s)
  unfolding dtmf_of
  dtmf_kind = kind_then 1 (parse dtmf (bits_of s) 0) (λ x at. Ok (Descriptor.Dtmf x)) (λ x at. refl)

  time_kind : KindIs 3 (time_of s)
  unfolding time_of
  time_kind =
      kind_pick 3 (ltb (length s) 12) (Err (Refusal.NotEnoughData 12 (length s))) (parse time (bits_of s) 0 and_then λ x at. Ok (Descriptor.Time x)) tt
      (kind_then 3 (parse time (bits_of s) 0) (λ x at. Ok (Descriptor.Time x)) (λ x at. refl))

  active_kind : (event at : ℕ) → KindIs 2 (active_of s event at)
  unfolding active_of active_with
  active_kind event at =
      kind_then 2 (parse front (bits_of s) at)
      (λ f at. if_fine (check_of f.front.segmentation_upid.upid_type (viewed s f.front.segmentation_upid.bytes)) f.front.segmentation_upid.bytes
      (λ u. parse back (bits_of s) at and_then λ b at. active_with event f.front u b))
      (λ f at. kind_fine 2 (check_of f.front.segmentation_upid.upid_type (viewed s f.front.segmentation_upid.bytes)) f.front.segmentation_upid.bytes
      (λ u. parse back (bits_of s) at and_then λ b at. active_with event f.front u b)
      (λ u. kind_then 2 (parse back (bits_of s) at) (λ b at. active_with event f.front u b) (λ b at. refl)))

  segmentation_kind : KindIs 2 (segmentation_of s)
  unfolding segmentation_of
  segmentation_kind =
      kind_then 2 (parse head (bits_of s) 0)
      (λ h at. pick h.cancel (Ok (Descriptor.Segmentation (record { segmentation_event_id = h.event; descriptor_detail = DescriptorDetail.Cancel }))) (active_of s h.event at))
      (λ h at. kind_pick 2 h.cancel (Ok (Descriptor.Segmentation (record { segmentation_event_id = h.event; descriptor_detail = DescriptorDetail.Cancel }))) (active_of s h.event at)
      refl (active_kind h.event at))

  -- "CUEI", and a tag of 0 to 3
  pub cuei_kind : (tag : ℕ) (d : Descriptor) → tag ≤ 3 → descriptor_of tag cuei s ≡ Ok d → kind_of d ≡ tag
  unfolding descriptor_of is_cuei
  cuei_kind zero d h e = rw e at avail_kind
  cuei_kind (suc zero) d h e = rw e at dtmf_kind
  cuei_kind (suc (suc zero)) d h e = rw e at segmentation_kind
  cuei_kind (suc (suc (suc zero))) d h e = rw e at time_kind
  cuei_kind (suc (suc (suc (suc tag)))) d h e = absurd (omega arith)

  -- another tag
  pub other_tag : (tag : ℕ) (id : List ℕ) → 3 < tag → descriptor_of tag id s ≡ reserved_of tag s
  unfolding descriptor_of
  other_tag tag id h = go (is_cuei id)
    where
      go : (b : Bool) → pick b (pick (eqb tag 0) (avail_of s) (pick (eqb tag 1) (dtmf_of s) (pick (eqb tag 2) (segmentation_of s) (pick (eqb tag 3) (time_of s) (reserved_of tag s))))) (reserved_of tag s) ≡ reserved_of tag s
      go true = rw (ne_eqb tag 0 (λ z. omega arith), ne_eqb tag 1 (λ z. omega arith), ne_eqb tag 2 (λ z. omega arith), ne_eqb tag 3 (λ z. omega arith))
      go false = refl

  -- another identifier
  pub other_identifier : (tag a b c d : ℕ) → (a ≡ 0x43 → b ≡ 0x55 → c ≡ 0x45 → d ≡ 0x49 → ⊥) → descriptor_of tag (a ∷ b ∷ c ∷ d ∷ []) s ≡ reserved_of tag s
  unfolding descriptor_of is_cuei
  other_identifier tag a b c d h = rw (never (eqb a 0x43) (eqb b 0x55) (eqb c 0x45) (eqb d 0x49) (λ i j k l. h (eqb-true _ _ i) (eqb-true _ _ j) (eqb-true _ _ k) (eqb-true _ _ l)))
    where
      never : (i j k l : Bool) → (i ≡ true → j ≡ true → k ≡ true → l ≡ true → ⊥) → (i && (j && (k && l))) ≡ false
      never true true true true h = absurd (h refl refl refl refl)
      never true true true false h = refl
      never true true false l h = refl
      never true false k l h = refl
      never false j k l h = refl

-- ---- a UPID alone

upid_refused_lem : (r : Result ℕ Refusal) (x : Refusal) (n : ℕ) (values : List ℕ) → r ≡ Err x → upid.number_of x ≡ n → upid.values_of x ≡ values → UpidRefused r n values
upid_refused_lem r x n values e a b = record { refusal = x; is = e; number = a; told = b }

module _ (b : List ℕ) where
  pub upid_too_long : (k : ℕ) → 255 < length b → UpidRefused (check_of k b) 2 []
  unfolding check_of upid.number_of upid.values_of
  upid_too_long k h = upid_refused_lem _ Refusal.InputTooLong 2 [] (rw (lt-ltb 255 (length b) h)) refl refl

  module _ (some : 1 ≤ length b) (fits : length b ≤ 255) where
    -- what is read of a UPID that is no MID
    plain : (k : ℕ) → (k ≡ 13 → ⊥) → check_of k b ≡ plain_of k 0 b
    unfolding check_of read_of
    plain k h = rw (le-ltb 255 (length b) fits, ne_eqb (length b) 0 (λ z. omega arith), ne_eqb k 13 h)

    pub upid_of_type_0 : UpidRefused (check_of 0 b) 23 []
    unfolding plain_of upid.number_of upid.values_of
    upid_of_type_0 = upid_refused_lem _ Refusal.UpidLengthTypeMismatch 23 [] (plain 0 (λ z. omega arith)) refl refl

    -- a type with a fixed length n
    wrong_length : (k n : ℕ) → (k ≡ 0 → ⊥) → (k ≡ 13 → ⊥) → length_of k ≡ n → (n ≡ 0 → ⊥) → (length b ≡ n → ⊥) → UpidRefused (check_of k b) 25 (k ∷ n ∷ length b ∷ [])
    unfolding plain_of upid.number_of upid.values_of
    wrong_length k n z m e p w = upid_refused_lem _ (Refusal.InvalidUpidLength k n (length b)) 25 _ (plain k m ∙ rw (ne_eqb k 0 z, e, ne_eqb n 0 p, ne_eqb (length b) n w)) refl refl

    pub upid_of_wrong_length : All (λ (t : ℕ × ℕ). (length b ≡ t.1 → ⊥) → UpidRefused (check_of t.0 b) 25 (t.0 ∷ t.1 ∷ length b ∷ [])) fixed_lengths
    unfolding length_of
    upid_of_wrong_length =
        more (wrong_length 2 8 (λ z. omega arith) (λ z. omega arith) refl (λ z. omega arith))
        (more (wrong_length 3 12 (λ z. omega arith) (λ z. omega arith) refl (λ z. omega arith))
        (more (wrong_length 4 32 (λ z. omega arith) (λ z. omega arith) refl (λ z. omega arith))
        (more (wrong_length 5 8 (λ z. omega arith) (λ z. omega arith) refl (λ z. omega arith))
        (more (wrong_length 6 12 (λ z. omega arith) (λ z. omega arith) refl (λ z. omega arith))
        (more (wrong_length 7 12 (λ z. omega arith) (λ z. omega arith) refl (λ z. omega arith))
        (more (wrong_length 8 8 (λ z. omega arith) (λ z. omega arith) refl (λ z. omega arith))
        (more (wrong_length 10 12 (λ z. omega arith) (λ z. omega arith) refl (λ z. omega arith)) none)))))))

    -- a text
    no_text : (k n : ℕ) → (k ≡ 0 → ⊥) → (k ≡ 13 → ⊥) → length_of k ≡ n → (n ≡ 0 → ⊥) → is_text k ≡ true → length b ≡ n → text_of b ≡ false → UpidRefused (check_of k b) 24 (k ∷ 0 ∷ n ∷ [])
    unfolding plain_of upid.number_of upid.values_of
    no_text k n z m e p t l u =
        upid_refused_lem _ (Refusal.InvalidUpidContent k (record { at = 0; len = length b })) 24 _ (plain k m ∙ rw (ne_eqb k 0 z, e, ne_eqb n 0 p, eq-eqb (length b) n l, t, u)) refl (ap (λ (j : ℕ). k ∷ 0 ∷ j ∷ []) l)

    pub upid_no_text : All (λ (t : ℕ × ℕ). length b ≡ t.1 → text_of b ≡ false → UpidRefused (check_of t.0 b) 24 (t.0 ∷ 0 ∷ t.1 ∷ [])) texts
    unfolding length_of is_text
    upid_no_text =
        more (no_text 2 8 (λ z. omega arith) (λ z. omega arith) refl (λ z. omega arith) refl)
        (more (no_text 3 12 (λ z. omega arith) (λ z. omega arith) refl (λ z. omega arith) refl)
        (more (no_text 7 12 (λ z. omega arith) (λ z. omega arith) refl (λ z. omega arith) refl) none))

    -- else it is read: a text
    a_text : (k n : ℕ) → (k ≡ 0 → ⊥) → (k ≡ 13 → ⊥) → length_of k ≡ n → (n ≡ 0 → ⊥) → is_text k ≡ true → reported_of k ≡ k → length b ≡ n → text_of b ≡ true → check_of k b ≡ Ok k
    unfolding plain_of
    a_text k n z m e p t r l u = plain k m ∙ rw (ne_eqb k 0 z, e, ne_eqb n 0 p, eq-eqb (length b) n l, t, u, r)

    pub upid_text : All (λ (t : ℕ × ℕ). length b ≡ t.1 → text_of b ≡ true → check_of t.0 b ≡ Ok t.0) texts
    unfolding length_of is_text reported_of
    upid_text =
        more (a_text 2 8 (λ z. omega arith) (λ z. omega arith) refl (λ z. omega arith) refl refl)
        (more (a_text 3 12 (λ z. omega arith) (λ z. omega arith) refl (λ z. omega arith) refl refl)
        (more (a_text 7 12 (λ z. omega arith) (λ z. omega arith) refl (λ z. omega arith) refl refl) none))

    -- bytes of a fixed length, which are no text
    of_length : (k n r : ℕ) → (k ≡ 0 → ⊥) → (k ≡ 13 → ⊥) → length_of k ≡ n → (n ≡ 0 → ⊥) → is_text k ≡ false → reported_of k ≡ r → length b ≡ n → check_of k b ≡ Ok r
    unfolding plain_of
    of_length k n r z m e p t q l = plain k m ∙ rw (ne_eqb k 0 z, e, ne_eqb n 0 p, eq-eqb (length b) n l, t, q)

    pub upid_of_length : All (λ (t : ℕ × (ℕ × ℕ)). length b ≡ t.1.0 → check_of t.0 b ≡ Ok t.1.1) plain_lengths
    unfolding length_of is_text reported_of
    upid_of_length =
        more (of_length 4 32 4 (λ z. omega arith) (λ z. omega arith) refl (λ z. omega arith) refl refl)
        (more (of_length 5 8 6 (λ z. omega arith) (λ z. omega arith) refl (λ z. omega arith) refl refl)
        (more (of_length 6 12 6 (λ z. omega arith) (λ z. omega arith) refl (λ z. omega arith) refl refl)
        (more (of_length 8 8 8 (λ z. omega arith) (λ z. omega arith) refl (λ z. omega arith) refl refl)
        (more (of_length 10 12 10 (λ z. omega arith) (λ z. omega arith) refl (λ z. omega arith) refl refl) none))))

    -- any other type takes any bytes
    free : (k : ℕ) → (k ≡ 0 → ⊥) → (k ≡ 13 → ⊥) → length_of k ≡ 0 → reported_of k ≡ k → check_of k b ≡ Ok k
    unfolding plain_of
    free k z m e r = plain k m ∙ rw (ne_eqb k 0 z, e, r)

    pub upid_untested : All (λ (k : ℕ). check_of k b ≡ Ok k) (1 ∷ 9 ∷ 11 ∷ 12 ∷ 14 ∷ [])
    unfolding length_of reported_of
    upid_untested =
        more (free 1 (λ z. omega arith) (λ z. omega arith) refl refl) (more (free 9 (λ z. omega arith) (λ z. omega arith) refl refl)
        (more (free 11 (λ z. omega arith) (λ z. omega arith) refl refl) (more (free 12 (λ z. omega arith) (λ z. omega arith) refl refl)
        (more (free 14 (λ z. omega arith) (λ z. omega arith) refl refl) none))))

    pub upid_above_14 : (k : ℕ) → 15 ≤ k → check_of k b ≡ Ok k
    unfolding length_of reported_of
    upid_above_14 k h = free k (λ z. omega arith) (λ z. omega arith)
        (rw (ne_eqb k 2 (λ z. omega arith), ne_eqb k 5 (λ z. omega arith), ne_eqb k 8 (λ z. omega arith), ne_eqb k 3 (λ z. omega arith), ne_eqb k 6 (λ z. omega arith), ne_eqb k 7 (λ z. omega arith), ne_eqb k 10 (λ z. omega arith), ne_eqb k 4 (λ z. omega arith)))
        (rw (ne_eqb k 5 (λ z. omega arith)))

-- ---- 11 is of a malformed command alone
pub malformed_only : (r : Result SpliceCommand CommandRefusal) → eqb (number_of r) 11 ≡ true → r ≡ Err CommandRefusal.Malformed
malformed_only (Ok c) e = zero_one cc
malformed_only (Err CommandRefusal.UnknownType) e = zero_one cc
malformed_only (Err CommandRefusal.Malformed) e = refl

-- ---- where a loop ends
pub ending : (loop : List ℕ) (offset : ℕ) → length loop ≤ 4076 → (e : Ends (drop offset loop)) → StepRefused (step_of loop offset) (end_number e) (end_values e) (length loop)
ending loop offset fits (Ends.few a b) =
    let n : length (drop offset loop) ≡ length loop - offset = length-drop offset loop in
    few_left loop offset fits (omega (arith, n, a)) (omega (arith, n, b))
ending loop offset fits (Ends.over a b) =
    let n : length (drop offset loop) ≡ length loop - offset = length-drop offset loop in
    let L : get_or (drop offset loop) 1 0 ≡ get_or loop (offset + 1) 0 = get_or-drop offset loop 1 0 in
    rw L (too_long_for_the_rest loop offset fits (omega (arith, n, a)) (omega (arith, n, b, L)))
ending loop offset fits (Ends.full a b) =
    let n : length (drop offset loop) ≡ length loop - offset = length-drop offset loop in
    let L : get_or (drop offset loop) 1 0 ≡ get_or loop (offset + 1) 0 = get_or-drop offset loop 1 0 in
    length_255 loop offset fits (omega (arith, n, a, b)) (omega (arith, n, a, L)) (omega (arith, b, L))

-- ---- by each rule
pub loops_that_end : (few : Ends (0x00 ∷ [])) × (over : Ends (0x02 ∷ 0x09 ∷ 0x43 ∷ 0x55 ∷ 0x45 ∷ 0x49 ∷ [])) × (full : Ends (0x02 ∷ 0xFF ∷ replicate 255 0))
    × (end_values few ≡ 2 ∷ 0 ∷ []) × (end_values over ≡ 11 ∷ 0 ∷ []) × (end_number full ≡ 22)
loops_that_end = (Ends.few {rest = 0x00 ∷ []} (omega arith) (omega arith), Ends.over {rest = 0x02 ∷ 0x09 ∷ 0x43 ∷ 0x55 ∷ 0x45 ∷ 0x49 ∷ []} (omega arith) (omega arith), Ends.full {rest = 0x02 ∷ 0xFF ∷ replicate 255 0} (omega arith) (omega arith), refl, refl, refl)

-- ---- a refused item is no reading: nothing stands beside it
by_clause : (loop : List ℕ) (offset : ℕ) (r : ItemRefusal) {st : Step} → Clause loop offset st → st.item ≡ Some (Err r) → st.identifier ≡ replicate 4 0
unfolding complete_at
by_clause loop offset r (Clause.long h) e = refl
by_clause loop offset r (Clause.ended h) e = refl
by_clause loop offset r (Clause.last q v h) e = refl
by_clause loop offset r (Clause.small L t) e = refl
by_clause loop offset r (Clause.entire L t h) e = go (read_at loop offset L) e
  where
    go : (d : Result Descriptor Refusal) → item_at (offset + 6) d ≡ Some (Err r) → identifier_read d (take 4 (drop (offset + 2) loop)) ≡ replicate 4 0
    go (Ok d) e = zero_one cc
    go (Err q) e = refl

pub nothing_beside : (loop : List ℕ) (offset : ℕ) (r : ItemRefusal) → (step_of loop offset).item ≡ Some (Err r)
    → ((reading_of loop offset).beside ≡ blank_beside) × ((step_of loop offset).identifier ≡ replicate 4 0)
unfolding reading_of
nothing_beside loop offset r e = (rw e, by_clause loop offset r (clause loop offset) e)
