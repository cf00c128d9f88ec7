-- What is written of an item that is read has no more bytes than the item.
--     item_shorter    at any offset of any loop; and it is bytes
use Rattle.descriptor_loop.specs.declared.ItemRefusal.{ItemRefusal}
use Prim.Native.Nat.{ℕ, ◌+◌, ◌-◌, ◌≤◌, ◌<◌}
use mathlib.Core.Bool.{Bool, true, false}
use mathlib.Core.List.{List, [], ◌∷◌, ◌++◌}
use mathlib.Core.Path.{◌≡◌, refl, ap, sym, subst, ◌∙◌}
use native.Mathlib.Omega.{arith}
use lib.Dec.{leb, eqb, ltb}
use lib.ListN.{length, take, drop, get_or, length-take, length-drop, length-append}
use borrow.Author.Tests.{leb-true}
use Rattle.descriptor.proofs.Plains.{reserved_is}
use Rattle.descriptor.specs.Descriptor.{◌and_then◌, reported_upid, if_fine, avail_of, dtmf_of, time_of, reserved_of, active_with, active_of, segmentation_of, is_cuei, descriptor_of}
use Rattle.descriptor.specs.Plain.{avail, dtmf, time}
use Rattle.descriptor.specs.Segmentation.{head, front, back}
use Rattle.descriptor.specs.Full.{beside_read, identifier_read}
use Rattle.descriptor.specs.declared.Descriptor.{Descriptor}
use Rattle.descriptor.specs.declared.Descriptor.TheVariants.{Avail, Dtmf, Segmentation, Time, Reserved}
use Rattle.descriptor.specs.declared.segmentation.SegmentationUpid.{SegmentationUpid}
use Rattle.descriptor.specs.declared.full.Beside.{Beside}
use Rattle.descriptor_loop.proofs.Steps.{Stands, Clause, long, ended, last, small, entire, clause}
use Rattle.descriptor_loop.specs.Items.{item_at, read_at, complete_at, step_of, beside_item, reading_of}
use Rattle.descriptor_loop.specs.Place.{moved_descriptor}
use Rattle.descriptor_loop.specs.declared.Step.{Step}
use Rattle.descriptor_measure.specs.Writing.{count_beside, enveloped, enveloped_made, payload_made, descriptor_made, tag_of, identifier_of}
use Rattle.descriptor_round_trips.proofs.Alike.{SameView, alike_made, made_told}
use Rattle.descriptor_round_trips.proofs.Payloads.{payload_write_read}
use Rattle.descriptor_round_trips.specs.Making.{view_in}
use Rattle.descriptor_round_trips.specs.Trips.{Handed}
use Rattle.loop_round_trips.proofs.Places.{moved_values, moved_count, moved_view}
use Rattle.table.proofs.Bits.{byte_in}
use Rattle.table.proofs.Structure.{bytes_take, bytes_drop}
use Rattle.table.proofs.Lists.{zero_one}
use Rattle.table.specs.Bits.{pick, bits_of, AllBytes}
use Rattle.table.specs.Lent.{viewed}
use Rattle.table.specs.Table.{Answer, got, short, parse}
use Rattle.table.specs.Writing.{Made, made, refused}
use Rattle.table.specs.declared.View.{View}
use Rattle.theorems_writer.proofs.WritablePayloads.{Ready, ready, written_of}
use Rattle.upid.specs.Upid.{check_of}
use Rattle.std.proofs.Common.{Ok, Err, Some, Result, Option}
use Rattle.upid.specs.declared.Refusal.{Refusal}

pub bytes_both : (a b : List ℕ) → AllBytes a → AllBytes b → AllBytes (a ++ b)
bytes_both [] b h k = k
bytes_both (x ∷ a) b h k = (h.0, bytes_both a b h.1 k)

-- ---- an envelope that is written, and its payload

enveloped_made_lem : (tag : ℕ) (id : List ℕ) (m : Made) (t : List ℕ) → enveloped_made tag id m ≡ made t → (p : List ℕ) × (m ≡ made p) × (t ≡ enveloped tag id p) × (length p + 4 ≤ 254)
unfolding enveloped_made
enveloped_made_lem tag id (refused n) t e = zero_one cc
enveloped_made_lem tag id (made p) t e = go (leb (length p + 4) 254) refl e
  where
    go : (b : Bool) → leb (length p + 4) 254 ≡ b → pick b (made (enveloped tag id p)) (refused 34) ≡ made t
        → (q : List ℕ) × (made p ≡ made q) × (t ≡ enveloped tag id q) × (length q + 4 ≤ 254)
    go true l e = (p, refl, cc, leb-true _ _ l)
    go false l e = zero_one cc

envelope_length : (tag : ℕ) (id p : List ℕ) → length id ≡ 4 → length (enveloped tag id p) ≡ length p + 6
unfolding enveloped
envelope_length tag id p four = omega (arith, length-append id p)

envelope_bytes : (tag : ℕ) (id p : List ℕ) → tag < 256 → AllBytes id → AllBytes p → length p + 4 ≤ 254 → AllBytes (enveloped tag id p)
unfolding enveloped
envelope_bytes tag id p t i a l = (t, (omega arith, bytes_both id p i a))

-- ---- the tag and the identifier of a descriptor that is read are bytes

cuei_bytes : AllBytes (0x43 ∷ 0x55 ∷ 0x45 ∷ 0x49 ∷ [])
cuei_bytes = (omega arith, (omega arith, (omega arith, (omega arith, tt))))

identifier_bytes : (d : Descriptor) (id : List ℕ) → AllBytes id → AllBytes (identifier_of d (identifier_read (Ok d) id))
identifier_bytes (Avail x) id a = cuei_bytes
identifier_bytes (Dtmf x) id a = cuei_bytes
identifier_bytes (Segmentation x) id a = cuei_bytes
identifier_bytes (Time x) id a = cuei_bytes
identifier_bytes (Reserved tag v) id a = a

abbrev Tagged : Result Descriptor Refusal → Type 0
Tagged (Ok d) = tag_of d < 256
Tagged (Err r) = Unit {0}

picked : (t : Bool) (x y : Result Descriptor Refusal) → Tagged x → Tagged y → Tagged (pick t x y)
picked true x y p q = p
picked false x y p q = q

and_then_lem : {X : Type 0} (r : Answer X) (k : X → ℕ → Result Descriptor Refusal) → ((x : X) (m : ℕ) → Tagged (k x m)) → Tagged (r and_then k)
and_then_lem (got x m) k f = f x m
and_then_lem (short expected actual) k f = tt

if_fine_lem : (c : Result ℕ Refusal) (v : View) (k : SegmentationUpid → Result Descriptor Refusal) → ((u : SegmentationUpid) → Tagged (k u)) → Tagged (if_fine c v k)
if_fine_lem (Ok q) v k f = f (reported_upid q v)
if_fine_lem (Err r) v k f = tt

module _ (s : List ℕ) where
  in_active : (event at : ℕ) → Tagged (active_of s event at)
  unfolding active_of active_with
  in_active event at =
      and_then_lem (parse front (bits_of s) at) _ λ f m.
      if_fine_lem (check_of f.front.segmentation_upid.upid_type (viewed s f.front.segmentation_upid.bytes)) f.front.segmentation_upid.bytes _ λ u.
      and_then_lem (parse back (bits_of s) m) _ λ b n. omega arith

  in_segmentation : Tagged (segmentation_of s)
  unfolding segmentation_of
  in_segmentation = and_then_lem (parse head (bits_of s) 0) _ λ h m. picked h.cancel _ _ (omega arith) (in_active h.event m)

  in_avail : Tagged (avail_of s)
  unfolding avail_of
  in_avail = picked (ltb (length s) 4) _ _ tt (and_then_lem (parse avail (bits_of s) 0) _ λ x m. omega arith)

  in_dtmf : Tagged (dtmf_of s)
  unfolding dtmf_of
  in_dtmf = and_then_lem (parse dtmf (bits_of s) 0) _ λ x m. omega arith

  in_time : Tagged (time_of s)
  unfolding time_of
  in_time = picked (ltb (length s) 12) _ _ tt (and_then_lem (parse time (bits_of s) 0) _ λ x m. omega arith)

  in_reserved : (tag : ℕ) → tag < 256 → Tagged (reserved_of tag s)
  in_reserved tag h = rw (← reserved_is s tag) h

  tagged : (tag : ℕ) (id : List ℕ) → tag < 256 → Tagged (descriptor_of tag id s)
  unfolding descriptor_of
  tagged tag id h =
      picked (is_cuei id) _ _
      (picked (eqb tag 0) _ _ in_avail
      (picked (eqb tag 1) _ _ in_dtmf
      (picked (eqb tag 2) _ _ in_segmentation
      (picked (eqb tag 3) _ _ in_time (in_reserved tag h)))))
      (in_reserved tag h)

-- ---- of an item

-- what is written of d is bytes, and no more than n
abbrev Short : List ℕ → List ℕ → Beside → Descriptor → ℕ → Type 0
Short loop id beside d n = (b : List ℕ) → descriptor_made d id beside loop ≡ made b → AllBytes b × (length b ≤ n)

beside_stays : (base : ℕ) (d : Descriptor) (l : List ℕ) → beside_read (Ok d) l ≡ beside_read (Ok (moved_descriptor base d)) l
beside_stays base (Avail x) l = refl
beside_stays base (Dtmf x) l = refl
beside_stays base (Segmentation x) l = refl
beside_stays base (Time x) l = refl
beside_stays base (Reserved tag v) l = refl

is_one : (d e : Descriptor) → ◌≡◌ {A = Option (Result Descriptor ItemRefusal)} (Some (Ok d)) (Some (Ok e)) → d ≡ e
is_one d e h = cc

made_one : (b c : List ℕ) → made b ≡ made c → b ≡ c
made_one b c e = cc

module _ (loop : List ℕ) (a : AllBytes loop) (offset L : ℕ) (st : Stands loop offset L) (four : 4 ≤ L) where
  abbrev payload : List ℕ
  payload = take (L - 4) (drop (offset + 6) loop)

  abbrev id : List ℕ
  id = take 4 (drop (offset + 2) loop)

  abbrev payload_again : List ℕ
  payload_again = take (offset + (L + 2) - (offset + 6)) (drop (offset + 6) loop)

  again : payload ≡ payload_again
  again = ap (λ (n : ℕ). take n (drop (offset + 6) loop)) (let z : L - 4 ≡ offset + (L + 2) - (offset + 6) = omega arith in z)

  size : length payload ≡ L - 4
  size = omega (arith, length-take (L - 4) (drop (offset + 6) loop), length-drop (offset + 6) loop, st.there)

  id_length : length id ≡ 4
  id_length = omega (arith, length-take 4 (drop (offset + 2) loop), length-drop (offset + 2) loop, st.six)

  payload_bytes : AllBytes payload
  payload_bytes = bytes_take (L - 4) (drop (offset + 6) loop) (bytes_drop (offset + 6) loop a)

  id_bytes : AllBytes id
  id_bytes = bytes_take 4 (drop (offset + 2) loop) (bytes_drop (offset + 2) loop a)

  -- what is written of a descriptor in its payload: the payload has as many bytes as its table reads, which are there (`Ready`)
  in_payload : (d : Descriptor) → descriptor_of (get_or loop offset 0) id payload ≡ Ok d
      → Short payload (identifier_read (Ok d) id) (beside_read (Ok d) payload) d (offset + (L + 2) - offset)
  unfolding descriptor_made
  in_payload d e b m =
      let own : List ℕ = identifier_read (Ok d) id in
      let beside : Beside = beside_read (Ok d) payload in
      let r : Ready d own beside payload (length payload) = rw e at (ready payload id id_length payload_bytes (get_or loop offset 0)) in
      let t : tag_of d < 256 = rw e at (tagged payload (get_or loop offset 0) id (byte_in loop a offset)) in
      let f = enveloped_made_lem (tag_of d) (identifier_of d own) (payload_made d own beside payload) b m in
      let q = payload_write_read own beside payload f.0 d r.handed f.1 in
      let n : length f.0 ≤ length payload = r.size f.0 f.1 in
      rw f.2 (
        envelope_bytes (tag_of d) (identifier_of d own) f.0 t (identifier_bytes d id id_bytes) q.are f.3,
        omega (arith, envelope_length (tag_of d) (identifier_of d own) f.0 q.four, n, size),
      )

  -- and in the loop: it is the same
  of_payload_lem : (d : Descriptor) → descriptor_of (get_or loop offset 0) id payload ≡ Ok d
      → Short loop (identifier_read (Ok d) id) (beside_read (Ok d) payload) (moved_descriptor (offset + 6) d) (offset + (L + 2) - offset)
  of_payload_lem d e b m =
      let own : List ℕ = identifier_read (Ok d) id in
      let beside : Beside = beside_read (Ok d) payload in
      let there : Descriptor = moved_descriptor (offset + 6) d in
      let w = written_of payload id id_length payload_bytes (get_or loop offset 0) d e (omega (arith, size, st.right)) in
      let h : Handed d own beside payload = w.0 in
      let places : count_beside d ≤ length beside.components = omega (arith, h.count, h.places) in
      let told = made_told payload w.1.0 own beside d places w.1.1 in
      let v : SameView payload (view_in d) loop (view_in there) = moved_view loop (offset + 6) (L - 4) (omega (arith, st.there)) d told in
      let k : descriptor_made there own beside loop ≡ made w.1.0 =
      alike_made payload loop own beside beside refl d there places (sym (moved_values (offset + 6) d)) v (ap (λ (n : ℕ). take n beside.components) (sym (moved_count (offset + 6) d))) w.1.0 w.1.1 in
      let z : w.1.0 ≡ b = made_one w.1.0 b (sym k ∙ m) in
      in_payload d e b (w.1.1 ∙ ap made z)

  of_read : (r : Result Descriptor Refusal) → descriptor_of (get_or loop offset 0) id payload ≡ r → (d : Descriptor) → item_at (offset + 6) r ≡ Some (Ok d)
      → Short loop (identifier_read r id) (beside_item (item_at (offset + 6) r) payload_again) d (offset + (L + 2) - offset)
  of_read (Ok e) f d g =
      let n : ℕ = offset + (L + 2) - offset in
      let z : moved_descriptor (offset + 6) e ≡ d = is_one (moved_descriptor (offset + 6) e) d g in
      let b : beside_read (Ok e) payload ≡ beside_read (Ok (moved_descriptor (offset + 6) e)) payload_again =
      ap (beside_read (Ok e)) again ∙ beside_stays (offset + 6) e payload_again in
      subst (λ (x : Descriptor). Short loop (identifier_read (Ok e) id) (beside_read (Ok (moved_descriptor (offset + 6) e)) payload_again) x n) z
      (subst (λ (x : Beside). Short loop (identifier_read (Ok e) id) x (moved_descriptor (offset + 6) e) n) b (of_payload_lem e f))
  of_read (Err q) f d g = zero_one cc

module _ (loop : List ℕ) (a : AllBytes loop) (offset : ℕ) where
  short_by : {st : Step} → Clause loop offset st → (d : Descriptor) → st.item ≡ Some (Ok d)
      → Short loop st.identifier (beside_item st.item (take (st.next - (offset + 6)) (drop (offset + 6) loop))) d (st.next - offset)
  unfolding complete_at read_at
  short_by (long h) d e = zero_one cc
  short_by (ended h) d e = zero_one cc
  short_by (last q v n) d e = zero_one cc
  short_by (small L t) d e = zero_one cc
  short_by (entire L t h) d e = of_read loop a offset L t h _ refl d e

  pub item_shorter : (d : Descriptor) → (step_of loop offset).item ≡ Some (Ok d) → (b : List ℕ)
      → descriptor_made d (step_of loop offset).identifier (reading_of loop offset).beside loop ≡ made b → AllBytes b × (length b ≤ (step_of loop offset).next - offset)
  unfolding reading_of
  item_shorter d e b m = short_by (clause loop offset) d e b m
