-- The fields of a segmentation payload up to its UPID, and the UPID itself.
--     split_front      the fields before the UPID, which read the same whatever UPID follows
--     written_is       the UPID that was read, as bytes
--     written_puts     any UPID in its place is read
use Prim.Native.Nat.{ℕ, suc, ◌+◌, ◌*◌, ◌/◌, ◌%◌, ◌≤◌, ◌<◌}
use mathlib.Core.Bool.{Bool, true, ◌&&◌}
use mathlib.Core.List.{List, ◌∷◌, ◌++◌}
use mathlib.Core.Path.{◌≡◌, refl, ap, ap₂, sym, subst, ◌∙◌}
use native.Mathlib.Omega.{arith}
use lib.ListN.{length, take, drop, get_or, length-append, length-drop, take-append-drop}
use lib.Seq.{length-take-le, drop-cons, get_or-append-add, get_or-append_seam}
use Rattle.table.specs.Bits.{bits_of, field}
use Rattle.table.specs.Table.{Table, inside, number, bit, reserved, part, list, got, parse, canonical}
use Rattle.table.specs.declared.View.{View}
use Rattle.table.proofs.Fields.{byte_field}
use Rattle.table.proofs.Longer.{Blind}
use Rattle.table.proofs.Steps.{reads_in, takes_in, canonical_inside, reads_number, reads_part, takes_number, takes_part}
use Rattle.table.proofs.Swaps.{forward, swap, swap_form, EndsAt, ends_at, ends_inside, ends_pick, ends_list}
use Rattle.descriptor.proofs.Longer.{blind_delivery, blind_mode, blind_duration}
use Rattle.descriptor.specs.Segmentation.{ListedFront, Moded, delivery_restrictions, component, blank_component, mode, duration, written_upid, parts, front, head, active_from}
use Rattle.descriptor.specs.declared.segmentation.SegmentationUpid.{SegmentationUpid}
use Rattle.relabel_payload.specs.Payload.{payload}
use Rattle.std.proofs.Common.{Option}
use Rattle.descriptor.specs.declared.segmentation.DeliveryRestrictions.{DeliveryRestrictions}

-- ---- tables that never ask how many bytes are left, and end where a byte begins

blind_bit : Blind bit
unfolding bit
blind_bit = λ v. tt

ends_bit_0 : EndsAt bit 0 1
unfolding bit
ends_bit_0 = λ v. refl

ends_bit_1 : EndsAt bit 1 2
unfolding bit
ends_bit_1 = λ v. refl

ends_bit_2 : EndsAt bit 2 3
unfolding bit
ends_bit_2 = λ v. refl

pub ends_head : EndsAt head 0 0
unfolding head number bit reserved
ends_head = λ event cancel kept. refl

ends_delivery : (free : Bool) → EndsAt (delivery_restrictions free) 3 0
unfolding delivery_restrictions number bit reserved
ends_delivery free = ends_pick free _ _ 3 0 (λ kept. refl) (λ web blackout archive device. refl)

ends_component : EndsAt component 0 0
unfolding component number reserved
ends_component = λ tag kept offset. refl

ends_mode : (program : Bool) → EndsAt (mode program) 0 0
unfolding mode number
ends_mode program =
    ends_pick program _ _ 0 0 refl
    λ n. ends_inside (list n blank_component component) _ _ 0 0 0 (ends_list n blank_component component 0 ends_component) λ cs. refl

ends_duration : (flagged : Bool) → EndsAt (duration flagged) 0 0
unfolding duration number
ends_duration flagged = ends_pick flagged _ _ 0 0 (λ t. refl) refl

-- ---- the fields before the UPID

swapped : {X : Type 0} (t : Table X) → Blind t → (bs pre r other : List ℕ) (at : ℕ) (x : X) (m : ℕ) → bs ≡ pre ++ r → parse t bs at ≡ got x m → m ≤ length pre
    → parse t (pre ++ other) at ≡ got x m
swapped t b bs pre r other at x m e p h = swap t b pre r other at x m (subst (λ (l : List ℕ). parse t l at ≡ got x m) e p) h

-- the canonical form of a table inside another that goes on alike
forms_in : {X Y : Type 0} (t : Table Y) → Blind t → (q : X → Y) (k : Y → Table X) (bs pre r other : List ℕ) (at : ℕ) (y : Y) (m : ℕ) → bs ≡ pre ++ r → parse t bs at ≡ got y m
    → m ≤ length pre → canonical (k y) (pre ++ other) m ≡ canonical (k y) bs m → canonical (inside t q k) (pre ++ other) at ≡ canonical (inside t q k) bs at
forms_in t b q k bs pre r other at y m e p h f =
    canonical_inside t q k (pre ++ other) at y m (swapped t b bs pre r other at y m e p h)
    ∙ ap₂ (λ (x z : Bool). x && z)
    (swap_form t b pre r other at y m (subst (λ (l : List ℕ). parse t l at ≡ got y m) e p) h ∙ ap (λ (l : List ℕ). canonical t l at) (sym e))
    f
    ∙ sym (canonical_inside t q k bs at y m p)

-- the UPID has no reserved bits
upid_form : (bs : List ℕ) (at : ℕ) → canonical written_upid bs at ≡ true
unfolding written_upid number part
upid_form bs at = refl

upid_forms : {X : Type 0} (q : X → SegmentationUpid) (k : SegmentationUpid → Table X) (bs cs : List ℕ) (at : ℕ) (u v : SegmentationUpid) (m n : ℕ) → parse written_upid bs at ≡ got u m
    → parse written_upid cs at ≡ got v n → canonical (k v) cs n ≡ canonical (k u) bs m → canonical (inside written_upid q k) cs at ≡ canonical (inside written_upid q k) bs at
upid_forms q k bs cs at u v m n e f g =
    canonical_inside written_upid q k cs at v n f ∙ ap₂ (λ (x z : Bool). x && z) (upid_form cs at ∙ sym (upid_form bs at)) g ∙ sym (canonical_inside written_upid q k bs at u m e)

-- `make` is what was read before the UPID, which ends before bit `seam`
pub record Split (bs : List ℕ) (at : ℕ) (f : ListedFront) (m : ℕ) : Type 0 where
  pub seam : ℕ
  pub from : at ≤ seam
  pub aligned : at % 8 ≡ 0 → seam % 8 ≡ 0
  pub make : SegmentationUpid → ListedFront
  pub upid : SegmentationUpid
  pub reads : parse written_upid bs seam ≡ got upid m
  pub is : make upid ≡ f
  pub has : (u : SegmentationUpid) → (make u).front.segmentation_upid ≡ u
  pub keeps : (u v : SegmentationUpid) (b : _) → active_from (make u).front v b ≡ active_from f.front v b
  pub again : (pre r other : List ℕ) → bs ≡ pre ++ r → seam ≤ length pre → (u : SegmentationUpid) (n : ℕ) → parse written_upid (pre ++ other) seam ≡ got u n
      → parse front (pre ++ other) at ≡ got (make u) n
  pub beside : (u : SegmentationUpid) → (make u).components ≡ f.components
  pub form : (pre r other : List ℕ) → bs ≡ pre ++ r → seam ≤ length pre → (u : SegmentationUpid) (n : ℕ) → parse written_upid (pre ++ other) seam ≡ got u n
      → canonical front (pre ++ other) at ≡ canonical front bs at

abbrev made : Bool → Bool → Bool → Option DeliveryRestrictions → Moded → Option ℕ → SegmentationUpid → ListedFront
made program lasting free restrictions moded lasts upid =
    record {
      front = record {
        program_segmentation_flag = program;
        segmentation_duration_flag = lasting;
        delivery_not_restricted_flag = free;
        delivery_restrictions = restrictions;
        segmentation_mode = moded.mode;
        segmentation_duration = lasts;
        segmentation_upid = upid;
      };
      components = moded.components;
    }

got_is : {X : Type 0} (x y : X) (m n : ℕ) → ◌≡◌ (got x m) (got y n) → (x ≡ y) × (m ≡ n)
got_is x y m n e = (cc, cc)

pub split_front : (bs : List ℕ) (at : ℕ) (f : ListedFront) (m : ℕ) → parse front bs at ≡ got f m → Split bs at f m
unfolding front parts
split_front bs at f m e =
    let r1 = reads_in bit _ _ bs at f m e in
    let r2 = reads_in bit _ _ bs r1.seam f m r1.back in
    let r3 = reads_in bit _ _ bs r2.seam f m r2.back in
    let r4 = reads_in (delivery_restrictions r3.inner) _ _ bs r3.seam f m r3.back in
    let r5 = reads_in (mode r1.inner) _ _ bs r4.seam f m r4.back in
    let r6 = reads_in (duration r2.inner) _ _ bs r5.seam f m r5.back in
    let r7 = reads_in written_upid _ _ bs r6.seam f m r6.back in
    let g = made r1.inner r2.inner r3.inner r4.inner r5.inner r6.inner in
    let z = got_is (g r7.inner) f r7.seam m r7.back in
    let f1 = forward bit bs at r1.inner r1.seam r1.front in
    let f2 = forward bit bs r1.seam r2.inner r2.seam r2.front in
    let f3 = forward bit bs r2.seam r3.inner r3.seam r3.front in
    let f4 = forward (delivery_restrictions r3.inner) bs r3.seam r4.inner r4.seam r4.front in
    let f5 = forward (mode r1.inner) bs r4.seam r5.inner r5.seam r5.front in
    let f6 = forward (duration r2.inner) bs r5.seam r6.inner r6.seam r6.front in
    record {
      seam = r6.seam;
      from = omega arith;
      aligned = λ h.
          ends_at (duration r2.inner) 0 0 (ends_duration r2.inner) bs r5.seam r6.inner r6.seam
          (ends_at (mode r1.inner) 0 0 (ends_mode r1.inner) bs r4.seam r5.inner r5.seam
          (ends_at (delivery_restrictions r3.inner) 3 0 (ends_delivery r3.inner) bs r3.seam r4.inner r4.seam
          (ends_at bit 2 3 ends_bit_2 bs r2.seam r3.inner r3.seam
          (ends_at bit 1 2 ends_bit_1 bs r1.seam r2.inner r2.seam
          (ends_at bit 0 1 ends_bit_0 bs at r1.inner r1.seam h r1.front) r2.front) r3.front) r4.front) r5.front) r6.front;
      make = g;
      upid = r7.inner;
      reads = r7.front ∙ ap (got r7.inner) z.1;
      is = z.0;
      has = λ u. refl;
      keeps = λ u v b. ap (λ (x : ListedFront). active_from x.front v b) z.0;
      again = λ pre r other eq h u n w.
          takes_in bit _ _ (pre ++ other) at r1.inner r1.seam (swapped bit blind_bit bs pre r other at r1.inner r1.seam eq r1.front (omega arith))
          ∙ takes_in bit _ _ (pre ++ other) r1.seam r2.inner r2.seam (swapped bit blind_bit bs pre r other r1.seam r2.inner r2.seam eq r2.front (omega arith))
          ∙ takes_in bit _ _ (pre ++ other) r2.seam r3.inner r3.seam (swapped bit blind_bit bs pre r other r2.seam r3.inner r3.seam eq r3.front (omega arith))
          ∙ takes_in (delivery_restrictions r3.inner) _ _ (pre ++ other) r3.seam r4.inner r4.seam
          (swapped (delivery_restrictions r3.inner) (blind_delivery r3.inner) bs pre r other r3.seam r4.inner r4.seam eq r4.front (omega arith))
          ∙ takes_in (mode r1.inner) _ _ (pre ++ other) r4.seam r5.inner r5.seam
          (swapped (mode r1.inner) (blind_mode r1.inner) bs pre r other r4.seam r5.inner r5.seam eq r5.front (omega arith))
          ∙ takes_in (duration r2.inner) _ _ (pre ++ other) r5.seam r6.inner r6.seam
          (swapped (duration r2.inner) (blind_duration r2.inner) bs pre r other r5.seam r6.inner r6.seam eq r6.front (omega arith))
          ∙ takes_in written_upid _ _ (pre ++ other) r6.seam u n w;
      beside = λ u. ap (λ (x : ListedFront). x.components) z.0;
      form = λ pre r other eq h u n w.
          forms_in bit blind_bit _ _ bs pre r other at r1.inner r1.seam eq r1.front (omega arith)
          (forms_in bit blind_bit _ _ bs pre r other r1.seam r2.inner r2.seam eq r2.front (omega arith)
          (forms_in bit blind_bit _ _ bs pre r other r2.seam r3.inner r3.seam eq r3.front (omega arith)
          (forms_in (delivery_restrictions r3.inner) (blind_delivery r3.inner) _ _ bs pre r other r3.seam r4.inner r4.seam eq r4.front (omega arith)
          (forms_in (mode r1.inner) (blind_mode r1.inner) _ _ bs pre r other r4.seam r5.inner r5.seam eq r5.front (omega arith)
          (forms_in (duration r2.inner) (blind_duration r2.inner) _ _ bs pre r other r5.seam r6.inner r6.seam eq r6.front (omega arith)
          (upid_forms _ _ bs (pre ++ other) r6.seam r7.inner u r7.seam n r7.front w refl))))));
    }

-- ---- the UPID as bytes

pub record Written (s : List ℕ) (q : ℕ) (w : SegmentationUpid) (m : ℕ) : Type 0 where
  pub upid_type : ℕ
  pub bytes : List ℕ
  pub post : List ℕ
  pub is : s ≡ payload (take q s) post upid_type bytes
  pub inside : q ≤ length s
  pub upid : w ≡ record { upid_type = upid_type; bytes = record { at = q + 2; len = length bytes } }
  pub end : m ≡ (q + 2 + length bytes) * 8

two_bytes : (s : List ℕ) (q : ℕ) → q + 2 ≤ length s → s ≡ take q s ++ (get_or s q 0 ∷ (get_or s (q + 1) 0 ∷ drop (q + 2) s))
two_bytes s q h =
    let a : drop q s ≡ get_or s q 0 ∷ drop (suc q) s = drop-cons s q 0 (omega arith) in
    let b : drop (suc q) s ≡ get_or s (suc q) 0 ∷ drop (suc (suc q)) s = drop-cons s (suc q) 0 (omega arith) in
    let c : suc q ≡ q + 1 = omega arith in
    let d : suc (suc q) ≡ q + 2 = omega arith in
    sym (take-append-drop q s)
    ∙ ap (λ (l : List ℕ). take q s ++ l) (a ∙ ap (λ (l : List ℕ). get_or s q 0 ∷ l) (b ∙ ap₂ (λ (i j : ℕ). get_or s i 0 ∷ drop j s) c d))

pub written_is : (s : List ℕ) (q : ℕ) (w : SegmentationUpid) (m : ℕ) → ((k : ℕ) → get_or s k 0 < 256) → parse written_upid (bits_of s) (q * 8) ≡ got w m → Written s q w m
unfolding written_upid
written_is s q w m bytes e =
    let r1 = reads_number s (q * 8) 8 _ _ w m e in
    let r2 = reads_number s (q * 8 + 8) 8 _ _ w m r1.1 in
    let n : ℕ = field (bits_of s) (q * 8 + 8) 8 in
    let r3 = reads_part s (q * 8 + 8 + 8) n _ _ w m r2.1 in
    let next : q * 8 + 8 ≡ (q + 1) * 8 = omega arith in
    let k : field (bits_of s) (q * 8) 8 ≡ get_or s q 0 = byte_field s q (omega (arith, r2.0)) (bytes q) in
    let l : n ≡ get_or s (q + 1) 0 = ap (λ (a : ℕ). field (bits_of s) a 8) next ∙ byte_field s (q + 1) (omega (arith, r2.0)) (bytes (q + 1)) in
    let rest : List ℕ = drop (q + 2) s in
    let fits : n ≤ length rest = omega (arith, r3.0, length-drop (q + 2) s) in
    let size : length (take n rest) ≡ n = length-take-le n rest fits in
    let place : (q * 8 + 8 + 8) / 8 ≡ q + 2 = omega arith in
    let z = got_is (record { upid_type = field (bits_of s) (q * 8) 8; bytes = record { at = (q * 8 + 8 + 8) / 8; len = n } }) w (q * 8 + 8 + 8 + n * 8) m r3.1 in
    let tail : get_or s (q + 1) 0 ∷ rest ≡ length (take n rest) ∷ (take n rest ++ drop n rest) = ap₂ (λ (x : ℕ) (y : List ℕ). x ∷ y) (sym l ∙ sym size) (sym (take-append-drop n rest)) in
    record {
      upid_type = get_or s q 0;
      bytes = take n rest;
      post = drop n rest;
      is = two_bytes s q (omega (arith, r2.0)) ∙ ap (λ (t : List ℕ). take q s ++ (get_or s q 0 ∷ t)) tail;
      inside = omega (arith, r2.0);
      upid = sym z.0 ∙ ap₂ (λ (a : ℕ) (v : View). record { upid_type = a; bytes = v }) k (ap₂ (λ (a b : ℕ). record { at = a; len = b }) place (sym size));
      end = sym z.1 ∙ omega (arith, size);
    }

pub written_puts : (fore post : List ℕ) (k : ℕ) (u : List ℕ) → k < 256 → length u < 256
    → parse written_upid (bits_of (payload fore post k u)) (length fore * 8) ≡ got (record { upid_type = k; bytes = record { at = length fore + 2; len = length u } }) ((length fore + 2 + length u) * 8)
unfolding written_upid
written_puts fore post k u hk hu =
    let s : List ℕ = payload fore post k u in
    let q : ℕ = length fore in
    let size : length s ≡ q + (2 + (length u + length post)) = omega (arith, length-append fore (k ∷ (length u ∷ (u ++ post))), length-append u post) in
    let b0 : get_or s q 0 ≡ k = get_or-append_seam fore k (length u ∷ (u ++ post)) 0 in
    let b1 : get_or s (q + 1) 0 ≡ length u = get_or-append-add fore (k ∷ (length u ∷ (u ++ post))) 1 0 in
    let next : q * 8 + 8 ≡ (q + 1) * 8 = omega arith in
    let e0 : k ≡ field (bits_of s) (q * 8) 8 = sym (byte_field s q (omega (arith, size)) (omega (arith, b0)) ∙ b0) in
    let e1 : length u ≡ field (bits_of s) (q * 8 + 8) 8 = sym (ap (λ (a : ℕ). field (bits_of s) a 8) next ∙ byte_field s (q + 1) (omega (arith, size)) (omega (arith, b1)) ∙ b1) in
    let place : (q * 8 + 8 + 8) / 8 ≡ q + 2 = omega arith in
    let end : q * 8 + 8 + 8 + length u * 8 ≡ (q + 2 + length u) * 8 = omega arith in
    takes_number s (q * 8) 8 k _ _ (omega (arith, size)) e0
    ∙ takes_number s (q * 8 + 8) 8 (length u) _ _ (omega (arith, size)) e1
    ∙ takes_part s (q * 8 + 8 + 8) (length u) _ _ (omega (arith, size))
    ∙ ap₂ (λ (a m : ℕ). got (record { upid_type = k; bytes = record { at = a; len = length u } }) m) place end
