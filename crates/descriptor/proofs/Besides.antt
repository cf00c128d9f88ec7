-- What stands beside a segmentation descriptor: where its components lie, and what the readers of them answer.
use Prim.Native.Nat.{ℕ, zero, suc, ◌+◌, ◌*◌, ◌-◌, ◌^◌, ◌<◌, ◌≤◌}
use mathlib.Core.Bool.{Bool, true, false}
use mathlib.Core.List.{List, [], ◌∷◌, ◌++◌}
use mathlib.Core.Path.{◌≡◌, refl, ap, sym, subst, ◌∙◌}
use native.Mathlib.Nat.{zero-add, sub-zero, zero-sub, suc-sub-suc}
use native.Mathlib.Numerals.{add-one}
use native.Mathlib.Omega.{arith}
use lib.Dec.{eqb}
use lib.ListN.{length, drop, set, replicate, length-replicate}
use lib.Seq.{sets, sets-eq}
use Rattle.table.specs.Bits.{bits_of, field}
use Rattle.table.specs.Lent.{viewed}
use Rattle.table.specs.Table.{Table, done, must, reserved, list, ones, Answer, got, short, parse}
use Rattle.table.specs.declared.cursor.Field.{Field}
use Rattle.table.specs.declared.cursor.Short.{Short}
use Rattle.table.proofs.Laws.{field_there}
use Rattle.table.proofs.Reading.{field_lt}
use Rattle.table.proofs.Steps.{reads_in, onward, takes_in, lacks_in, reads_number, reads_flag, list_turn, list_short, list_none}
use Rattle.upid.specs.Upid.{eidr_of}
use Rattle.descriptor.specs.Segmentation.{delivery_restrictions, component, blank_component, Moded, mode, duration, written_upid, ListedFront, parts, front, back, Head, head, active_from, segmentation}
use Rattle.descriptor.specs.Private.{filling}
use Rattle.descriptor.specs.Descriptor.{descriptor_of}
use Rattle.descriptor.specs.Full.{filled, blank_beside, beside_in, beside_of, beside_read, identifier_read, full_of}
use Rattle.descriptor.specs.declared.back.Back.{Back}
use Rattle.descriptor.specs.declared.front.Front.{Front}
use Rattle.descriptor.specs.declared.segmentation.SegmentationComponent.{SegmentationComponent}
use Rattle.descriptor.specs.declared.segmentation.DescriptorDetail.TheVariants.{Cancel, Active}
use Rattle.descriptor.specs.declared.segmentation.SegmentationMode.{SegmentationMode}
use Rattle.descriptor.specs.declared.segmentation.SegmentationUpid.{SegmentationUpid}
use Rattle.descriptor.specs.declared.full.Beside.{Beside}
use Rattle.std.proofs.Common.{Result}
use Rattle.descriptor.specs.declared.Descriptor.{Descriptor}
use Rattle.upid.specs.declared.Refusal.{Refusal}

-- ---- where the components lie
reads_ones : {X : Type 0} (s : List ℕ) (at w : ℕ) (t : Table X) (y : X) (m : ℕ) → parse (ones w t) (bits_of s) at ≡ got y m → parse t (bits_of s) (at + w) ≡ got y m
unfolding reserved
reads_ones {X} s at w t y m e = (field_there w (λ (x : X). 2 ^ w - 1) (λ v. must (eqb v (2 ^ w - 1)) t) (bits_of s) at y m e).1

-- where a reading ends
abbrev end : {X : Type 0} → Answer X → ℕ
end (got x m) = m
end (short e a) = 0

restrictions_at : (s : List ℕ) (b : Bool) (x : _) (m : ℕ) → parse (delivery_restrictions b) (bits_of s) 43 ≡ got x m → 48 ≡ m
unfolding delivery_restrictions
restrictions_at s true x m e = ap end (reads_ones s 43 5 _ x m e)
restrictions_at s false x m e =
    let e₁ = (reads_flag s 43 _ _ x m e).1 in
    let e₂ = (reads_flag s 44 _ _ x m e₁).1 in
    let e₃ = (reads_flag s 45 _ _ x m e₂).1 in
    ap end (reads_number s 46 2 _ _ x m e₃).1

-- the components of a mode: none, or a list from bit 56 on
abbrev Listed : List ℕ → SegmentationMode → List SegmentationComponent → Type 0
Listed s SegmentationMode.Program cs = cs ≡ []
Listed s (SegmentationMode.Component n) cs = (m : ℕ) × (parse (list n blank_component component) (bits_of s) 56 ≡ got cs m) × (n < 256) × (56 ≤ length s * 8)

abbrev mode_in : Answer Moded → Moded
mode_in (got x m) = x
mode_in (short e a) = record { mode = SegmentationMode.Program; components = [] }

mode_listed : (s : List ℕ) (b : Bool) (x : Moded) (m : ℕ) → parse (mode b) (bits_of s) 48 ≡ got x m → Listed s x.mode x.components
unfolding mode
mode_listed s true x m e = rw (← (ap mode_in e)) refl
mode_listed s false x m e =
    let e₀ = (reads_number s 48 8 _ _ x m e).0 in
    let e₁ = (reads_number s 48 8 _ _ x m e).1 in
    let i = reads_in (list (field (bits_of s) 48 8) blank_component component) _ _ (bits_of s) 56 x m e₁ in
    rw (← (ap mode_in i.back)) (i.seam, i.front, field_lt s 48 8, e₀)

abbrev mode_of : Answer ListedFront → Moded
mode_of (got x m) = record { mode = x.front.segmentation_mode; components = x.components }
mode_of (short e a) = record { mode = SegmentationMode.Program; components = [] }

parts_listed : (s : List ℕ) (p l f : Bool) (x : ListedFront) (m : ℕ) → parse (parts p l f) (bits_of s) 43 ≡ got x m → Listed s x.front.segmentation_mode x.components
unfolding parts
parts_listed s p l f x m e =
    let i = reads_in (delivery_restrictions f) _ _ (bits_of s) 43 x m e in
    let j = reads_in (mode p) _ _ (bits_of s) i.seam x m i.back in
    let k = reads_in (duration l) _ _ (bits_of s) j.seam x m j.back in
    let w = reads_in written_upid _ _ (bits_of s) k.seam x m k.back in
    let z : record { mode = x.front.segmentation_mode; components = x.components } ≡ j.inner = sym (ap mode_of w.back) in
    let g : parse (mode p) (bits_of s) 48 ≡ got j.inner j.seam = rw (restrictions_at s f i.inner i.seam i.front) j.front in
    subst (λ (y : Moded). Listed s y.mode y.components) (sym z) (mode_listed s p j.inner j.seam g)

front_listed : (s : List ℕ) (x : ListedFront) (m : ℕ) → parse front (bits_of s) 40 ≡ got x m → Listed s x.front.segmentation_mode x.components
unfolding front
front_listed s x m e =
    let e₁ = (reads_flag s 40 _ _ x m e).1 in
    let e₂ = (reads_flag s 41 _ _ x m e₁).1 in
    let e₃ = (reads_flag s 42 _ _ x m e₂).1 in
    parts_listed s _ _ _ x m e₃

module _ (s : List ℕ) (f : Front) (cs : List SegmentationComponent) (m : ℕ) (e : parse front (bits_of s) 40 ≡ got (record { front = f; components = cs }) m) where
  there_as : (k : SegmentationMode) → f.segmentation_mode ≡ k → Listed s k cs
  there_as k is = subst (λ (k : SegmentationMode). Listed s k cs) is (front_listed s (record { front = f; components = cs }) m e)

  -- where there are components, there are seven bytes before them
  pub components_from_lem : (n : ℕ) → f.segmentation_mode ≡ SegmentationMode.Component n → 7 ≤ length s
  components_from_lem n is = let t : (m : ℕ) × (parse (list n blank_component component) (bits_of s) 56 ≡ got cs m) × (n < 256) × (56 ≤ length s * 8) = there_as (SegmentationMode.Component n) is in omega (arith, t.3)

-- the EIDR of a UPID, by whichever name it has
pub eidr_as : (s : List ℕ) {u v : SegmentationUpid} → u ≡ v → eidr_of v.upid_type (viewed s v.bytes) ≡ eidr_of u.upid_type (viewed s u.bytes)
eidr_as s e = rw e

-- ---- an array that is filled
list_length : (n : ℕ) (bs : List ℕ) (at : ℕ) (cs : List SegmentationComponent) (m : ℕ) → parse (list n blank_component component) bs at ≡ got cs m → length cs ≡ n
unfolding list
list_length zero bs at cs m e = let z : cs ≡ [] = cc in ap length z
list_length (suc n) bs at cs m e =
    let i = reads_in component _ _ bs at cs m e in
    let j = reads_in (list n blank_component component) (drop 1) _ bs i.seam cs m i.back in
    let z : cs ≡ i.inner ∷ j.inner = cc j.back in
    ap length z ∙ ap suc (list_length n bs i.seam j.inner j.seam j.front)

drop_replicate : (i n : ℕ) (a : SegmentationComponent) → drop i (replicate n a) ≡ replicate (n - i) a
drop_replicate zero n a = rw sub-zero
drop_replicate (suc i) zero a = rw zero-sub
drop_replicate (suc i) (suc n) a = rw suc-sub-suc (drop_replicate i n a)

sets_front : (n : ℕ) (a : SegmentationComponent) (xs : List SegmentationComponent) → length xs ≤ n → sets (replicate n a) 0 xs ≡ xs ++ replicate (n - length xs) a
sets_front n a xs h =
    let e : 0 + length xs ≡ length xs = zero-add (length xs) in
    let f : 0 + length xs ≤ length (replicate n a) = omega (arith, length-replicate n a) in
    sets-eq xs (replicate n a) 0 f ∙ rw (e, drop_replicate)

pub filled_is : (n : ℕ) (bs : List ℕ) (at : ℕ) (cs : List SegmentationComponent) (m : ℕ) → n ≤ 255 → parse (list n blank_component component) bs at ≡ got cs m
    → filling (filled []) 0 (parse (list n blank_component component) bs at) ≡ filled cs
unfolding filling filled
filled_is n bs at cs m h e = rw e (sets_front 255 blank_component cs (omega (arith, list_length n bs at cs m e)))

-- ---- the loop that fills: what is left gives what the whole gives
abbrev pub filling_from : List ℕ → List SegmentationComponent → ℕ → ℕ → ℕ → List SegmentationComponent
filling_from s out i n c = filling out i (parse (list n blank_component component) (bits_of s) (c * 8))

filling_onward : (bs : List ℕ) (out : List SegmentationComponent) (i : ℕ) (y : SegmentationComponent) (r : Answer (List SegmentationComponent))
    → filling out i (onward bs (λ ys. done (y ∷ ys)) r) ≡ filling (set out i y) (suc i) r
unfolding filling
filling_onward bs out i y (got xs m) = refl
filling_onward bs out i y (short e a) = refl

module _ (s : List ℕ) (n from : ℕ) (out : List SegmentationComponent) (i c : ℕ) (inv : filling_from s out i (n - i) c ≡ filling_from s (filled []) 0 n from) where
  pub fill_end : n ≤ i → out ≡ filling_from s (filled []) 0 n from
  unfolding filling
  fill_end h =
      let z : n - i ≡ 0 = omega arith in
      let k : filling_from s out i (n - i) c ≡ out = rw (z, list_none blank_component component (bits_of s) (c * 8)) in
      sym k ∙ inv

  module _ (h : i < n) where
    left_at : filling_from s out i (n - i) c ≡ filling_from s out i (suc (n - (i + 1))) c
    left_at = ap (λ (k : ℕ). filling_from s out i k c) (let z : n - i ≡ suc (n - (i + 1)) = omega arith in z)

    pub fill_turn : (m : Field SegmentationComponent ℕ) → parse component (bits_of s) (c * 8) ≡ got m.value (m.next * 8)
        → filling_from s (set out i m.value) (i + 1) (n - (i + 1)) m.next ≡ filling_from s (filled []) 0 n from
    fill_turn m e =
        ap (λ (k : ℕ). filling (set out i m.value) k (parse (list (n - (i + 1)) blank_component component) (bits_of s) (m.next * 8))) (add-one i)
        ∙ sym
        (ap (filling out i) (list_turn (n - (i + 1)) blank_component component (bits_of s) (c * 8) m.value (m.next * 8) e)
        ∙ filling_onward (bits_of s) out i m.value _)
        ∙ sym left_at ∙ inv

    pub fill_short : (x : Short) → parse component (bits_of s) (c * 8) ≡ short x.expected x.actual → filled [] ≡ filling_from s (filled []) 0 n from
    unfolding filling
    fill_short x e =
        sym (ap (filling out i) (list_short (n - (i + 1)) blank_component component (bits_of s) (c * 8) x.expected x.actual e))
        ∙ sym left_at ∙ inv

-- ---- beside a segmentation descriptor, step by step
module _ (s : List ℕ) where
  nothing : (x : Short) → parse segmentation (bits_of s) 0 ≡ short x.expected x.actual → blank_beside ≡ beside_of s
  unfolding beside_of beside_in
  nothing x e = rw e

  pub beside_no_head : (x : Short) → parse head (bits_of s) 0 ≡ short x.expected x.actual → blank_beside ≡ beside_of s
  unfolding segmentation
  beside_no_head x e = nothing x (lacks_in head _ _ (bits_of s) 0 x.expected x.actual e)

  module _ (h : Head) (eh : parse head (bits_of s) 0 ≡ got h 40) where
    pub beside_cancelled : h.cancel ≡ true → blank_beside ≡ beside_of s
    unfolding segmentation beside_of beside_in blank_beside filled eidr_of
    beside_cancelled on =
        let g : parse segmentation (bits_of s) 0 ≡ got (record { descriptor = record { segmentation_event_id = h.event; descriptor_detail = Cancel }; components = [] }) 40 =
        takes_in head _ _ (bits_of s) 0 h 40 eh ∙ rw on in
        rw g

    module _ (off : h.cancel ≡ false) where
      pub beside_no_front : (x a : ℕ) → parse front (bits_of s) 40 ≡ short x a → blank_beside ≡ beside_of s
      unfolding segmentation
      beside_no_front x a e =
          nothing (record { expected = x; actual = a }) (takes_in head _ _ (bits_of s) 0 h 40 eh ∙ rw off (lacks_in front _ _ (bits_of s) 40 x a e))

      module _ (f : Front) (cs : List SegmentationComponent) (j : ℕ) (ef : parse front (bits_of s) 40 ≡ got (record { front = f; components = cs }) j) where
        pub beside_no_back : (x : Short) → parse back (bits_of s) j ≡ short x.expected x.actual → blank_beside ≡ beside_of s
        unfolding segmentation
        beside_no_back x e =
            nothing x
            (takes_in head _ _ (bits_of s) 0 h 40 eh
            ∙ rw off
            (takes_in front _ _ (bits_of s) 40 (record { front = f; components = cs }) j ef
            ∙ lacks_in back _ _ (bits_of s) j x.expected x.actual e))

        module _ (b : Back) (m : ℕ) (eb : parse back (bits_of s) j ≡ got b m) (held : List ℕ)
            (eheld : held ≡ eidr_of f.segmentation_upid.upid_type (viewed s f.segmentation_upid.bytes)) where
          beside : (all : List SegmentationComponent) → all ≡ filled cs → record { components = all; eidr = held } ≡ beside_of s
          unfolding segmentation beside_of beside_in
          beside all e =
              let g : parse segmentation (bits_of s) 0 ≡ got (record {
                descriptor = record { segmentation_event_id = h.event; descriptor_detail = Active (active_from f f.segmentation_upid b) };
                components = cs;
              }) m =
              takes_in head _ _ (bits_of s) 0 h 40 eh
              ∙ rw off
              (takes_in front _ _ (bits_of s) 40 (record { front = f; components = cs }) j ef
              ∙ takes_in back _ _ (bits_of s) j b m eb) in
              rw (g, ← eheld, e)

          pub beside_program : f.segmentation_mode ≡ SegmentationMode.Program → (all : List SegmentationComponent) → all ≡ filled [] → record { components = all; eidr = held } ≡ beside_of s
          beside_program e all eall = beside all (eall ∙ sym (ap filled (there_as s f cs j ef SegmentationMode.Program e)))

          pub beside_components : (n : ℕ) → f.segmentation_mode ≡ SegmentationMode.Component n → (all : List SegmentationComponent)
              → all ≡ filling (filled []) 0 (parse (list n blank_component component) (bits_of s) 56) → record { components = all; eidr = held } ≡ beside_of s
          beside_components n e all eall =
              let t : (m : ℕ) × (parse (list n blank_component component) (bits_of s) 56 ≡ got cs m) × (n < 256) × (56 ≤ length s * 8) = there_as s f cs j ef (SegmentationMode.Component n) e in
              beside all (eall ∙ filled_is n (bits_of s) 56 _ t.0 (omega arith) t.1)

-- ---- beside any descriptor
pub full_is : (tag : ℕ) (id s : List ℕ) (r : Result Descriptor Refusal) → r ≡ descriptor_of tag id s → (i : List ℕ) → i ≡ identifier_read r id → (b : Beside) → b ≡ beside_read r s
    → record { read = r; identifier = i; beside = b } ≡ full_of tag id s
unfolding full_of
full_is tag id s r e i ei b eb = rw (← e, ei, eb)
