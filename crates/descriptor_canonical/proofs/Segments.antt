-- The payload of a segmentation descriptor: its canonical form by byte places, part by part from the last one.
use Prim.Native.Nat.{ℕ, zero, suc, ◌+◌, ◌*◌, ◌-◌, ◌/◌, ◌%◌, ◌^◌, ◌<◌, ◌≤◌}
use mathlib.Core.Bool.{Bool, true, false, ◌&&◌, ◌||◌}
use mathlib.Core.List.{List, [], ◌∷◌}
use mathlib.Core.Path.{◌≡◌, refl, ap, ap₂, sym, ◌∙◌}
use native.Mathlib.Omega.{arith}
use lib.Dec.{leb, eqb}
use lib.ListN.{length, get_or, take, drop}
use borrow.Author.Tests.{leb-true, le-leb, eqb-true, eqb-false, eq-eqb, ne_eqb}
use Rattle.table.specs.Bits.{pick, bits_of, field}
use Rattle.table.specs.Lent.{viewed}
use Rattle.table.specs.Table.{Table, done, inside, list, uimsbf, Answer, got, short, parse, canonical, canonical_by, takes_all}
use Rattle.table.proofs.Fields.{byte_field, field_in}
use Rattle.table.proofs.Lists.{zero_one, and_true}
use Rattle.upid.specs.Upid.{check_of}
use Rattle.descriptor.specs.Segmentation.{delivery_restrictions, component, blank_component, Moded, mode, duration, written_upid, ListedFront, parts, front, sub_segment, sub_segments, back, Head, head, blank_upid, Segmentation, segmentation}
use Rattle.descriptor.specs.declared.segmentation.SegmentationComponent.{SegmentationComponent}
use Rattle.descriptor.specs.declared.segmentation.SegmentationUpid.{SegmentationUpid}
use Rattle.canonical_form.specs.Descriptor.{canonical_upid, upid_canonical, canonical_segmentation}
use Rattle.descriptor_measure.specs.Writing.{accepts, upid_in}
use Rattle.descriptor_canonical.specs.Private.{flags_ones, lasting_bytes, components_ones, ends_at, upid_at, components_at, active_fits, segmentation_fits}
use Rattle.descriptor_canonical.proofs.Through.{joined, through, through_in, through_same, through_must, through_list, through_none, through_number, through_flag, through_ones, through_part, through_remaining, implied, guarded, under, over, drops, leb_bytes, eqb_bytes}
use Rattle.std.proofs.Common.{Some, None, Option}
use Rattle.descriptor.specs.declared.segmentation.DeliveryRestrictions.{DeliveryRestrictions}
use Rattle.descriptor.specs.declared.segmentation.SubSegment.{SubSegment}

and_tt : (b : Bool) → b && true ≡ b
and_tt true = refl
and_tt false = refl

through_pick : {X : Type 0} (b : Bool) (t u : Table X) (bs : List ℕ) (at : ℕ) (f : X → ℕ → Bool) → through (pick b t u) bs at f ≡ pick b (through t bs at f) (through u bs at f)
through_pick true t u bs at f = refl
through_pick false t u bs at f = refl

-- ---- sub-segments: with l bytes left of a payload that ends at bit n
left_over : (l p n : ℕ) (u : Bool) → Bool
left_over l p n u = pick (eqb l 0) (eqb p n && u) (eqb l 2 && (leb (p + 8) n && (leb (p + 8 + 8) n && (eqb (p + 8 + 8) n && u))))

left_none : (l p n : ℕ) (u : Bool) → l ≡ 0 → p ≡ n → left_over l p n u ≡ u
unfolding left_over
left_none l p n u a b = rw (eq-eqb l 0 a, eq-eqb p n b)

left_two : (l p n : ℕ) (u : Bool) → l ≡ 2 → p + 16 ≡ n → left_over l p n u ≡ u
unfolding left_over
left_two l p n u a b = rw (a, le-leb (p + 8) n (omega arith), le-leb (p + 8 + 8) n (omega arith), eq-eqb (p + 8 + 8) n (omega arith))

left_other : (l p n : ℕ) (u : Bool) → (l ≡ 0 → ⊥) → (l ≡ 2 → ⊥) → left_over l p n u ≡ false
unfolding left_over
left_other l p n u a b = rw (ne_eqb l 0 a, ne_eqb l 2 b)

abbrev two : Table (Option SubSegment)
two =
    uimsbf 8 (λ x. (sub_segment x).sub_segment_num) λ number.
    uimsbf 8 (λ x. (sub_segment x).sub_segments_expected) λ expected.
    done (Some (record { sub_segment_num = number; sub_segments_expected = expected }))

module _ (s : List ℕ) where
  two_through : (p : ℕ) (f : Option SubSegment → ℕ → Bool) (x : Bool) → ((y : Option SubSegment) → f y (p + 8 + 8) ≡ x)
      → through two (bits_of s) p f ≡ leb (p + 8) (length s * 8) && (leb (p + 8 + 8) (length s * 8) && x)
  two_through p f x same =
      let n : ℕ = length s * 8 in
      through_number s p f 8 _ _
      ∙ under (leb (p + 8) n) (through_number s (p + 8) f 8 _ _ ∙ under (leb (p + 8 + 8) n) (same _))

  sub_through : (p : ℕ) (u : Bool) → through sub_segments (bits_of s) p (λ x m. eqb m (length s * 8) && u) ≡ left_over ((length s * 8 - p) / 8) p (length s * 8) u
  unfolding sub_segments left_over
  sub_through p u =
      let n : ℕ = length s * 8 in
      let l : ℕ = (n - p) / 8 in
      through_remaining s p _ _ _
      ∙ through_pick (eqb l 0) (done None) _ (bits_of s) p _
      ∙ ap (pick (eqb l 0) (eqb p n && u))
      (through_must (eqb l 2) two (bits_of s) p (λ x m. eqb m n && u)
      ∙ under (eqb l 2) (two_through p (λ x m. eqb m n && u) (eqb (p + 8 + 8) n && u) (λ y. refl)))

  ends_sub : (at : ℕ) (u : Bool) → at + 3 ≤ length s → left_over ((length s * 8 - (at * 8 + 8 + 8 + 8)) / 8) (at * 8 + 8 + 8 + 8) (length s * 8) u ≡ ends_at (length s) at && u
  unfolding ends_at
  ends_sub at u h = go (eqb (length s) (at + 3)) (eqb (length s) (at + 5)) refl refl
    where
      go : (a b : Bool) → eqb (length s) (at + 3) ≡ a → eqb (length s) (at + 5) ≡ b
          → left_over ((length s * 8 - (at * 8 + 8 + 8 + 8)) / 8) (at * 8 + 8 + 8 + 8) (length s * 8) u ≡ (a || b) && u
      go true b e f = left_none _ _ _ u (omega (arith, eqb-true (length s) (at + 3) e)) (omega (arith, eqb-true (length s) (at + 3) e))
      go false true e f = left_two _ _ _ u (omega (arith, eqb-true (length s) (at + 5) f)) (omega (arith, eqb-true (length s) (at + 5) f))
      go false false e f =
          left_other _ _ _ u
          (λ z. eqb-false (length s) (at + 3) e (omega (arith, z)))
          (λ z. eqb-false (length s) (at + 5) f (omega (arith, z)))

  pub ends_there_at : (a k : ℕ) → ends_at (length s) k ≡ true → a ≤ k + 3 → a ≤ length s
  unfolding ends_at
  ends_there_at a k e h = go (eqb (length s) (k + 3)) (eqb (length s) (k + 5)) refl refl e
    where
      go : (x y : Bool) → eqb (length s) (k + 3) ≡ x → eqb (length s) (k + 5) ≡ y → x || y ≡ true → a ≤ length s
      go true y e f z = omega (arith, eqb-true (length s) (k + 3) e)
      go false true e f z = omega (arith, eqb-true (length s) (k + 5) f)
      go false false e f z = zero_one cc

  -- ---- after the UPID
  back_at : (at : ℕ) (f : _ → ℕ → Bool) (u : Bool) → ((b : _) (m : ℕ) → f b m ≡ eqb m (length s * 8) && u) → through back (bits_of s) (at * 8) f ≡ ends_at (length s) at && u
  unfolding back
  back_at at f u same =
      let n : ℕ = length s * 8 in
      let p : ℕ = at * 8 in
      through_same back (bits_of s) p f (λ b m. eqb m n && u) same
      ∙ through_number s p _ 8 _ _
      ∙ under (leb (p + 8) n) (through_number s (p + 8) _ 8 _ _ ∙ under (leb (p + 8 + 8) n) (through_number s (p + 8 + 8) _ 8 _ _
      ∙ under (leb (p + 8 + 8 + 8) n) (through_in sub_segments _ _ (bits_of s) (p + 8 + 8 + 8) _ ∙ sub_through (p + 8 + 8 + 8) u)))
      ∙ drops (p + 8) (p + 8 + 8) n _ (omega arith) ∙ drops (p + 8 + 8) (p + 8 + 8 + 8) n _ (omega arith)
      ∙ over (leb_bytes (p + 8 + 8 + 8) (at + 3) (length s) (omega arith)) _
      ∙ guarded (leb (at + 3) (length s)) _ _ (λ e. ends_sub at u (leb-true (at + 3) (length s) e))
      ∙ implied (leb (at + 3) (length s)) (ends_at (length s) at && u)
      (λ e. le-leb (at + 3) (length s) (ends_there_at (at + 3) at (and_true (ends_at (length s) at) u e).0 (omega arith)))

  -- ---- the UPID
  none_read : (k : ℕ) (t : List ℕ) → t ≡ [] → accepts (check_of k t) ≡ true
  unfolding check_of
  none_read k t e = rw e

  upid_test : (k n at : ℕ) → at + n ≤ length s
      → canonical_upid s (record { upid_type = k; bytes = record { at = at; len = n } }) ≡ pick (eqb n 0) (eqb k 0) (accepts (check_of k (take n (drop at s))))
  unfolding canonical_upid viewed
  upid_test k n at h = rw (le-leb (at + n) (length s) h) (go (eqb n 0) refl)
    where
      go : (b : Bool) → eqb n 0 ≡ b → accepts (check_of k (take n (drop at s))) && pick b (eqb k 0) true ≡ pick b (eqb k 0) (accepts (check_of k (take n (drop at s))))
      go true e =
          let z : take n (drop at s) ≡ [] = ap (λ (i : ℕ). take i (drop at s)) (eqb-true n 0 e) in
          ap (λ (a : Bool). a && eqb k 0) (none_read k (take n (drop at s)) z)
      go false e = and_tt (accepts (check_of k (take n (drop at s))))

  module _ (byte : (k : ℕ) → get_or s k 0 < 256) (G : ListedFront → ℕ → Bool) where
    byte_at : (p q : ℕ) → p ≡ q * 8 → q < length s → field (bits_of s) p 8 ≡ get_or s q 0
    byte_at p q e h = ap (λ (i : ℕ). field (bits_of s) i 8) e ∙ byte_field s q h (byte q)

    upid_through : (at : ℕ) (q : ListedFront → SegmentationUpid) (k : SegmentationUpid → Table ListedFront)
        → ((u : SegmentationUpid) (m : ℕ) → through (k u) (bits_of s) (m * 8) G ≡ ends_at (length s) m && canonical_upid s u)
        → through (inside written_upid q k) (bits_of s) (at * 8) G ≡ upid_at s at
    unfolding written_upid upid_at
    upid_through at q k rest =
        let n : ℕ = length s * 8 in
        let p : ℕ = at * 8 in
        let l : ℕ = get_or s (at + 1) 0 in
        let upid_type_number : ℕ = get_or s at 0 in
        let test : ℕ → ℕ → ℕ → ℕ → Bool = λ upid_type_number len start end. leb end n && through (k (record { upid_type = upid_type_number; bytes = record { at = start; len = len } })) (bits_of s) end G in
        let tests : Bool = pick (eqb l 0) (eqb upid_type_number 0) (accepts (check_of upid_type_number (take l (drop (at + 2) s)))) in
        let a : Bool = leb (p + 8 + 8) n in
        let there : a ≡ true → at + 2 ≤ length s = λ e. omega (arith, leb-true (p + 8 + 8) n e) in
        let kinds : a ≡ true → field (bits_of s) p 8 ≡ upid_type_number = λ e. byte_at p at refl (omega (arith, there e)) in
        let sizes : a ≡ true → field (bits_of s) (p + 8) 8 ≡ l = λ e. byte_at (p + 8) (at + 1) (omega arith) (omega (arith, there e)) in
        let ends : Bool = ends_at (length s) (at + 2 + l) in
        through_in written_upid q k (bits_of s) p G
        ∙ through_number s p _ 8 _ _
        ∙ under (leb (p + 8) n) (through_number s (p + 8) _ 8 _ _ ∙ under a (through_part s (p + 8 + 8) _ (field (bits_of s) (p + 8) 8) _ _))
        ∙ drops (p + 8) (p + 8 + 8) n _ (omega arith)
        ∙ guarded a _ (ends && tests) (λ e.
        four test (kinds e) (sizes e) (omega arith) (ap (λ (i : ℕ). p + 8 + 8 + i * 8) (sizes e) ∙ (let z : p + 8 + 8 + l * 8 ≡ (at + 2 + l) * 8 = omega arith in z))
        ∙ under (leb ((at + 2 + l) * 8) n) (rest _ (at + 2 + l))
        ∙ implied (leb ((at + 2 + l) * 8) n) (ends && canonical_upid s (record { upid_type = upid_type_number; bytes = record { at = at + 2; len = l } }))
        (λ f. le-leb ((at + 2 + l) * 8) n (omega (arith, ends_there_at (at + 2 + l) (at + 2 + l) (and_true ends _ f).0 (omega arith))))
        ∙ guarded ends _ tests (λ f. upid_test upid_type_number l (at + 2) (ends_there_at (at + 2 + l) (at + 2 + l) f (omega arith))))
        ∙ implied a (ends && tests) (λ f. le-leb (p + 8 + 8) n (omega (arith, ends_there_at (at + 5) (at + 2 + l) (and_true ends tests f).0 (omega arith))))
        ∙ sym (implied (leb (at + 5) (length s)) (ends && tests) (λ f. le-leb (at + 5) (length s) (ends_there_at (at + 5) (at + 2 + l) (and_true ends tests f).0 (omega arith))))
      where
        four : (t : ℕ → ℕ → ℕ → ℕ → Bool) {a b c d x y z w : ℕ} → a ≡ x → b ≡ y → c ≡ z → d ≡ w → t a b c d ≡ t x y z w
        four t e f g h = rw (e, f, g, h)

    -- ---- the duration
    upid_there : (at : ℕ) → upid_at s at ≡ true → at + 5 ≤ length s
    unfolding upid_at
    upid_there at e = leb-true (at + 5) (length s) (and_true (leb (at + 5) (length s)) _ e).0

    duration_through : (at : ℕ) (b : Bool) (q : ListedFront → Option ℕ) (k : Option ℕ → Table ListedFront)
        → ((d : Option ℕ) (m : ℕ) → through (k d) (bits_of s) (m * 8) G ≡ upid_at s m)
        → through (inside (duration b) q k) (bits_of s) (at * 8) G ≡ upid_at s (at + pick b 5 0)
    unfolding duration
    duration_through at true q k rest =
        let n : ℕ = length s * 8 in
        let d : Option ℕ = Some (field (bits_of s) (at * 8) 40) in
        let z : at * 8 + 40 ≡ (at + 5) * 8 = omega arith in
        through_in (duration true) q k (bits_of s) (at * 8) G
        ∙ through_number s (at * 8) _ 40 _ _
        ∙ ap (λ (p : ℕ). leb p n && through (k d) (bits_of s) p G) z
        ∙ under (leb ((at + 5) * 8) n) (rest d (at + 5))
        ∙ implied (leb ((at + 5) * 8) n) (upid_at s (at + 5)) (λ e. le-leb ((at + 5) * 8) n (omega (arith, upid_there (at + 5) e)))
    duration_through at false q k rest =
        let z : at ≡ at + 0 = omega arith in
        through_in (duration false) q k (bits_of s) (at * 8) G ∙ rest None at ∙ ap (upid_at s) z

    -- ---- components
    component_through : (at : ℕ) (h : SegmentationComponent → ℕ → Bool) (x : Bool) → (at + 6 ≤ length s → (y : SegmentationComponent) → h y ((at + 6) * 8) ≡ x)
        → through component (bits_of s) (at * 8) h ≡ leb (at + 6) (length s) && (eqb (get_or s (at + 1) 0 / 2) 127 && x)
    unfolding component
    component_through at h x rest =
        let n : ℕ = length s * 8 in
        let p : ℕ = at * 8 in
        let o : ℕ = field (bits_of s) (p + 8) 7 in
        let c : SegmentationComponent = record { component_tag = field (bits_of s) p 8; pts_offset = field (bits_of s) (p + 8 + 7) 33 } in
        let z : p + 8 + 7 + 33 ≡ (at + 6) * 8 = omega arith in
        through_number s p _ 8 _ _
        ∙ under (leb (p + 8) n) (through_ones s (p + 8) _ 7 _ ∙ under (leb (p + 8 + 7) n) (under (eqb o 127) (through_number s (p + 8 + 7) _ 33 _ _)))
        ∙ drops (p + 8) (p + 8 + 7) n _ (omega arith)
        ∙ swap (leb (p + 8 + 7) n) (eqb o 127) (leb (p + 8 + 7 + 33) n) (h c (p + 8 + 7 + 33)) (λ e. le-leb (p + 8 + 7) n (omega (arith, leb-true (p + 8 + 7 + 33) n e)))
        ∙ ap₂ (λ (a : Bool) (i : ℕ). a && (eqb o 127 && h c i)) (leb_bytes (p + 8 + 7 + 33) (at + 6) (length s) (omega arith)) z
        ∙ guarded (leb (at + 6) (length s)) _ _ (λ e.
        let l : at + 6 ≤ length s = leb-true (at + 6) (length s) e in
        let w : o ≡ get_or s (at + 1) 0 / 2 = ap (λ (i : ℕ). field (bits_of s) i 7) (let v : p + 8 ≡ (at + 1) * 8 + 0 = omega arith in v) ∙ field_in s (at + 1) (omega (arith, l)) (byte (at + 1)) 0 7 1 refl ∙ omega (arith, byte (at + 1)) in
        ap₂ (λ (i : ℕ) (b : Bool). eqb i 127 && b) w (rest l c))
      where
        swap : (a o b x : Bool) → (b ≡ true → a ≡ true) → a && (o && (b && x)) ≡ b && (o && x)
        swap true true b x h = refl
        swap true false true x h = refl
        swap true false false x h = refl
        swap false o true x h = let e : false ≡ true = h refl in zero_one cc
        swap false o false x h = refl

    list_through : (c at : ℕ) (f : List SegmentationComponent → ℕ → Bool) (g : ℕ → Bool) → ((cs : List SegmentationComponent) (m : ℕ) → f cs (m * 8) ≡ g m) → at ≤ length s
        → through (list c blank_component component) (bits_of s) (at * 8) f ≡ leb (at + c * 6) (length s) && (components_ones c s at && g (at + c * 6))
    unfolding components_ones
    list_through zero at f g same h =
        let z : at ≡ at + 0 * 6 = omega arith in
        through_none blank_component component (bits_of s) (at * 8) f ∙ same [] at ∙ ap g z
        ∙ ap (λ (a : Bool). a && g (at + 0 * 6)) (sym (le-leb (at + 0 * 6) (length s) (omega arith)))
    list_through (suc c) at f g same h =
        let z : at + 6 + c * 6 ≡ at + suc c * 6 = omega arith in
        let x : ℕ → Bool = λ i. leb i (length s) && (components_ones c s (at + 6) && g i) in
        let o : Bool = eqb (get_or s (at + 1) 0 / 2) 127 in
        through_list c blank_component component (bits_of s) (at * 8) f
        ∙ component_through at _ (x (at + 6 + c * 6)) (λ l y. list_through c (at + 6) (λ ys k. f (y ∷ ys) k) g (λ ys m. same (y ∷ ys) m) l)
        ∙ ap (λ (i : ℕ). leb (at + 6) (length s) && (o && x i)) z
        ∙ turn (leb (at + 6) (length s)) o (leb (at + suc c * 6) (length s)) (components_ones c s (at + 6)) (g (at + suc c * 6))
        (λ e. le-leb (at + 6) (length s) (omega (arith, leb-true (at + suc c * 6) (length s) e)))
      where
        turn : (a o b c g : Bool) → (b ≡ true → a ≡ true) → a && (o && (b && (c && g))) ≡ b && ((o && c) && g)
        turn true true b c g h = refl
        turn true false true c g h = refl
        turn true false false c g h = refl
        turn false o true c g h = let e : false ≡ true = h refl in zero_one cc
        turn false o false c g h = refl

    -- ---- the mode
    mode_through : (b : Bool) (q : ListedFront → Moded) (k : Moded → Table ListedFront) (lasting : ℕ) → 6 ≤ length s
        → ((x : Moded) (m : ℕ) → through (k x) (bits_of s) (m * 8) G ≡ upid_at s (m + lasting))
        → through (inside (mode b) q k) (bits_of s) 48 G ≡ pick b (upid_at s (6 + lasting)) (components_at s lasting)
    unfolding mode components_at
    mode_through true q k lasting h rest = through_in (mode true) q k (bits_of s) 48 G ∙ rest _ 6
    mode_through false q k lasting h rest =
        let n : ℕ = length s * 8 in
        let c : ℕ = field (bits_of s) 48 8 in
        let test : ℕ → Bool = λ c. leb (7 + c * 6) (length s) && (components_ones c s 7 && upid_at s (7 + c * 6 + lasting)) in
        through_in (mode false) q k (bits_of s) 48 G
        ∙ through_number s 48 _ 8 _ _
        ∙ over (leb_bytes 56 7 (length s) refl) _
        ∙ guarded (leb 7 (length s)) _ _ (λ e.
        let l : 7 ≤ length s = leb-true 7 (length s) e in
        through_in (list c blank_component component) _ _ (bits_of s) 56 _
        ∙ list_through c 7 _ (λ m. upid_at s (m + lasting)) (λ cs m. rest _ m) l
        ∙ ap test (byte_at 48 6 refl (omega (arith, l))))

    -- ---- the restrictions
    delivery_through : (b : Bool) (q : ListedFront → Option DeliveryRestrictions) (k : Option DeliveryRestrictions → Table ListedFront) (x : Bool)
        → (6 ≤ length s → (r : Option DeliveryRestrictions) → through (k r) (bits_of s) 48 G ≡ x)
        → through (inside (delivery_restrictions b) q k) (bits_of s) 43 G ≡ leb 6 (length s) && (pick b (eqb (field (bits_of s) 43 5) 31) true && x)
    unfolding delivery_restrictions
    delivery_through true q k x rest =
        let n : ℕ = length s * 8 in
        let f : Option DeliveryRestrictions → ℕ → Bool = λ r m. through (k r) (bits_of s) m G in
        through_in (delivery_restrictions true) q k (bits_of s) 43 G
        ∙ through_ones s 43 f 5 _
        ∙ over (leb_bytes 48 6 (length s) refl) (eqb (field (bits_of s) 43 5) 31 && f None 48)
        ∙ guarded (leb 6 (length s)) _ _ (λ e. under (eqb (field (bits_of s) 43 5) 31) (rest (leb-true 6 (length s) e) None))
    delivery_through false q k x rest =
        let n : ℕ = length s * 8 in
        let f : Option DeliveryRestrictions → ℕ → Bool = λ r m. through (k r) (bits_of s) m G in
        through_in (delivery_restrictions false) q k (bits_of s) 43 G
        ∙ through_flag s 43 f _ _
        ∙ under (leb 44 n) (through_flag s 44 f _ _ ∙ under (leb 45 n) (through_flag s 45 f _ _ ∙ under (leb 46 n) (through_number s 46 f 2 _ _)))
        ∙ drops 44 45 n _ (omega arith) ∙ drops 45 46 n _ (omega arith) ∙ drops 46 48 n _ (omega arith)
        ∙ over (leb_bytes 48 6 (length s) refl) _
        ∙ guarded (leb 6 (length s)) _ _ (λ e. rest (leb-true 6 (length s) e) _)

    -- ---- from the flags to the end
    module _ (ends : (x : ListedFront) (m : ℕ) → G x (m * 8) ≡ ends_at (length s) m && canonical_upid s x.front.segmentation_upid) where
      parts_through : (p l f : Bool)
          → through (parts p l f) (bits_of s) 43 G
          ≡ leb 6 (length s) && (pick f (eqb (field (bits_of s) 43 5) 31) true && pick p (upid_at s (6 + pick l 5 0)) (components_at s (pick l 5 0)))
      unfolding parts
      parts_through p l f =
          delivery_through f _ _ _ (λ h r.
          mode_through p _ _ (pick l 5 0) h (λ x m.
          duration_through m l _ _ (λ d i.
          upid_through i _ _ (λ u j. ends _ j))))

      front_through : through front (bits_of s) 40 G ≡ active_fits s
      unfolding front active_fits flags_ones lasting_bytes
      front_through =
          let n : ℕ = length s * 8 in
          let b : ℕ = get_or s 5 0 in
          let fits : Bool → Bool → Bool → ℕ → Bool =
          λ p l f o. pick f (eqb o 31) true && pick p (upid_at s (6 + pick l 5 0)) (components_at s (pick l 5 0)) in
          let p : Bool = eqb (field (bits_of s) 40 1) 1 in
          let l : Bool = eqb (field (bits_of s) 41 1) 1 in
          let f : Bool = eqb (field (bits_of s) 42 1) 1 in
          let o : ℕ = field (bits_of s) 43 5 in
          through_flag s 40 G _ _
          ∙ under (leb 41 n) (through_flag s 41 G _ _ ∙ under (leb 42 n) (through_flag s 42 G _ _ ∙ under (leb 43 n) (parts_through p l f
          ∙ over (sym (leb_bytes 48 6 (length s) refl)) (fits p l f o))))
          ∙ drops 41 42 n _ (omega arith) ∙ drops 42 43 n _ (omega arith) ∙ drops 43 48 n _ (omega arith)
          ∙ over (leb_bytes 48 6 (length s) refl) (fits p l f o)
          ∙ guarded (leb 6 (length s)) (fits p l f o) _ (λ e.
          let h : 5 < length s = omega (arith, leb-true 6 (length s) e) in
          let at : (j w k : ℕ) → j + w + k ≡ 8 → field (bits_of s) (40 + j) w ≡ b / 2 ^ k % 2 ^ w = λ j w k z. field_in s 5 h (byte 5) j w k z in
          let high : field (bits_of s) 40 1 ≡ b / 128 = at 0 1 7 refl ∙ omega (arith, byte 5) in
          let ep : p ≡ eqb (b / 128) 1 = ap (λ (i : ℕ). eqb i 1) high in
          let el : l ≡ eqb (b / 64 % 2) 1 = ap (λ (i : ℕ). eqb i 1) (at 1 1 6 refl) in
          let ef : f ≡ eqb (b / 32 % 2) 1 = ap (λ (i : ℕ). eqb i 1) (at 2 1 5 refl) in
          let eo : o ≡ b % 32 = at 3 5 0 refl ∙ omega arith in
          four fits ep el ef eo)
        where
          four : (t : Bool → Bool → Bool → ℕ → Bool) {a b c x y z : Bool} {d w : ℕ} → a ≡ x → b ≡ y → c ≡ z → d ≡ w → t a b c d ≡ t x y z w
          four t e f g h = rw (e, f, g, h)

-- ---- the whole
module _ (s : List ℕ) (byte : (k : ℕ) → get_or s k 0 < 256) where
  abbrev overall : Segmentation → ℕ → Bool
  overall x m = eqb m (length s * 8) && canonical_upid s (upid_in x.descriptor)

  by_overall : canonical_segmentation s ≡ through segmentation (bits_of s) 0 overall
  unfolding canonical_segmentation canonical_by
  by_overall = go (parse segmentation (bits_of s) 0) (canonical segmentation (bits_of s) 0)
    where
      turn : (a c u : Bool) → (a && c) && u ≡ c && (a && u)
      turn true true u = refl
      turn true false u = refl
      turn false true u = refl
      turn false false u = refl

      go : (r : Answer Segmentation) (c : Bool) → (takes_all r s && c) && upid_canonical s r ≡ joined overall r c
      go (got x m) c = turn (eqb m (length s * 8)) c (canonical_upid s (upid_in x.descriptor))
      go (short e a) c = refl

  head_through : (f : Head → ℕ → Bool) (g : Bool → Bool) → ((h : Head) → f h 40 ≡ g h.cancel)
      → through head (bits_of s) 0 f ≡ leb 5 (length s) && (eqb (get_or s 4 0 % 128) 127 && g (eqb (get_or s 4 0 / 128) 1))
  unfolding head
  head_through f g same =
      let n : ℕ = length s * 8 in
      let b : ℕ = get_or s 4 0 in
      let o : ℕ = field (bits_of s) 33 7 in
      let c : ℕ = field (bits_of s) 32 1 in
      through_number s 0 f 32 _ _
      ∙ under (leb 32 n) (through_flag s 32 f _ _ ∙ under (leb 33 n) (through_ones s 33 f 7 _ ∙ under (leb 40 n) (under (eqb o 127) (same _))))
      ∙ drops 32 33 n _ (omega arith) ∙ drops 33 40 n _ (omega arith)
      ∙ over (leb_bytes 40 5 (length s) refl) (eqb o 127 && g (eqb c 1))
      ∙ guarded (leb 5 (length s)) _ _ (λ e.
      let h : 4 < length s = omega (arith, leb-true 5 (length s) e) in
      let eo : o ≡ b % 128 = field_in s 4 h (byte 4) 1 7 0 refl ∙ omega arith in
      let ec : c ≡ b / 128 = field_in s 4 h (byte 4) 0 1 7 refl ∙ omega (arith, byte 4) in
      ap₂ (λ (x y : ℕ). eqb x 127 && g (eqb y 1)) eo ec)

  none_fits : canonical_upid s blank_upid ≡ true
  unfolding canonical_upid viewed check_of
  none_fits = rw (le-leb (0 + 0) (length s) (omega arith))

  pub segmentation_by : canonical_segmentation s ≡ segmentation_fits s
  unfolding segmentation segmentation_fits
  segmentation_by =
      by_overall
      ∙ through_in head _ _ (bits_of s) 0 overall
      ∙ head_through _ (λ c. pick c (eqb (length s) 5) (active_fits s)) (λ h.
      through_pick h.cancel _ _ (bits_of s) 40 overall
      ∙ ap₂ (pick h.cancel)
      (ap (λ (u : Bool). eqb 40 (length s * 8) && u) none_fits ∙ and_tt (eqb 40 (length s * 8)) ∙ eqb_bytes 40 5 (length s) refl)
      (through_in front _ _ (bits_of s) 40 overall
      ∙ front_through s byte _ (λ x m. through_in back _ _ (bits_of s) (m * 8) overall ∙ back_at s m _ (canonical_upid s x.front.segmentation_upid) (λ b i. refl))))
