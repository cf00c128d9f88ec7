-- Where the head of a segmentation descriptor's UPID is written: by whole bytes, behind the fields before it.
--     front_told       its type, its length and its bytes
use Prim.Native.Nat.{ℕ, zero, suc, ◌+◌, ◌*◌, ◌/◌, ◌%◌, ◌^◌, ◌≤◌, ◌<◌}
use mathlib.Core.Bool.{Bool, true, false}
use mathlib.Core.List.{List, []}
use mathlib.Core.Path.{◌≡◌, refl, ap, sym, ◌∙◌}
use native.Mathlib.Omega.{arith}
use lib.Dec.{eqb}
use lib.ListN.{length, get_or}
use borrow.Author.Tests.{eqb-true}
use Rattle.table.proofs.Fields.{byte_field, field_in}
use Rattle.table.proofs.Steps.{reads_in, reads_number, reads_flag, reads_ones, reads_part}
use Rattle.table.specs.Bits.{pick, bits_of, field}
use Rattle.table.specs.Table.{list, Answer, got, short, parse}
use Rattle.descriptor.specs.Segmentation.{
  delivery_restrictions,
  component,
  blank_component,
  Moded,
  mode,
  mode_size,
  duration,
  duration_size,
  fields_before,
  written_upid,
  ListedFront,
  parts,
  front,
  Head,
  head,
  blank_front,
}
use Rattle.descriptor.specs.declared.segmentation.SegmentationComponent.{SegmentationComponent}
use Rattle.descriptor.specs.declared.segmentation.SegmentationMode.{SegmentationMode}
use Rattle.descriptor.specs.declared.segmentation.SegmentationUpid.{SegmentationUpid}
use Rattle.std.proofs.Common.{Some, None, Option}
use Rattle.descriptor.specs.declared.segmentation.DeliveryRestrictions.{DeliveryRestrictions}

module _ (s : List ℕ) where
  -- ---- how many bits each field before it takes

  component_ends : (at : ℕ) (y : SegmentationComponent) (m : ℕ) → parse component (bits_of s) at ≡ got y m → m ≡ at + 48
  unfolding component
  component_ends at y m e =
      let e₁ = (reads_number s at 8 _ _ y m e).1 in
      let e₂ = (reads_ones s (at + 8) 7 _ y m e₁).1 in
      let e₃ = (reads_number s (at + 8 + 7) 33 _ _ y m e₂).1 in
      let z : at + 8 + 7 + 33 ≡ m = cc e₃ in
      omega arith

  components_end : (n at : ℕ) (ys : List SegmentationComponent) (m : ℕ) → parse (list n blank_component component) (bits_of s) at ≡ got ys m → m ≡ at + n * 48
  unfolding list
  components_end zero at ys m e = let z : at ≡ m = cc in omega arith
  components_end (suc n) at ys m e =
      let i = reads_in component _ _ (bits_of s) at ys m e in
      let j = reads_in (list n blank_component component) _ _ (bits_of s) i.seam ys m i.back in
      let z : j.seam ≡ m = cc j.back in
      omega (arith, component_ends at i.inner i.seam i.front, components_end n i.seam j.inner j.seam j.front)

  pub mode_ends : (b : Bool) (at : ℕ) (y : Moded) (m : ℕ) → parse (mode b) (bits_of s) at ≡ got y m → m ≡ at + mode_size y.mode * 8
  unfolding mode
  mode_ends true at y m e =
      let z : y ≡ record { mode = SegmentationMode.Program; components = [] } = cc in
      let w : at ≡ m = cc in
      rw z (omega arith)
  mode_ends false at y m e =
      let e₁ = (reads_number s at 8 _ _ y m e).1 in
      let i = reads_in (list (field (bits_of s) at 8) blank_component component) _ _ (bits_of s) (at + 8) y m e₁ in
      let z : y ≡ record { mode = SegmentationMode.Component (field (bits_of s) at 8); components = i.inner } = cc i.back in
      let w : i.seam ≡ m = cc i.back in
      rw z (omega (arith, components_end (field (bits_of s) at 8) (at + 8) i.inner i.seam i.front))

  pub duration_ends : (b : Bool) (at : ℕ) (y : Option ℕ) (m : ℕ) → parse (duration b) (bits_of s) at ≡ got y m → m ≡ at + duration_size y * 8
  unfolding duration
  duration_ends true at y m e =
      let e₁ = (reads_number s at 40 _ _ y m e).1 in
      let z : y ≡ Some (field (bits_of s) at 40) = cc e₁ in
      let w : at + 40 ≡ m = cc e₁ in
      rw z (omega arith)
  duration_ends false at y m e =
      let z : y ≡ None = cc in
      let w : at ≡ m = cc in
      rw z (omega arith)

  pub delivery_ends : (b : Bool) (at : ℕ) (y : Option DeliveryRestrictions) (m : ℕ) → parse (delivery_restrictions b) (bits_of s) at ≡ got y m → m ≡ at + 5
  unfolding delivery_restrictions
  delivery_ends true at y m e =
      let e₁ = (reads_ones s at 5 _ y m e).1 in
      let w : at + 5 ≡ m = cc e₁ in
      omega arith
  delivery_ends false at y m e =
      let e₁ = (reads_flag s at _ _ y m e).1 in
      let e₂ = (reads_flag s (at + 1) _ _ y m e₁).1 in
      let e₃ = (reads_flag s (at + 1 + 1) _ _ y m e₂).1 in
      let e₄ = (reads_number s (at + 1 + 1 + 1) 2 _ _ y m e₃).1 in
      let w : at + 1 + 1 + 1 + 2 ≡ m = cc e₄ in
      omega arith

  pub head_ends : (h : Head) (m : ℕ) → parse head (bits_of s) 0 ≡ got h m → m ≡ 40
  unfolding head
  head_ends h m e =
      let e₁ = (reads_number s 0 32 _ _ h m e).1 in
      let e₂ = (reads_flag s 32 _ _ h m e₁).1 in
      let e₃ = (reads_ones s 33 7 _ h m e₂).1 in
      let w : 40 ≡ m = cc e₃ in
      sym w

-- ---- the UPID

-- the place of its type, of what is read up to it
abbrev pub place : ListedFront → ℕ
place f = 6 + (mode_size f.front.segmentation_mode + duration_size f.front.segmentation_duration)

-- its type and its length stand there, and its bytes behind them
abbrev pub upid_in : List ℕ → ℕ → SegmentationUpid
upid_in s q = record { upid_type = get_or s q 0; bytes = record { at = q + 2; len = get_or s (q + 1) 0 } }

module _ (s : List ℕ) (bytes : (k : ℕ) → get_or s k 0 < 256) where
  upid_told : (q : ℕ) (u : SegmentationUpid) (m : ℕ) → parse written_upid (bits_of s) (q * 8) ≡ got u m → (u ≡ upid_in s q) × (q + 2 + get_or s (q + 1) 0 ≤ length s)
  unfolding written_upid
  upid_told q u m e =
      let i₁ = reads_number s (q * 8) 8 _ _ u m e in
      let i₂ = reads_number s (q * 8 + 8) 8 _ _ u m i₁.1 in
      let j = reads_part s (q * 8 + 8 + 8) (field (bits_of s) (q * 8 + 8) 8) _ _ u m i₂.1 in
      let k : field (bits_of s) (q * 8) 8 ≡ get_or s q 0 = byte_field s q (omega (arith, i₁.0)) (bytes q) in
      let a : q * 8 + 8 ≡ (q + 1) * 8 = omega arith in
      let l : field (bits_of s) (q * 8 + 8) 8 ≡ get_or s (q + 1) 0 = ap (λ (x : ℕ). field (bits_of s) x 8) a ∙ byte_field s (q + 1) (omega (arith, i₂.0)) (bytes (q + 1)) in
      let p : (q * 8 + 8 + 8) / 8 ≡ q + 2 = omega arith in
      let z : u ≡ record { upid_type = field (bits_of s) (q * 8) 8; bytes = record { at = (q * 8 + 8 + 8) / 8; len = field (bits_of s) (q * 8 + 8) 8 } } = cc j.1 in
      (z ∙ cc, omega (arith, j.0, l))

  upid_at_lem : (q at : ℕ) → at ≡ q * 8 → (u : SegmentationUpid) (m : ℕ) → parse written_upid (bits_of s) at ≡ got u m → (u ≡ upid_in s q) × (q + 2 + get_or s (q + 1) 0 ≤ length s)
  upid_at_lem q at p u m e = upid_told q u m (rw p at e)

  -- the cancel bit
  pub head_cancels : (h : Head) (m : ℕ) → parse head (bits_of s) 0 ≡ got h m → h.cancel ≡ true → (5 ≤ length s) × (get_or s 4 0 / 128 % 2 ≡ 1)
  unfolding head
  head_cancels h m e on =
      let e₁ = (reads_number s 0 32 _ _ h m e).1 in
      let e₂ = (reads_flag s 32 _ _ h m e₁).1 in
      let i = reads_ones s 33 7 _ h m e₂ in
      let z : h ≡ record { event = field (bits_of s) 0 32; cancel = eqb (field (bits_of s) 32 1) 1 } = cc i.1 in
      let c : eqb (field (bits_of s) 32 1) 1 ≡ true = sym (ap (λ (k : Head). k.cancel) z) ∙ on in
      let f : field (bits_of s) (4 * 8 + 0) 1 ≡ get_or s 4 0 / 2 ^ 7 % 2 ^ 1 = field_in s 4 (omega (arith, i.0)) (bytes 4) 0 1 7 refl in
      (omega (arith, i.0), sym f ∙ eqb-true _ _ c)

  abbrev read_in : Answer ListedFront → ListedFront
  read_in (got x m) = x
  read_in (short e a) = record { front = blank_front; components = [] }

  pub record Placed (f : ListedFront) : Type 0 where
    pub is : f.front.segmentation_upid ≡ upid_in s (place f)
    pub there : place f + 2 + get_or s (place f + 1) 0 ≤ length s
    pub before : place f ≡ 6 + fields_before (get_or s 5 0) (get_or s 6 0)

  -- how many bytes the fields before it take, by the flags
  mode_size_lem : (b : Bool) (at : ℕ) → at ≡ 48 → (y : Moded) (m : ℕ) → parse (mode b) (bits_of s) at ≡ got y m → mode_size y.mode ≡ pick b 0 (1 + get_or s 6 0 * 6)
  unfolding mode
  mode_size_lem true at h y m e =
      let z : y ≡ record { mode = SegmentationMode.Program; components = [] } = cc in
      rw z
  mode_size_lem false at h y m e =
      let i₀ = reads_number s at 8 _ _ y m e in
      let i = reads_in (list (field (bits_of s) at 8) blank_component component) _ _ (bits_of s) (at + 8) y m i₀.1 in
      let z : y ≡ record { mode = SegmentationMode.Component (field (bits_of s) at 8); components = i.inner } = cc i.back in
      let n : field (bits_of s) at 8 ≡ get_or s 6 0 = ap (λ (k : ℕ). field (bits_of s) k 8) h ∙ byte_field s 6 (omega (arith, i₀.0)) (bytes 6) in
      rw (z, n)

  duration_size_lem : (b : Bool) (at : ℕ) (y : Option ℕ) (m : ℕ) → parse (duration b) (bits_of s) at ≡ got y m → duration_size y ≡ pick b 5 0
  unfolding duration
  duration_size_lem true at y m e =
      let e₁ = (reads_number s at 40 _ _ y m e).1 in
      let z : y ≡ Some (field (bits_of s) at 40) = cc e₁ in
      rw z
  duration_size_lem false at y m e =
      let z : y ≡ None = cc in
      rw z

  parts_told : (p l g : Bool) → eqb (get_or s 5 0 / 128 % 2) 1 ≡ p → eqb (get_or s 5 0 / 64 % 2) 1 ≡ l → (x : ListedFront) (m : ℕ) → parse (parts p l g) (bits_of s) 43 ≡ got x m → Placed x
  unfolding parts
  parts_told p l g ep el x m e =
      let i = reads_in (delivery_restrictions g) _ _ (bits_of s) 43 x m e in
      let j = reads_in (mode p) _ _ (bits_of s) i.seam x m i.back in
      let k = reads_in (duration l) _ _ (bits_of s) j.seam x m j.back in
      let w = reads_in written_upid _ _ (bits_of s) k.seam x m k.back in
      let q : ℕ = 6 + (mode_size j.inner.mode + duration_size k.inner) in
      let at : k.seam ≡ q * 8 =
      omega (arith, delivery_ends s g 43 i.inner i.seam i.front, mode_ends s p i.seam j.inner j.seam j.front, duration_ends s l j.seam k.inner k.seam k.front) in
      let sized : mode_size j.inner.mode ≡ pick p 0 (1 + get_or s 6 0 * 6) = mode_size_lem p i.seam (delivery_ends s g 43 i.inner i.seam i.front) j.inner j.seam j.front in
      let lasts : duration_size k.inner ≡ pick l 5 0 = duration_size_lem l j.seam k.inner k.seam k.front in
      let t = upid_at_lem q k.seam at w.inner w.seam w.front in
      rw (← ap read_in w.back) (record { is = t.0; there = t.1; before = rw (ep, el) (omega (arith, sized, lasts)) })

  pub front_told : (x : ListedFront) (m : ℕ) → parse front (bits_of s) 40 ≡ got x m → Placed x
  unfolding front
  front_told x m e =
      let i = reads_flag s 40 _ _ x m e in
      let e₂ = (reads_flag s 41 _ _ x m i.1).1 in
      let e₃ = (reads_flag s 42 _ _ x m e₂).1 in
      let there : 5 < length s = omega (arith, i.0) in
      let p : field (bits_of s) (5 * 8 + 0) 1 ≡ get_or s 5 0 / 2 ^ 7 % 2 ^ 1 = field_in s 5 there (bytes 5) 0 1 7 refl in
      let l : field (bits_of s) (5 * 8 + 1) 1 ≡ get_or s 5 0 / 2 ^ 6 % 2 ^ 1 = field_in s 5 there (bytes 5) 1 1 6 refl in
      parts_told _ _ _ (ap (λ (n : ℕ). eqb n 1) (sym p)) (ap (λ (n : ℕ). eqb n 1) (sym l)) x m e₃
