-- What the tests answer, step by step, each after those before it.
use Prim.Native.Nat.{ℕ, suc, ◌+◌, ◌*◌, ◌-◌, ◌/◌, ◌%◌, ◌<◌, ◌≤◌}
use mathlib.Core.Bool.{Bool, true, false, not, ◌&&◌}
use mathlib.Core.List.{List, [], ◌∷◌}
use mathlib.Core.Path.{◌≡◌, refl, ap, sym, ◌∙◌}
use native.Mathlib.Omega.{arith}
use lib.Dec.{eqb}
use lib.ListN.{length, get_or, take, drop, length-drop}
use lib.Seq.{take_all}
use borrow.Author.Tests.{le-leb, lt-leb, eq-eqb, ne_eqb, not-true, not-false}
use Rattle.upid.specs.Upid.{check_of}
use Rattle.descriptor.specs.Descriptor.{is_cuei}
use Rattle.descriptor.specs.Plain.{dtmf}
use Rattle.canonical_form.specs.Descriptor.{canonical_segmentation, canonical_payload, canonical_descriptor}
use Rattle.descriptor_measure.specs.Writing.{accepts}
use Rattle.table.specs.Table.{canonical_by}
use Rattle.descriptor_canonical.specs.Private.{flags_ones, lasting_bytes, components_ones, ends_at, upid_at, components_at, active_fits, segmentation_fits}
use Rattle.descriptor_canonical.proofs.Plains.{avail_by, time_by, private_by, dtmf_by}
use Rattle.descriptor_canonical.proofs.Segments.{segmentation_by}

-- ---- DTMF
module _ (s : List ℕ) (byte : (k : ℕ) → get_or s k 0 < 256) where
  pub dtmf_short : length s < 2 → false ≡ canonical_by dtmf s
  dtmf_short h = sym (dtmf_by s byte ∙ rw (lt-leb 2 (length s) h))

  pub dtmf_spoilt : 2 ≤ length s → (get_or s 1 0 % 32 ≡ 31 → ⊥) → false ≡ canonical_by dtmf s
  dtmf_spoilt h e = sym (dtmf_by s byte ∙ rw (le-leb 2 (length s) h, ne_eqb (get_or s 1 0 % 32) 31 e))

  pub dtmf_counted : 2 ≤ length s → get_or s 1 0 % 32 ≡ 31 → (n : ℕ) → n ≡ get_or s 1 0 / 32 → eqb (n + 2) (length s) ≡ canonical_by dtmf s
  dtmf_counted h e n z = rw z (sym (dtmf_by s byte ∙ rw (le-leb 2 (length s) h, eq-eqb (get_or s 1 0 % 32) 31 e)))

-- ---- the components: what is left says what the whole says
pub ones_start : (s : List ℕ) (n : ℕ) → components_ones (n - 0) s 7 ≡ components_ones n s 7
ones_start s n = let e : n - 0 ≡ n = omega arith in ap (λ (m : ℕ). components_ones m s 7) e

module _ (s : List ℕ) (n i : ℕ) (inv : components_ones (n - i) s (7 + i * 6) ≡ components_ones n s 7) where
  ones_next : i < n → components_ones (n - i) s (7 + i * 6) ≡ eqb (get_or s (7 + i * 6 + 1) 0 / 2) 127 && components_ones (n - (i + 1)) s (7 + (i + 1) * 6)
  unfolding components_ones
  ones_next h =
      let e : n - i ≡ suc (n - (i + 1)) = omega arith in
      let f : 7 + i * 6 + 6 ≡ 7 + (i + 1) * 6 = omega arith in
      ap (λ (m : ℕ). components_ones m s (7 + i * 6)) e
      ∙ ap (λ (p : ℕ). eqb (get_or s (7 + i * 6 + 1) 0 / 2) 127 && components_ones (n - (i + 1)) s p) f

  pub ones_turn : i < n → get_or s (7 + i * 6 + 1) 0 / 2 ≡ 127 → components_ones (n - (i + 1)) s (7 + (i + 1) * 6) ≡ components_ones n s 7
  ones_turn h e = sym (ones_next h ∙ rw (eq-eqb (get_or s (7 + i * 6 + 1) 0 / 2) 127 e)) ∙ inv

  pub ones_stop : i < n → (get_or s (7 + i * 6 + 1) 0 / 2 ≡ 127 → ⊥) → false ≡ components_ones n s 7
  ones_stop h e = sym (ones_next h ∙ rw (ne_eqb (get_or s (7 + i * 6 + 1) 0 / 2) 127 e)) ∙ inv

  pub ones_end : n ≤ i → true ≡ components_ones n s 7
  unfolding components_ones
  ones_end h =
      let e : n - i ≡ 0 = omega arith in
      sym (ap (λ (m : ℕ). components_ones m s (7 + i * 6)) e) ∙ inv

-- ---- the UPID
module _ (s : List ℕ) (at : ℕ) where
  pub upid_short : length s < at + 5 → false ≡ upid_at s at
  unfolding upid_at
  upid_short h = rw (lt-leb (at + 5) (length s) h)

  module _ (there : at + 5 ≤ length s) (n : ℕ) (en : n ≡ get_or s (at + 1) 0) (r : Bool) (er : r ≡ ends_at (length s) (at + 2 + n)) where
    pub upid_spare : not r ≡ true → false ≡ upid_at s at
    unfolding upid_at
    upid_spare t = rw (le-leb (at + 5) (length s) there, ← en, ← er, not-true r t)

    module _ (t : not r ≡ false) where
      pub upid_empty : n ≡ 0 → eqb (get_or s at 0) 0 ≡ upid_at s at
      unfolding upid_at
      upid_empty e = rw (le-leb (at + 5) (length s) there, ← en, ← er, not-false r t, eq-eqb n 0 e)

      pub upid_full : (n ≡ 0 → ⊥) → (a : Bool) → a ≡ accepts (check_of (get_or s at 0) (take (at + 2 + n - (at + 2)) (drop (at + 2) s))) → a ≡ upid_at s at
      unfolding upid_at
      upid_full e a ea =
          let m : at + 2 + n - (at + 2) ≡ n = omega arith in
          rw (le-leb (at + 5) (length s) there, ← en, ← er, not-false r t, ne_eqb n 0 e)
          (ea ∙ ap (λ (i : ℕ). accepts (check_of (get_or s at 0) (take i (drop (at + 2) s)))) m)

-- ---- the count and the components
module _ (s : List ℕ) (lasting : ℕ) where
  pub count_short : length s < 7 → false ≡ components_at s lasting
  unfolding components_at
  count_short h = rw (lt-leb 7 (length s) h)

  module _ (there : 7 ≤ length s) (n : ℕ) (en : n ≡ get_or s 6 0) where
    pub count_over : length s < 7 + n * 6 → false ≡ components_at s lasting
    unfolding components_at
    count_over h = rw (le-leb 7 (length s) there, ← en, lt-leb (7 + n * 6) (length s) h)

    module _ (fit : 7 + n * 6 ≤ length s) (r : Bool) (er : r ≡ components_ones n s 7) where
      pub count_spoilt : not r ≡ true → false ≡ components_at s lasting
      unfolding components_at
      count_spoilt t = rw (le-leb 7 (length s) there, ← en, le-leb (7 + n * 6) (length s) fit, ← er, not-true r t)

      pub count_rest : not r ≡ false → (a : Bool) → a ≡ upid_at s (7 + n * 6 + lasting) → a ≡ components_at s lasting
      unfolding components_at
      count_rest t a ea = rw (le-leb 7 (length s) there, ← en, le-leb (7 + n * 6) (length s) fit, ← er, not-false r t) ea

-- ---- the flags
module _ (s : List ℕ) where
  pub flags_short : length s < 6 → false ≡ active_fits s
  unfolding active_fits
  flags_short h = rw (lt-leb 6 (length s) h)

  module _ (there : 6 ≤ length s) (r : Bool) (er : r ≡ flags_ones (get_or s 5 0)) where
    pub flags_spoilt : not r ≡ true → false ≡ active_fits s
    unfolding active_fits
    flags_spoilt t = rw (le-leb 6 (length s) there, ← er, not-true r t)

    module _ (t : not r ≡ false) (n : ℕ) (en : n ≡ lasting_bytes (get_or s 5 0)) where
      pub by_program_lem : get_or s 5 0 / 128 ≡ 1 → (a : Bool) → a ≡ upid_at s (6 + n) → a ≡ active_fits s
      unfolding active_fits
      by_program_lem e a ea = rw (le-leb 6 (length s) there, ← er, not-false r t, eq-eqb (get_or s 5 0 / 128) 1 e, ← en) ea

      pub by_components : (get_or s 5 0 / 128 ≡ 1 → ⊥) → (a : Bool) → a ≡ components_at s n → a ≡ active_fits s
      unfolding active_fits
      by_components e a ea = rw (le-leb 6 (length s) there, ← er, not-false r t, ne_eqb (get_or s 5 0 / 128) 1 e, ← en) ea

-- ---- segmentation
module _ (s : List ℕ) (byte : (k : ℕ) → get_or s k 0 < 256) where
  fits : {a : Bool} → a ≡ segmentation_fits s → a ≡ canonical_segmentation s
  fits e = e ∙ sym (segmentation_by s byte)

  pub head_short : length s < 5 → false ≡ canonical_segmentation s
  unfolding segmentation_fits
  head_short h = fits (rw (lt-leb 5 (length s) h))

  module _ (there : 5 ≤ length s) where
    pub head_spoilt : (get_or s 4 0 % 128 ≡ 127 → ⊥) → false ≡ canonical_segmentation s
    unfolding segmentation_fits
    head_spoilt e = fits (rw (le-leb 5 (length s) there, ne_eqb (get_or s 4 0 % 128) 127 e))

    module _ (e : get_or s 4 0 % 128 ≡ 127) where
      pub is_cancelled : get_or s 4 0 / 128 ≡ 1 → eqb (length s) 5 ≡ canonical_segmentation s
      unfolding segmentation_fits
      is_cancelled f = fits (rw (le-leb 5 (length s) there, eq-eqb (get_or s 4 0 % 128) 127 e, eq-eqb (get_or s 4 0 / 128) 1 f))

      pub is_activeed : (get_or s 4 0 / 128 ≡ 1 → ⊥) → (a : Bool) → a ≡ active_fits s → a ≡ canonical_segmentation s
      unfolding segmentation_fits
      is_activeed f a ea = fits (rw (le-leb 5 (length s) there, eq-eqb (get_or s 4 0 % 128) 127 e, ne_eqb (get_or s 4 0 / 128) 1 f) ea)

-- ---- by identifier and tag
module _ (tag : ℕ) (id s : List ℕ) where
  pub is_foreign : is_cuei id ≡ false → true ≡ canonical_payload tag id s
  unfolding canonical_payload
  is_foreign e = rw e (sym (private_by s))

  module _ (e : is_cuei id ≡ true) where
    pub is_avail : tag ≡ 0 → eqb (length s) 4 ≡ canonical_payload tag id s
    unfolding canonical_payload
    is_avail h = rw (e, h) (sym (avail_by s))

    pub is_dtmf : tag ≡ 1 → canonical_by dtmf s ≡ canonical_payload tag id s
    unfolding canonical_payload
    is_dtmf h = rw (e, h)

    pub is_segmentation : tag ≡ 2 → canonical_segmentation s ≡ canonical_payload tag id s
    unfolding canonical_payload
    is_segmentation h = rw (e, h)

    pub is_time : tag ≡ 3 → eqb (length s) 12 ≡ canonical_payload tag id s
    unfolding canonical_payload
    is_time h = rw (e, h) (sym (time_by s))

    pub is_other : (tag ≡ 0 → ⊥) → (tag ≡ 1 → ⊥) → (tag ≡ 2 → ⊥) → (tag ≡ 3 → ⊥) → true ≡ canonical_payload tag id s
    unfolding canonical_payload
    is_other a b c d = rw (e, ne_eqb tag 0 a, ne_eqb tag 1 b, ne_eqb tag 2 c, ne_eqb tag 3 d) (sym (private_by s))

-- ---- the envelope
four : (s : List ℕ) → 6 ≤ length s → get_or s 2 0 ∷ get_or s 3 0 ∷ get_or s 4 0 ∷ get_or s 5 0 ∷ [] ≡ take 4 (drop 2 s)
four [] h = absurd (omega arith)
four (a ∷ []) h = absurd (omega arith)
four (a ∷ (b ∷ [])) h = absurd (omega arith)
four (a ∷ (b ∷ (c ∷ []))) h = absurd (omega arith)
four (a ∷ (b ∷ (c ∷ (d ∷ [])))) h = absurd (omega arith)
four (a ∷ (b ∷ (c ∷ (d ∷ (e ∷ []))))) h = absurd (omega arith)
four (a ∷ (b ∷ (c ∷ (d ∷ (e ∷ (f ∷ s)))))) h = refl

module _ (s : List ℕ) where
  pub envelope_short : length s < 6 → false ≡ canonical_descriptor s
  unfolding canonical_descriptor
  envelope_short h = rw (lt-leb 6 (length s) h)

  module _ (there : 6 ≤ length s) (n : ℕ) (en : n ≡ get_or s 1 0) where
    pub envelope_other : (n + 2 ≡ length s → ⊥) → false ≡ canonical_descriptor s
    unfolding canonical_descriptor
    envelope_other e = rw (le-leb 6 (length s) there, ← en, ne_eqb (n + 2) (length s) e)

    module _ (e : n + 2 ≡ length s) where
      pub envelope_long : 254 < n → false ≡ canonical_descriptor s
      unfolding canonical_descriptor
      envelope_long h = rw (le-leb 6 (length s) there, ← en, eq-eqb (n + 2) (length s) e, lt-leb n 254 h)

      pub envelope_is : n ≤ 254 → (a : Bool)
          → a ≡ canonical_payload (get_or s 0 0) (get_or s 2 0 ∷ get_or s 3 0 ∷ get_or s 4 0 ∷ get_or s 5 0 ∷ []) (take (length s - 6) (drop 6 s)) → a ≡ canonical_descriptor s
      unfolding canonical_descriptor
      envelope_is h a ea =
          let m : ℕ = length s - 6 in
          let all : take m (drop 6 s) ≡ drop 6 s = take_all m (drop 6 s) (omega (arith, length-drop 6 s)) in
          let p : a ≡ canonical_payload (get_or s 0 0) (take 4 (drop 2 s)) (drop 6 s) =
          ea ∙ ap (λ (i : List ℕ). canonical_payload (get_or s 0 0) i (take m (drop 6 s))) (four s there) ∙ ap (canonical_payload (get_or s 0 0) (take 4 (drop 2 s))) all in
          rw (le-leb 6 (length s) there, ← en, eq-eqb (n + 2) (length s) e, le-leb n 254 h) p
