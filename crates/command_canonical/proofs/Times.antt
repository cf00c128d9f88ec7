-- splice_time() and the fields that it shares with break_duration(), by the byte that they begin with.
use Prim.Native.Nat.{ℕ, ◌+◌, ◌*◌, ◌/◌, ◌%◌, ◌<◌, ◌≤◌}
use mathlib.Core.Bool.{Bool, true, false}
use mathlib.Core.List.{List}
use mathlib.Core.Path.{◌≡◌, refl, ap, sym, ◌∙◌}
use native.Mathlib.Nat.{add-zero}
use native.Mathlib.Omega.{arith}
use lib.Dec.{ltb, eqb}
use lib.ListN.{length, get_or}
use borrow.Author.Tests.{ltb-true, ltb-false}
use Rattle.splice_time.specs.Time.{splice_time, ticks}
use Rattle.splice_time.specs.declared.SpliceTime.TheVariants.{Unspecified, At}
use Rattle.table.specs.Bits.{bits_of, field}
use Rattle.table.specs.Table.{done, uimsbf, ones}
use Rattle.table.proofs.Fields.{field_in}
use Rattle.command_canonical.specs.Private.{Stands, Fails}
use Rattle.command_canonical.proofs.Walks.{stands_done, stands_number, lacks_number, stands_flag, fails_flag, lacks_flag, stands_ones, fails_one, fails_ones}

-- ---- the bits of byte i
module _ (s : List ℕ) (i : ℕ) (there : i < length s) (byte : get_or s i 0 < 256) where
  pub first_bit : field (bits_of s) (i * 8) 1 ≡ get_or s i 0 / 128 % 2
  first_bit = ap (λ (p : ℕ). field (bits_of s) p 1) (sym (add-zero (i * 8))) ∙ field_in s i there byte 0 1 7 refl

  next_six : field (bits_of s) (i * 8 + 1) 6 ≡ get_or s i 0 / 2 % 64
  next_six = field_in s i there byte 1 6 1 refl

  pub last_seven : field (bits_of s) (i * 8 + 1) 7 ≡ get_or s i 0 % 128
  last_seven = field_in s i there byte 1 7 0 refl ∙ (let z : get_or s i 0 / 1 % 128 ≡ get_or s i 0 % 128 = omega arith in z)

  -- ---- after a flag: six reserved bits, and 33 more
  module _ {X : Type 0} (p : X → ℕ) (k : ℕ → X) where
    pub stands_six : get_or s i 0 / 2 % 64 ≡ 63 → i + 5 ≤ length s → Stands (ones 6 (uimsbf 33 p λ v. done (k v))) s (i * 8 + 1) ((i + 5) * 8)
    stands_six h l =
        stands_ones s (i * 8 + 1) 6 _ _ (omega arith) (next_six ∙ h)
        (stands_number s (i * 8 + 1 + 6) 33 p (λ v. done (k v)) (field (bits_of s) (i * 8 + 1 + 6) 33) _ (omega arith) refl (stands_done s (i * 8 + 1 + 6 + 33) _ _ (omega arith)))

    pub fails_six : (get_or s i 0 / 2 % 64 ≡ 63 → ⊥) → Fails (ones 6 (uimsbf 33 p λ v. done (k v))) s (i * 8 + 1)
    fails_six h = fails_one s (i * 8 + 1) 6 _ (λ e. h (sym next_six ∙ e))

    pub lacks_six : length s < i + 5 → Fails (ones 6 (uimsbf 33 p λ v. done (k v))) s (i * 8 + 1)
    lacks_six l = fails_ones s (i * 8 + 1) 6 _ (lacks_number s (i * 8 + 1 + 6) 33 p (λ v. done (k v)) (omega arith))

-- ---- splice_time()
module _ (s : List ℕ) (i : ℕ) where
  pub no_time_lem : length s ≤ i → Fails splice_time s (i * 8)
  unfolding splice_time
  no_time_lem h = lacks_flag s (i * 8) _ _ (omega arith)

  module _ (there : i < length s) (byte : get_or s i 0 < 256) where
    clear : get_or s i 0 < 128 → eqb (field (bits_of s) (i * 8) 1) 1 ≡ false
    clear h = let z : get_or s i 0 / 128 % 2 ≡ 0 = omega arith in ap (λ (x : ℕ). eqb x 1) (first_bit s i there byte ∙ z)

    set : 128 ≤ get_or s i 0 → eqb (field (bits_of s) (i * 8) 1) 1 ≡ true
    set h = let z : get_or s i 0 / 128 % 2 ≡ 1 = omega arith in ap (λ (x : ℕ). eqb x 1) (first_bit s i there byte ∙ z)

    pub unspecified : get_or s i 0 ≡ 0x7f → Stands splice_time s (i * 8) ((i + 1) * 8)
    unfolding splice_time
    unspecified h =
        let z : get_or s i 0 % 128 ≡ 127 = omega arith in
        stands_flag s (i * 8) _ _ false _ (omega arith) (clear (omega arith))
        (stands_ones s (i * 8 + 1) 7 _ _ (omega arith) (last_seven s i there byte ∙ z) (stands_done s (i * 8 + 1 + 7) Unspecified _ (omega arith)))

    reserved_zero : (b : Bool) → ltb (get_or s i 0) 128 ≡ b → (get_or s i 0 ≡ 0x7f → ⊥) → get_or s i 0 < 0xfe → Fails splice_time s (i * 8)
    unfolding splice_time
    reserved_zero true e h l =
        let z : get_or s i 0 < 128 = ltb-true _ _ e in
        fails_flag s (i * 8) _ _ false (clear z) (fails_one s (i * 8 + 1) 7 _ (λ f. h (let u : get_or s i 0 % 128 ≡ 127 = sym (last_seven s i there byte) ∙ f in omega arith)))
    reserved_zero false e h l =
        let z : 128 ≤ get_or s i 0 = ltb-false _ _ e in
        fails_flag s (i * 8) _ _ true (set z) (fails_six s i there byte ticks At (λ f. omega arith))

    pub no_form : (get_or s i 0 ≡ 0x7f → ⊥) → get_or s i 0 < 0xfe → Fails splice_time s (i * 8)
    no_form = reserved_zero (ltb (get_or s i 0) 128) refl

    module _ (on : 0xfe ≤ get_or s i 0) where
      pub no_ticks : length s < i + 5 → Fails splice_time s (i * 8)
      unfolding splice_time
      no_ticks l = fails_flag s (i * 8) _ _ true (set (omega arith)) (lacks_six s i there byte ticks At l)

      pub specified : i + 5 ≤ length s → Stands splice_time s (i * 8) ((i + 5) * 8)
      unfolding splice_time
      specified l = stands_flag s (i * 8) _ _ true _ (omega arith) (set (omega arith)) (stands_six s i there byte ticks At (omega arith) l)
