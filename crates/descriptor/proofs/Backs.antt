-- A segmentation descriptor's fields after its UPID: what is read of them from byte i on.
use Prim.Native.Nat.{ℕ, zero, suc, ◌+◌, ◌*◌, ◌-◌, ◌/◌, ◌<◌, ◌≤◌}
use mathlib.Core.List.{List}
use mathlib.Core.Path.{◌≡◌, refl, ap, sym, ◌∙◌}
use native.Mathlib.Omega.{arith}
use lib.ListN.{length, get_or}
use borrow.Author.Tests.{eq-eqb, ne_eqb}
use Rattle.names.specs.Segmentation.{segmentation_type_of}
use Rattle.names.specs.declared.segmentation.SegmentationTypeId.{SegmentationTypeId}
use Rattle.table.specs.Bits.{bits_of, field}
use Rattle.table.specs.Table.{Table, done, uimsbf, got, short, parse}
use Rattle.table.proofs.Fields.{byte_field}
use Rattle.table.proofs.Steps.{takes_in, lacks_in, takes_number, lacks_number, takes_remaining}
use Rattle.descriptor.specs.Segmentation.{sub_segment, sub_segments, back}
use Rattle.std.proofs.Common.{Some, None, Option}
use Rattle.descriptor.specs.declared.segmentation.SubSegment.{SubSegment}

-- the byte whose bits start at p
byte_at : (s : List ℕ) (bytes : (j : ℕ) → get_or s j 0 < 256) (j p : ℕ) → j < length s → j * 8 ≡ p → get_or s j 0 ≡ field (bits_of s) p 8
byte_at s bytes j p h e = sym (byte_field s j h (bytes j)) ∙ ap (λ (x : ℕ). field (bits_of s) x 8) e

-- ---- sub-segments
abbrev two : Table (Option SubSegment)
two =
    uimsbf 8 (λ x. (sub_segment x).sub_segment_num) λ number.
    uimsbf 8 (λ x. (sub_segment x).sub_segments_expected) λ expected.
    done (Some (record { sub_segment_num = number; sub_segments_expected = expected }))

module _ (s : List ℕ) (i n : ℕ) (en : n ≡ length s - i) where
  left : (length s * 8 - i * 8) / 8 ≡ n
  left = omega arith

  pub no_sub_segments : n ≡ 0 → parse sub_segments (bits_of s) (i * 8) ≡ got None (i * 8)
  unfolding sub_segments
  no_sub_segments h = takes_remaining s (i * 8) _ _ ∙ rw (left, eq-eqb n 0 h)

  module _ (some : n ≡ 0 → ⊥) where
    left_over : parse sub_segments (bits_of s) (i * 8) ≡ parse two (bits_of s) (i * 8)
    unfolding sub_segments
    left_over = takes_remaining s (i * 8) _ _ ∙ rw (left, ne_eqb n 0 some)

    pub one_left : n ≡ 1 → parse sub_segments (bits_of s) (i * 8) ≡ short 1 0
    one_left h =
        let z : (length s * 8 - (i * 8 + 8)) / 8 ≡ 0 = omega arith in
        left_over ∙ takes_number s (i * 8) 8 _ _ _ (omega arith) refl ∙ lacks_number s (i * 8 + 8) 8 _ _ (omega arith) ∙ ap (short 1) z

    pub sub_segments_are : (n ≡ 1 → ⊥) → ((j : ℕ) → get_or s j 0 < 256)
        → parse sub_segments (bits_of s) (i * 8) ≡ got (Some (record { sub_segment_num = get_or s i 0; sub_segments_expected = get_or s (i + 1) 0 })) (i * 8 + 8 + 8)
    sub_segments_are h bytes =
        left_over ∙ takes_number s (i * 8) 8 (get_or s i 0) _ _ (omega arith) (byte_at s bytes i (i * 8) (omega arith) refl)
        ∙ takes_number s (i * 8 + 8) 8 (get_or s (i + 1) 0) _ _ (omega arith) (byte_at s bytes (i + 1) (i * 8 + 8) (omega arith) (omega arith))

-- ---- type id to sub-segments
module _ (s : List ℕ) (i : ℕ) where
  pub no_counts : (n : ℕ) → n ≡ length s - i → n < 3 → i ≤ length s → parse back (bits_of s) (i * 8) ≡ short 1 0
  unfolding back
  no_counts zero e h k =
      let z : (length s * 8 - i * 8) / 8 ≡ 0 = omega arith in
      lacks_number s (i * 8) 8 _ _ (omega arith) ∙ ap (short 1) z
  no_counts (suc zero) e h k =
      let z : (length s * 8 - (i * 8 + 8)) / 8 ≡ 0 = omega arith in
      takes_number s (i * 8) 8 _ _ _ (omega arith) refl ∙ lacks_number s (i * 8 + 8) 8 _ _ (omega arith) ∙ ap (short 1) z
  no_counts (suc (suc zero)) e h k =
      let z : (length s * 8 - (i * 8 + 8 + 8)) / 8 ≡ 0 = omega arith in
      takes_number s (i * 8) 8 _ _ _ (omega arith) refl ∙ takes_number s (i * 8 + 8) 8 _ _ _ (omega arith) refl
      ∙ lacks_number s (i * 8 + 8 + 8) 8 _ _ (omega arith) ∙ ap (short 1) z
  no_counts (suc (suc (suc n))) e h k = absurd (omega arith)

  module _ (there : i + 3 ≤ length s) where
    next : i * 8 + 8 + 8 + 8 ≡ (i + 3) * 8
    next = omega arith

    pub back_short : (x a : ℕ) → parse sub_segments (bits_of s) ((i + 3) * 8) ≡ short x a → parse back (bits_of s) (i * 8) ≡ short x a
    unfolding back
    back_short x a e =
        takes_number s (i * 8) 8 _ _ _ (omega arith) refl ∙ takes_number s (i * 8 + 8) 8 _ _ _ (omega arith) refl ∙ takes_number s (i * 8 + 8 + 8) 8 _ _ _ (omega arith) refl
        ∙ lacks_in sub_segments _ _ (bits_of s) (i * 8 + 8 + 8 + 8) x a (ap (parse sub_segments (bits_of s)) next ∙ e)

    pub back_is : ((j : ℕ) → get_or s j 0 < 256) → (t : SegmentationTypeId) (z : Option SubSegment) (m : ℕ) → t ≡ segmentation_type_of (get_or s i 0)
        → parse sub_segments (bits_of s) ((i + 3) * 8) ≡ got z m
        → parse back (bits_of s) (i * 8) ≡ got (record { segmentation_type_id = t; segment_num = get_or s (i + 1) 0; segments_expected = get_or s (i + 2) 0; sub_segments = z }) m
    unfolding back
    back_is bytes t z m et e =
        rw et
        (takes_number s (i * 8) 8 (get_or s i 0) _ _ (omega arith) (byte_at s bytes i (i * 8) (omega arith) refl)
        ∙ takes_number s (i * 8 + 8) 8 (get_or s (i + 1) 0) _ _ (omega arith) (byte_at s bytes (i + 1) (i * 8 + 8) (omega arith) (omega arith))
        ∙ takes_number s (i * 8 + 8 + 8) 8 (get_or s (i + 2) 0) _ _ (omega arith) (byte_at s bytes (i + 2) (i * 8 + 8 + 8) (omega arith) (omega arith))
        ∙ takes_in sub_segments _ _ (bits_of s) (i * 8 + 8 + 8 + 8) z m (ap (parse sub_segments (bits_of s)) next ∙ e))
