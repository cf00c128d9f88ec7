-- A descriptor by identifier and tag.
use Prim.Native.Nat.{ℕ}
use mathlib.Core.Bool.{true, false}
use mathlib.Core.List.{List}
use mathlib.Core.Path.{◌≡◌}
use borrow.Author.Tests.{ne_eqb}
use Rattle.descriptor.specs.Descriptor.{avail_of, dtmf_of, segmentation_of, time_of, reserved_of, is_cuei, descriptor_of}

module _ (tag : ℕ) (id s : List ℕ) where
  pub is_foreign : is_cuei id ≡ false → reserved_of tag s ≡ descriptor_of tag id s
  unfolding descriptor_of
  is_foreign e = rw e

  module _ (e : is_cuei id ≡ true) where
    pub is_avail : tag ≡ 0 → avail_of s ≡ descriptor_of tag id s
    unfolding descriptor_of
    is_avail h = rw (e, h)

    pub is_dtmf : tag ≡ 1 → dtmf_of s ≡ descriptor_of tag id s
    unfolding descriptor_of
    is_dtmf h = rw (e, h)

    pub is_segmentation : tag ≡ 2 → segmentation_of s ≡ descriptor_of tag id s
    unfolding descriptor_of
    is_segmentation h = rw (e, h)

    pub is_time : tag ≡ 3 → time_of s ≡ descriptor_of tag id s
    unfolding descriptor_of
    is_time h = rw (e, h)

    pub is_other : (tag ≡ 0 → ⊥) → (tag ≡ 1 → ⊥) → (tag ≡ 2 → ⊥) → (tag ≡ 3 → ⊥) → reserved_of tag s ≡ descriptor_of tag id s
    unfolding descriptor_of
    is_other a b c d = rw (e, ne_eqb tag 0 a, ne_eqb tag 1 b, ne_eqb tag 2 c, ne_eqb tag 3 d)
