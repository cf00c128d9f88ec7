-- Fields side by side as one number, by `print_beside` of crate pen.
use Prim.Native.Nat.{ℕ, ◌+◌, ◌*◌, ◌%◌, ◌^◌, ◌<◌, ◌≤◌}
use mathlib.Core.Bool.{Bool}
use mathlib.Core.List.{List, [], ◌∷◌, ◌++◌}
use mathlib.Core.Path.{◌≡◌, ap, ◌∙◌}
use native.Mathlib.Omega.{arith}
use Rattle.table.specs.Table.{flag_number}
use Rattle.table.specs.Bits.{bits_of_num}
use Rattle.table.specs.Writing.{number, contents, print}
use Rattle.names.specs.Flags.{restrictions_bits}
use Rattle.names.specs.declared.flags.DeviceRestrictions.{DeviceRestrictions}
use Rattle.descriptor.specs.declared.segmentation.DeliveryRestrictions.{DeliveryRestrictions}
use Rattle.descriptor.specs.declared.segmentation.SegmentationComponent.{SegmentationComponent}
use Rattle.descriptor_measure.specs.Private.{head_fields, flag_fields, delivery_fields, components_fields}
use Rattle.bit_stores.proofs.Tables.{print_beside}
use Rattle.std.proofs.Common.{Some, None, Option}

-- ---- the head
pub head_bits : (from : List ℕ) (event : ℕ) (cancel : Bool) (f y : ℕ) → (f ≡ flag_number cancel) × (f ≤ 1) → y ≡ event * 256 + f * 128 + 127
    → print (contents from (head_fields event cancel)) ≡ print (number 40 y ∷ [])
head_bits from event cancel f y h e =
    let x = flag_number cancel in
    let z : (event * 2 + x % 2) * 128 + 127 ≡ y = omega (arith, h.0, h.1, e) in
    print_beside 32 1 event x (number 7 127 ∷ []) ∙ print_beside 33 7 (event * 2 + x % 2) 127 [] ∙ ap (λ (n : ℕ). print (number 40 n ∷ [])) z

-- ---- the byte of the flags
-- three bits and a number behind them
three_bits : (k x₁ x₂ x₃ r : ℕ) → print (number 1 x₁ ∷ (number 1 x₂ ∷ (number 1 x₃ ∷ (number k r ∷ [])))) ≡ print (number (3 + k) (((x₁ * 2 + x₂ % 2) * 2 + x₃ % 2) * 2 ^ k + r % 2 ^ k) ∷ [])
three_bits k x₁ x₂ x₃ r =
    let s = x₁ * 2 + x₂ % 2 in
    print_beside 1 1 x₁ x₂ (number 1 x₃ ∷ (number k r ∷ [])) ∙ print_beside 2 1 s x₃ (number k r ∷ []) ∙ print_beside 3 k (s * 2 + x₃ % 2) r []

pub device_small : (d : DeviceRestrictions) → restrictions_bits d < 4
device_small DeviceRestrictions.RestrictGroup0 = omega arith
device_small DeviceRestrictions.RestrictGroup1 = omega arith
device_small DeviceRestrictions.RestrictGroup2 = omega arith
device_small DeviceRestrictions.None = omega arith

pub delivery_none : (from : List ℕ) (d : Option DeliveryRestrictions) → d ≡ None → print (contents from (delivery_fields d)) ≡ print (number 5 31 ∷ [])
delivery_none from d e = rw e

pub delivery_bits : (from : List ℕ) (d : Option DeliveryRestrictions) (r : DeliveryRestrictions) (w b a v y : ℕ) → d ≡ Some r
    → (w ≡ flag_number r.web_delivery_allowed_flag) × (w ≤ 1) → (b ≡ flag_number r.no_regional_blackout_flag) × (b ≤ 1)
    → (a ≡ flag_number r.archive_allowed_flag) × (a ≤ 1) → v ≡ restrictions_bits r.device_restrictions → y ≡ w * 16 + b * 8 + a * 4 + v
    → print (contents from (delivery_fields d)) ≡ print (number 5 y ∷ [])
delivery_bits from d r w b a v y is hw hb ha hv e =
    let x₁ = flag_number r.web_delivery_allowed_flag in
    let x₂ = flag_number r.no_regional_blackout_flag in
    let x₃ = flag_number r.archive_allowed_flag in
    let x₄ = restrictions_bits r.device_restrictions in
    let z : ((x₁ * 2 + x₂ % 2) * 2 + x₃ % 2) * 4 + x₄ % 4 ≡ y = omega (arith, hw.0, hb.0, hb.1, ha.0, ha.1, hv, device_small r.device_restrictions, e) in
    rw is (three_bits 2 x₁ x₂ x₃ x₄ ∙ ap (λ (n : ℕ). print (number 5 n ∷ [])) z)

pub flags_bits : (from : List ℕ) (program lasts free : Bool) (d : Option DeliveryRestrictions) (p l f r y : ℕ) → (p ≡ flag_number program) × (p ≤ 1) → (l ≡ flag_number lasts) × (l ≤ 1)
    → (f ≡ flag_number free) × (f ≤ 1) → r < 32 → print (contents from (delivery_fields d)) ≡ print (number 5 r ∷ []) → y ≡ p * 128 + l * 64 + f * 32 + r
    → print (contents from (flag_fields program lasts free ++ delivery_fields d)) ≡ print (number 8 y ∷ [])
flags_bits from program lasts free d p l f r y hp hl hf hr rest e =
    let x₁ = flag_number program in
    let x₂ = flag_number lasts in
    let x₃ = flag_number free in
    let z : ((x₁ * 2 + x₂ % 2) * 2 + x₃ % 2) * 32 + r % 32 ≡ y = omega (arith, hp.0, hl.0, hl.1, hf.0, hf.1, hr, e) in
    ap (λ (b : List ℕ). bits_of_num 1 x₁ ++ (bits_of_num 1 x₂ ++ (bits_of_num 1 x₃ ++ b))) rest
    ∙ three_bits 5 x₁ x₂ x₃ r
    ∙ ap (λ (n : ℕ). print (number 8 n ∷ [])) z

-- ---- a component
pub component_bits : (from : List ℕ) (x : SegmentationComponent) (t y : ℕ) → t ≡ x.component_tag → y ≡ t * 0x10000000000 + 0xFE00000000 + x.pts_offset % 0x200000000
    → print (contents from (components_fields (x ∷ []))) ≡ print (number 48 y ∷ [])
component_bits from x t y h e =
    let tag = x.component_tag in
    let z : (tag * 128 + 127) * 0x200000000 + x.pts_offset % 0x200000000 ≡ y = omega (arith, h, e) in
    print_beside 8 7 tag 127 (number 33 x.pts_offset ∷ [])
    ∙ print_beside 15 33 (tag * 128 + 127) x.pts_offset []
    ∙ ap (λ (n : ℕ). print (number 48 n ∷ [])) z
