-- The table of a segmentation descriptor tells its fields: each is found again in a reading, whose flags agree with their parts.
use Prim.Native.Nat.{ℕ, zero, suc, ◌+◌, ◌*◌, ◌%◌, ◌^◌, ◌<◌}
use mathlib.Core.Bool.{Bool, true, false}
use mathlib.Core.Path.{◌≡◌, refl, ap, sym}
use native.Mathlib.Omega.{arith}
use lib.Dec.{eqb}
use borrow.Author.Tests.{eqb-true}
use Rattle.names.specs.Flags.{restrictions_bits, restrictions_of}
use Rattle.names.specs.Segmentation.{writable_segmentation}
use Rattle.names.proofs.Segmentations.{segmentation_laws}
use Rattle.table.specs.Table.{list}
use Rattle.table.proofs.Laws.{Tells}
use Rattle.table.proofs.Telling.{tells_in, tells_number, tells_flag, tells_pick, tells_ones, tells_part, tells_remaining, tells_list}
use Rattle.descriptor.specs.Segmentation.{
  device_of,
  delivery_restrictions,
  component,
  blank_component,
  mode,
  duration,
  written_upid,
  parts,
  front,
  sub_segments,
  back,
  Head,
  head,
  segmentation,
  agrees,
  by_program,
  lasting,
  unrestricted,
  writable_front,
  writable_detail,
}

device_there : (n : ℕ) → n < 2 ^ 2 → restrictions_bits (device_of n) ≡ n
unfolding device_of restrictions_of
device_there zero h = refl
device_there (suc zero) h = refl
device_there (suc (suc zero)) h = refl
device_there (suc (suc (suc zero))) h = refl
device_there (suc (suc (suc (suc n)))) h = absurd (omega arith)

delivery_tells : (b : Bool) (at : ℕ) → Tells (delivery_restrictions b) at (λ a y. (a ≡ at + 5) × (unrestricted y ≡ b))
unfolding delivery_restrictions
delivery_tells true at = tells_ones 5 _ at _ (refl, refl)
delivery_tells false at =
    tells_flag _ _ at _ λ web.
    tells_flag _ _ (at + 1) _ λ blackout.
    tells_flag _ _ (at + 1 + 1) _ λ archive.
    tells_number 2 _ _ (at + 1 + 1 + 1) _ λ device h.
    (((((let z : at + 1 + 1 + 1 + 2 ≡ at + 5 = omega arith in z, refl), refl), refl), refl), device_there device h)

component_tells : (at : ℕ) → at % 8 ≡ 0 → Tells component at (λ a y. (a % 8 ≡ 0) × Unit {0})
unfolding component
component_tells at e =
    tells_number 8 _ _ at _ λ tag h₁.
    tells_ones 7 _ (at + 8) _ (
    tells_number 33 _ _ (at + 8 + 7) _ λ offset h₂.
    (((let z : (at + 8 + 7 + 33) % 8 ≡ 0 = omega arith in z, tt), refl), refl))

mode_tells : (b : Bool) (at : ℕ) → at % 8 ≡ 0 → Tells (mode b) at (λ a y. (a % 8 ≡ 0) × (by_program y.mode ≡ b))
unfolding mode
mode_tells true at e = (e, refl)
mode_tells false at e =
    tells_number 8 _ _ at _ λ n h.
    tells_in (list n blank_component component) _ _ (at + 8) _ _
    (tells_list n blank_component component (λ y. Unit {0}) component_tells (at + 8) (omega arith))
    (λ a ys g. (((g.0, refl), refl), refl))

duration_tells : (b : Bool) (at : ℕ) → at % 8 ≡ 0 → Tells (duration b) at (λ a y. (a % 8 ≡ 0) × (lasting y ≡ b))
unfolding duration
duration_tells true at e = tells_number 40 _ _ at _ λ t h. ((let z : (at + 40) % 8 ≡ 0 = omega arith in z, refl), refl)
duration_tells false at e = (e, refl)

upid_tells : (at : ℕ) → at % 8 ≡ 0 → Tells written_upid at (λ a y. a % 8 ≡ 0)
unfolding written_upid
upid_tells at e =
    tells_number 8 _ _ at _ λ upid_type_number h₁.
    tells_number 8 _ _ (at + 8) _ λ n h₂.
    tells_part n _ _ (at + 8 + 8) _ (omega arith) (((let z : (at + 8 + 8 + n * 8) % 8 ≡ 0 = omega arith in z, refl), refl), refl)

agrees_same : (b : Bool) → agrees b b ≡ true
agrees_same true = refl
agrees_same false = refl

parts_tells : (p l f : Bool) (at : ℕ) → (at + 5) % 8 ≡ 0 → Tells (parts p l f) at (λ a y.
    ((((a % 8 ≡ 0) × (writable_front y.front ≡ true)) × (by_program y.front.segmentation_mode ≡ p)) × (lasting y.front.segmentation_duration ≡ l))
    × (unrestricted y.front.delivery_restrictions ≡ f))
unfolding parts writable_front
parts_tells p l f at e =
    tells_in (delivery_restrictions f) _ _ at _ _ (delivery_tells f at) λ a r g.
    tells_in (mode p) _ _ a _ _ (mode_tells p a (omega arith)) λ b m h.
    tells_in (duration l) _ _ b _ _ (duration_tells l b h.0) λ c d i.
    tells_in written_upid _ _ c _ _ (upid_tells c i.0) λ z u j.
    ((((((((j, rw (g.1, h.1, i.1, agrees_same p, agrees_same l, agrees_same f)), h.1), i.1), g.1), refl), refl), refl), refl)

front_tells : (at : ℕ) → at % 8 ≡ 0 → Tells front at (λ a y. (a % 8 ≡ 0) × (writable_front y.front ≡ true))
unfolding front
front_tells at e =
    tells_flag _ _ at _ λ p.
    tells_flag _ _ (at + 1) _ λ l.
    tells_flag _ _ (at + 1 + 1) _ λ f.
    parts_tells p l f (at + 1 + 1 + 1) (omega arith)

sub_tells : (at : ℕ) → at % 8 ≡ 0 → Tells sub_segments at (λ a y. a % 8 ≡ 0)
unfolding sub_segments
sub_tells at e =
    tells_remaining _ _ at _ λ m.
    tells_pick (eqb m 0) _ _ at _
    (λ z. (e, sym (eqb-true m 0 z)))
    (λ z two. tells_number 8 _ _ at _ λ n h. tells_number 8 _ _ (at + 8) _ λ x i.
    (((let z : (at + 8 + 8) % 8 ≡ 0 = omega arith in z, sym (eqb-true m 2 two)), refl), refl))

back_tells : (at : ℕ) → at % 8 ≡ 0 → Tells back at (λ a y. (a % 8 ≡ 0) × (writable_segmentation y.segmentation_type_id ≡ true))
unfolding back
back_tells at e =
    tells_number 8 _ _ at _ λ type_id h₁.
    tells_number 8 _ _ (at + 8) _ λ number h₂.
    tells_number 8 _ _ (at + 8 + 8) _ λ expected h₃.
    tells_in sub_segments _ _ (at + 8 + 8 + 8) _ _ (sub_tells (at + 8 + 8 + 8) (omega arith)) λ a s g.
    (((((g, segmentation_laws.is_writable type_id), segmentation_laws.there type_id), refl), refl), refl)

head_tells : Tells head 0 (λ a y. a ≡ 40)
unfolding head
head_tells = tells_number 32 _ _ 0 _ λ event h. tells_flag _ _ 32 _ λ cancel. tells_ones 7 _ 33 _ ((refl, refl), refl)

pub segmentation_tells : Tells segmentation 0 (λ a y. (a % 8 ≡ 0) × (writable_detail y.descriptor.descriptor_detail ≡ true))
unfolding segmentation writable_detail
segmentation_tells =
    tells_in head _ _ 0 _ _ head_tells λ a h e.
    tells_pick h.cancel _ _ a _
    (λ on. ((let z : a % 8 ≡ 0 = omega arith in z, refl), heads h true on))
    (λ off.
    tells_in front _ _ a _ _ (front_tells a (omega arith)) λ b f g.
    tells_in back _ _ b _ _ (back_tells b g.0) λ c t i.
    ((((i.0, rw (g.1, i.1)), heads h false off), refl), refl))
  where
    heads : (h : Head) (b : Bool) → h.cancel ≡ b → record { event = h.event; cancel = b } ≡ h
    heads h b e = ap (λ (c : Bool). record { event = h.event; cancel = c }) (sym e)
