-- The search for a name among the attributes before a place, turn by turn.
use Prim.Native.Nat.{ℕ, zero, suc, ◌+◌, ◌-◌, ◌≤◌, ◌<◌}
use mathlib.Core.Bool.{true, false}
use mathlib.Core.List.{List}
use mathlib.Core.Path.{◌≡◌, refl, ap, sym, ◌∙◌}
use native.Mathlib.Omega.{arith}
use native.Mathlib.Nat.{add-sub_cancel_left}
use lib.ListN.{take, drop}
use borrow.Author.Tests.{lt-ltb, le-ltb}
use Rattle.attribute_list.specs.Cutting.{same, cut_of, end_of}
use Rattle.daterange_line.specs.Private.{earlier, earlier_by}
use Rattle.attribute_list.specs.declared.cutting.Cut.{Cut}
use Rattle.std.specs.Prelude.{Option, Some, None}

module _ (line : List ℕ) (end : ℕ) (name : List ℕ) (at : ℕ) where
  pub earlier_end : (left : ℕ) → end ≤ at → earlier left line end name at ≡ false
  unfolding earlier
  earlier_end zero h = refl
  earlier_end (suc m) h = rw (le-ltb at end h)

  pub earlier_none : (left : ℕ) → left ≤ 0 → earlier left line end name at ≡ false
  unfolding earlier
  earlier_none zero h = refl
  earlier_none (suc m) h = absurd (omega arith)

  earlier_by_lem : (m : ℕ) → at < end → earlier (suc m) line end name at ≡ earlier_by (earlier m line end name) line at name (cut_of (drop at line))
  unfolding earlier
  earlier_by_lem m h = rw (lt-ltb at end h)

  pub earlier_turn : (left : ℕ) (c : Option Cut) → 0 < left → at < end → c ≡ cut_of (drop at line) → earlier left line end name at ≡ earlier_by (earlier (left - 1) line end name) line at name c
  earlier_turn left c h g e =
      let d : left ≡ suc (left - 1) = omega arith in
      ap (λ (m : ℕ). earlier m line end name at) d ∙ earlier_by_lem (left - 1) g ∙ ap (earlier_by (earlier (left - 1) line end name) line at name) (sym e)

  pub earlier_fault : (left : ℕ) (c : Option Cut) → 0 < left → at < end → c ≡ cut_of (drop at line) → c ≡ None → earlier left line end name at ≡ false
  earlier_fault left c h g e f = earlier_turn left c h g e ∙ rw f

  module _ (left : ℕ) (o : Option Cut) (c : Cut) (h : 0 < left) (g : at < end) (e : o ≡ cut_of (drop at line)) (f : o ≡ Some c) where
    part : take (at + c.name - at) (drop at line) ≡ take c.name (drop at line)
    part = ap (λ (i : ℕ). take i (drop at line)) (add-sub_cancel_left at c.name)

    pub earlier_found : same (take (at + c.name - at) (drop at line)) name ≡ true → earlier left line end name at ≡ true
    earlier_found s = earlier_turn left o h g e ∙ rw (f, ← part, s)

    pub earlier_next : (z : ℕ) → same (take (at + c.name - at) (drop at line)) name ≡ false → z ≡ end_of c.name c.quoted c.value
        → earlier left line end name at ≡ earlier (left - 1) line end name (at + (z + 1))
    earlier_next z s w = earlier_turn left o h g e ∙ rw (f, ← part, s, w)
