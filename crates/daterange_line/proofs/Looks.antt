-- The walk over a whole line is the reading of its list of attributes (`look_is`).
use Prim.Native.Nat.{ℕ, zero, suc, ◌-◌, ◌≤◌, ◌<◌}
use mathlib.Core.Bool.{Bool, true, false, not, ◌&&◌, ◌||◌}
use mathlib.Core.List.{List, [], ◌∷◌}
use mathlib.Core.Path.{◌≡◌, refl, ap, sym, ◌∙◌}
use native.Mathlib.Omega.{arith}
use native.Mathlib.Nat.{min-le_right}
use lib.Dec.{eqb}
use lib.ListN.{length, take, drop, length-take}
use borrow.Author.Tests.{ne_eqb}
use Rattle.table.specs.Bits.{pick}
use Rattle.attribute_list.specs.Grammar.{all, Attribute, tag}
use Rattle.attribute_list.specs.Cutting.{same, attributes_from, attributes_of}
use Rattle.daterange_line.specs.Reading.{fitting, repeats, any, is_id, is_date, is_signal, view_of, fault, fine, judge, view_at}
use Rattle.daterange_line.specs.Private.{nothing, turn_of, ended, walk_by, walk, found_in, look_by, look_of}
use Rattle.daterange_line.specs.declared.looking.Found.{Found}
use Rattle.attribute_list.proofs.Runs.{same_length}
use Rattle.daterange_line.proofs.Names.{followed, repeats_after_lem}
use Rattle.daterange_line.proofs.Walks.{next, gathered_all, outcome, walk_is}
use Rattle.std.specs.Prelude.{Option, Some, None, Result, Ok, Err}
use Rattle.daterange_line.specs.declared.LineRefusal.{LineRefusal}
use Rattle.daterange_line.specs.declared.LineRefusal.TheVariants.{MalformedLine, AttributeMissing}
use Rattle.daterange_line.specs.declared.looking.Turn.{Turn}

-- a view is the blank exactly where no attribute passes
pub view_blank : (p : Attribute → Bool) (l : List Attribute) (at : ℕ) → 0 < at → eqb (view_of p at l).at 0 ≡ not (any p l)
unfolding view_of any
view_blank p [] at h = refl
view_blank p (a ∷ l) at h = go (p a) (view_blank p l (next at a) (omega arith))
  where
    go : (t : Bool) → eqb (view_of p (next at a) l).at 0 ≡ not (any p l) → eqb (pick t (view_at at a) (view_of p (next at a) l)).at 0 ≡ not (t || any p l)
    go true e = ne_eqb (view_at at a).at 0 (λ z. omega arith)
    go false e = e

ended_is : (l : List Attribute) → ended (found_in l) ≡ look_by (pick (not (any is_id l && (any is_date l && any is_signal l))) (fault AttributeMissing) (fine l))
unfolding ended look_by
ended_is l = rw (view_blank is_id l 17 (omega arith), view_blank is_date l 17 (omega arith), view_blank is_signal l 17 (omega arith)) (go (any is_id l) (any is_date l) (any is_signal l))
  where
    go : (i d s : Bool) → pick (not i || (not d || not s)) (Err AttributeMissing) (Ok (found_in l)) ≡ look_by (pick (not (i && (d && s))) (fault AttributeMissing) (fine l))
    go false d s = refl
    go true false s = refl
    go true true false = refl
    go true true true = refl

outcome_is : (o : Option (List Attribute)) → outcome [] nothing 17 o ≡ look_by (judge o)
unfolding judge look_by
outcome_is None = refl
outcome_is (Some l) = rw (repeats_after_lem l, gathered_all l, ended_is l) (go (repeats l || not (all fitting l)))
  where
    go : (t : Bool) → pick t (Err MalformedLine) (look_by (pick (not (any is_id l && (any is_date l && any is_signal l))) (fault AttributeMissing) (fine l)))
        ≡ look_by (pick t (fault MalformedLine) (pick (not (any is_id l && (any is_date l && any is_signal l))) (fault AttributeMissing) (fine l)))
    go true = refl
    go false = refl

module _ (line : List ℕ) where
  pub look_is : same (take 17 line) tag ≡ true → walk (length line) line 17 nothing ≡ look_of line
  unfolding attributes_of followed
  look_is t = walk_is line (length line) 17 [] nothing (record { each = refl; text = refl; place = refl }) ∙ rw t (outcome_is (attributes_from (length line) (drop 17 line)))

  pub look_other : same (take 17 line) tag ≡ false → Err MalformedLine ≡ look_of line
  unfolding attributes_of judge look_by
  look_other t = rw t

  pub look_short : length line < 17 → Err MalformedLine ≡ look_of line
  look_short h = look_other (same_length (take 17 line) tag (λ e. omega (arith, e, length-take 17 line, min-le_right 17 (length line))))

-- ---- the walk, turn by turn

module _ (line : List ℕ) (at : ℕ) (f : Found) where
  pub walk_none : (left : ℕ) → left ≤ 0 → walk left line at f ≡ Err MalformedLine
  unfolding walk
  walk_none zero h = refl
  walk_none (suc m) h = absurd (omega arith)

  walk_by_lem : (m : ℕ) → walk (suc m) line at f ≡ walk_by (walk m line) (turn_of line at f)
  unfolding walk
  walk_by_lem m = refl

  pub walk_turn : (left : ℕ) (t u : Result Turn LineRefusal) → 0 < left → t ≡ turn_of line at f → t ≡ u → walk left line at f ≡ walk_by (walk (left - 1) line) u
  walk_turn left t u h e g =
      let d : left ≡ suc (left - 1) = omega arith in
      ap (λ (m : ℕ). walk m line at f) d ∙ walk_by_lem (left - 1) ∙ ap (walk_by (walk (left - 1) line)) (sym e ∙ g)
