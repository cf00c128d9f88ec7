-- The components of an insert, from their words.
use Prim.Native.Nat.{ℕ, ◌%◌, ◌<◌, ◌≤◌}
use mathlib.Core.Bool.{Bool, true, false}
use mathlib.Core.List.{List, []}
use mathlib.Core.Path.{◌≡◌, refl, sym}
use native.Mathlib.Nat.{mod-eq_of_lt, mod-lt}
use native.Mathlib.Omega.{arith}
use lib.Dec.{eqb, ltb, lit<}
use lib.ListN.{length}
use lib.Seq.{paste}
use borrow.Author.Tests.{ltb-true, ltb-false, eq-eqb, ne_eqb}
use Rattle.command.specs.Command.{array}
use Rattle.command.specs.Insert.{blank}
use Rattle.command.specs.declared.components.InsertComponent.{InsertComponent}
use Rattle.c_section.specs.FlatCommand.{flat_component}
use Rattle.c_command_writer.specs.CommandGiven.{component_from, components_from, own_component}
use Rattle.c_command_writer.specs.CommandWords.{component_words}
use Rattle.c_command_writer.specs.Words.{word, same, places_of}
use Rattle.c_command_writer.proofs.Words.{and_unit, word_drop, word_drop_two, filled_front}

-- ---- one component
module _ (words : List ℕ) where
  pub own_wide : 255 < word words 0 → false ≡ own_component words
  unfolding same component_words flat_component component_from
  own_wide h = rw (ne_eqb (word words 0) (word words 0 % 256) (λ e. omega (arith, mod-lt (word words 0) {m = 256} (lit< tt))))

  narrow : word words 0 ≤ 255 → eqb (word words 0) (word words 0 % 256) ≡ true
  narrow h = eq-eqb (word words 0) (word words 0 % 256) (sym (mod-eq_of_lt (omega arith)))

  pub own_timed : word words 0 ≤ 255 → word words 1 ≡ 3 → true ≡ own_component words
  unfolding same component_words flat_component component_from
  own_timed h e = rw (narrow h, word_drop words 1, word_drop_two words, e, eq-eqb (word words 2) (word words 2) refl)

  own_immediate : word words 0 ≤ 255 → word words 1 ≡ 1 → eqb (word words 2) 0 ≡ own_component words
  unfolding same component_words flat_component component_from
  own_immediate h e = rw (narrow h, word_drop words 1, word_drop_two words, e) (and_unit (eqb (word words 2) 0))

  own_unspecified : word words 0 ≤ 255 → word words 1 ≡ 2 → eqb (word words 2) 0 ≡ own_component words
  unfolding same component_words flat_component component_from
  own_unspecified h e = rw (narrow h, word_drop words 1, word_drop_two words, e) (and_unit (eqb (word words 2) 0))

  pub own_blank : word words 0 ≤ 255 → 1 ≤ word words 1 → word words 1 < 3 → eqb (word words 2) 0 ≡ own_component words
  own_blank h a b = go (ltb (word words 1) 2) refl
    where
      go : (t : Bool) → ltb (word words 1) 2 ≡ t → eqb (word words 2) 0 ≡ own_component words
      go true e = own_immediate h (omega (arith, ltb-true (word words 1) 2 e))
      go false e = own_unspecified h (omega (arith, ltb-false (word words 1) 2 e))

  pub own_none : word words 0 ≤ 255 → (word words 1 ≡ 1 → ⊥) → (word words 1 ≡ 2 → ⊥) → (word words 1 ≡ 3 → ⊥) → false ≡ own_component words
  unfolding same component_words flat_component component_from
  own_none h a b c = rw (narrow h, word_drop words 1, ne_eqb (word words 1) 1 a, ne_eqb (word words 1) 3 c, ne_eqb (word words 1) 2 b)

-- ---- their array
pub filled_array : (out s : List InsertComponent) (i n : ℕ) → length s ≡ n → n ≡ i → out ≡ paste (array []) 0 s i → out ≡ array s
unfolding array
filled_array out s i n l e p = filled_front 255 blank out s i n l e p

-- no place, no component
pub no_places : (n : ℕ) (words : List ℕ) → n ≡ 0 → array [] ≡ components_from n words
unfolding components_from places_of
no_places n words e = rw e
