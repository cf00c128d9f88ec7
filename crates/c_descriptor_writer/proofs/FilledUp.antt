-- Words that are filled up with 0 say what they said before.
use Prim.Native.Nat.{ℕ, ◌+◌, ◌*◌, ◌^◌, ◌<◌}
use mathlib.Core.Bool.{Bool, true, false, ◌&&◌}
use mathlib.Core.List.{List, [], ◌∷◌}
use mathlib.Core.Path.{◌≡◌, refl, ap, ap₂, sym, ◌∙◌}
use native.Mathlib.Nat.{mul-one}
use native.Mathlib.Omega.{arith}
use lib.Dec.{eqb, ltb}
use lib.ListN.{length, get_or, drop, get_or-eq_default}
use lib.Seq.{get_or-drop}
use borrow.Author.Tests.{ltb-true, ltb-false}
use Rattle.c_items.specs.FlatItem.{flat_descriptor}
use Rattle.c_command_writer.specs.Words.{within, same, places_of}
use Rattle.c_descriptor_writer.specs.ItemGiven.{first_word, padded_words, identifier_from, descriptor_given, own_item, words_refusal, descriptor_refusal, descriptor_words_made}
use Rattle.c_descriptor_writer.specs.ItemWords.{item_words, item_widths, item_seen, beside_there}
use Rattle.c_command_writer.proofs.Words.{word_drop, places_length, places_at}
use Rattle.c_descriptor_writer.proofs.Back.{item_agree}

-- ---- two lists that have the same words, past their ends too
abbrev pub Agree : List ℕ → List ℕ → Type 0
Agree u v = (i : ℕ) → get_or u i 0 ≡ get_or v i 0

drop_agree : (k : ℕ) (u v : List ℕ) → Agree u v → Agree (drop k u) (drop k v)
drop_agree k u v h i = get_or-drop k u i 0 ∙ h (k + i) ∙ sym (get_or-drop k v i 0)

within_agree : (widths u v : List ℕ) → Agree u v → within widths u ≡ within widths v
unfolding within
within_agree [] u v h = refl
within_agree (w ∷ widths) u v h = ap₂ ◌&&◌ (ap (λ (x : ℕ). ltb x (2 ^ w)) (h 0)) (within_agree widths (drop 1 u) (drop 1 v) (drop_agree 1 u v h))

same_agree : (own u v : List ℕ) → Agree u v → same own u ≡ same own v
unfolding same
same_agree [] u v h = refl
same_agree (x ∷ own) u v h = ap₂ ◌&&◌ (ap (λ (y : ℕ). eqb y x) (h 0)) (same_agree own (drop 1 u) (drop 1 v) (drop_agree 1 u v h))

made_agree : (u v beside lent : List ℕ) → Agree u v → descriptor_words_made u beside lent ≡ descriptor_words_made v beside lent
unfolding descriptor_words_made descriptor_refusal words_refusal own_item identifier_from item_seen beside_there
made_agree u v beside lent h = rw (item_agree u v (λ i l. h (6 + i)), h 5, within_agree item_widths (drop 5 u) (drop 5 v) (drop_agree 5 u v h), same_agree (item_words (flat_descriptor (descriptor_given v))) (drop 6 u) (drop 6 v) (drop_agree 6 u v h), h 31, h 32, h 6, h 20)

-- ---- the words of a step
pub word_at_place : (words : List ℕ) (i : ℕ) → get_or words i 0 ≡ first_word (drop (i * 1) words)
word_at_place words i = sym (word_drop words (i * 1) ∙ ap (λ (k : ℕ). get_or words k 0) (mul-one i))

step_agrees : (words : List ℕ) → length words < 33 → Agree (padded_words words) words
unfolding padded_words
step_agrees words l i = go (ltb i 33) refl
  where
    go : (t : Bool) → ltb i 33 ≡ t → get_or (places_of first_word 1 33 words) i 0 ≡ get_or words i 0
    go true e = sym (word_at_place words i ∙ places_at first_word 1 33 words i 0 (ltb-true i 33 e))
    go false e = get_or-eq_default (places_of first_word 1 33 words) 0 (omega (arith, places_length first_word 1 33 words, ltb-false i 33 e)) ∙ sym (get_or-eq_default words 0 (omega (arith, l, ltb-false i 33 e)))

pub padded_made : (words beside lent : List ℕ) → length words < 33 → descriptor_words_made (padded_words words) beside lent ≡ descriptor_words_made words beside lent
padded_made words beside lent l = made_agree (padded_words words) words beside lent (step_agrees words l)
