-- `c_descriptor_writer::write_from_words`: where the words are refused, the value is tried on no byte.
use Prim.Native.Nat.{ℕ, ◌≤◌}
use mathlib.Core.Bool.{◌&&◌}
use mathlib.Core.List.{List, ◌++◌}
use mathlib.Core.Path.{◌≡◌, ap, ◌∙◌}
use native.Mathlib.Omega.{arith}
use lib.ListN.{drop}
use Rattle.descriptor.specs.declared.Descriptor.{Descriptor}
use Rattle.descriptor_measure.specs.Writing.{descriptor_made, count_beside}
use Rattle.c_command_writer.specs.Words.{within, no_less}
use Rattle.c_descriptor_writer.specs.ItemGiven.{descriptor_given, identifier_from, beside_from, own_item, words_refusal, descriptor_refusal, descriptor_words_made}
use Rattle.c_descriptor_writer.specs.ItemWords.{item_widths, beside_within, item_seen, beside_there}
use Rattle.c_command_writer.proofs.Refusals.{seen_small}
use Rattle.c_command_writer.proofs.Words.{refusal_small, words_refused, words_taken, later_nil}
use Rattle.c_descriptor_writer.proofs.write_from_words.Goals as goal

parts : (words beside lent : List ℕ) (g : Descriptor) (identifier : List ℕ) (n : ℕ) (r : ℕ)
    → g ≡ descriptor_given words → identifier ≡ identifier_from words → n ≡ count_beside g → r ≡ descriptor_refusal g words beside lent
    → no_less r (descriptor_made g identifier (beside_from n beside) lent) ≡ descriptor_words_made words beside lent
unfolding descriptor_words_made
parts words beside lent g identifier n r e f h j = rw (j, h, f, e)

pub returns-then-refusal-gt0 : goal.returns-then-refusal-gt0
unfolding descriptor_refusal words_refusal
returns-then-refusal-gt0 c =
    let made : let a = c.args in no_less c.descriptor_refusal-refusal.result (descriptor_made c.descriptor_given-d.result c.identifier_from-identifier.result (beside_from c.count_in_descriptor-count.result a.beside.now) a.lent.now) ≡ descriptor_words_made a.words.now a.beside.now a.lent.now = let a = c.args in parts a.words.now a.beside.now a.lent.now _ _ _ _ c.descriptor_given-d.ensures c.identifier_from-identifier.ensures c.count_in_descriptor-count.ensures c.descriptor_refusal-refusal.ensures in
    let small : c.descriptor_refusal-refusal.result ≤ 36 = let a = c.args in let g = c.descriptor_given-d.result in omega (arith, c.descriptor_refusal-refusal.ensures, seen_small (item_seen a.words.now a.lent.now) _ (refusal_small (within item_widths (drop 5 a.words.now) && beside_within (count_beside g) a.beside.now) (own_item g a.words.now && beside_there (count_beside g) a.words.now a.beside.now))) in
    let a = c.args in
    let w = words_refused _ _ c.descriptor_refusal-refusal.result a.target.now c.write_given.result made c.if-refusal-gt0.true small c.write_given.ensures.answer in record { answer = c.lower_refusal.ensures ∙ w.0; bytes = ap (λ (l : List ℕ). l ++ a.target.now) (c.write_given.ensures.target_later ∙ later_nil (descriptor_made c.descriptor_given-d.result c.identifier_from-identifier.result (beside_from c.count_in_descriptor-count.result a.beside.now) a.lent.now)) ∙ w.1 }

pub returns : goal.returns
returns c =
    let made : let a = c.args in no_less c.descriptor_refusal-refusal.result (descriptor_made c.descriptor_given-d.result c.identifier_from-identifier.result (beside_from c.count_in_descriptor-count.result a.beside.now) a.lent.now) ≡ descriptor_words_made a.words.now a.beside.now a.lent.now = let a = c.args in parts a.words.now a.beside.now a.lent.now _ _ _ _ c.descriptor_given-d.ensures c.identifier_from-identifier.ensures c.count_in_descriptor-count.ensures c.descriptor_refusal-refusal.ensures in
    let a = c.args in
    let w = words_taken _ _ c.descriptor_refusal-refusal.result a.target.now c.write_given-2.result made _ c.if-refusal-gt0.false c.write_given-2.ensures.answer c.write_given-2.ensures.target_later in record { answer = c.flat_written.ensures ∙ w.0; bytes = w.1 }
