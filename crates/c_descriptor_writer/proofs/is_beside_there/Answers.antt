-- `c_descriptor_writer::is_beside_there`: of an EIDR all words, of components their places.
use Prim.Native.Nat.{ℕ, ◌+◌, ◌*◌}
use mathlib.Core.Bool.{true, false}
use mathlib.Core.List.{List}
use mathlib.Core.Path.{◌≡◌, sym, ◌∙◌}
use native.Mathlib.Omega.{arith}
use lib.Dec.{leb}
use lib.ListN.{length}
use borrow.Author.Tests.{ne_eqb, le-leb}
use Rattle.c_descriptor_writer.specs.ItemWords.{has_eidr, beside_there}
use Rattle.c_descriptor_writer.proofs.is_beside_there.Goals as goal

module _ (n : ℕ) (words beside : List ℕ) where
  of_eidr : has_eidr words ≡ true → leb 527 (length beside) ≡ beside_there n words beside
  unfolding beside_there
  of_eidr e = rw e

  of_none : has_eidr words ≡ false → n ≡ 0 → true ≡ beside_there n words beside
  unfolding beside_there
  of_none e z = rw (e, z) (sym (le-leb 0 (length beside) (omega arith)))

  of_places : has_eidr words ≡ false → (n ≡ 0 → ⊥) → leb (5 + n * 2) (length beside) ≡ beside_there n words beside
  unfolding beside_there
  of_places e z = rw (e, ne_eqb n 0 z)

pub returns-then-has_eidr : goal.returns-then-has_eidr
returns-then-has_eidr c =
    let a = c.args in
    of_eidr a.count a.words.now a.beside.now (sym c.has_eidr.ensures ∙ c.if-has_eidr.true)

pub returns-then-count-eq0 : goal.returns-then-count-eq0
returns-then-count-eq0 c =
    let a = c.args in
    of_none a.count a.words.now a.beside.now (sym c.has_eidr.ensures ∙ c.if-has_eidr.false) c.if-count-eq0.true

pub returns : goal.returns
returns c =
    let a = c.args in
    of_places a.count a.words.now a.beside.now (sym c.has_eidr.ensures ∙ c.if-has_eidr.false) c.if-count-eq0.false
