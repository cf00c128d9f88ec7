-- Runs of runs.
--     viewed_is         a view that lies in the lent bytes
--     length_run        a run has as many bytes as it says
--     section_run       a view of the section
--     lent_run          a view of a run
--     get_d_run          a byte of a run
use Prim.Native.Nat.{ℕ, ◌+◌, ◌≤◌, ◌<◌}
use mathlib.Core.Bool.{Bool, true, false}
use mathlib.Core.List.{List, []}
use mathlib.Core.Path.{◌≡◌, refl, ap, ◌∙◌}
use native.Mathlib.Omega.{arith}
use lib.Dec.{leb}
use lib.ListN.{length, take, drop, get_or, length-take, length-drop}
use lib.Seq.{get_or-take, get_or-drop}
use borrow.Author.Tests.{le-leb, leb-true}
use Rattle.table.proofs.Lists.{run_of_run}
use Rattle.table.specs.Bits.{pick}
use Rattle.table.specs.Lent.{viewed}
use Rattle.table.specs.declared.View.{View}
use Rattle.theorems_reader.specs.Identifiers.{Identifier, OneRun, in_section, in_lent}

module _ (lent : List ℕ) (v : View) where
  pub viewed_is : v.at + v.len ≤ length lent → viewed lent v ≡ take v.len (drop v.at lent)
  unfolding viewed
  viewed_is h = rw (le-leb _ _ h)

  -- what hands back any byte lies in the lent bytes
  pub viewed_inside : 1 ≤ length (viewed lent v) → v.at + v.len ≤ length lent
  unfolding viewed
  viewed_inside h = go (leb (v.at + v.len) (length lent)) refl h
    where
      go : (t : Bool) → leb (v.at + v.len) (length lent) ≡ t → 1 ≤ length (pick t (take v.len (drop v.at lent)) []) → v.at + v.len ≤ length lent
      go true e h = leb-true _ _ e
      go false e h = absurd (omega arith)

  pub length_viewed : v.at + v.len ≤ length lent → length (viewed lent v) ≡ v.len
  length_viewed h = ap length (viewed_is h) ∙ omega (arith, length-take v.len (drop v.at lent), length-drop v.at lent)

module _ (s : List ℕ) where
  pub section_run : (v : View) → v.at + v.len ≤ length s → OneRun s (in_section s v)
  section_run v h = record { inside = h; run = viewed_is s v h }

  module _ (i : Identifier) (r : OneRun s i) where
    pub length_run : length i.bytes ≡ i.len
    length_run = ap length r.run ∙ omega (arith, length-take i.len (drop i.start s), length-drop i.start s, r.inside)

    pub lent_run : (v : View) → v.at + v.len ≤ i.len → OneRun s (in_lent i.start i.bytes v)
    lent_run v h =
        record {
          inside = omega (arith, r.inside);
          run =
              viewed_is i.bytes v (omega (arith, length_run))
              ∙ ap (λ (l : List ℕ). take v.len (drop v.at l)) r.run
              ∙ run_of_run s i.start i.len v.at v.len h;
        }

    pub get_d_run : (j : ℕ) → j < i.len → get_or i.bytes j 0 ≡ get_or s (i.start + j) 0
    get_d_run j h = ap (λ (l : List ℕ). get_or l j 0) r.run ∙ get_or-take i.len (drop i.start s) j 0 h ∙ get_or-drop i.start s j 0
