-- The canonical form of descriptors and loops: what is written is canonical, and a loop is exactly if its items are.
use Prim.Native.Nat.{ℕ, ◌≤◌}
use mathlib.Core.Bool.{true}
use mathlib.Core.List.{List, map}
use mathlib.Core.Path.{◌≡◌, ap, sym, ◌∙◌}
use native.Mathlib.Omega.{arith}
use lib.ListN.{length}
use Rattle.c_descriptor_writer.specs.ItemWords.{DescriptorAnswer}
use Rattle.canonical_form.specs.Descriptor.{canonical_descriptor, canonical_loop}
use Rattle.canonical_form.specs.Same.{Given, Pairs}
use Rattle.canonical_form.specs.Same.Pairs.{over, pair}
use Rattle.descriptor.specs.declared.Descriptor.{Descriptor}
use Rattle.descriptor.specs.declared.full.Beside.{Beside}
use Rattle.descriptor_loop.proofs.Places.{all_map}
use Rattle.descriptor_loop.proofs.Theorems.{items_cover_the_loop}
use Rattle.descriptor_loop.specs.Cover.{run_of}
use Rattle.descriptor_loop.specs.Items.{Listed, listed, items_of}
use Rattle.descriptor_round_trips.proofs.Theorems.{descriptor_write_read}
use Rattle.descriptor_round_trips.specs.Making.{DescriptorMakes}
use Rattle.descriptor_round_trips.specs.Trips.{Handed}
use Rattle.loop_round_trips.proofs.Pieces.{Items, end, item, run_is, items_cut}
use Rattle.loop_round_trips.specs.Loops.{given_made}
use Rattle.table.proofs.Lists.{zero_one}
use Rattle.table.specs.Bits.{AllBytes}
use Rattle.table.specs.Writing.{Made, made, refused}
use Rattle.theorems_c.proofs.Theorems as over_c
use Rattle.theorems_writer.proofs.Theorems as writing
use Rattle.upid.specs.Cover.{All}
use Rattle.upid.specs.Cover.All.{none, more}

-- ---- what is written of a descriptor's words

makes_some : {d : Descriptor} {identifier : List ℕ} {beside : Beside} {lent : List ℕ} {m : Made} → DescriptorMakes d identifier beside lent m → (n : ℕ) → m ≡ refused n → n ≡ 0 → ⊥
makes_some (DescriptorMakes.outside f) n e z = let q : 31 ≡ n = cc in omega arith
makes_some (DescriptorMakes.over f g) n e z = let q : 32 ≡ n = cc in omega arith
makes_some (DescriptorMakes.nobodys f g h) n e z = let q : 33 ≡ n = cc in omega arith
makes_some (DescriptorMakes.long f tag id p h k) n e z = let q : 34 ≡ n = cc in omega arith
makes_some (DescriptorMakes.its f tag id p h k) n e z = zero_one cc

module _ (words beside lent : List ℕ) (a : AllBytes lent) where
  -- a refusal has a number
  pub words_some : {m : Made} → DescriptorAnswer words beside lent m → (n : ℕ) → m ≡ refused n → n ≡ 0 → ⊥
  words_some (DescriptorAnswer.outside f) n e z = let q : 31 ≡ n = cc in omega arith
  words_some (DescriptorAnswer.over f g) n e z = let q : 32 ≡ n = cc in omega arith
  words_some (DescriptorAnswer.nobodys f g h) n e z = let q : 33 ≡ n = cc in omega arith
  words_some (DescriptorAnswer.its d identifier b fits is) n e z =
      makes_some (writing.what_is_made_of_a_descriptor_is_told_by_what_is_read d identifier b lent (over_c.the_value_that_words_make_is_handed words beside lent d identifier b a fits is)) n e z

  pub words_canonical : {m : Made} → DescriptorAnswer words beside lent m → (b : List ℕ) → m ≡ made b → canonical_descriptor b ≡ true
  words_canonical (DescriptorAnswer.outside f) b e = zero_one cc
  words_canonical (DescriptorAnswer.over f g) b e = zero_one cc
  words_canonical (DescriptorAnswer.nobodys f g h) b e = zero_one cc
  words_canonical (DescriptorAnswer.its d identifier x fits is) b e =
      (descriptor_write_read d identifier x lent b (over_c.the_value_that_words_make_is_handed words beside lent d identifier x a fits is) e).1

-- ---- what is written of descriptors, piece by piece

pub pieces_canonical : {gs : List Given} {bs : List (List ℕ)} → All (λ (g : Given). Handed g.descriptor g.identifier g.beside g.lent) gs
    → Pairs (λ (g : Given) (b : List ℕ). given_made g ≡ made b) gs bs → All (λ (b : List ℕ). canonical_descriptor b ≡ true) bs
pieces_canonical none over = none
pieces_canonical (more h hs) (pair {x = g} {y = b} e es) =
    more (descriptor_write_read g.descriptor g.identifier g.beside g.lent b h e).1 (pieces_canonical hs es)

-- ---- a loop and its items

module _ (loop : List ℕ) (fits : length loop ≤ 4076) where
  each_canonical : {offset : ℕ} {ts : List (List ℕ)} {xs : List Listed} → Items loop fits offset ts xs → All (λ (y : Listed). canonical_descriptor (run_of loop y) ≡ true) xs
  each_canonical end = none
  each_canonical (item {offset = o} {t = t} a rest) = more {x = listed loop o} (rw (run_is loop fits o t a) a.canon) (each_canonical rest)

  pub items_canonical : canonical_loop loop ≡ true → All (λ (y : Listed). canonical_descriptor (run_of loop y) ≡ true) (items_of loop)
  items_canonical c = let t = writing.a_canonical_loop_is_canonical_descriptors loop c in each_canonical (items_cut loop fits t.1 t.2)

  pub canonical_items : All (λ (y : Listed). canonical_descriptor (run_of loop y) ≡ true) (items_of loop) → canonical_loop loop ≡ true
  canonical_items cs =
      ap canonical_loop (sym (items_cover_the_loop loop fits).cutting.joins) ∙ writing.canonical_descriptors_are_a_canonical_loop (map (run_of loop) (items_of loop)) (all_map (run_of loop) cs)
