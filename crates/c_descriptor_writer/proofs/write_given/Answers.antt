-- `c_descriptor_writer::write_given`, without components or with some.
use Prim.Native.Nat.{ℕ}
use mathlib.Core.List.{List, []}
use mathlib.Core.Path.{◌≡◌, refl}
use Rattle.descriptor.specs.Full.{filled}
use Rattle.descriptor.specs.declared.Descriptor.{Descriptor}
use Rattle.descriptor.specs.declared.full.Beside.{Beside}
use Rattle.descriptor_measure.specs.Writing.{descriptor_made}
use Rattle.descriptor_writer.specs.Stores.{Writes}
use Rattle.c_command_writer.specs.Words.{places_of}
use Rattle.c_descriptor_writer.specs.ItemGiven.{places_from, eidr_from, beside_from}
use Rattle.c_descriptor_writer.proofs.write_given.Goals as goal
use Rattle.std.proofs.Common.{Result}

none_beside : (words : List ℕ) → beside_from 0 words ≡ record { components = filled []; eidr = eidr_from words }
unfolding beside_from places_from filled places_of
none_beside words = refl

module _ (d : Descriptor) (id words lent t v : List ℕ) (r : Result ℕ ℕ) (n : ℕ) where
  without : n ≡ 0 → (eidr : List ℕ) → eidr ≡ eidr_from words → Writes (descriptor_made d id (record { components = filled []; eidr = eidr }) lent) t v r
      → Writes (descriptor_made d id (beside_from n words) lent) t v r
  without z eidr e w = rw (z, none_beside words) (rw e at w)

  with_some : (b : Beside) → b ≡ beside_from n words → Writes (descriptor_made d id b lent) t v r → Writes (descriptor_made d id (beside_from n words) lent) t v r
  with_some b e w = rw e at w

pub returns-then-count-eq0 : goal.returns-then-count-eq0
returns-then-count-eq0 c = without _ _ _ _ _ _ _ _ c.if-count-eq0.true _ c.eidr_from-eidr.ensures c.write_descriptor_without_components.ensures

pub returns : goal.returns
returns c = with_some _ _ _ _ _ _ _ _ _ c.beside_from-aside.ensures c.write_descriptor.ensures
