-- The table of `EncryptionAlgorithm` is sound, so its numbers and its writable values are one to one.
use Prim.Native.Nat.{ℕ, ◌≤◌}
use mathlib.Core.Bool.{Bool, true, false, cond as pick}
use mathlib.Core.Logic.{◌⊎◌, inl, inr}
use mathlib.Core.Path.{◌≡◌, refl}
use native.Mathlib.Omega.{arith}
use lib.Dec.{lit≤, ltb}
use lib.ListN.{length}
use denote.Enum.Declared.{tag_of}
use Rattle.names.specs.declared.algorithm.EncryptionAlgorithm.{EncryptionAlgorithm}
use Rattle.names.specs.declared.algorithm.EncryptionAlgorithm.TheVariants.{
  None,
  DesEcb,
  DesCbc,
  TripleDesEde3Ecb,
  Reserved,
  Private,
}
use Rattle.names.specs.Numbering.{class_in, reserved, private}
use Rattle.names.specs.Algorithm.{algorithm_number, algorithms, algorithm_of, writable_algorithm}
use Rattle.names.specs.contracts.algorithm.EncryptionAlgorithm.{the_type}
use Rattle.names.proofs.Laws.{Name, Carried, Sound, Inverse, inverse}

-- a number without a name is carried as it is, whichever range it lies in
carried : (b : Bool) (n : ℕ) → algorithm_number (pick b (Reserved n) (Private n)) ≡ n
carried true n = refl
carried false n = refl

own_reserved : (b : Bool) (n : ℕ) → class_in algorithms (pick b (Reserved n) (Private n)) ≡ reserved → pick b (Reserved n) (Private n) ≡ Reserved n
own_reserved true n e = refl
own_reserved false n e = absurd (omega arith)

own_private : (b : Bool) (n : ℕ) → class_in algorithms (pick b (Reserved n) (Private n)) ≡ private → pick b (Reserved n) (Private n) ≡ Private n
own_private true n e = absurd (omega arith)
own_private false n e = refl

split : (x : EncryptionAlgorithm) → Name algorithms x ⊎ (Carried algorithms x × (length algorithms.names ≤ tag_of the_type x))
split None = inl (refl, refl)
split DesEcb = inl (refl, refl)
split DesCbc = inl (refl, refl)
split TripleDesEde3Ecb = inl (refl, refl)
split (Reserved n) = inr ((λ e. omega arith, own_reserved (ltb n 32) n), lit≤ tt)
split (Private n) = inr ((λ e. omega arith, own_private (ltb n 32) n), lit≤ tt)

pub sound : Sound algorithms (tag_of the_type)
sound = record { carries = λ n. carried (ltb n 32) n; listed = refl; split = split }

pub algorithm_laws : Inverse algorithm_number algorithm_of writable_algorithm
unfolding algorithm_of writable_algorithm
algorithm_laws = inverse algorithms (tag_of the_type) sound
