-- encryption_algorithm, six bits of the splice header. 000: `EncryptionAlgorithm`.
use Rattle.std.specs.Prelude.{◌≡◌, ℕ, Bool, cond as pick, [], ◌∷◌, ltb}
use Rattle.names.specs.declared.algorithm.EncryptionAlgorithm.{EncryptionAlgorithm}
use Rattle.names.specs.declared.algorithm.EncryptionAlgorithm.TheVariants.{
  None,
  DesEcb,
  DesCbc,
  TripleDesEde3Ecb,
  Reserved,
  Private,
}
use Rattle.names.specs.Numbering.{Entry, named, reserved, private, Numbering, value_of, writable}

-- The table: the number and the class of each value, the names in the order of their numbers.
abbrev pub algorithm_entry : EncryptionAlgorithm → Entry
algorithm_entry None = (0, named)
algorithm_entry DesEcb = (1, named)
algorithm_entry DesCbc = (2, named)
algorithm_entry TripleDesEde3Ecb = (3, named)
algorithm_entry (Reserved n) = (n, reserved)
algorithm_entry (Private n) = (n, private)

abbrev pub algorithm_number : EncryptionAlgorithm → ℕ
algorithm_number x = (algorithm_entry x).0

-- 01: 4 to 31 reserved, 32 to 63 private; as a bare number, 64 to 255 too
abbrev pub other_algorithm : ℕ → EncryptionAlgorithm
other_algorithm n = pick (ltb n 32) (Reserved n) (Private n)

abbrev pub algorithms : Numbering EncryptionAlgorithm
algorithms = record {
  entry = algorithm_entry;
  names = None ∷ DesEcb ∷ DesCbc ∷ TripleDesEde3Ecb ∷ [];
  others = other_algorithm;
}

-- the value that a number stands for
unfoldable pub algorithm_of : ℕ → EncryptionAlgorithm
algorithm_of n = value_of algorithms n

pub algorithm_is : (n : ℕ) (x : EncryptionAlgorithm) → x ≡ algorithm_of n → x ≡ value_of algorithms n
unfolding algorithm_of
algorithm_is n x e = e

-- whether a value is what its own number stands for
unfoldable pub writable_algorithm : EncryptionAlgorithm → Bool
writable_algorithm x = writable algorithms x
