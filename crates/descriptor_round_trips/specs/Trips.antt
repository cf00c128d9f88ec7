-- What the round trips of descriptors say.
use Rattle.std.specs.Prelude.{ℕ, ◌≤◌, List, ◌≡◌, length, take, drop, get_or, Ok}
use Rattle.table.specs.Bits.{AllBytes}
use Rattle.descriptor.specs.Full.{full_of}
use Rattle.descriptor.specs.declared.Descriptor.{Descriptor}
use Rattle.descriptor.specs.declared.full.Beside.{Beside}
use Rattle.descriptor.specs.declared.full.FullDescriptor.{FullDescriptor}
use Rattle.canonical_form.specs.Same.{SameReading}
use Rattle.descriptor_measure.specs.Writing.{count_beside}

-- the reading of a whole descriptor's bytes: tag, length, identifier of 4, payload. Its views count from the payload's first byte
abbrev pub full_in : List ℕ → FullDescriptor
full_in s = full_of (get_or s 0 0) (take 4 (drop 2 s)) (drop 6 s)

-- what the types say of a descriptor that is handed in: an identifier of 4 bytes, an EIDR of 12, an array of 255 places, a count that is a byte, and lent bytes
pub record Handed (d : Descriptor) (identifier : List ℕ) (beside : Beside) (lent : List ℕ) : Type 0 where
  pub four : length identifier ≡ 4
  pub twelve : length beside.eidr ≡ 12
  pub held : AllBytes beside.eidr
  pub places : length beside.components ≡ 255
  pub count : count_beside d ≤ 255
  pub are : AllBytes lent

-- the bytes s are read as a descriptor that is equal to what was handed in
pub record ReadAs (s : List ℕ) (d : Descriptor) (identifier : List ℕ) (beside : Beside) (lent : List ℕ) : Type 0 where
  pub again : Descriptor
  pub reading : (full_in s).read ≡ Ok again
  pub same : SameReading (drop 6 s) again (full_in s).identifier (full_in s).beside lent d identifier beside
