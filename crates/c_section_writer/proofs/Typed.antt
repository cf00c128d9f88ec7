-- What the types say of the numbers of a header.
use Prim.Native.Nat.{◌<◌}
use Rattle.header.specs.declared.header.SpliceInfoHeader.{SpliceInfoHeader}
use Rattle.names.specs.Algorithm.{algorithm_number}

-- each number is of its type, as every value of the code has it
abbrev pub Typed : SpliceInfoHeader → Type 0
Typed h = (h.protocol_version < 256) × (algorithm_number h.encryption_algorithm < 256) × (h.cw_index < 256) × (h.tier < 65536)
