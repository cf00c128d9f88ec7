-- What is asked where an identifier is to be put back: the section r, with the type and the bytes that the identifier had in s.
use Rattle.std.specs.Prelude.{ℕ, List}
use Rattle.relabel_trips.specs.Named.{type_at, identifier_at}
use Rattle.theorems_relabel.specs.Replaced.{Request}

abbrev pub put_back : List ℕ → ℕ → ℕ → List ℕ → Request
put_back s offset part r = record { section = r; offset = offset; part = part; upid_type = type_at s offset part; bytes = identifier_at s offset part }
