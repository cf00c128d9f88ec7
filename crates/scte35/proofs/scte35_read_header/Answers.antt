-- `scte35::scte35_read_header` meets its contract.
use mathlib.Core.List.{List}
use mathlib.Core.Path.{ap, ◌∙◌}
use Prim.Native.Nat.{ℕ}
use Rattle.header.specs.Header.{header_of}
use Rattle.c_section.specs.Flat.{flat_header_read}
use Rattle.scte35.proofs.scte35_read_header.Goals as goal

pub returns : goal.returns
returns c = c.read_flat_header.ensures ∙ ap (λ (x : List ℕ). flat_header_read (header_of x)) c.rest.ensures
