-- `scte35::playlist::scte35_read_daterange` meets its contract: it is what it calls.
use Prim.Native.Nat.{ℕ}
use mathlib.Core.List.{List}
use mathlib.Core.Path.{ap, ◌∙◌}
use Rattle.daterange_line.specs.Reading.{read_of, read_later}
use Rattle.c_daterange.specs.FlatDaterange.{flat_line}
use Rattle.scte35.proofs.playlist.scte35_read_daterange.Goals as goal

pub rest-requires : goal.rest-requires
rest-requires c = tt

pub read_line-requires : goal.read_line-requires
read_line-requires c = tt

pub flat_line-requires : goal.flat_line-requires
flat_line-requires c = tt

pub returns : goal.returns
returns c =
    let a = c.args in record { answer = c.flat_line.ensures ∙ ap flat_line (c.read_line.ensures.answer ∙ ap (λ (l : List ℕ). read_of l a.target.now) c.rest.ensures); bytes = c.read_line.ensures.bytes ∙ ap (λ (l : List ℕ). read_later l a.target.now) c.rest.ensures }
