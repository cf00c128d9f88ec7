-- `scte35::playlist::scte35_write_daterange` meets its contract: it is what it calls.
use Prim.Native.Nat.{ℕ}
use mathlib.Core.List.{List}
use mathlib.Core.Path.{ap, ◌∙◌}
use Rattle.daterange.specs.Choice.{daterange_made}
use Rattle.c_command_writer.specs.Words.{flat_written}
use Rattle.bit_stores.specs.Written.{answer_of, later_of}
use Rattle.scte35.proofs.playlist.scte35_write_daterange.Goals as goal

pub rest-requires : goal.rest-requires
rest-requires c = tt

pub write_daterange-requires : goal.write_daterange-requires
write_daterange-requires c = tt

pub flat_written-requires : goal.flat_written-requires
flat_written-requires c = tt

pub returns : goal.returns
returns c =
    let a = c.args in record {
      answer = c.flat_written.ensures
          ∙ ap flat_written (c.write_daterange.ensures.answer ∙ ap (λ (l : List ℕ). answer_of (daterange_made l a.id.now a.date.now) a.target.now) c.rest.ensures);
      bytes = c.write_daterange.ensures.bytes ∙ ap (λ (l : List ℕ). later_of (daterange_made l a.id.now a.date.now) a.target.now) c.rest.ensures;
    }
