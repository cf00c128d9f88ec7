-- `scte35::adjusting::scte35_adjust_section` meets its contract: it is what it calls.
use Prim.Native.Nat.{ℕ}
use mathlib.Core.List.{List}
use mathlib.Core.Path.{ap, ◌∙◌}
use Rattle.adjust_section.specs.Adjusted.{adjusted_section}
use Rattle.c_command_writer.specs.Words.{flat_written}
use Rattle.bit_stores.specs.Written.{answer_of, later_of}
use Rattle.scte35.proofs.adjusting.scte35_adjust_section.Goals as goal

pub returns : goal.returns
returns c =
    let a = c.args in record {
      answer = c.flat_written.ensures
          ∙ ap flat_written (c.adjust_section.ensures.answer ∙ ap (λ (l : List ℕ). answer_of (adjusted_section l a.adjustment) a.target.now) c.rest.ensures);
      bytes = c.adjust_section.ensures.bytes ∙ ap (λ (l : List ℕ). later_of (adjusted_section l a.adjustment) a.target.now) c.rest.ensures;
    }
