-- `scte35::relabelling::scte35_relabel` meets its contract: it is what it calls.
use mathlib.Core.Path.{ap, ◌∙◌}
use Rattle.c_command_writer.specs.Words.{flat_written}
use Rattle.scte35.proofs.relabelling.scte35_relabel.Goals as goal

pub returns : goal.returns
returns c = record { answer = c.flat_written.ensures ∙ ap flat_written c.relabel.ensures.answer; bytes = c.relabel.ensures.bytes }
