-- `c_descriptor_writer::write_descriptor_words`: the words that are missing are 0.
use Prim.Native.Nat.{ℕ}
use mathlib.Core.List.{List}
use mathlib.Core.Path.{ap, ◌∙◌}
use Rattle.bit_stores.specs.Written.{answer_of, later_of}
use Rattle.table.specs.Writing.{Made}
use Rattle.c_command_writer.specs.Words.{flat_written}
use Rattle.c_descriptor_writer.specs.ItemGiven.{descriptor_words_made}
use Rattle.c_descriptor_writer.proofs.FilledUp.{padded_made}
use Rattle.c_descriptor_writer.proofs.write_descriptor_words.Goals as goal

pub returns-then-words-lt-STEP_WORDS : goal.returns-then-words-lt-STEP_WORDS
returns-then-words-lt-STEP_WORDS c =
    let a = c.args in
    let e = ap (λ (w : List ℕ). descriptor_words_made w a.beside.now a.lent.now) c.padded-enough.ensures ∙ padded_made a.words.now a.beside.now a.lent.now c.if-words-lt-STEP_WORDS.true in record { answer = c.write_from_words.ensures.answer ∙ ap (λ (m : Made). flat_written (answer_of m a.target.now)) e; bytes = c.write_from_words.ensures.bytes ∙ ap (λ (m : Made). later_of m a.target.now) e }

pub returns : goal.returns
returns c = record { answer = c.write_from_words-2.ensures.answer; bytes = c.write_from_words-2.ensures.bytes }
