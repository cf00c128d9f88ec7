-- `c_section_writer::header_words` meets its contract.
use mathlib.Core.Path.{refl}
use Rattle.c_section_writer.specs.SectionWords.{header_words}
use Rattle.c_section_writer.proofs.header_words.Goals as goal

pub returns : goal.returns
unfolding header_words
returns c = refl
