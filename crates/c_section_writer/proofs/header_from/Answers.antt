-- `c_section_writer::header_from` meets its contract.
use Rattle.c_section_writer.specs.SectionGiven.{header_from}
use Rattle.c_section_writer.proofs.header_from.Goals as goal

pub returns : goal.returns
unfolding header_from
returns c = rw (c.word_at-6.ensures, c.word_at-5.ensures, c.word_at-4.ensures, c.from.ensures, c.word_at-3.ensures, c.word_at-2.ensures, c.word_at.ensures)
