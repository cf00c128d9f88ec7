-- `c_descriptor_writer::beside::place_from` meets its contract.
use Rattle.c_descriptor_writer.specs.ItemGiven.{place_from}
use Rattle.c_descriptor_writer.proofs.beside.place_from.Goals as goal

pub returns : goal.returns
unfolding place_from
returns c = rw (c.word_at-2.ensures, c.word_at.ensures)
