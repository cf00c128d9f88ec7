-- `c_descriptor_writer::beside::places_within` meets its contract.
use Rattle.c_descriptor_writer.specs.ItemWords.{place_widths, places_within}
use Rattle.c_descriptor_writer.proofs.beside.places_within.Goals as goal

pub returns : goal.returns
unfolding places_within place_widths
returns c = rw (c.are_places_within.ensures, c.words_from.ensures)
