-- `c_descriptor_writer::beside::beside_from` meets its contract.
use Rattle.c_descriptor_writer.specs.ItemGiven.{beside_from}
use Rattle.c_descriptor_writer.proofs.beside.beside_from.Goals as goal

pub returns : goal.returns
unfolding beside_from
returns c = rw (c.eidr_from.ensures, c.places_from.ensures)
