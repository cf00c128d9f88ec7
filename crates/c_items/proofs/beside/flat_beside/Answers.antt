-- `c_items::beside::flat_beside` meets its contract.
use Rattle.c_items.specs.FlatItem.{flat_beside}
use Rattle.c_items.proofs.beside.flat_beside.Goals as goal

pub returns : goal.returns
unfolding flat_beside
returns c = rw (c.flat_item-told.ensures, c.refusal_number.ensures, c.refusal_values.ensures, c.flat_components.ensures, c.flat_eidr.ensures)
