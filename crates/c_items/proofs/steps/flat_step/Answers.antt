-- `c_items::steps::flat_step` meets its contract.
use native.Mathlib.Omega.{arith}
use Rattle.c_items.specs.FlatItem.{flat_step}
use Rattle.table.proofs.Reading.{bits_are}
use Rattle.c_items.proofs.steps.flat_step.Goals as goal

pub returns : goal.returns
unfolding flat_step
returns c = rw (c.refusal_number.ensures, c.refusal_values.ensures, (bits_are c.args.s.identifier 0 32 _ (omega arith) c.big_endian.ensures).0, c.flat_item.ensures)
