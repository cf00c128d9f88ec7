-- `c_items::steps::refusal_values` meets its contract.
use Rattle.std.proofs.Common.{Some}
use mathlib.Core.Path.{ap, ◌∙◌}
use Rattle.c_items.specs.FlatItem.{values_in}
use Rattle.c_items.proofs.steps.refusal_values.Goals as goal

pub returns-in-None : goal.returns-in-None
unfolding values_in
returns-in-None c = rw c.in-None.is

pub returns-in-Some-Err : goal.returns-in-Some-Err
unfolding values_in
returns-in-Some-Err c = rw (c.in-Some-Err.is, rw c.in-Some-Err.is at c.in-Some-Err.field-0-is) c.item_values.ensures

pub returns-in-Some-Ok : goal.returns-in-Some-Ok
unfolding values_in
returns-in-Some-Ok c = rw (c.in-Some-Ok.is, rw c.in-Some-Ok.is at c.in-Some-Ok.field-0-is)
