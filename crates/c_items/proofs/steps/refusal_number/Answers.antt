-- `c_items::steps::refusal_number` meets its contract.
use Rattle.std.proofs.Common.{Some}
use mathlib.Core.Path.{ap, ◌∙◌}
use Rattle.c_items.specs.FlatItem.{refusal_in}
use Rattle.c_items.proofs.steps.refusal_number.Goals as goal

pub returns-in-None : goal.returns-in-None
unfolding refusal_in
returns-in-None c = rw c.in-None.is

pub returns-in-Some-Err : goal.returns-in-Some-Err
unfolding refusal_in
returns-in-Some-Err c = rw (c.in-Some-Err.is, rw c.in-Some-Err.is at c.in-Some-Err.field-0-is) c.item_number.ensures

pub returns-in-Some-Ok : goal.returns-in-Some-Ok
unfolding refusal_in
returns-in-Some-Ok c = rw (c.in-Some-Ok.is, rw c.in-Some-Ok.is at c.in-Some-Ok.field-0-is)
